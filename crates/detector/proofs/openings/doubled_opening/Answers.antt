use Rattle.std.proofs.Common.{sym, ◌∙◌}
use Rattle.std.proofs.lemmas.Option.{same_Some}
use Rattle.detector.proofs.OpenLaws.{doubled-shaped, doubled-value, pair-inside}
use Rattle.detector.proofs.openings.doubled_opening.Goals as goal

pub pair_between-requires : goal.pair_between-requires
pair_between-requires g c = (c.args.size, c.requires.0, c.requires.2)

pub doubled_range-requires : goal.doubled_range-requires
doubled_range-requires g c = c.requires.2.native

pub returns-clause-value : goal.returns-clause-value
returns-clause-value g c = λ k odd pair.
    let found = c.in_ok-pair.ensures.found c.args.size k pair in
    doubled-value c.args.size k c.args.tracks.now c.args.lower.now c.args.upper.now
    c.in_ok-pair.pair c.doubled_range.result
    (sym c.is_some.ensures ∙ c.if-is_some.false) found
    (c.doubled_range.ensures.pair k odd
    (pair-inside c.args.size k c.args.tracks.now c.args.lower.now.track c.args.upper.now.track _
    c.in_ok-pair.pair found))

pub returns-clause-shaped : goal.returns-clause-shaped
returns-clause-shaped g c = λ k odd pair r e.
    let found = c.in_ok-pair.ensures.found c.args.size k pair in
    doubled-shaped c.args.size k r pair.native found.some odd
    (sym (same_Some c.doubled_range.result r e) ∙ c.doubled_range.ensures.pair k odd
    (pair-inside c.args.size k c.args.tracks.now c.args.lower.now.track c.args.upper.now.track _
    c.in_ok-pair.pair found))
