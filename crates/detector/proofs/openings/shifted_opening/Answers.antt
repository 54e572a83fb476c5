use Rattle.std.proofs.Common.{sym, ◌∙◌}
use Rattle.detector.proofs.OpenLaws.{pair-beside, shifted-shaped, shifted-value}
use Rattle.detector.proofs.openings.shifted_opening.Goals as goal

pub pair_between-requires : goal.pair_between-requires
pair_between-requires g c = (c.args.size, c.requires.0, c.requires.1)

pub shifted_range-requires-clause-native : goal.shifted_range-requires-clause-native
shifted_range-requires-clause-native g c = c.requires.1.native

pub shifted_range-requires-clause-words : goal.shifted_range-requires-clause-words
shifted_range-requires-clause-words g c =
    let found = c.in_ok-pair.ensures.found c.args.size c.requires.0 c.requires.1 in
    (pair-beside c.args.size c.requires.0 c.args.tracks.now c.args.lower.now.track
    c.args.upper.now.track _ c.in_ok-pair.pair
    c.requires.1.native found).words

pub shifted_range-requires-clause-neighbours : goal.shifted_range-requires-clause-neighbours
shifted_range-requires-clause-neighbours g c =
    let found = c.in_ok-pair.ensures.found c.args.size c.requires.0 c.requires.1 in
    (pair-beside c.args.size c.requires.0 c.args.tracks.now c.args.lower.now.track
    c.args.upper.now.track _ c.in_ok-pair.pair
    c.requires.1.native found).neighbours

pub returns-clause-value : goal.returns-clause-value
returns-clause-value g c = λ k pair.
    shifted-value c.args.size k c.args.tracks.now c.args.lower.now c.args.upper.now
    c.in_ok-pair.pair c.shifted_range.result pair.native
    (sym c.is_some.ensures ∙ c.if-is_some.false)
    (c.in_ok-pair.ensures.found c.args.size k pair) c.shifted_range.ensures

pub returns-clause-shaped : goal.returns-clause-shaped
returns-clause-shaped g c =
    λ k pair r e.
    shifted-shaped c.args.size k c.args.tracks.now c.args.lower.now.track c.args.upper.now.track
    c.in_ok-pair.pair c.shifted_range.result r
    _ pair.native
    (c.in_ok-pair.ensures.found c.args.size k pair) c.shifted_range.ensures e
