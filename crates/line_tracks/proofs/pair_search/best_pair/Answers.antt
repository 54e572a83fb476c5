-- What the ranges say of the words, and what no best pair and no distance mean.
use Rattle.std.proofs.Common.{◌≡◌, ap, ◌∙◌, arith}
use Rattle.sharing_rules.specs.Pairs.{best_pair_of}
use Rattle.line_tracks.specs.Neighbours.{reach}
use Rattle.line_tracks.proofs.ReachLaws.{none-iff, any-near, rows-of}
use Rattle.line_tracks.proofs.pair_search.best_pair.Goals as goal

pub best_places-requires : goal.best_places-requires
best_places-requires g c =
    rw c.range-lower_range.ensures.value
    (rows-of c.args.lower.now c.args.upper.now c.reach_of.result c.requires
    c.range-lower_range.ensures.words
    c.range-upper_range.ensures.words c.reach_of.ensures.small)

pub returns-in-Some-clause-none : goal.returns-in-Some-clause-none
returns-in-Some-clause-none g c =
    let e : c.reach_of.result ≡ reach c.args.lower.now.range.size c.args.within =
    rw c.range-lower_range.ensures.value at c.reach_of.ensures.value in
    none-iff c.args.lower.now.words c.args.upper.now.words
    (reach c.args.lower.now.range.size c.args.within) _
    (c.in-Some.ensures.best ∙ ap (best_pair_of c.args.lower.now.words c.args.upper.now.words) e)

pub returns-in-Some-clause-any : goal.returns-in-Some-clause-any
returns-in-Some-clause-any g c =
    any-near c.args.lower.now.words c.args.upper.now.words c.args.lower.now.range.size c.args.within
    c.range-lower_range.ensures.words.size
    (omega (arith, c.range-upper_range.ensures.words.size, c.requires.alike))

pub returns-in-None-clause-none : goal.returns-in-None-clause-none
returns-in-None-clause-none g c =
    let e : c.reach_of.result ≡ reach c.args.lower.now.range.size c.args.within =
    rw c.range-lower_range.ensures.value at c.reach_of.ensures.value in
    none-iff c.args.lower.now.words c.args.upper.now.words
    (reach c.args.lower.now.range.size c.args.within) _
    (c.in-None.ensures.best ∙ ap (best_pair_of c.args.lower.now.words c.args.upper.now.words) e)

pub returns-in-None-clause-any : goal.returns-in-None-clause-any
returns-in-None-clause-any g c =
    any-near c.args.lower.now.words c.args.upper.now.words c.args.lower.now.range.size c.args.within
    c.range-lower_range.ensures.words.size
    (omega (arith, c.range-upper_range.ensures.words.size, c.requires.alike))
