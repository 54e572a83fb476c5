use Rattle.std.proofs.Common.{◌≡◌, sym, ap, ◌∙◌, arith}
use Rattle.std.specs.Prelude.{option_map}
use Rattle.sharing_rules.specs.Pairs.{best_pair_of}
use Rattle.line_tracks.specs.Neighbours.{pair_at, reach}
use Rattle.line_tracks.specs.RangeWords.{RangeWords}
use Rattle.base.specs.declared.layout.Range.{Range}
use Rattle.detector.proofs.OpenLaws.{pair-found, pair-neighbours, read_at}
use Rattle.detector.proofs.openings.pair_between.Goals as goal

pub best_pair-requires : goal.best_pair-requires
best_pair-requires g c =
    let h = c.requires in
    let pair = h.2 in
    let at = read_at c.args.tracks.now c.all.result.now c.args.lower c.in_ok-lower.field-0
    c.index-branch-branch.result (sym c.number.ensures ∙ c.in_ok-lower.was) c.all.ensures
    pair.below.within c.index-branch-branch.is in
    let up = read_at c.args.tracks.now c.all-2.result.now c.args.upper c.in_ok-upper.field-0
    c.index-branch-branch-2.result (sym c.number-2.ensures ∙ c.in_ok-upper.was) c.all-2.ensures
    pair.above.within c.index-branch-branch-2.is in
    rw (c.shadow-3.ensures, c.shadow-4.ensures)
    (pair-neighbours h.0 h.1 c.args.tracks.now c.args.lower c.args.upper
    c.index-branch-branch.result c.index-branch-branch-2.result pair at up)

pub returns-clause-found : goal.returns-clause-found
returns-clause-found g c = λ n k pair.
    let at = read_at c.args.tracks.now c.all.result.now c.args.lower c.in_ok-lower.field-0
    c.index-branch-branch.result (sym c.number.ensures ∙ c.in_ok-lower.was) c.all.ensures
    pair.below.within c.index-branch-branch.is in
    let up = read_at c.args.tracks.now c.all-2.result.now c.args.upper c.in_ok-upper.field-0
    c.index-branch-branch-2.result (sym c.number-2.ensures ∙ c.in_ok-upper.was) c.all-2.ensures
    pair.above.within c.index-branch-branch-2.is in
    let sized = rw c.shadow.ensures at c.range.ensures.words.size in
    let sized_up = rw c.shadow-2.ensures at c.range-2.ensures.words.size in
    let is : c.best_pair.result ≡ option_map (pair_at c.index-branch-branch.result.range
    c.index-branch-branch-2.result.range)
    (best_pair_of c.index-branch-branch.result.words c.index-branch-branch-2.result.words
    (reach c.index-branch-branch.result.range.size c.args.within)) =
    c.best_pair.ensures.value ∙ rw (c.shadow-3.ensures, c.shadow-4.ensures) in
    pair-found n k c.args.tracks.now c.args.lower c.args.upper c.args.within
    c.index-branch-branch.result c.index-branch-branch-2.result
    c.best_pair.result pair at up sized sized_up is

pub returns-clause-cost : goal.returns-clause-cost
returns-clause-cost g c = λ n k pair.
    let at = read_at c.args.tracks.now c.all.result.now c.args.lower c.in_ok-lower.field-0
    c.index-branch-branch.result (sym c.number.ensures ∙ c.in_ok-lower.was) c.all.ensures
    pair.below.within c.index-branch-branch.is in
    let size : c.shadow-3.result.now.range.size ≡ n =
    ap (λ (v : RangeWords). v.range.size) c.shadow-3.ensures ∙ ap (λ (r : Range). r.size)
    (pair.below.range c.index-branch-branch.result at) in
    rw (c.best_pair.ensures.cost, size) (omega arith)
