use Rattle.std.proofs.Common.{◌≡◌, ◌+◌, eqb, not, ◌&&◌, ◌||◌, [], ◌∷◌, ◌++◌}
use Rattle.std.proofs.Common.{take, refl, sym, ap, ◌∙◌}
use Rattle.std.proofs.lemmas.List.{take_more}
use Rattle.std.proofs.Math.Bool.{or-false, or-true}
use Rattle.std.specs.Prelude.{if◌then◌else◌}
use Rattle.finite_cache.specs.Bounded.{has, set_of, without}
use Rattle.finite_cache.specs.CacheState.{cell_of, lines_at}
use Rattle.finite_cache.specs.Laws.Cells.{found-more, swept, swept-more}
use Rattle.finite_cache.specs.Sweeps.{had_by_another}
use Rattle.finite_cache.proofs.step.take_from_others.Goals.{else-take_from, then-take_from}
use Rattle.finite_cache.proofs.step.take_from_others.Goals as goal

pub loop-other-preserved : goal.loop-other-preserved
loop-other-preserved c =
    let k = c.args.shape in
    let h = c.args.hart in
    let r = c.args.line in
    let before = c.loop-other.sets.entries in
    let first = lines_at c.args.sets.now.entries in
    let x = c.other-item.result in
    let done = take c.loop-other.other-index c.args.harts.now in
    let more : take (c.loop-other.other-index + 1) c.args.harts.now ≡ done ++ x ∷ [] =
    take_more c.args.harts.now c.loop-other.other-index x c.loop-other-test.true
    ∙ ap (λ y. done ++ y ∷ []) (sym c.other-item.is) in
    let both : c.if-take_from.found ≡ (c.loop-other.found || c.take_from.result) =
    elim c.if-take_from.branch [
      | then-take_from w ↦ rw (w.found-is, w.if-take_from.true, or-true) refl
      | else-take_from w ↦ rw (w.found-is, w.if-take_from.false, or-false) refl
    ] in
    let here : c.take_from.result
    ≡ (not (eqb x h) && has r (swept k h r first done (cell_of k x (set_of k r)))) =
    c.take_from.ensures.found ∙ ap (λ ls. not (eqb x h) && has r ls)
    (c.loop-other.invariant.out (cell_of k x (set_of k r))) in record {
      found = both ∙ ap (λ b. b || c.take_from.result) c.loop-other.invariant.found
          ∙ found-more k h r first done x c.take_from.result here
          ∙ ap (λ hs. had_by_another k hs h r first) (sym more);
      out = λ q. swept-more k h r first done x q (lines_at c.take_from.new.sets.entries q)
          (c.take_from.ensures.out q
          ∙ ap (λ ls. if not (eqb x h) && eqb q (cell_of k x (set_of k r))
          then without r ls else ls) (c.loop-other.invariant.out q))
          ∙ ap (λ hs. swept k h r first hs q) (sym more);
      kept = λ n ways. c.take_from.ensures.kept n (c.loop-other.invariant.kept n ways);
    }
