use Rattle.std.proofs.Common.{arith, ap, sym, ◌∙◌, ◌≡◌, ◌+◌, ◌∷◌, suc, List, ℕ, true, false}
use Rattle.std.specs.Prelude.{slice_get}
use Rattle.hart_scheduler.specs.Choices.{is_runnable}
use Rattle.hart_scheduler.proofs.Drawn.{runnable_from, runnable-hit, runnable-miss}
use Rattle.hart_scheduler.proofs.runnable.runnable_at.Goals as goal
use Rattle.hart_scheduler.proofs.runnable.runnable_at.Goals.{then-runnable-from+else-left-eq0}
use Rattle.hart_scheduler.proofs.runnable.runnable_at.Goals.{else-runnable-from}

pub loop-number-preserved : goal.loop-number-preserved
loop-number-preserved c =
    let xs = c.args.runnable.now in
    let n = c.loop-number.number in
    let end = c.args.end in
    let left = c.loop-number.left in
    let inside = c.loop-number-test.true in
    let same = c.loop-number.invariant.same in
    elim c.if-runnable-from.branch [
      | then-runnable-from+else-left-eq0 w ↦
          let hit : is_runnable xs n ≡ true = rw c.from.ensures at w.if-runnable-from.true in
          let one : left ≡ suc (c.if-runnable-from.left) =
          omega (arith, w.left-is, w.if-left-eq0) in
          record {
            bound = omega arith;
            same = same
                ∙ ap (λ (ys : List ℕ). slice_get ys left) (runnable-hit xs n end inside hit)
                ∙ ap (λ k. slice_get (n ∷ runnable_from xs (n + 1) end) k) one;
          }
      | else-runnable-from w ↦
          let miss : is_runnable xs n ≡ false = rw c.from.ensures at w.if-runnable-from.false in
          record {
            bound = omega arith;
            same = same
                ∙ ap (λ (ys : List ℕ). slice_get ys left) (runnable-miss xs n end inside miss)
                ∙ ap (λ k. slice_get (runnable_from xs (n + 1) end) k) (sym w.left-is);
          }
    ]
