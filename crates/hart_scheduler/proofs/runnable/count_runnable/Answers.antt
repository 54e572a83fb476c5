use Rattle.std.proofs.Common.{arith, ap, ◌∙◌, ◌≡◌, ◌+◌, length, true, false}
use Rattle.hart_scheduler.specs.Choices.{is_runnable}
use Rattle.hart_scheduler.proofs.Drawn.{runnable_from, runnable-hit, runnable-miss}
use Rattle.hart_scheduler.proofs.runnable.count_runnable.Goals as goal
use Rattle.hart_scheduler.proofs.runnable.count_runnable.Goals.{then-runnable-from}
use Rattle.hart_scheduler.proofs.runnable.count_runnable.Goals.{else-runnable-from}

pub loop-number-preserved : goal.loop-number-preserved
loop-number-preserved c =
    let xs = c.args.runnable.now in
    let n = c.loop-number.number in
    let end = c.args.end in
    let counted = c.loop-number.invariant.counted in
    elim c.if-runnable-from.branch [
      | then-runnable-from w ↦
          let hit : is_runnable xs n ≡ true = rw c.from.ensures at w.if-runnable-from.true in
          let one : length (runnable_from xs n end) ≡ length (runnable_from xs (n + 1) end) + 1 =
          ap length (runnable-hit xs n end c.loop-number-test.true hit) ∙ omega arith in
          record {
            bound = omega arith;
            few = omega (arith, w.count-is);
            counted = omega (arith, counted, one, w.count-is);
          }
      | else-runnable-from w ↦
          let miss : is_runnable xs n ≡ false = rw c.from.ensures at w.if-runnable-from.false in
          let same : length (runnable_from xs n end) ≡ length (runnable_from xs (n + 1) end) =
          ap length (runnable-miss xs n end c.loop-number-test.true miss) in
          record {
            bound = omega arith;
            few = omega (arith, w.count-is);
            counted = omega (arith, counted, same, w.count-is);
          }
    ]
