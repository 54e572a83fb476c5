use Rattle.std.proofs.Common.{arith, ◌∙◌}
use Rattle.hart_scheduler.proofs.InTurn.{range_past}
use Rattle.hart_scheduler.proofs.runnable.lowest_runnable.Goals as goal

pub loop-number-preserved : goal.loop-number-preserved
loop-number-preserved c = record {
  bound = omega arith;
  same = c.loop-number.invariant.same ∙ range_past c.args.runnable.now c.loop-number.number
      c.args.end c.loop-number-test.true
      c.if-runnable-number.false;
}
