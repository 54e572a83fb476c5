use Rattle.std.proofs.Common.{arith, sym, ◌∙◌, ◌≤◌, ◌+◌}
use Rattle.hart_scheduler.proofs.InTurn.{four_past}
use Rattle.hart_scheduler.proofs.runnable.past_idle.Goals as goal

pub loop-start-preserved : goal.loop-start-preserved
loop-start-preserved c =
    let below : c.loop-start.start + 4 ≤ c.args.end = omega arith in
    record {
      bound = below;
      same = c.loop-start.invariant.same ∙ four_past c.args.runnable.now c.loop-start.start
          c.args.end below
          (sym c.is_any_of_four.ensures ∙ c.if-not-is_any_of_four.true);
    }
