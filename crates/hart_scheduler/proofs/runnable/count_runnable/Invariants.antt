use Rattle.std.proofs.Common.{◌≡◌, ◌≤◌, ◌+◌, length}
use Rattle.hart_scheduler.proofs.Drawn.{runnable_from}
use Rattle.hart_scheduler.proofs.runnable.count_runnable.Given as goal

abbrev pub invariant-loop-number : goal.invariant-loop-number
invariant-loop-number l = record {
  bound : l.number ≤ l.end;
  few : l.count ≤ l.number;
  counted : l.count + length (runnable_from l.runnable l.number l.end)
      ≡ length (runnable_from l.runnable 0 l.end);
}
