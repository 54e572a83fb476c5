use Rattle.std.proofs.Common.{◌≡◌, ◌≤◌}
use Rattle.std.specs.Prelude.{slice_get}
use Rattle.hart_scheduler.proofs.Drawn.{runnable_from}
use Rattle.hart_scheduler.proofs.runnable.runnable_at.Given as goal

abbrev pub invariant-loop-number : goal.invariant-loop-number
invariant-loop-number l = record {
  bound : l.number ≤ l.end;
  same : slice_get (runnable_from l.runnable 0 l.end) l.place
      ≡ slice_get (runnable_from l.runnable l.number l.end) l.left;
}
