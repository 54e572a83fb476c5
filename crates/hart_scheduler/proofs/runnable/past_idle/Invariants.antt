use Rattle.std.proofs.Common.{◌≡◌, ◌≤◌, ◌-◌}
use Rattle.std.specs.List.{find, range_with_len}
use Rattle.hart_scheduler.specs.Choices.{is_runnable}
use Rattle.hart_scheduler.proofs.runnable.past_idle.Given as goal

abbrev pub invariant-loop-start : goal.invariant-loop-start
invariant-loop-start l = record {
  bound : l.start ≤ l.end;
  same : find (is_runnable l.runnable) (range_with_len l.from (l.end - l.from))
      ≡ find (is_runnable l.runnable)
      (range_with_len l.start (l.end - l.start));
}

abbrev pub decreases-loop-start : goal.decreases-loop-start
decreases-loop-start l = l.end - l.start
