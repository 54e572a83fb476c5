use Rattle.std.proofs.Common.{◌≡◌, ◌≤◌, ◌-◌}
use Rattle.std.specs.List.{find, range_with_len}
use Rattle.hart_scheduler.specs.Choices.{is_runnable}
use Rattle.hart_scheduler.proofs.runnable.lowest_runnable.Given as goal

abbrev pub invariant-loop-number : goal.invariant-loop-number
invariant-loop-number l = record {
  bound : l.number ≤ l.end;
  same : find (is_runnable l.runnable) (range_with_len l.from (l.end - l.from))
      ≡ find (is_runnable l.runnable)
      (range_with_len l.number (l.end - l.number));
}
