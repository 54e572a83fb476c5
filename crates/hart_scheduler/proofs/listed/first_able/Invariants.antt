use Rattle.std.proofs.Common.{◌≡◌, ◌≤◌, length}
use Rattle.std.specs.List.{find, after_first}
use Rattle.hart_scheduler.specs.Choices.{is_runnable}
use Rattle.hart_scheduler.specs.Listed.{harts_from}
use Rattle.hart_scheduler.proofs.listed.first_able.Given as goal

abbrev pub invariant-loop-able : goal.invariant-loop-able
invariant-loop-able l = record {
  bound : l.able ≤ length l.entries;
  found : find (is_runnable l.runnable) (harts_from l.entries l.place)
      ≡ find (is_runnable l.runnable) (harts_from l.entries l.able);
  left : after_first (is_runnable l.runnable) (harts_from l.entries l.place)
      ≡ after_first (is_runnable l.runnable)
      (harts_from l.entries l.able);
}
