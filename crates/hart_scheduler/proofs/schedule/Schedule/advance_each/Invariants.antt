use Rattle.std.proofs.Common.{◌≡◌}
use Rattle.hart_scheduler.specs.Choices.{plan_after_all}
use Rattle.hart_scheduler.proofs.schedule.Schedule.advance_each.Given as goal

abbrev pub invariant-loop-made : goal.invariant-loop-made
invariant-loop-made l =
    (l.self ≡ plan_after_all l.runnable l.made l.initial.self)
    × (l.self.harts ≡ l.initial.self.harts)
    × (l.self.quantum ≡ l.initial.self.quantum)
