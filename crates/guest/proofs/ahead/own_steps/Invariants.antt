use Rattle.rv32_hart.specs.Effect.{machine}
use Rattle.guest.specs.OwnSteps.{HasStepped}
use Rattle.guest.proofs.ahead.own_steps.Given as goal

abbrev pub invariant-loop-made : goal.invariant-loop-made
invariant-loop-made l =
    HasStepped l.hart l.made (machine l.initial.state l.initial.memory l.initial.held)
    l.initial.calls l.initial.touches (machine l.state l.memory l.held) l.calls l.touches
