use Rattle.run_recorder.proofs.Touching.{TouchesSeen}
use Rattle.run_recorder.proofs.touches.see_touches.Given as goal

abbrev pub invariant-loop-place : goal.invariant-loop-place
invariant-loop-place g l =
    TouchesSeen g.O.Observer.given l.version l.touches l.place l.initial.observer l.observer
