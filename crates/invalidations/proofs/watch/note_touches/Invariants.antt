use Rattle.invalidations.proofs.Watching.{TouchesWatched}
use Rattle.invalidations.proofs.watch.note_touches.Given as goal

abbrev pub invariant-loop-place : goal.invariant-loop-place
invariant-loop-place l = TouchesWatched l.touches l.place l.initial.explainer l.explainer
