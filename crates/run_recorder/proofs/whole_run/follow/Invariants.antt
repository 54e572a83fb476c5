use Rattle.std.proofs.Common.{◌-◌}
use Rattle.guest.specs.Runs.{rest_of}
use Rattle.run_recorder.proofs.Following.{Follows}
use Rattle.run_recorder.proofs.whole_run.follow.Given as goal

abbrev pub invariant-turns : goal.invariant-turns
invariant-turns g l =
    Follows g.O.Observer.given l.version l.initial.guest l.guest (rest_of l.guest)
    l.initial.observer l.observer l.files l.initial.outputs l.outputs l.initial.speller.writer
    l.speller.writer
    (g.S.Shelf.outside l.initial.shelf) (g.S.Shelf.outside l.shelf)

abbrev pub decreases-turns : goal.decreases-turns
decreases-turns g l = l.guest.setup.budget - l.guest.config.steps
