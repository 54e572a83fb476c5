use Rattle.trace_passes.specs.Cursors.{bytes_left}
use Rattle.trace_files.proofs.Going.{IsAt}
use Rattle.trace_files.proofs.copy.copy_records.Given as goal

abbrev pub invariant-pieces : goal.invariant-pieces
invariant-pieces g l =
    IsAt g.T.Target.waiting g.T.Target.files g.T.Target.has l.name l.initial.target l.target
    l.cursor (g.S.Shelf.outside l.initial.shelf) (g.S.Shelf.outside l.shelf)

abbrev pub decreases-pieces : goal.decreases-pieces
decreases-pieces g l = bytes_left l.cursor
