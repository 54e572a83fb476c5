use Rattle.trace_passes.specs.Cursors.{bytes_left}
use Rattle.trace_files.proofs.Relocations.{IsMoving}
use Rattle.trace_files.proofs.relocation.move_trace.Given as goal

abbrev pub invariant-pieces : goal.invariant-pieces
invariant-pieces g l =
    IsMoving l.table l.trace l.file l.mover l.cursor (g.S.Shelf.outside l.initial.shelf)
    (g.S.Shelf.outside l.shelf)

abbrev pub decreases-pieces : goal.decreases-pieces
decreases-pieces g l = bytes_left l.cursor
