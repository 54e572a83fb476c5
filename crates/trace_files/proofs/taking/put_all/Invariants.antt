use Rattle.trace_files.proofs.Takings.{MovedTo}
use Rattle.trace_files.proofs.taking.put_all.Given as goal

abbrev pub invariant-loop-item : goal.invariant-loop-item
invariant-loop-item g l =
    MovedTo l.table l.items l.item-index l.initial.mover l.mover
    (g.S.Shelf.outside l.initial.shelf) (g.S.Shelf.outside l.shelf)
