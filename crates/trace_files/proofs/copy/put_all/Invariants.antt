use Rattle.trace_files.proofs.Going.{PutTo}
use Rattle.trace_files.proofs.copy.put_all.Given as goal

abbrev pub invariant-loop-item : goal.invariant-loop-item
invariant-loop-item g l =
    PutTo g.T.Target.waiting g.T.Target.files g.T.Target.has l.items l.item-index l.initial.target
    l.target
    (g.S.Shelf.outside l.initial.shelf) (g.S.Shelf.outside l.shelf)
