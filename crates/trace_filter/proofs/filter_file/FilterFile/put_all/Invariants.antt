use Rattle.trace_filter.proofs.ManyRecords.{CameTo}
use Rattle.trace_filter.proofs.filter_file.FilterFile.put_all.Given as goal

abbrev pub invariant-loop-item : goal.invariant-loop-item
invariant-loop-item g l =
    CameTo l.items l.item-index l.initial.self l.self (g.S.Shelf.outside l.initial.shelf)
    (g.S.Shelf.outside l.shelf)
