use Rattle.trace_passes.specs.Cursors.{bytes_left}
use Rattle.trace_filter.proofs.Filterings.{IsFiltering}
use Rattle.trace_filter.proofs.filter_pass.filter_trace.Given as goal

abbrev pub invariant-pieces : goal.invariant-pieces
invariant-pieces g l =
    IsFiltering l.near l.trace l.file l.begun l.cursor (g.S.Shelf.outside l.initial.shelf)
    (g.S.Shelf.outside l.shelf)

abbrev pub decreases-pieces : goal.decreases-pieces
decreases-pieces g l = bytes_left l.cursor
