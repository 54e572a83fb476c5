use Rattle.std.proofs.Common.{◌++◌, List, take}
use Rattle.trace_format.specs.declared.record.TraceRecord.{TraceRecord}
use Rattle.trace_passes.proofs.passes.note_all.Given as goal

abbrev pub invariant-loop-item : goal.invariant-loop-item
invariant-loop-item g l =
    (begun : g.row.O.Denot) (seen : List TraceRecord)
    → g.O.Observer.given begun l.initial.observer seen
    → g.O.Observer.given begun l.observer (seen ++ take l.item-index l.items)
