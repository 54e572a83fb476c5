-- Records without pcs.
use Rattle.std.specs.Prelude.{List, map, None}
use Rattle.trace_format.specs.declared.record.TraceRecord.{TraceRecord}
use Rattle.trace_format.specs.declared.record.TraceRecord.TheVariants as records

-- an access without its pc, and any other record as it is
abbrev pub without_pc : TraceRecord → TraceRecord
without_pc (records.Touch a pc) = records.Touch a None
without_pc item = item

abbrev pub without_pcs : List TraceRecord → List TraceRecord
without_pcs items = map without_pc items
