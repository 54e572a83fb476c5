-- What is said of each record, and after which records.
use Rattle.std.specs.Prelude.{◌≡◌, List, length, Option, Some, None}
use Rattle.access_filter.specs.Standing.{StandsFor, near_of}
use Rattle.sharing_rules.specs.Filtered.{filtered}
use Rattle.trace_format.specs.declared.record.TraceRecord.{TraceRecord}
use Rattle.trace_format.specs.declared.record.TraceRecord.TheVariants as records
use Rattle.trace_format.specs.Rules.{touches_in}
use Rattle.trace_filter.specs.declared.record_filter.Passage.{Passage}
use Rattle.trace_filter.specs.declared.record_filter.Passage.TheVariants.{Kept, LeftOut, Ended}
use Rattle.trace_filter.specs.declared.record_filter.RecordFilter.{RecordFilter}

-- the record that is written where this is said of one
abbrev pub written : Passage → TraceRecord → Option TraceRecord
written Kept item = Some item
written LeftOut item = None
written (Ended e) item = Some (records.End e)

-- it was given these records
pub record HasFiltered (items : List TraceRecord) (f : RecordFilter) : Type 0 where
  pub stands : StandsFor (touches_in items) f.filter
  pub kept : f.kept ≡ length (filtered (near_of f.filter) (touches_in items))
