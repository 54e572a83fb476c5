-- Which records a filtered trace has.
use Rattle.std.specs.Prelude.{ℕ, List, length, take, slice_get, Option, Some, None}
use Rattle.std.specs.Prelude.{if◌then◌else◌}
use Rattle.std.specs.Option.{option_and_then}
use Rattle.std.specs.List.{filter_map}
use Rattle.sharing_rules.specs.AccessLists.{AccessList}
use Rattle.sharing_rules.specs.Filtered.{filtered, is_redundant}
use Rattle.sharing_rules.specs.Places.{below}
use Rattle.trace_format.specs.declared.record.Header.{Header}
use Rattle.trace_format.specs.declared.record.TraceEnd.{TraceEnd}
use Rattle.trace_format.specs.declared.record.TraceRecord.{TraceRecord}
use Rattle.trace_format.specs.declared.record.TraceRecord.TheVariants as records
use Rattle.trace_format.specs.declared.record.Version.TheVariants.{Four}
use Rattle.trace_format.specs.Rules.{touches_in}
use Rattle.trace_passes.specs.Passes.{Trace}

-- the end behind these accesses: it counts those that are kept, and all
abbrev pub filtered_end : ℕ → AccessList → TraceEnd → TraceEnd
filtered_end k before e = record e {
  accesses = length (filtered k before);
  whole = Some (length before);
}

-- A record behind these accesses: a redundant access is left out, and all other records stay.
abbrev pub filtered_item : ℕ → AccessList → TraceRecord → Option TraceRecord
filtered_item k before (records.Touch a pc) =
    if is_redundant k before a then None else Some (records.Touch a pc)
filtered_item k before (records.End e) = Some (records.End (filtered_end k before e))
filtered_item k before item = Some item

-- the record at a place, if there is one that stays
abbrev pub filtered_at : ℕ → List TraceRecord → ℕ → Option TraceRecord
filtered_at k items i =
    option_and_then (filtered_item k (touches_in (take i items))) (slice_get items i)

-- the records that stay, in their order
unfoldable pub filtered_items : ℕ → List TraceRecord → List TraceRecord
filtered_items k items = filter_map (filtered_at k items) (below (length items))

-- the header: positions begin at 0, and regions have 2^k bytes
abbrev pub filtered_header : ℕ → Header → Header
filtered_header k h = record { first = 0; harts = h.harts; near = k }

abbrev pub filtered_trace : ℕ → Trace → Trace
filtered_trace k t = record {
  version = Four;
  header = filtered_header k t.header;
  items = filtered_items k t.items;
  ending = filtered_end k (touches_in t.items) t.ending;
}
