-- What the records of a trace show of the invalidations of all lines.
use Rattle.std.specs.Prelude.{ℕ, Bool, false, List, Option, Some, None}
use Rattle.std.specs.List.{filter_map}
use Rattle.std.specs.Option.{unwrap_or}
use Rattle.base.specs.Lines.{Grid}
use Rattle.base.specs.Touch.{Touch}
use Rattle.trace_format.specs.declared.record.TraceRecord.{TraceRecord}
use Rattle.trace_format.specs.declared.record.TraceRecord.TheVariants as records
use Rattle.trace_passes.specs.Accounts.{Account, BeginsAt, CameBy}
use Rattle.invalidations.specs.declared.sited.Sited.{Sited}
use Rattle.invalidations.specs.BlameKept.{Blamed, StandsFor, wants_memory}
use Rattle.invalidations.specs.BlameText.{blame_text}

-- an access with its pc, which is 0 where it has none: each access of a trace of version 3 has one
abbrev pub sited_by : Touch → Option ℕ → Sited
sited_by a pc = record { access = a; pc = unwrap_or pc 0 }

-- the accesses among records, in order, each with its pc
abbrev pub sited_item : TraceRecord → Option Sited
sited_item (records.Touch a pc) = Some (sited_by a pc)
sited_item _ = None

abbrev pub sited_in : List TraceRecord → List Sited
sited_in items = filter_map sited_item items

-- how it accounts for the accesses of a trace: with their pcs, under a layout
abbrev pub blame_account : Account Blamed Sited Grid
blame_account = record {
  listed = sited_item;
  StandsFor = StandsFor;
  position = λ k. k.position;
  setting = λ k. k.grid;
}

-- from what was kept first, what is kept now came by these records
abbrev pub HasBlamed : Blamed → Blamed → List TraceRecord → Type 0
HasBlamed = CameBy blame_account

-- its first access has this position
abbrev pub blame_begins_at : Blamed → ℕ → Type 0
blame_begins_at = BeginsAt blame_account

-- whether a record may want memory: an access that may
abbrev pub record_wants_memory : Blamed → TraceRecord → Bool
record_wants_memory k (records.Touch a pc) = wants_memory k (sited_by a pc)
record_wants_memory k _ = false

-- the text of a list of records, under a layout
unfoldable pub blame_of_records : Grid → Option ℕ → List TraceRecord → List ℕ
blame_of_records g whole items = blame_text g whole (sited_in items)
