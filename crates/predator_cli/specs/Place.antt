-- The command `place`: a new place for each word of an object in a trace, and what that comes to.
-- The trace is read for the object, for who touches its words, and for the recount.
use Rattle.std.specs.Prelude.{◌≡◌, ℕ, List, [], Option, Some}
use Rattle.std.specs.Option.{option_map_or}
use Rattle.std.specs.Result.{result_map_both}
use Rattle.command_line.specs.Place.{PlaceDemand}
use Rattle.placement.specs.Sought.{object_of}
use Rattle.placement.specs.Texts.{place_of_records}
use Rattle.placement.specs.Words.{Owned, owned_of}
use Rattle.placement.specs.declared.extent.Extent.{Extent}
use Rattle.shelf.specs.Shelf.{Files, Outside, Known, content}
use Rattle.trace_format.specs.Rules.{touches_in}
use Rattle.trace_format.specs.declared.record.TraceRecord.{TraceRecord}
use Rattle.trace_passes.specs.Passes.{all_records, trace_of}
use Rattle.command_io.specs.Readings.{IsAccepted, Reading}
use Rattle.command_io.specs.Works.{Work, done_or_refused}
use Rattle.command_io.specs.declared.status.Status.TheVariants as status
use Rattle.predator_cli.specs.Counting.{counted_readings}
use Rattle.predator_cli.specs.Replay.{whole}

-- each reading is of the same file, and is refused alike
abbrev pub place_readings : PlaceDemand → List Reading
place_readings demand = counted_readings whole demand.trace

-- all records of the trace that bytes are, none where they are no trace
abbrev pub records_of : List ℕ → List TraceRecord
records_of bytes = option_map_or all_records (trace_of bytes) []

abbrev pub records_for : PlaceDemand → Files → List TraceRecord
records_for demand files = records_of (content files demand.trace)

-- the text of the placement, or why no place is reported
abbrev pub place_work : PlaceDemand → Files → Work
place_work demand files =
    done_or_refused (result_map_both (λ text. text) status.Place
    (place_of_records demand.size demand.name demand.at (records_for demand files)))

-- ---- how far it is

-- the trace was read once, nothing was changed, and P holds of its records
pub record WasRead (demand : PlaceDemand) (P : List TraceRecord → Type 0) (old now : Outside)
    : Type 0 where
  pub accepted : IsAccepted (place_readings demand) old now
  pub holds : Known now.held (λ files. P (records_for demand files))

-- records have an object for a demand, or none
abbrev pub Means : PlaceDemand → Option Extent → List TraceRecord → Type 0
Means demand object items = object_of demand.name demand.at items ≡ object

-- these are the owners of the object that a demand means in records
abbrev pub AreFor : PlaceDemand → Owned → List TraceRecord → Type 0
AreFor demand owners items =
    Means demand (Some owners.extent) items
    × (owners ≡ owned_of owners.extent (touches_in items))
