-- Saved states: what the bytes of one say under a layout and thresholds, and what is saved.
use Rattle.std.specs.Prelude.{ℕ, ◌^◌, ◌==◌, nat_eq, nat_lt, List, ◌++◌, drop, length}
use Rattle.std.specs.Prelude.{Option, Some, None, Result, Ok, Err, if◌then◌else◌}
use Rattle.std.specs.Option.{option_eq, option_map_or}
use Rattle.detector.specs.Watch.{Watch}
use Rattle.saved_state.specs.HeaderPlaces.{offset_place, prediction_place, size_place}
use Rattle.saved_state.specs.HeaderPlaces.{tracking_place}
use Rattle.saved_state.specs.Resuming.{Resumption, resumption_in}
use Rattle.saved_state.specs.Saving.{state_of}
use Rattle.objects.specs.Objects.{Objects}
use Rattle.saved_state.specs.ObjectJudging.{objects_judged}
use Rattle.saved_state.specs.ObjectSpelling.{spell_objects}
use Rattle.base.specs.Levels.{Levels}
use Rattle.base.specs.Lines.{Grid}
use Rattle.base.specs.declared.faults.ResumeFault.{ResumeFault}
use Rattle.trace_passes.specs.Lives.{objects_of}
use Rattle.observations.specs.ObservedTraces.{ObservedTrace}
use Rattle.saved_state.specs.OfLists.{state_of_list}
use Rattle.saved_state.specs.Spelling.{spell_state}
use Rattle.trace_format.specs.Rules.{touches_in}
use Rattle.trace_format.specs.declared.record.TraceRecord.{TraceRecord}
use Rattle.command_io.specs.Statuses.{status_of_resume}
use Rattle.command_io.specs.declared.status.StateFault.TheVariants as state
use Rattle.command_io.specs.declared.status.Status.{Status}
use Rattle.command_io.specs.declared.status.Status.TheVariants as status
use Rattle.predator_cli.specs.declared.state_file.Begun.{Begun}

-- ---- what a state says

-- The place of the first field of a state that isn't as this layout and these thresholds have it:
-- the size of a line, the offset, the tracking threshold, the prediction threshold.
abbrev pub differing_field : Grid → Levels → Watch → Option ℕ
differing_field g v w =
    if w.grid.size == g.size then (if w.grid.offset == g.offset
    then (if w.levels.tracking == v.tracking
    then (if option_eq nat_eq w.levels.prediction v.prediction then None
    else Some prediction_place) else Some tracking_place) else Some offset_place)
    else Some size_place

-- what was seen of a trace of so many harts, unless a field differs
abbrev pub begun_with : Grid → Levels → Watch → ℕ → Objects → Result Begun Status
begun_with g v w harts objects =
    option_map_or (λ place. Err (status.State (state.WrongSettings place)))
    (differing_field g v w)
    (Ok (record { observations = record { watch = w; objects = objects }; harts = harts }))

abbrev pub objects_then : Grid → Levels → Resumption → Result Objects ResumeFault
    → Result Begun Status
objects_then g v r (Ok objects) = begun_with g v r.watch r.harts objects
objects_then g v r (Err fault) = Err (status_of_resume fault)

-- the objects stand behind what is used for the detector
unfoldable pub resumed_state : Grid → Levels → List ℕ → Resumption → Result Begun Status
resumed_state g v bytes r =
    objects_then g v r (objects_judged r.used r.watch.position (drop r.used bytes))

abbrev pub resumption_then : Grid → Levels → List ℕ → Result Resumption ResumeFault
    → Result Begun Status
resumption_then g v bytes (Ok r) = resumed_state g v bytes r
resumption_then g v bytes (Err fault) = Err (status_of_resume fault)

-- What the bytes of a state say: they are at most 2^40, begin with what a detector holds, and end
-- with the objects.
unfoldable pub judged_state : Grid → Levels → List ℕ → Result Begun Status
judged_state g v bytes =
    if nat_lt (2 ^ 40) (length bytes) then Err (status.State state.TooLong)
    else resumption_then g v bytes (resumption_in v.report bytes)

abbrev pub state_refusal : Result Begun Status → Option Status
state_refusal (Ok begun) = None
state_refusal (Err s) = Some s

-- ---- what is saved

-- what is seen of a trace of so many harts
unfoldable pub state_of_observed : ℕ → ObservedTrace → List ℕ
state_of_observed harts s = spell_state (state_of harts s.watch) ++ spell_objects s.objects

-- of a list of records, by the definitions: the state of its accesses, and its objects
unfoldable pub state_of_records : Grid → Levels → ℕ → List TraceRecord → List ℕ
state_of_records g v harts items =
    state_of_list g v harts (touches_in items) ++ spell_objects (objects_of items)
