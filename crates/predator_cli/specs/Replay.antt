-- The command `replay`: what it reads, the report that it gives of a trace, and the state that it
-- saves. A trace is a whole one, or goes on from a saved state.
use Rattle.trace_format.specs.Ends.{run_end}
use Rattle.std.specs.Prelude.{ℕ, List, [], ◌∷◌, ◌++◌, ◌*◌, ◌≡◌, Option, Some, None, false}
use Rattle.std.specs.Option.{option_and_then, option_map, option_map_or}
use Rattle.std.specs.Result.{result_ok}
use Rattle.command_line.specs.Replay.{ReplayDemand}
use Rattle.base.specs.Lines.{Grid}
use Rattle.base.specs.Levels.{Levels}
use Rattle.base.specs.declared.ending.Ending.{Ending}
use Rattle.shelf.specs.Shelf.{Files, Outside, Known, content}
use Rattle.observations.specs.Seen.{report_of_records}
use Rattle.observations.specs.ObservedTraces.{report_of_observed, observed_after}
use Rattle.trace_passes.specs.Passes.{Trace, all_records, refusal_of, trace_of}
use Rattle.trace_passes.specs.declared.wanted.Wanted.{Wanted}
use Rattle.command_io.specs.Readings.{IsAccepted, Reading, reading}
use Rattle.command_io.specs.SettingsFiles.{chosen_settings, layout_of, levels_of}
use Rattle.command_io.specs.SettingsFiles.{settings_readings}
use Rattle.command_io.specs.Works.{Work, done_with, output_for}
use Rattle.command_io.specs.declared.status.Status.{Status}
use Rattle.command_io.specs.declared.status.Status.TheVariants as status
use Rattle.predator_cli.specs.States.{judged_state, state_of_records, state_of_observed}
use Rattle.predator_cli.specs.States.{state_refusal}
use Rattle.predator_cli.specs.TraceFaults.{status_of_refusal}
use Rattle.predator_cli.specs.declared.state_file.Begun.{Begun}

-- ---- what is read

-- the layout and the thresholds of a replay
abbrev pub grid_in : ReplayDemand → Files → Grid
grid_in demand files = layout_of demand.layout (chosen_settings demand.settings files)

abbrev pub levels_in : ReplayDemand → Files → Levels
levels_in demand files = levels_of demand.layout (chosen_settings demand.settings files)

-- the state of a name, under a layout and thresholds, each beside the contents of all files
abbrev pub state_reading : (Files → Grid) → (Files → Levels) → List ℕ → Reading
state_reading grid levels name =
    reading name
    (λ files. state_refusal (judged_state (grid files) (levels files) (content files name)))

abbrev pub state_readings : (Files → Grid) → (Files → Levels) → Option (List ℕ) → List Reading
state_readings grid levels name = option_map_or (λ n. state_reading grid levels n ∷ []) name []

-- what was seen before the trace, where a state is named
abbrev pub begun_under : Grid → Levels → Option (List ℕ) → Files → Option Begun
begun_under g v name files =
    option_and_then (λ n. result_ok (judged_state g v (content files n))) name

abbrev pub begun_in : ReplayDemand → Files → Option Begun
begun_in demand files =
    begun_under (grid_in demand files) (levels_in demand files) demand.resume files

-- a whole trace is wanted that isn't filtered: one of any number of harts, whose first access has
-- position 0
abbrev pub whole : Wanted
whole = record { harts = None; first = Some 0; pcs = false; lines = None }

-- filtered or not, where its regions have at least as many bytes as lines of a size
abbrev pub whole_for : ℕ → Wanted
whole_for size = record whole { lines = Some size }

-- How many bytes a filtered trace's regions must have: a replay predicts lines of twice the size.
-- None is taken whose state is to be saved.
abbrev pub lines_for : Option (List ℕ) → Grid → Option ℕ
lines_for None layout = Some (2 * layout.size)
lines_for (Some save) layout = None

-- behind a state one of its harts is wanted, from its position on, that isn't filtered
abbrev pub wanted_behind : Begun → Wanted
wanted_behind begun =
    record {
      harts = Some begun.harts;
      first = Some begun.observations.watch.position;
      pcs = false;
      lines = None;
    }

-- where a state is saved, if its name is given, and under a layout
abbrev pub wanted_after : Option (List ℕ) → Grid → Option Begun → Wanted
wanted_after save layout None = record whole { lines = lines_for save layout }
wanted_after save layout (Some begun) = wanted_behind begun

abbrev pub wanted_in : ReplayDemand → Files → Wanted
wanted_in demand files = wanted_after demand.save (grid_in demand files) (begun_in demand files)

-- how a file is refused that is no trace as it is wanted
abbrev pub refuses_trace : Wanted → List ℕ → Files → Option Status
refuses_trace wanted name files =
    option_map status_of_refusal (refusal_of wanted (content files name))

abbrev pub trace_reading : (Files → Wanted) → List ℕ → Reading
trace_reading wanted name = reading name (λ files. refuses_trace (wanted files) name files)

-- the settings, the state, and the trace
abbrev pub replay_readings : ReplayDemand → List Reading
replay_readings demand =
    settings_readings demand.settings
    ++ (state_readings (grid_in demand) (levels_in demand) demand.resume
    ++ trace_reading (wanted_in demand) demand.trace ∷ [])

-- ---- what is given

-- a report, and a state where it is saved
abbrev pub shown : Option (List ℕ) → List ℕ → List ℕ → Work
shown save text state =
    record { status = status.Done; text = text; outputs = output_for save state }

-- the report of a trace under thresholds and a layout
abbrev pub report_of : Levels → Grid → Trace → List ℕ
report_of levels layout t = report_of_records (run_end t.ending) layout levels (all_records t)

-- an end at which so many accesses were counted
abbrev pub ended_at : ℕ → Ending → Ending
ended_at position ending = record ending { accesses = position }

-- What a trace gives. Of a whole one the report is by the definitions. One that goes on from a
-- state has each of its records noted behind what was seen before.
abbrev pub work_after : Option (List ℕ) → Grid → Levels → Option Begun → Trace → Work
work_after save g v None t =
    shown save (report_of v g t) (state_of_records g v t.header.harts (all_records t))
work_after save g v (Some begun) t =
    let now = observed_after begun.observations (all_records t) in
    shown save (report_of_observed (ended_at now.watch.position (run_end t.ending)) now)
    (state_of_observed t.header.harts now)

abbrev pub replay_work : ReplayDemand → Files → Work
replay_work demand files =
    option_map_or
    (work_after demand.save (grid_in demand files) (levels_in demand files)
    (begun_in demand files)) (trace_of (content files demand.trace)) (done_with [])

-- ---- how far it is

-- a text and a state are those of the trace that the bytes are
abbrev pub IsCounted : Option (List ℕ) → Grid → Levels → Option Begun → List ℕ → List ℕ → List ℕ
    → Type 0
IsCounted save g v begun bytes text state = (t : Trace) × (trace_of bytes ≡ Some t)
    × (work_after save g v begun t ≡ shown save text state)

-- what was read for a replay: all of it is accepted, nothing was changed, and this is to be shown
pub record IsToShow (demand : ReplayDemand) (old now : Outside) (text state : List ℕ) : Type 0 where
  pub accepted : IsAccepted (replay_readings demand) old now
  pub work : Known now.held (λ files. replay_work demand files ≡ shown demand.save text state)
