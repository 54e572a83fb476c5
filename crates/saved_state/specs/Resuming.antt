-- What a detector holds that is taken up again.
use Rattle.std.specs.Prelude.{◌≡◌, ℕ, List, length, map, Result, Ok, Err}
use Rattle.std.specs.FinMap as finite
use Rattle.base.specs.Levels.{Levels}
use Rattle.base.specs.Lines.{Grid}
use Rattle.base.specs.declared.faults.ResumeFault.{ResumeFault}
use Rattle.saved_state.specs.declared.state_parts.CountedLine.{CountedLine}
use Rattle.sharing_rules.specs.AccessLists.{AccessList}
use Rattle.saved_state.specs.OfLists.{sorted_state_in, state_of_list}
use Rattle.saved_state.specs.Reading.{Found, read_state}
use Rattle.saved_state.specs.Spelling.{State}
use Rattle.detector.specs.Counts.{Counts}
use Rattle.detector.specs.Standing.{StandsFor}
use Rattle.detector.specs.Watch.{Watch}

-- how often each of these lines was written
abbrev pub counts_in : List CountedLine → Counts
counts_in lines = finite.from_entries (map (λ l. (l.number, l.writes)) lines)

-- what a state says, with a report threshold
abbrev pub watch_in : ℕ → State → Watch
watch_in report s = record {
  position = s.position;
  grid = s.grid;
  levels = record { tracking = s.tracking; prediction = s.prediction; report = report };
  writes = counts_in s.lines;
  tracks = s.tracks;
}

-- what is kept of a list
abbrev pub kept_of_list : Grid → Levels → ℕ → AccessList → Watch
kept_of_list g v harts t = watch_in v.report (sorted_state_in g v harts t)

-- with the harts that it states, and the place behind it
pub record Resumption : Type 0 where
  pub watch : Watch
  pub harts : ℕ
  pub used : ℕ

abbrev pub resumption : Watch → ℕ → ℕ → Resumption
resumption w harts used = record { watch = w; harts = harts; used = used }

abbrev pub resumption_of : ℕ → Result Found ResumeFault → Result Resumption ResumeFault
resumption_of report (Err fault) = Err fault
resumption_of report (Ok found) =
    Ok (resumption (watch_in report found.0) found.0.harts found.1)

-- what any bytes say
abbrev pub resumption_in : ℕ → List ℕ → Result Resumption ResumeFault
resumption_in report bytes = resumption_of report (read_state bytes)

-- it stands for a list whose state it was taken up from, and states the harts of the state and its
-- length
pub record IsResumedFrom (g : Grid) (v : Levels) (harts : ℕ) (t : AccessList) (w : Watch)
    (stated used : ℕ) : Type 0 where
  pub stands : StandsFor t w
  pub same_harts : stated ≡ harts
  pub whole : used ≡ length (state_of_list g v harts t)
