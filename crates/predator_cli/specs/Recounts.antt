-- What is promised of the counts in a report: what a plain recount of the same lines says of them.
use Rattle.std.specs.Prelude.{◌≡◌, ℕ, List, ◌++◌, Some, None}
use Rattle.std.specs.List.{All}
use Rattle.command_line.specs.Replay.{ReplayDemand}
use Rattle.command_line.specs.Run.{RunDemand}
use Rattle.base.specs.Levels.{Levels}
use Rattle.base.specs.Lines.{Grid}
use Rattle.sharing_rules.specs.AccessLists.{AccessList}
use Rattle.sharing_rules.specs.Listed.{listed}
use Rattle.sharing_rules.specs.Recounts.{IsRecounted}
use Rattle.shelf.specs.Shelf.{Files, content}
use Rattle.trace_format.specs.Rules.{touches_in}
use Rattle.trace_passes.specs.Passes.{Trace, all_records, trace_of}
use Rattle.trace_format.specs.declared.record.TraceRecord.{TraceRecord}
use Rattle.command_io.specs.SettingsFiles.{chosen_settings, levels_of, native_of}
use Rattle.predator_cli.specs.GoesOn.{HoldsBoth}
use Rattle.predator_cli.specs.Replay.{grid_in, levels_in}
use Rattle.predator_cli.specs.Run.{trace_for_demand}

-- Every line that is listed of an access list is recounted: over the same list, under the line's
-- own layout and from its first write on, a plain recount counts no less, and after the line's
-- start as much.
abbrev pub AreRecounted : Grid → Levels → AccessList → Type 0
AreRecounted g v t = All (IsRecounted t) (listed g v t)

-- so of the accesses of a trace, under a layout and thresholds
abbrev pub IsRecountedIn : Grid → Levels → Trace → Type 0
IsRecountedIn g v t = AreRecounted g v (touches_in (all_records t))

-- of the whole trace that a replay reads, under the layout and the thresholds of its report; and
-- where it goes on from the state of some records, of these followed by those of its trace
pub record ReplayIsRecounted (demand : ReplayDemand) (files : Files) : Type 0 where
  pub whole : demand.resume ≡ None → (t : Trace) → trace_of (content files demand.trace) ≡ Some t
      → IsRecountedIn (grid_in demand files) (levels_in demand files) t
  pub behind : (harts : ℕ) (before : List TraceRecord) (t : Trace)
      → HoldsBoth demand files harts before t
      → AreRecounted (grid_in demand files) (levels_in demand files)
      (touches_in (before ++ all_records t))

-- and of the trace of a run
abbrev pub RunIsRecounted : RunDemand → Files → Type 0
RunIsRecounted demand files =
    let settings = chosen_settings demand.settings files in
    IsRecountedIn (native_of settings) (levels_of None settings)
    (trace_for_demand demand settings files)
