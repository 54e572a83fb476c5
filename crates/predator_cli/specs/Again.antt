-- What is promised of a run: the replay of the trace that it wrote, and what a trace with pcs
-- records.
use Rattle.std.specs.Prelude.{◌≡◌, ℕ, true, false, List, map, Option, Some, None}
use Rattle.command_line.specs.Replay.{ReplayDemand}
use Rattle.command_line.specs.Run.{RunDemand}
use Rattle.command_line.specs.Set.{AskedSettings}
use Rattle.command_line.specs.Words.{Demand}
use Rattle.shelf.specs.Files.{bytes_for}
use Rattle.run_recorder.specs.Recorded.{sited_records}
use Rattle.settings.specs.declared.values.Settings.{Settings}
use Rattle.shelf.specs.Shelf.{Files, content}
use Rattle.invalidations.specs.BlameRecords.{sited_in}
use Rattle.invalidations.specs.Watched.{sited, sited_run}
use Rattle.trace_format.specs.Pcs.{without_pcs}
use Rattle.trace_passes.specs.Passes.{Trace, all_records, trace_of}
use Rattle.command_io.specs.SettingsFiles.{chosen_settings, settings_in}
use Rattle.command_io.specs.Statuses.{Kind, done, refusal, read_fault, write_fault, no_memory}
use Rattle.command_io.specs.Works.{Work, done_with}
use Rattle.predator_cli.specs.Judged.{judged}
use Rattle.predator_cli.specs.Replay.{replay_readings, replay_work}
use Rattle.predator_cli.specs.Run.{run_for_demand, run_readings, run_work, trace_for_demand}

-- the replay of a whole trace with no layout named, which saves nothing
abbrev pub whole_replay : AskedSettings → List ℕ → ReplayDemand
whole_replay settings trace = record {
  trace = trace;
  settings = settings;
  layout = None;
  save = None;
  resume = None;
}

-- what a replay answers
abbrev pub replayed : ReplayDemand → Files → Work
replayed demand files = judged (replay_readings demand) (replay_work demand) files

-- Where files hold the trace that a run wrote under a name, and the same settings, its replay with
-- no layout named is done and prints what the run printed.
abbrev pub ReplayRepeatsRun : RunDemand → Files → Type 0
ReplayRepeatsRun demand files =
    let answer = judged (run_readings demand) (run_work demand) files in
    (name : List ℕ) (later : Files) → demand.trace ≡ Some name
    → later name ≡ bytes_for answer.outputs name
    → settings_in demand.settings later ≡ settings_in demand.settings files
    → replayed (whole_replay demand.settings name) later ≡ done_with answer.text

-- ---- the trace with pcs

-- the same run, whose trace records no pcs
abbrev pub without_sites : RunDemand → RunDemand
without_sites demand = record demand { pcs = false }

-- A trace has the records of the trace without pcs but for the pcs, and its accesses with their pcs
-- are the sited list of the run, of which `explain` reports; as `blame` reads them, too.
pub record RecordsSites (demand : RunDemand) (settings : Settings) (files : Files) (t : Trace) :
    Type 0 where
  pub header : t.header ≡ (trace_for_demand (without_sites demand) settings files).header
  pub records : without_pcs t.items
      ≡ (trace_for_demand (without_sites demand) settings files).items
  pub ending : t.ending ≡ (trace_for_demand (without_sites demand) settings files).ending
  pub sites : map sited (sited_records t.items)
      ≡ sited_run (run_for_demand demand settings files)
  pub blamed : sited_in (all_records t) ≡ sited_run (run_for_demand demand settings files)

-- Where files hold the trace that a run wrote with pcs, it is such a trace.
abbrev pub RunRecordsSites : RunDemand → Files → Type 0
RunRecordsSites demand files =
    let answer = judged (run_readings demand) (run_work demand) files in
    demand.pcs ≡ true → (name : List ℕ) (later : Files) → demand.trace ≡ Some name
    → later name ≡ bytes_for answer.outputs name
    → (t : Trace) × (trace_of (content later name) ≡ Some t)
    × RecordsSites demand (chosen_settings demand.settings files) files t

-- what is promised of a run whose work is done
pub record RunRepeats (demand : RunDemand) (files : Files) : Type 0 where
  pub replay : ReplayRepeatsRun demand files
  pub sites : RunRecordsSites demand files
  -- it prints the same with pcs and without
  pub text : (run_work demand files).text ≡ (run_work (without_sites demand) files).text

-- a fact about what was asked for, after a call whose work is done
abbrev pub WhereDone : (Demand → Files → Type 0) → Option Demand → Files → Kind → Type 0
WhereDone P None files k = Unit {0}
WhereDone P (Some demand) files done = P demand files
WhereDone P (Some demand) files refusal = Unit {0}
WhereDone P (Some demand) files read_fault = Unit {0}
WhereDone P (Some demand) files write_fault = Unit {0}
WhereDone P (Some demand) files no_memory = Unit {0}
