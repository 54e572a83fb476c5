-- What a replay gives that goes on from the saved state of some records.
use Rattle.trace_format.specs.Ends.{run_end}
use Rattle.std.specs.Prelude.{◌≡◌, ℕ, ◌≤◌, ◌^◌, List, [], ◌∷◌, ◌++◌, length, flat_map, map}
use Rattle.std.specs.Prelude.{Option, Some, None}
use Rattle.std.specs.List.{All}
use Rattle.command_line.specs.Replay.{ReplayDemand}
use Rattle.detector.specs.Changes.{touched_all}
use Rattle.saved_state.specs.Resuming.{kept_of_list}
use Rattle.saved_state.specs.ObjectRules.{IsSavable}
use Rattle.base.specs.Levels.{Levels}
use Rattle.base.specs.Lines.{Grid}
use Rattle.base.specs.declared.ending.Ending.{Ending}
use Rattle.shelf.specs.Shelf.{Files, content}
use Rattle.trace_passes.specs.Lives.{objects_of}
use Rattle.observations.specs.Seen.{report_of_records}
use Rattle.observations.specs.ObservedTraces.{ObservedTrace, report_of_observed, observed_after}
use Rattle.saved_state.specs.OfLists.{MayKeep}
use Rattle.trace_format.specs.Rules.{touches_in}
use Rattle.trace_format.specs.declared.record.TraceRecord.{TraceRecord}
use Rattle.trace_passes.specs.Passes.{Trace, all_records, near_refusal, trace_of}
use Rattle.predator_cli.specs.Replay.{ended_at, grid_in, levels_in, replay_work, shown}
use Rattle.predator_cli.specs.States.{state_of_records, state_of_observed}
use Rattle.command_io.specs.Works.{Work}
use Rattle.predator_cli.specs.declared.state_file.Begun.{Begun}

-- what was seen of records whose state is taken up
abbrev pub begun_of : Grid → Levels → ℕ → List TraceRecord → Begun
begun_of g v harts before = record {
  observations =
      record {
        watch = kept_of_list g v harts (touches_in before);
        objects = objects_of before;
      };
  harts = harts;
}

-- records that a replay under a layout and thresholds may have seen, whose state fits a file
pub record MayStand (g : Grid) (v : Levels) (harts : ℕ) (before : List TraceRecord) : Type 0 where
  pub kept : MayKeep g v harts (touches_in before)
  pub objects : IsSavable (length (touches_in before)) (objects_of before)
  pub short : length (state_of_records g v harts before) ≤ 2 ^ 40

-- the report and the state of records, by the definitions, with an end at which as many accesses
-- were counted as they have
abbrev pub work_of_records : Option (List ℕ) → Grid → Levels → ℕ → Ending → List TraceRecord → Work
work_of_records save g v harts ending items =
    shown save (report_of_records (ended_at (length (touches_in items)) ending) g v items)
    (state_of_records g v harts items)

-- those of some records followed by a trace's
abbrev pub work_of_both : Option (List ℕ) → Grid → Levels → ℕ → List TraceRecord → Trace → Work
work_of_both save g v harts before t =
    work_of_records save g v harts (run_end t.ending) (before ++ all_records t)

-- the files of a replay hold the state of some records, and a trace that begins behind them and
-- isn't filtered
pub record HoldsBoth (demand : ReplayDemand) (files : Files) (harts : ℕ) (before : List TraceRecord)
    (t : Trace) :
    Type 0 where
  pub name : List ℕ
  pub named : demand.resume ≡ Some name
  pub may : MayStand (grid_in demand files) (levels_in demand files) harts before
  pub state : content files name
      ≡ state_of_records (grid_in demand files) (levels_in demand files) harts before
  pub trace : trace_of (content files demand.trace) ≡ Some t
  pub same_harts : t.header.harts ≡ harts
  pub first : t.header.first ≡ length (touches_in before)
  pub plain : near_refusal None t.header.near ≡ None

-- what was seen once a trace came behind it
abbrev pub seen_behind : Begun → Trace → ObservedTrace
seen_behind begun t = observed_after begun.observations (all_records t)

-- No track comes. The report and the state are of the tracks that were there, in order, each with
-- the accesses of the trace in its range noted, and of no others.
pub record NotesAlone (demand : ReplayDemand) (files : Files) (begun : Begun) (t : Trace) : Type 0
  where
    pub tracks : (seen_behind begun t).watch.tracks
        ≡ map (touched_all begun.observations.watch.position (touches_in (all_records t)))
        begun.observations.watch.tracks
    pub work : replay_work demand files ≡ shown demand.save
        (report_of_observed (ended_at (seen_behind begun t).watch.position (run_end t.ending))
        (seen_behind begun t))
        (state_of_observed t.header.harts (seen_behind begun t))

-- its end states how many accesses it has
abbrev pub StatesItsCount : Trace → Type 0
StatesItsCount t = t.ending.accesses ≡ length (touches_in t.items)

-- A trace was cut: its records are those of the earlier parts and then those of the last one, which
-- ends as the whole. Each part states how many accesses it has itself.
pub record IsCutIn (whole : Trace) (earlier : List Trace) (last : Trace) : Type 0 where
  pub items : whole.items ≡ flat_map (λ t. t.items) earlier ++ last.items
  pub ending : run_end whole.ending
      ≡ ended_at (length (touches_in whole.items)) (run_end last.ending)
  pub stated : All StatesItsCount (earlier ++ last ∷ [])
