-- A replay that goes on from the state of some records is not refused.
use Rattle.trace_passes.specs.Passes.{near_refusal}
use Rattle.std.proofs.Common.{◌≡◌, ℕ, List, [], ◌∷◌, ◌++◌, length, Option, Some, None, Result, Ok}
use Rattle.std.proofs.Common.{Bool, false, Err}
use Rattle.std.proofs.Common.{refl, ap, ◌∙◌}
use Rattle.std.proofs.lemmas.Bool.{eq-eqb}
use Rattle.std.proofs.lemmas.Option.{none-some, same_Some}
use Rattle.std.specs.Option.{option_map, option_map_or, option_or}
use Rattle.command_line.specs.Replay.{ReplayDemand}
use Rattle.command_line.specs.Words.{replay}
use Rattle.base.specs.Levels.{Levels}
use Rattle.base.specs.Lines.{Grid}
use Rattle.trace_format.specs.declared.record.TraceEnd.{TraceEnd}
use Rattle.shelf.specs.Shelf.{Files, content}
use Rattle.trace_format.specs.Judging.{version_at}
use Rattle.trace_format.specs.Reading.{ending_of, reading_of}
use Rattle.trace_format.specs.Rules.{touches_in}
use Rattle.trace_format.specs.declared.fault.TraceFault.{TraceFault}
use Rattle.trace_format.specs.declared.read_so_far.ReadSoFar.{ReadSoFar}
use Rattle.trace_format.specs.declared.record.Header.{Header}
use Rattle.trace_format.specs.declared.record.TraceRecord.{TraceRecord}
use Rattle.trace_passes.specs.Passes.{Trace, before_last, head_of, header_refusal, trace_at}
use Rattle.trace_passes.specs.Passes.{trace_of, trace_refusal, version_refusal}
use Rattle.trace_passes.specs.Passes.{refusal_of as refuses}
use Rattle.trace_passes.specs.declared.wanted.Refusal.{Refusal}
use Rattle.trace_passes.specs.declared.wanted.Wanted.{Wanted}
use Rattle.predator_cli.specs.Answer.{answer_of}
use Rattle.predator_cli.specs.GoesOn.{HoldsBoth, begun_of}
use Rattle.command_io.specs.Readings.{Reading, first_refusal}
use Rattle.predator_cli.specs.Replay.{begun_in, grid_in, levels_in, replay_readings, replay_work}
use Rattle.predator_cli.specs.Replay.{state_readings, trace_reading, wanted_after, wanted_behind}
use Rattle.predator_cli.specs.Replay.{wanted_in}
use Rattle.command_io.specs.SettingsFiles.{settings_readings}
use Rattle.predator_cli.specs.States.{judged_state, state_of_records, state_refusal}
use Rattle.predator_cli.specs.TraceFaults.{status_of_refusal}
use Rattle.command_io.specs.Works.{Work, refused_with}
use Rattle.predator_cli.specs.declared.state_file.Begun.{Begun}
use Rattle.command_io.specs.declared.status.Status.{Status}
use Rattle.command_io.specs.Laws.Readings.{accepted_both}

-- ---- the trace

module _ (w : Wanted) (t : Trace) (any : w.pcs ≡ false)
    (unrefused : header_refusal w (Some t.header) ≡ None)
  where
    wanted_at : (all : List TraceRecord) (p : Option ReadSoFar) (end : Result TraceEnd TraceFault)
        → trace_at all p end ≡ Some t
        → option_or (header_refusal w (head_of p)) (trace_refusal end) ≡ None
    wanted_at all (Some p) (Ok e) is =
        let given : Trace = record {
          version = p.version;
          header = p.header;
          items = before_last all;
          ending = e;
        } in
        let head : p.header ≡ t.header = ap (λ (x : Trace). x.header) (same_Some given t is) in
        ap (λ (r : Option Refusal). option_or r None)
        (ap (λ (h : Header). header_refusal w (Some h)) head ∙ unrefused)
    wanted_at all (Some p) (Err fault) is = absurd (none-some t is)
    wanted_at all None (Ok e) is = absurd (none-some t is)
    wanted_at all None (Err fault) is = absurd (none-some t is)

    pub trace_accepted : (bytes : List ℕ) → trace_of bytes ≡ Some t → refuses w bytes ≡ None
    trace_accepted bytes is =
        let now = reading_of bytes in
        ap (λ (pcs : Bool). option_or (version_refusal pcs (version_at bytes))
        (option_or (header_refusal w (head_of now.1.progress)) (trace_refusal (ending_of now.1)))) any
        ∙ wanted_at now.0 now.1.progress (ending_of now.1) is

-- one that goes on from some records is wanted behind them
taken_behind : (g : Grid) (v : Levels) (harts : ℕ) (before : List TraceRecord) (h : Header)
    → near_refusal None h.near ≡ None → h.harts ≡ harts
    → h.first ≡ length (touches_in before)
    → header_refusal (wanted_behind (begun_of g v harts before)) (Some h) ≡ None
taken_behind g v harts before h plain same first =
    rw (plain, eq-eqb h.harts harts same, eq-eqb h.first (length (touches_in before)) first) refl

-- ---- all files

module _ (demand : ReplayDemand) (files : Files) (harts : ℕ) (before : List TraceRecord) (t : Trace)
    (so : HoldsBoth demand files harts before t)
    (taken : judged_state (grid_in demand files) (levels_in demand files)
    (state_of_records (grid_in demand files) (levels_in demand files) harts before)
    ≡ Ok (begun_of (grid_in demand files) (levels_in demand files) harts before))
    (begun : begun_in demand files
    ≡ Some (begun_of (grid_in demand files) (levels_in demand files) harts before))
  where
    abbrev states : List Reading
    states = state_readings (grid_in demand) (levels_in demand) demand.resume

    abbrev traces : List Reading
    traces = trace_reading (wanted_in demand) demand.trace ∷ []

    state_accepted : first_refusal states files ≡ None
    state_accepted =
        ap (λ (n : Option (List ℕ)). first_refusal
        (state_readings (grid_in demand) (levels_in demand) n) files) so.named
        ∙ ap (λ (b : List ℕ). option_or
        (state_refusal (judged_state (grid_in demand files) (levels_in demand files) b)) None)
        so.state
        ∙ ap (λ (j : Result Begun Status). option_or (state_refusal j) None) taken

    went_on : first_refusal traces files ≡ None
    went_on =
        let g = grid_in demand files in
        let v = levels_in demand files in
        let bytes = content files demand.trace in
        ap (λ (b : Option Begun). option_or
        (option_map status_of_refusal (refuses (wanted_after demand.save g b) bytes)) None) begun
        ∙ ap (λ (r : Option Refusal). option_or (option_map status_of_refusal r) None)
        (trace_accepted (wanted_behind (begun_of g v harts before)) t refl
        (taken_behind g v harts before t.header so.plain so.same_harts so.first) bytes so.trace)

    pub answered_on : (all : Work) → replay_work demand files ≡ all
        → first_refusal (settings_readings demand.settings) files ≡ None
        → answer_of (Some (replay demand)) files ≡ all
    answered_on all work settings =
        let none : first_refusal (replay_readings demand) files ≡ None =
        accepted_both (settings_readings demand.settings) (states ++ traces) (Some files)
        settings (accepted_both states traces (Some files) state_accepted went_on) in
        ap (λ (r : Option Status). option_map_or refused_with r (replay_work demand files)) none
        ∙ work
