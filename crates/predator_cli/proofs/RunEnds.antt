-- What a run leaves in its files, and how the command ends after it.
use Rattle.run_recorder.specs.Recorded.{near_for}
use Rattle.std.proofs.Common.{◌≡◌, ℕ, List, [], ◌∷◌, ◌++◌, Option, Some, None, Ok, true}
use Rattle.std.proofs.Common.{refl, sym, ap, subst, ◌∙◌, inl, inr, Bool, false}
use Rattle.std.proofs.Common.{unwrap_or, Result, Err}
use Rattle.std.specs.Prelude.{IfOk}
use Rattle.std.proofs.lemmas.Bool.{cases_Bool}
use Rattle.std.proofs.lemmas.Option.{none-some, same_Some}
use Rattle.std.proofs.lemmas.Slice.Eq.{bytes_eq-Decides}
use Rattle.std.specs.Option.{option_and_then, option_map}
use Rattle.shelf.specs.Shelf.{Files, Outside, Known, content}
use Rattle.shelf.specs.declared.shelf.ShelfError.{ShelfError}
use Rattle.command_line.specs.Names.{are_apart, given}
use Rattle.command_line.specs.Demands.{text_of}
use Rattle.command_line.specs.Replay.{ReplayDemand}
use Rattle.command_line.specs.Run.{RunDemand, run_meaning, run_outputs}
use Rattle.command_line.specs.Set.{AskedSettings}
use Rattle.command_line.specs.declared.run.RunOptions.{RunOptions}
use Rattle.std.specs.Borrow.{Bor}
use Rattle.command_line.specs.Words.{Demand, IsReadAs, asked_of, demand_of, meaning, replay, run}
use Rattle.command_line.specs.Words.{with_names_apart}
use Rattle.command_line.specs.declared.demand.Demand as code
use Rattle.command_line.specs.declared.demand.WordsFault.{WordsFault}
use Rattle.command_line.specs.Words.{inputs as inputs_of, outputs as outputs_of}
use Rattle.settings.specs.declared.values.Settings.{Settings}
use Rattle.guest.specs.Runs.{Run, output_of}
use Rattle.trace_format.specs.declared.record.TraceRecord.{TraceRecord}
use Rattle.trace_format.specs.declared.record.Version.{Version}
use Rattle.trace_passes.specs.Passes.{Trace, refusal_of, spell_trace, trace_of}
use Rattle.trace_passes.specs.declared.wanted.Wanted.{Wanted}
use Rattle.shelf.specs.Files.{AreCut, AreWritten, Output, bytes_for}
use Rattle.shelf.specs.OnTheirWay.{AreApart}
use Rattle.run_recorder.specs.Recorded.{IsKept, names_of, outputs_for, trace_for}
use Rattle.run_recorder.specs.declared.run_file.Content.TheVariants as Content
use Rattle.run_recorder.specs.declared.run_file.RunFile.{RunFile}
use Rattle.command_io.specs.Readings.{first_refusal}
use Rattle.command_io.specs.SettingsFiles.{chosen_settings, levels_of, native_of, settings_in}
use Rattle.command_io.specs.SettingsFiles.{settings_readings}
use Rattle.command_io.specs.Statuses.{status_of_writing}
use Rattle.command_io.specs.Works.{Work, done_with, output_for}
use Rattle.command_io.specs.declared.status.Status.{Status}
use Rattle.command_io.specs.Laws.Settings.{settings_chosen, settings_pass}
use Rattle.command_io.specs.Laws.Readings.{none_alone, passed}
use Rattle.shelf.specs.Laws.Files.{AreCut-behind, AreWritten-behind}
use Rattle.shelf.specs.Laws.Known.{known_both, known_still}
use Rattle.predator_cli.specs.Again.{ReplayRepeatsRun, RunRepeats, RunRecordsSites, RecordsSites}
use Rattle.predator_cli.specs.Again.{whole_replay}
use Rattle.predator_cli.specs.Answer.{HasNamesApart, answer_of}
use Rattle.predator_cli.specs.Commands.{RepeatsReport, work_of}
use Rattle.predator_cli.specs.Meets.{IsFaulty, IsWorked}
use Rattle.predator_cli.specs.Replay.{grid_in, levels_in, refuses_trace, replay_readings}
use Rattle.predator_cli.specs.Replay.{report_of, state_readings}
use Rattle.predator_cli.specs.Replay.{trace_reading}
use Rattle.predator_cli.specs.Replay.{wanted_in}
use Rattle.predator_cli.specs.Run.{version_with, IsReady, file_for, outputs_of_run, run_for_demand, run_readings}
use Rattle.predator_cli.specs.Run.{status_for}
use Rattle.predator_cli.specs.Run.{trace_for_demand, work_of_run}
use Rattle.predator_cli.specs.TraceFaults.{status_of_refusal}
use Rattle.predator_cli.proofs.Ends.{accepted_answer}
use Rattle.predator_cli.proofs.SitedRuns.{demand_sited, demand_text}
use Rattle.predator_cli.proofs.SpelledAgain.{spelled_again, spelled_wanted}
use Rattle.predator_cli.proofs.WriteEnds.{IsToWrite, names_in, still_to_write}
use Rattle.predator_cli.proofs.WriteEnds.{writing_cut}
use Rattle.predator_cli.proofs.WriteEnds.{written_worked}

-- ---- names

-- the names of the files of a run are those of its demand
run_names : (d : RunDemand) (t : Trace) (r : Run) → names_in (outputs_of_run d t r) ≡ run_outputs d
run_names d t r = names_so d.trace d.output
  where
    names_so : (trace output : Option (List ℕ))
        → names_in (output_for trace (spell_trace t) ++ output_for output (output_of r))
        ≡ given trace (given output [])
    names_so None None = refl
    names_so (Some n) None = refl
    names_so None (Some o) = refl
    names_so (Some n) (Some o) = refl

-- the files that are handed on are those of the demand
files_named : (options : RunOptions) → names_of
    (file_for options.trace Content.Trace ++ file_for options.output Content.Output)
    ≡ run_outputs (run_meaning options)
files_named options = named_so options.trace options.output
  where
    named_so : (trace output : Option (Bor (List ℕ)))
        → names_of (file_for trace Content.Trace ++ file_for output Content.Output) ≡ given
        (text_of trace) (given (text_of output) [])
    named_so None None = refl
    named_so (Some t) None = refl
    named_so None (Some o) = refl
    named_so (Some t) (Some o) = refl

files_left : (options : RunOptions) (v : Version) (harts : ℕ) (symbols : List TraceRecord) (r : Run)
    → outputs_for v harts symbols r (file_for options.trace Content.Trace ++ file_for options.output
    Content.Output) ≡ outputs_of_run
    (run_meaning options) (trace_for v harts symbols r) r
files_left options v harts symbols r = left_so options.trace options.output
  where
    left_so : (trace output : Option (Bor (List ℕ))) → outputs_for v harts symbols r
        (file_for trace Content.Trace ++ file_for output Content.Output)
        ≡ output_for (text_of trace) (spell_trace (trace_for v harts symbols r)) ++ output_for
        (text_of output) (output_of r)
    left_so None None = refl
    left_so (Some t) None = refl
    left_so None (Some o) = refl
    left_so (Some t) (Some o) = refl

-- ---- the names that the words give

kept_apart : (x d : Demand) → with_names_apart x ≡ Some d → are_apart (outputs_of d) (inputs_of d)
    ≡ true
kept_apart x d is =
    elim (cases_Bool (are_apart (outputs_of x) (inputs_of x))) [
      | inl so ↦ let e : Some x ≡ Some d = rw so at is in ap
          (λ z. are_apart (outputs_of z) (inputs_of z)) (sym (same_Some x d e)) ∙ so
      | inr not_so ↦ let e : None ≡ Some d = rw not_so at is in absurd (none-some d e)
    ]

asked_apart : (o : Option Demand) (d : Demand) → option_and_then with_names_apart o ≡ Some d
    → are_apart (outputs_of d) (inputs_of d) ≡ true
asked_apart None d is = absurd (none-some d is)
asked_apart (Some x) d is = kept_apart x d is

demanded : (words : List (List ℕ)) (d : Demand) → demand_of words ≡ Some d
    → are_apart (outputs_of d) (inputs_of d) ≡ true
demanded [] d is = absurd (none-some d is)
demanded (command ∷ rest) d is = asked_apart (asked_of command (command ∷ rest)) d is

-- what words that were read ask for has its names apart
pub read_apart : (words : List (List ℕ)) (d : code.Demand) → demand_of words ≡ Some (meaning d)
    → HasNamesApart d
read_apart words d is = demanded words (meaning d) is

pub all_apart : (words : List (List ℕ)) (r : Result code.Demand WordsFault)
    → IsReadAs (demand_of words) r → IfOk r HasNamesApart
all_apart words (Ok d) is = read_apart words d is
all_apart words (Err fault) is = tt

-- ---- how the command ends

run_work_is : (d : RunDemand) (s : Settings) (files : Files) (t : Trace) (r : Run)
    → settings_in d.settings files ≡ Ok s
    → t ≡ trace_for_demand d s files → r ≡ run_for_demand d s files → work_of (run d) files
    ≡ work_of_run d s t r
run_work_is d s files t r is traced same =
    ap (λ x. work_of_run d x (trace_for_demand d x files) (run_for_demand d x files))
    (settings_chosen d.settings files s is)
    ∙ ap (λ x. work_of_run d s x (run_for_demand d s files)) (sym traced)
    ∙ ap (work_of_run d s t) (sym same)

works : (d : RunDemand) (s : Settings) (o : Option Files) (t : Trace) (r : Run)
    → Known o (λ files. settings_in d.settings files ≡ Ok s)
    → Known o (λ files. t ≡ trace_for_demand d s files)
    → Known o (λ files. r ≡ run_for_demand d s files)
    → Known o (λ files. work_of (run d) files ≡ work_of_run d s t r)
works d s o t r read traced same =
    let both : Known o (λ files. settings_in d.settings files ≡ Ok s → work_of (run d) files
    ≡ work_of_run d s t r) =
    known_both o (λ files x y e. run_work_is d s files t r e x y) traced same in
    known_both o (λ files e f. f e) read both

-- ---- the replay of the trace

found_bytes : (n bytes : List ℕ) (rest : List Output)
    → bytes_for (record { name = n; bytes = bytes } ∷ rest) n ≡ Some bytes
found_bytes n bytes rest = rw ((bytes_eq-Decides n n).1 refl) refl

all_pass : (d : ReplayDemand) (later : Files) (s : Settings) → settings_in d.settings later ≡ Ok s
    → first_refusal (state_readings (grid_in d) (levels_in d) d.resume) later ≡ None
    → refusal_of (wanted_in d later) (content later d.trace) ≡ None
    → first_refusal (replay_readings d) later ≡ None
all_pass d later s is states none =
    let traces = trace_reading (wanted_in d) d.trace ∷ [] in
    passed (settings_readings d.settings)
    (state_readings (grid_in d) (levels_in d) d.resume ++ traces) later
    (settings_pass d.settings later s is)
    ∙ passed (state_readings (grid_in d) (levels_in d) d.resume) traces later states
    ∙ none_alone (refuses_trace (wanted_in d later) d.trace later)
    (ap (option_map status_of_refusal) none)

replay_passes : (settings : AskedSettings) (name : List ℕ) (later : Files) (s : Settings)
    → settings_in settings later ≡ Ok s
    → refusal_of (wanted_in (whole_replay settings name) later) (content later name) ≡ None
    → first_refusal (replay_readings (whole_replay settings name)) later ≡ None
replay_passes settings name later s is none = all_pass (whole_replay settings name) later s is refl
    none

replay_work : (d : RunDemand) (name : List ℕ) (later : Files) (s : Settings) (t : Trace)
    → settings_in d.settings later ≡ Ok s
    → trace_of (content later name) ≡ Some t
    → work_of (replay (whole_replay d.settings name)) later
    ≡ done_with (report_of (levels_of None s) (native_of s) t)
replay_work d name later s t is read = rw (read, is) refl

replay_answer : (d : RunDemand) (name : List ℕ) (later : Files) (s : Settings) (t : Trace)
    → settings_in d.settings later ≡ Ok s
    → refusal_of (wanted_in (whole_replay d.settings name) later) (content later name) ≡ None
    → trace_of (content later name) ≡ Some t
    → answer_of (Some (replay (whole_replay d.settings name))) later
    ≡ done_with (report_of (levels_of None s) (native_of s) t)
replay_answer d name later s t is none read =
    accepted_answer (replay (whole_replay d.settings name)) later
    (replay_passes d.settings name later s is none)
    ∙ replay_work d name later s t is read

-- of files that hold what was written
written_trace : (d : RunDemand) (s : Settings) (files later : Files) (t : Trace) (r : Run)
    (name : List ℕ) → answer_of (Some (run d)) files ≡ work_of_run d s t r → d.trace ≡ Some name
    → later name ≡ bytes_for (answer_of (Some (run d)) files).outputs name
    → content later name ≡ spell_trace t
written_trace d s files later t r name answer named_so holds =
    ap (λ o. unwrap_or o []) (holds ∙ ap (λ (w : Work). bytes_for w.outputs name) answer
    ∙ ap (λ x. bytes_for (output_for x (spell_trace t) ++ output_for d.output (output_of r)) name)
    named_so
    ∙ found_bytes name (spell_trace t) (output_for d.output (output_of r)))

replay_repeats : (d : RunDemand) (s : Settings) (files : Files) (t : Trace) (r : Run) → IsKept t
    → t.header.near ≡ 0 → t.header.first ≡ 0
    → settings_in d.settings files ≡ Ok s → answer_of (Some (run d)) files ≡ work_of_run d s t r
    → ReplayRepeatsRun d files
replay_repeats d s files t r good plain first is answer = λ name later named_so holds same.
    let bytes : content later name ≡ spell_trace t =
    written_trace d s files later t r name answer named_so holds in
    let read : trace_of (content later name) ≡ Some t = ap trace_of bytes ∙ spelled_again t good in
    let wanted : Wanted = wanted_in (whole_replay d.settings name) later in
    let none : refusal_of wanted (content later name) ≡ None = ap (refusal_of wanted) bytes
    ∙ spelled_wanted wanted.lines t good plain first in
    replay_answer d name later s t (same ∙ is) none read
    ∙ ap done_with (sym (ap (λ (w : Work). w.text) answer))

records_sites : (d : RunDemand) (s : Settings) (files : Files) (t : Trace) (r : Run) → IsKept t
    → settings_in d.settings files ≡ Ok s → t ≡ trace_for_demand d s files
    → answer_of (Some (run d)) files ≡ work_of_run d s t r → RunRecordsSites d files
records_sites d s files t r good is traced answer = λ pcs name later named_so holds.
    let read : trace_of (content later name) ≡ Some t =
    ap trace_of (written_trace d s files later t r name answer named_so holds)
    ∙ spelled_again t good in (
      t,
      read,
      subst (λ (x : Settings). RecordsSites d x files t)
          (sym (settings_chosen d.settings files s is))
          (subst (RecordsSites d s files) (sym traced) (demand_sited d s files pcs)),
    )

repeats : (d : RunDemand) (s : Settings) (files : Files) (t : Trace) (r : Run) → IsKept t
    → t.header.near ≡ 0 → t.header.first ≡ 0
    → settings_in d.settings files ≡ Ok s → t ≡ trace_for_demand d s files
    → answer_of (Some (run d)) files ≡ work_of_run d s t r → RunRepeats d files
repeats d s files t r good plain first is traced answer = record {
  replay = replay_repeats d s files t r good plain first is answer;
  sites = records_sites d s files t r good is traced answer;
  text = demand_text d (chosen_settings d.settings files) files;
}

-- a run writes no filtered trace
pub near_none : (pcs : Bool) → near_for (version_with pcs) ≡ 0
near_none false = refl
near_none true = refl

run_repeats : (d : RunDemand) (s : Settings) (o : Option Files) (t : Trace) (r : Run) → IsKept t
    → t.header.near ≡ 0 → t.header.first ≡ 0
    → Known o (λ files. settings_in d.settings files ≡ Ok s)
    → Known o (λ files. t ≡ trace_for_demand d s files)
    → Known o (λ files. r ≡ run_for_demand d s files)
    → Known o (λ files. first_refusal (run_readings d) files ≡ None) → Known o (RepeatsReport (run d))
run_repeats d s o t r good plain first read traced same accepts =
    let both : Known o (λ files. settings_in d.settings files ≡ Ok s → RunRepeats d files) =
    known_both o (λ files stated answer e. repeats d s files t r good plain first e stated answer) traced
    (known_both o (λ files none w. accepted_answer (run d) files none ∙ w) accepts
    (works d s o t r read traced same)) in
    known_both o (λ files e f. f e) read both

-- what is to be written, before it is
to_write : (d : RunDemand) (s : Settings) (t : Trace) (r : Run) (a m : Outside)
    → IsReady d s t r a m
    → IsToWrite (run d) (work_of_run d s t r) m.held
to_write d s t r a m ready = record {
  accepts = ready.accepted.accepts;
  works = works d s m.held t r ready.read ready.traced ready.runs;
  names = run_names d t r;
}

-- the same where the files are those that the options name
pub handed_on : (options : RunOptions) (v : Version) (harts : ℕ) (symbols : List TraceRecord) (r :
    Run)
    (files : List RunFile)
    → files ≡ file_for options.trace Content.Trace ++ file_for options.output Content.Output
    → outputs_for v harts symbols r files ≡ outputs_of_run (run_meaning options)
    (trace_for v harts symbols r) r
handed_on options v harts symbols r files is = ap (outputs_for v harts symbols r) is
    ∙ files_left options v harts symbols r

pub shown_worked : (d : RunDemand) (s : Settings) (t : Trace) (old m b : Outside) (r : Run)
    (st : Status) (text : List ℕ)
    → IsReady d s t r old m → st ≡ status_for r.ending.outcome → text ≡ report_of (levels_of None s)
    (native_of s) t → IsKept t
    → t.header.near ≡ 0 → t.header.first ≡ 0 → AreWritten (outputs_of_run d t r) m b → IsWorked (run d) old b st text
shown_worked d s t old m b r st text ready ends reported_text good plain first written =
    let w = work_of_run d s t r in
    written_worked (run d) w old b st text
    (still_to_write (run d) w m.held b.held written.only.held (to_write d s t r old m ready)) ends
    reported_text
    (known_still (RepeatsReport (run d)) m.held b.held written.only.held
    (run_repeats d s m.held t r good plain first ready.read ready.traced ready.runs
    ready.accepted.accepts))
    (AreWritten-behind (outputs_of_run d t r) old m b ready.accepted.read written)

-- the writing of the files stopped
pub shown_cut : (d : RunDemand) (s : Settings) (t : Trace) (old m b : Outside) (r : Run)
    (error : ShelfError) → IsReady d s t r old m
    → AreCut (outputs_of_run d t r) m b error → IsFaulty (Some (run d)) old b
    (status_of_writing error)
shown_cut d s t old m b r error ready cut =
    let w = work_of_run d s t r in
    writing_cut (run d) w old b error
    (still_to_write (run d) w m.held b.held cut.only.held (to_write d s t r old m ready))
    (AreCut-behind (outputs_of_run d t r) old m b error ready.accepted.read cut)

pub handed_apart : (options : RunOptions) (files : List RunFile) → files
    ≡ file_for options.trace Content.Trace ++ file_for options.output
    Content.Output → AreApart (run_outputs (run_meaning options)) → AreApart (names_of files)
handed_apart options files is apart = subst (λ names. AreApart names)
    (sym (ap names_of is ∙ files_named options)) apart
