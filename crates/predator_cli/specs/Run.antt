-- The command `run`: what it reads, and the report and the files that it gives of a run.
use Rattle.std.specs.Prelude.{◌≡◌, ◌≢◌, ◌≤◌, ℕ, List, [], ◌∷◌, ◌++◌, ◌^◌, length, map, Option, Some}
use Rattle.std.specs.Prelude.{None, Result, Ok, Err, Bool, true, false}
use Rattle.std.specs.List.{All}
use Rattle.std.specs.Option.{option_map_or}
use Rattle.command_line.specs.Run.{RunDemand}
use Rattle.command_line.specs.Set.{AskedSettings}
use Rattle.program_files.specs.declared.image.Image.{Image}
use Rattle.program_files.specs.PlacedImages.{image_of}
use Rattle.guest.specs.declared.setup.Setup.{Setup}
use Rattle.guest.specs.Configs.{first_config}
use Rattle.guest.specs.LeastPlaces.{heap_over}
use Rattle.guest.specs.Runs.{Run, output_of, run_of}
use Rattle.hart_scheduler.specs.Choices.{Plan}
use Rattle.hart_scheduler.specs.Texts.{plan_of, schedule_of}
use Rattle.hart_scheduler.specs.declared.fault.ScheduleFault.{ScheduleFault}
use Rattle.base.specs.declared.ending.Outcome.{Outcome}
use Rattle.base.specs.declared.ending.Outcome.TheVariants.{Exit, Budget, Deadlock, Trap}
use Rattle.base.specs.declared.ending.Outcome.TheVariants.{Part}
use Rattle.shelf.specs.Files.{Output}
use Rattle.program_files.specs.Symbols.{symbols_of}
use Rattle.base.specs.Names.{name_of}
use Rattle.objects.specs.Symbols.{Symbol}
use Rattle.run_recorder.specs.Recorded.{IsSymbolRecord, trace_for}
use Rattle.trace_format.specs.declared.record.TraceRecord.{TraceRecord}
use Rattle.trace_format.specs.declared.record.TraceRecord.TheVariants as records
use Rattle.trace_format.specs.declared.record.Version.{Version}
use Rattle.trace_format.specs.declared.record.Version.TheVariants.{One, Three}
use Rattle.trace_passes.specs.Passes.{Trace, spell_trace}
use Rattle.run_recorder.specs.declared.run_file.Content.{Content}
use Rattle.run_recorder.specs.declared.run_file.RunFile.{RunFile}
use Rattle.std.specs.Borrow.{Bor}
use Rattle.settings.specs.declared.values.Settings.{Settings}
use Rattle.shelf.specs.Shelf.{Files, Outside, Known, content}
use Rattle.command_io.specs.Readings.{IsAccepted, Reading, reading}
use Rattle.command_io.specs.SettingsFiles.{chosen_settings, levels_of, native_of, settings_in}
use Rattle.command_io.specs.SettingsFiles.{settings_readings}
use Rattle.command_io.specs.ProgramFiles.{IsStartable, program_reading, space_of}
use Rattle.command_io.specs.Works.{Work, output_for}
use Rattle.command_io.specs.declared.status.Status.{Status}
use Rattle.command_io.specs.declared.status.Status.TheVariants as status
use Rattle.predator_cli.specs.Replay.{report_of}
use Rattle.predator_cli.specs.declared.run.Loading.{Loading}

-- ---- the schedule

-- what the bytes of a schedule give under settings
abbrev pub schedule_under : Settings → List ℕ → Result Plan ScheduleFault
schedule_under settings bytes = schedule_of settings.harts settings.quantum settings.seed bytes

-- what the file of the schedule gives; an empty list where none is named
abbrev pub schedule_in : Settings → Option (List ℕ) → Files → Result Plan ScheduleFault
schedule_in settings name files =
    schedule_under settings (option_map_or (content files) name [])

abbrev pub schedule_refusal : Result Plan ScheduleFault → Option Status
schedule_refusal (Ok plan) = None
schedule_refusal (Err fault) = Some (status.Schedule fault)

abbrev pub schedule_reading : AskedSettings → List ℕ → Reading
schedule_reading settings name =
    reading name
    (λ files. schedule_refusal (schedule_in (chosen_settings settings files) (Some name) files))

abbrev pub schedule_readings : AskedSettings → Option (List ℕ) → List Reading
schedule_readings settings name = option_map_or (λ n. schedule_reading settings n ∷ []) name []

-- the plan that holds where the schedule is not refused
abbrev pub plan_unless_refused : Settings → Result Plan ScheduleFault → Plan
plan_unless_refused settings (Ok plan) = plan
plan_unless_refused settings (Err fault) =
    plan_of settings.harts settings.quantum settings.seed []

abbrev pub plan_in : Settings → Option (List ℕ) → Files → Plan
plan_in settings name files = plan_unless_refused settings (schedule_in settings name files)

-- what is read: the settings, the program, and the schedule
abbrev pub run_readings : RunDemand → List Reading
run_readings demand =
    settings_readings demand.settings
    ++ program_reading demand.settings demand.program ∷ schedule_readings demand.settings
    demand.schedule

-- ---- the run

-- what the run of a program never changes
abbrev pub setup_of : Settings → Image → Setup
setup_of settings image = record {
  harts = settings.harts;
  budget = settings.budget;
  top =
      image.top;
  stack = image.stack;
}

-- the run of an image under settings and a plan
abbrev pub whole_run : Settings → Image → Plan → Run
whole_run settings image plan =
    let setup = setup_of settings image in
    run_of setup (first_config setup image.memory (heap_over image.heap_start image.heap_end)
    image.entry plan)

-- the run of a program file
abbrev pub run_in : Settings → List ℕ → Plan → Run
run_in settings file plan = whole_run settings (image_of (space_of settings) file) plan

-- the status that an outcome has
abbrev pub status_for : Outcome → Status
status_for (Exit code) = status.Done
status_for Budget = status.Budget
status_for Deadlock = status.Deadlock
status_for (Trap hart pc cause) = status.Trapped
status_for Part = status.Done

-- a symbol has bytes, and no zero byte in its name
pub record HasNameAndSize (s : Symbol) : Type 0 where
  pub some : 1 ≤ s.size
  pub no_zero : All (λ b. b ≢ 0) s.name

-- a symbol as a trace records it: its name is cut
abbrev pub symbol_record : Symbol → TraceRecord
symbol_record s = records.Symbol s.kind s.addr s.size (name_of s.name)

-- the kept symbols of a program file, in the order of its table
abbrev pub symbol_records : List ℕ → List TraceRecord
symbol_records file = map symbol_record (symbols_of file)

-- what a program file gives under settings: its image, in which a guest can start, and its symbols
pub record IsLoading (settings : Settings) (bytes : List ℕ) (loading : Loading) : Type 0 where
  pub image : loading.image ≡ image_of (space_of settings) bytes
  pub starts : IsStartable loading.image
  pub harts : loading.image.harts ≡ settings.harts
  pub symbols : loading.symbols.items ≡ symbol_records bytes
  pub stated : All IsSymbolRecord loading.symbols.items
  pub few : length loading.symbols.items ≤ 2 ^ 20

-- the files that a run leaves: its trace, and what it puts out, each where it is named
abbrev pub outputs_of_run : RunDemand → Trace → Run → List Output
outputs_of_run demand t r = output_for demand.trace (spell_trace t) ++ output_for demand.output
    (output_of r)

-- what a run with this trace gives: a report, and its trace and its output where they are named
abbrev pub work_of_run : RunDemand → Settings → Trace → Run → Work
work_of_run demand settings t r = record {
  status = status_for r.ending.outcome;
  text = report_of (levels_of None settings) (native_of settings) t;
  outputs = outputs_of_run demand t r;
}

-- the version of the trace of a run, with pcs and without
abbrev pub version_with : Bool → Version
version_with true = Three
version_with false = One

-- the run of the demand under settings, and its trace
abbrev pub run_for_demand : RunDemand → Settings → Files → Run
run_for_demand demand settings files =
    run_in settings (content files demand.program) (plan_in settings demand.schedule files)

abbrev pub trace_for_demand : RunDemand → Settings → Files → Trace
trace_for_demand demand settings files =
    trace_for (version_with demand.pcs) settings.harts
    (symbol_records (content files demand.program))
    (run_for_demand demand settings files)

abbrev pub run_work : RunDemand → Files → Work
run_work demand files =
    let settings = chosen_settings demand.settings files in
    work_of_run demand settings (trace_for_demand demand settings files)
    (run_for_demand demand settings files)

-- a file to be written, if its name is given
abbrev pub file_for : Option (Bor (List ℕ)) → Content → List RunFile
file_for None content = []
file_for (Some name) content = record { name = name; content = content } ∷ []

-- ---- its law

-- the run makes at most as many steps as its budget has
abbrev pub RunStaysWithin : RunDemand → Files → Type 0
RunStaysWithin demand files =
    let settings = chosen_settings demand.settings files in
    (run_for_demand demand settings files).ending.steps ≤ settings.budget

-- what was read for a run of this demand: the run of these settings and its trace are what the
-- files ask for, and nothing was changed
pub record IsReady (demand : RunDemand) (settings : Settings) (t : Trace) (r : Run)
    (old now : Outside) : Type 0 where
  pub read : Known now.held (λ files. settings_in demand.settings files ≡ Ok settings)
  pub runs : Known now.held (λ files. r ≡ run_for_demand demand settings files)
  pub traced : Known now.held (λ files. t ≡ trace_for_demand demand settings files)
  pub accepted : IsAccepted (run_readings demand) old now
