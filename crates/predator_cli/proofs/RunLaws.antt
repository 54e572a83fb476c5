-- The run that the files of a demand decide.
use Rattle.std.proofs.Common.{◌≡◌, ℕ, List, Option, Some, None, Ok, refl, sym, ap, ◌∙◌}
use Rattle.shelf.specs.Shelf.{Files, Known, content}
use Rattle.sharing_rules.specs.Laws.Recounts.{listed_are_recounted}
use Rattle.trace_format.specs.Rules.{touches_in}
use Rattle.trace_passes.specs.Passes.{all_records}
use Rattle.command_line.specs.Run.{RunDemand}
use Rattle.command_line.specs.Set.{AskedSettings}
use Rattle.settings.specs.declared.values.Settings.{Settings}
use Rattle.hart_scheduler.specs.Choices.{Plan}
use Rattle.program_files.specs.declared.image.Image.{Image}
use Rattle.program_files.specs.PlacedImages.{image_of}
use Rattle.guest.specs.Configs.{Config, first_config}
use Rattle.guest.specs.LeastPlaces.{heap_over}
use Rattle.guest.specs.Runs.{IsShort, Run, run_of}
use Rattle.guest.specs.declared.setup.Setup.{Setup}
use Rattle.command_io.specs.ProgramFiles.{space_of}
use Rattle.command_io.specs.Readings.{first_refusal}
use Rattle.command_io.specs.SettingsFiles.{chosen_settings, levels_of, native_of, settings_in}
use Rattle.command_io.specs.Laws.Settings.{settings_chosen}
use Rattle.command_io.specs.Laws.Readings.{none_alone}
use Rattle.shelf.specs.Laws.Known.{known_both}
use Rattle.predator_cli.specs.Recounts.{RunIsRecounted}
use Rattle.predator_cli.specs.Run.{RunStaysWithin, trace_for_demand}
use Rattle.predator_cli.specs.Run.{plan_in, run_for_demand, run_in, schedule_in, schedule_readings}
use Rattle.predator_cli.specs.Run.{schedule_refusal, setup_of, whole_run}

-- what the guest's `runs_are_short` says
abbrev pub RunsAreShort : Type 0
RunsAreShort =
    (s : Setup) (c : Config) → c.steps ≡ 0 → c.accesses ≡ 0 → IsShort s (run_of s c)

pub schedule_pass : (named : AskedSettings) (name : Option (List ℕ)) (files : Files) (s : Settings)
    (plan : Plan)
    → settings_in named files ≡ Ok s
    → schedule_in s name files ≡ Ok plan → first_refusal (schedule_readings named name) files ≡ None
schedule_pass named None files s plan is read = refl
schedule_pass named (Some n) files s plan is read =
    none_alone (schedule_refusal (schedule_in (chosen_settings named files) (Some n) files))
    (ap (λ x. schedule_refusal (schedule_in x (Some n) files)) (settings_chosen named files s is)
    ∙ ap schedule_refusal read)

run_is : (s : Settings) (program : List ℕ) (name : Option (List ℕ)) (files : Files) (image : Image)
    (plan : Plan) (r : Run)
    → image ≡ image_of (space_of s) (content files program) → schedule_in s name files ≡ Ok plan
    → r ≡ whole_run s image plan → r ≡ run_in s (content files program) (plan_in s name files)
run_is s program name files image plan r i p is =
    let planned : plan_in s name files ≡ plan = rw p refl in
    is ∙ ap (λ x. whole_run s x plan) i ∙ ap (λ x. run_in s (content files program) x) (sym planned)

pub run_known : (d : RunDemand) (s : Settings) (o : Option Files) (image : Image) (plan : Plan)
    (r : Run)
    → Known o (λ files. image ≡ image_of (space_of s) (content files d.program))
    → Known o (λ files. schedule_in s d.schedule files ≡ Ok plan) → r ≡ whole_run s image plan
    → Known o (λ files. r ≡ run_for_demand d s files)
run_known d s o image plan r i p is = known_both o
    (λ files a b. run_is s d.program d.schedule files image plan r a b is) i p

-- every run keeps its budget
pub run_within : RunsAreShort → (d : RunDemand) (files : Files) → RunStaysWithin d files
run_within short d files =
    let s = chosen_settings d.settings files in
    let image = image_of (space_of s) (content files d.program) in
    let setup = setup_of s image in
    let heap = heap_over image.heap_start image.heap_end in
    let plan = plan_in s d.schedule files in
    (short setup (first_config setup image.memory heap image.entry plan) refl refl).steps

-- every line that its report lists is recounted
pub run_recounted : (d : RunDemand) (files : Files) → RunIsRecounted d files
run_recounted d files =
    let s = chosen_settings d.settings files in
    listed_are_recounted (native_of s) (levels_of None s)
    (touches_in (all_records (trace_for_demand d s files)))
