-- What is read beside the settings.
use Rattle.std.proofs.Common.{◌≡◌, ℕ, List, Option, Some, None, Ok, refl, ap}
use Rattle.command_line.specs.Set.{AskedSettings, asked_under}
use Rattle.shelf.specs.Shelf.{Files, Known, content}
use Rattle.settings.specs.declared.changes.Changes.{Changes}
use Rattle.settings.specs.declared.values.Settings.{Settings}
use Rattle.shelf.specs.Laws.Known.{known_map}
use Rattle.command_io.specs.ProgramFiles.{program_refusal}
use Rattle.command_io.specs.Readings.{first_refusal}
use Rattle.command_io.specs.SettingsFiles.{chosen_settings, settings_in, settings_readings}

pub settings_chosen : (asked : AskedSettings) (files : Files) (s : Settings)
    → settings_in asked files ≡ Ok s
    → chosen_settings asked files ≡ s
settings_chosen asked files s is = rw is refl

pass_of : (name : Option (List ℕ)) (c : Changes) (files : Files) (s : Settings)
    → settings_in (asked_under name c) files ≡ Ok s
    → first_refusal (settings_readings (asked_under name c)) files ≡ None
pass_of None c files s is = rw is refl
pass_of (Some n) c files s is = rw is refl

-- settings that are read are not refused
pub settings_pass : (asked : AskedSettings) (files : Files) (s : Settings)
    → settings_in asked files ≡ Ok s
    → first_refusal (settings_readings asked) files ≡ None
settings_pass asked files s is = pass_of asked.file asked.changes files s is

pub program_alike : (asked : AskedSettings) (name : List ℕ) (o : Option Files) (s : Settings)
    → Known o (λ files. settings_in asked files ≡ Ok s)
    → Known o (λ files. program_refusal (chosen_settings asked files) (content files name)
    ≡ program_refusal s (content files name))
program_alike asked name o s read =
    known_map o (λ files is. ap (λ x. program_refusal x (content files name))
    (settings_chosen asked files s is)) read
