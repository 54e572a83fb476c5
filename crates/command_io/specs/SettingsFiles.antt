-- The settings that a command has.
use Rattle.std.specs.Prelude.{ℕ, List, [], ◌∷◌, Option, Some, None, Result, Ok, Err, unwrap_or}
use Rattle.std.specs.Option.{option_map_or}
use Rattle.toml.specs.Data.{no_members}
use Rattle.base.specs.Levels.{Levels}
use Rattle.base.specs.Lines.{Grid}
use Rattle.command_line.specs.Set.{AskedSettings}
use Rattle.shelf.specs.Shelf.{Files, content}
use Rattle.settings.specs.Answers.{settings_under, usual_under}
use Rattle.settings.specs.Tables.{values_of}
use Rattle.settings.specs.declared.changes.Changes.{Changes}
use Rattle.settings.specs.declared.values.Settings.{Settings}
use Rattle.settings.specs.declared.fault.SettingsFault.{SettingsFault}
use Rattle.command_io.specs.Readings.{Reading, reading, unread}
use Rattle.command_io.specs.declared.status.Status.{Status}
use Rattle.command_io.specs.declared.status.Status.TheVariants as status

abbrev pub usual_settings : Settings
usual_settings = values_of no_members

-- what is given for settings that are asked for; the usual ones under the changes where no file is
-- named
abbrev pub settings_in : AskedSettings → Files → Result Settings SettingsFault
settings_in asked files =
    option_map_or (λ n. settings_under asked.changes (content files n)) asked.file
    (usual_under asked.changes)

abbrev pub settings_refusal : Result Settings SettingsFault → Option Status
settings_refusal (Ok settings) = None
settings_refusal (Err fault) = Some (status.Settings fault)

abbrev pub settings_reading : Changes → List ℕ → Reading
settings_reading changes name =
    reading name (λ files. settings_refusal (settings_under changes (content files name)))

-- the file, or the changes alone
abbrev pub settings_readings : AskedSettings → List Reading
settings_readings asked =
    option_map_or (settings_reading asked.changes) asked.file
    (unread (settings_refusal (usual_under asked.changes))) ∷ []

-- the settings that hold where they are not refused
abbrev pub accepted : Result Settings SettingsFault → Settings
accepted (Ok settings) = settings
accepted (Err fault) = usual_settings

-- the settings of a command
abbrev pub chosen_settings : AskedSettings → Files → Settings
chosen_settings asked files = accepted (settings_in asked files)

-- the native layout of the settings, under which alone something is predicted
abbrev pub native_of : Settings → Grid
native_of settings = record { size = settings.line; offset = 0 }

-- the layout that is named, or the native one
abbrev pub layout_of : Option Grid → Settings → Grid
layout_of named settings = unwrap_or named (native_of settings)

-- the thresholds of the settings; something is predicted where no layout is named
abbrev pub levels_of : Option Grid → Settings → Levels
levels_of None settings =
    record {
      tracking = settings.tracking;
      prediction = Some settings.prediction;
      report =
          settings.report;
    }
levels_of (Some layout) settings = record {
  tracking = settings.tracking;
  prediction = None;
  report = settings.report;
}
