-- The command `check`: what it reads, and the summary that it gives of a program.
use Rattle.std.specs.Prelude.{ℕ, List, [], ◌∷◌, ◌++◌}
use Rattle.command_line.specs.Check.{CheckDemand}
use Rattle.program_files.specs.Summaries.{placed_text}
use Rattle.settings.specs.declared.values.Settings.{Settings}
use Rattle.shelf.specs.Shelf.{Files, content}
use Rattle.command_io.specs.Readings.{Reading}
use Rattle.command_io.specs.SettingsFiles.{chosen_settings, settings_readings}
use Rattle.command_io.specs.ProgramFiles.{program_reading, space_of}
use Rattle.command_io.specs.Works.{Work, done_with}

abbrev pub check_readings : CheckDemand → List Reading
check_readings demand = settings_readings demand.settings ++ program_reading demand.settings
    demand.program ∷ []

-- the summary of a program under settings
abbrev pub checked : Settings → List ℕ → List ℕ
checked settings file = placed_text (space_of settings) file

abbrev pub check_work : CheckDemand → Files → Work
check_work demand files =
    done_with (checked (chosen_settings demand.settings files) (content files demand.program))
