-- Which file a refusal is of.
use Rattle.std.specs.Prelude.{ℕ, Bool, false, true, List, Option, None, if◌then◌else◌, ◌==◌}
use Rattle.std.specs.Option.{option_copied}
use Rattle.command_line.specs.declared.files_read.FilesRead.{FilesRead}
use Rattle.command_io.specs.declared.status.StateFault.{StateFault}
use Rattle.command_io.specs.declared.status.StateFault.TheVariants as state
use Rattle.command_io.specs.declared.status.Status.{Status}
use Rattle.command_io.specs.declared.status.Status.TheVariants as status
use Rattle.settings.specs.declared.fault.SettingsFault.{SettingsFault}
use Rattle.settings.specs.declared.fault.SettingsFault.TheVariants as settings

-- the fault is one that a settings file has by itself
abbrev pub is_own : SettingsFault → Bool
is_own (settings.ChangedOutOfRange key) = false
is_own fault = true

-- a saved state and a trace that doesn't go on from it: the trace is refused. The place 32 is that of
-- the number of harts
abbrev pub is_of_trace : StateFault → Bool
is_of_trace (state.WrongSettings place) = place == 32
is_of_trace (state.WrongPosition saved first) = true
is_of_trace other = false

-- the name of the file that is refused, of the files that are read and of the trace
abbrev pub refused_name : FilesRead → Option (List ℕ) → Status → Option (List ℕ)
refused_name files trace (status.Elf fault) = option_copied files.program
refused_name files trace (status.Schedule fault) = option_copied files.schedule
refused_name files trace (status.Table fault) = option_copied files.table
refused_name files trace (status.Settings fault) =
    if is_own fault then option_copied files.settings else None
refused_name files trace (status.Trace fault) = trace
refused_name files trace status.NoPcs = trace
refused_name files trace status.Filtered = trace
refused_name files trace status.TooWide = trace
refused_name files trace (status.Occupied addr) = trace
refused_name files trace (status.Far addr) = trace
refused_name files trace (status.State fault) =
    if is_of_trace fault then trace else option_copied files.state
refused_name files trace other = None
