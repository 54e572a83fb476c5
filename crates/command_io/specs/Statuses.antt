-- How a call ends, by the kinds of status that its clauses distinguish, and the status that each
-- lower fault has.
use Rattle.std.specs.Prelude.{Bool, true, false}
use Rattle.program_files.specs.declared.image.PlaceFault.{PlaceFault}
use Rattle.program_files.specs.declared.image.PlaceFault.TheVariants as place
use Rattle.hart_scheduler.specs.declared.fault.ScheduleFault.{ScheduleFault}
use Rattle.hart_scheduler.specs.declared.fault.ScheduleFault.TheVariants as schedule
use Rattle.base.specs.declared.faults.ResumeFault.{ResumeFault}
use Rattle.base.specs.declared.faults.ResumeFault.TheVariants as resume
use Rattle.settings.specs.declared.fault.SettingsFault.{SettingsFault}
use Rattle.settings.specs.declared.fault.SettingsFault.TheVariants as settings
use Rattle.shelf.specs.declared.shelf.ShelfError.{ShelfError}
use Rattle.shelf.specs.declared.shelf.ShelfError.TheVariants as shelf
use Rattle.trace_files.specs.declared.table_fault.TableFault.{TableFault}
use Rattle.trace_files.specs.declared.table_fault.TableFault.TheVariants as table
use Rattle.trace_format.specs.declared.fault.TraceFault.{TraceFault}
use Rattle.trace_format.specs.declared.fault.TraceFault.TheVariants as trace
use Rattle.command_io.specs.declared.status.StateFault.TheVariants as state
use Rattle.command_io.specs.declared.status.Status.{Status}
use Rattle.command_io.specs.declared.status.Status.TheVariants as status

pub data Kind : Type 0 where
  -- the whole work was done, however the run of the program ended
  done : Kind
  -- the words or a file were refused, the place of an object, or an access in the way
  refusal : Kind
  -- the outside failed: reading, writing or printing, or memory ran out
  read_fault : Kind
  write_fault : Kind
  no_memory : Kind

abbrev pub kind_of : Status → Kind
kind_of status.Done = done
kind_of status.Usage = refusal
kind_of (status.Elf fault) = refusal
kind_of (status.Schedule fault) = refusal
kind_of (status.Settings fault) = refusal
kind_of (status.Trace fault) = refusal
kind_of status.NoPcs = refusal
kind_of status.Filtered = refusal
kind_of status.TooWide = refusal
kind_of (status.State fault) = refusal
kind_of status.ReadFault = read_fault
kind_of status.WriteFault = write_fault
kind_of status.NoMemory = no_memory
kind_of status.Budget = done
kind_of status.Deadlock = done
kind_of status.Trapped = done
kind_of (status.Place refused) = refusal
kind_of (status.Table fault) = refusal
kind_of (status.Occupied addr) = refusal
kind_of (status.Far addr) = refusal

-- ---- lower faults: want of memory is a status of its own, whoever wanted it

abbrev pub status_of_placing : PlaceFault → Status
status_of_placing (place.Refused fault) = status.Elf fault
status_of_placing place.NoMemory = status.NoMemory

abbrev pub status_of_schedule : ScheduleFault → Status
status_of_schedule schedule.TooLong = status.Schedule schedule.TooLong
status_of_schedule (schedule.BadLine line) = status.Schedule (schedule.BadLine line)
status_of_schedule (schedule.HartOutOfRange line) = status.Schedule (schedule.HartOutOfRange line)
status_of_schedule (schedule.ZeroCount line) = status.Schedule (schedule.ZeroCount line)
status_of_schedule schedule.NoMemory = status.NoMemory

abbrev pub status_of_table : TableFault → Status
status_of_table table.TooLong = status.Table table.TooLong
status_of_table (table.BadLine line) = status.Table (table.BadLine line)
status_of_table (table.Overlap line) = status.Table (table.Overlap line)
status_of_table table.NoMemory = status.NoMemory

abbrev pub status_of_settings : SettingsFault → Status
status_of_settings settings.TooLong = status.Settings settings.TooLong
status_of_settings settings.BadToml = status.Settings settings.BadToml
status_of_settings (settings.UnknownKey name) = status.Settings (settings.UnknownKey name)
status_of_settings (settings.OutOfRange key) = status.Settings (settings.OutOfRange key)
status_of_settings (settings.ChangedOutOfRange key) = status.Settings (settings.ChangedOutOfRange key)
status_of_settings settings.NoMemory = status.NoMemory

abbrev pub status_of_resume : ResumeFault → Status
status_of_resume (resume.BadState place) = status.State (state.BadState place)
status_of_resume resume.NoMemory = status.NoMemory

abbrev pub status_of_trace : TraceFault → Status
status_of_trace trace.BadMagic = status.Trace trace.BadMagic
status_of_trace trace.BadHarts = status.Trace trace.BadHarts
status_of_trace (trace.BadTag place) = status.Trace (trace.BadTag place)
status_of_trace (trace.BadField place) = status.Trace (trace.BadField place)
status_of_trace (trace.Truncated size) = status.Trace (trace.Truncated size)
status_of_trace (trace.CountMismatch stated counted) = status.Trace (trace.CountMismatch stated counted)
status_of_trace (trace.AfterEnd place) = status.Trace (trace.AfterEnd place)
status_of_trace trace.TooLong = status.Trace trace.TooLong
status_of_trace trace.NoMemory = status.NoMemory

-- a fault of writing or printing
abbrev pub status_of_writing : ShelfError → Status
status_of_writing shelf.Failed = status.WriteFault
status_of_writing shelf.NoMemory = status.NoMemory

-- a file's fault is said to be want of memory, which no status of this program says
abbrev pub hides_no_memory : Status → Bool
hides_no_memory (status.Schedule schedule.NoMemory) = true
hides_no_memory (status.Settings settings.NoMemory) = true
hides_no_memory (status.Trace trace.NoMemory) = true
hides_no_memory (status.Table table.NoMemory) = true
hides_no_memory s = false
