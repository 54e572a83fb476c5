-- The exit status of each way to end.
use Rattle.std.specs.Prelude.{ℕ}
use Rattle.command_io.specs.declared.status.Status.{Status}
use Rattle.command_io.specs.declared.status.Status.TheVariants as status

abbrev pub number_of : Status → ℕ
number_of status.Done = 0
number_of status.Usage = 1
number_of (status.Elf fault) = 2
number_of (status.Schedule fault) = 3
number_of (status.Settings fault) = 4
number_of (status.Trace fault) = 5
number_of status.NoPcs = 5
number_of status.Filtered = 5
number_of status.TooWide = 5
number_of (status.State fault) = 6
number_of status.ReadFault = 7
number_of status.WriteFault = 8
number_of status.NoMemory = 9
number_of status.Budget = 10
number_of status.Deadlock = 11
number_of status.Trapped = 12
number_of (status.Place refusal) = 13
number_of (status.Table fault) = 14
number_of (status.Occupied addr) = 14
number_of (status.Far addr) = 14
