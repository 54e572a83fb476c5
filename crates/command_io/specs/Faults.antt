-- The lines of refusals and of faults of the outside.
use Rattle.std.specs.Prelude.{ℕ, List, [], ◌++◌, codes, pos}
use Rattle.program_files.specs.declared.fault.ElfFault.{ElfFault}
use Rattle.program_files.specs.declared.fault.ElfFault.TheVariants as elf
use Rattle.std.specs.Fmt.{decimal}
use Rattle.hart_scheduler.specs.declared.fault.ScheduleFault.{ScheduleFault}
use Rattle.hart_scheduler.specs.declared.fault.ScheduleFault.TheVariants as schedule
use Rattle.settings.specs.declared.fault.SettingsFault.{SettingsFault}
use Rattle.settings.specs.declared.fault.SettingsFault.TheVariants as settings
use Rattle.settings.specs.Keys.{key_name}
use Rattle.trace_format.specs.declared.fault.TraceFault.{TraceFault}
use Rattle.trace_format.specs.declared.fault.TraceFault.TheVariants as trace
use Rattle.placement.specs.declared.refusal.PlaceRefusal.{PlaceRefusal}
use Rattle.placement.specs.declared.refusal.PlaceRefusal.TheVariants as place
use Rattle.trace_files.specs.declared.table_fault.TableFault.{TableFault}
use Rattle.trace_files.specs.declared.table_fault.TableFault.TheVariants as table
use Rattle.base.specs.Addresses.{address_text}
use Rattle.base.specs.PrintedNames.{name_text}
use Rattle.command_line.specs.Words.{usage_text}
use Rattle.command_io.specs.Texts.{line}
use Rattle.command_io.specs.declared.status.StateFault.{StateFault}
use Rattle.command_io.specs.declared.status.StateFault.TheVariants as state
use Rattle.command_io.specs.declared.status.Status.{Status}
use Rattle.command_io.specs.declared.status.Status.TheVariants as status

abbrev pub elf_text : ElfFault → List ℕ
elf_text elf.TooShort = codes "TooShort"
elf_text elf.BadMagic = codes "BadMagic"
elf_text elf.BadClass = codes "BadClass"
elf_text elf.BadData = codes "BadData"
elf_text elf.BadVersion = codes "BadVersion"
elf_text elf.BadType = codes "BadType"
elf_text elf.BadMachine = codes "BadMachine"
elf_text elf.BadFlags = codes "BadFlags"
elf_text elf.BadHeaderSize = codes "BadHeaderSize"
elf_text elf.HeadersOutside = codes "HeadersOutside"
elf_text elf.Dynamic = codes "Dynamic"
elf_text elf.SegmentOutsideFile = codes "SegmentOutsideFile"
elf_text elf.SegmentSizes = codes "SegmentSizes"
elf_text elf.SegmentOverlap = codes "SegmentOverlap"
elf_text elf.SegmentOutsideMemory = codes "SegmentOutsideMemory"
elf_text elf.EntryMisaligned = codes "EntryMisaligned"
elf_text elf.EntryNotExecutable = codes "EntryNotExecutable"
elf_text elf.BadSymbols = codes "BadSymbols"
elf_text elf.BadSymbolName = codes "BadSymbolName"
elf_text elf.TooLong = codes "TooLong"

-- a fault of a line has its number
abbrev pub schedule_text : ScheduleFault → List ℕ
schedule_text (schedule.BadLine n) = codes "BadLine " ++ decimal n
schedule_text (schedule.HartOutOfRange n) = codes "HartOutOfRange " ++ decimal n
schedule_text (schedule.ZeroCount n) = codes "ZeroCount " ++ decimal n
schedule_text schedule.TooLong = codes "TooLong"
schedule_text schedule.NoMemory = codes "NoMemory"

abbrev pub settings_text : SettingsFault → List ℕ
settings_text settings.TooLong = codes "TooLong"
settings_text settings.BadToml = codes "BadToml"
settings_text (settings.UnknownKey name) = codes "UnknownKey " ++ name_text name
settings_text (settings.OutOfRange key) = codes "OutOfRange " ++ key_name key
settings_text (settings.ChangedOutOfRange key) = codes "OutOfRange " ++ key_name key
settings_text settings.NoMemory = codes "NoMemory"

-- a fault of a trace has its place, or its numbers
abbrev pub trace_text : TraceFault → List ℕ
trace_text trace.BadMagic = codes "BadMagic"
trace_text trace.BadHarts = codes "BadHarts"
trace_text (trace.BadTag place) = codes "BadTag " ++ decimal place
trace_text (trace.BadField place) = codes "BadField " ++ decimal place
trace_text (trace.Truncated size) = codes "Truncated " ++ decimal size
trace_text (trace.CountMismatch stated counted) = codes "CountMismatch " ++
    (decimal stated ++ (codes " " ++ decimal counted))
trace_text (trace.AfterEnd place) = codes "AfterEnd " ++ decimal place
trace_text trace.TooLong = codes "TooLong"
trace_text trace.NoMemory = codes "NoMemory"

abbrev pub state_text : StateFault → List ℕ
state_text (state.BadState place) = codes "BadState " ++ decimal place
state_text (state.WrongSettings place) = codes "WrongSettings " ++ decimal place
state_text (state.WrongPosition saved first) = codes "WrongPosition " ++
    (decimal saved ++ (codes " " ++ decimal first))
state_text state.TooLong = codes "TooLong"

abbrev pub place_text : PlaceRefusal → List ℕ
place_text place.NoObject = codes "NoObject"
place_text place.TooLarge = codes "TooLarge"
place_text place.NoRoom = codes "NoRoom"

-- a fault of a line has its number
abbrev pub table_text : TableFault → List ℕ
table_text table.TooLong = codes "TooLong"
table_text (table.BadLine n) = codes "BadLine " ++ decimal n
table_text (table.Overlap n) = codes "Overlap " ++ decimal n
table_text table.NoMemory = codes "NoMemory"

-- an access in the way has its address
abbrev pub occupied_text : ℕ → List ℕ
occupied_text addr = codes "Occupied " ++ address_text (pos addr)

-- an access that a place comes near from far has its address too
abbrev pub far_text : ℕ → List ℕ
far_text addr = codes "Far " ++ address_text (pos addr)

abbrev pub fault_text : Status → List ℕ
fault_text status.Done = []
fault_text status.Usage = usage_text
fault_text (status.Elf fault) = line (codes "predator: elf " ++ elf_text fault)
fault_text (status.Schedule fault) = line (codes "predator: schedule " ++ schedule_text fault)
fault_text (status.Settings fault) = line (codes "predator: settings " ++ settings_text fault)
fault_text (status.Trace fault) = line (codes "predator: trace " ++ trace_text fault)
fault_text status.NoPcs = line (codes "predator: trace NoPcs")
fault_text status.Filtered = line (codes "predator: trace Filtered")
fault_text status.TooWide = line (codes "predator: trace TooWide")
fault_text (status.State fault) = line (codes "predator: state " ++ state_text fault)
fault_text status.ReadFault = line (codes "predator: read fault")
fault_text status.WriteFault = line (codes "predator: write fault")
fault_text status.NoMemory = line (codes "predator: no memory")
fault_text status.Budget = []
fault_text status.Deadlock = []
fault_text status.Trapped = []
fault_text (status.Place refused) = line (codes "predator: place " ++ place_text refused)
fault_text (status.Table fault) = line (codes "predator: table " ++ table_text fault)
fault_text (status.Occupied addr) = line (codes "predator: table " ++ occupied_text addr)
fault_text (status.Far addr) = line (codes "predator: table " ++ far_text addr)
