-- A segment of a program file, as it is lent.
use Rattle.program_files.specs.Programs.{Loaded}
use Rattle.program_files.specs.declared.program.Segment.{Segment}

abbrev pub segment_shown : Segment → Loaded
segment_shown s = record { addr = s.addr; size = s.size; flags = s.flags; content = s.content.now }
