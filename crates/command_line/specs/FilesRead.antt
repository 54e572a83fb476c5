-- The files that a command reads, as far as something is said of them.
use Rattle.std.specs.Prelude.{ℕ, List, Bool}
use Rattle.command_line.specs.Words.{TraceRead}
use Rattle.command_line.specs.declared.files_read.TraceToRead.{TraceToRead}

-- a trace of this name, read once or again
abbrev pub read_as : List ℕ → Bool → TraceRead
read_as name again = record { name = name; again = again }

abbrev pub trace_read : TraceToRead → TraceRead
trace_read trace = read_as trace.name.now trace.again
