-- The command `blame`, which prints which instructions and which harts take the lines of a trace
-- from each other, under a layout.
use Rattle.std.specs.Prelude.{List, Option, codes}
use Rattle.clap.specs.Words.{Text}
use Rattle.command_line.specs.TraceLayouts.{LayoutDemand, asked_with_layout}

abbrev pub blame_usage : Text
blame_usage = codes "usage: predator blame TRACE [--size N] [--shift N]\n"

abbrev pub asked_of_blame : List Text → Option LayoutDemand
asked_of_blame words = asked_with_layout (codes "blame") words
