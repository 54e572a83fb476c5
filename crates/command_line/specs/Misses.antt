-- The command `misses`, which prints what the sharing of each line costs in a trace, under a layout.
use Rattle.std.specs.Prelude.{List, Option, codes}
use Rattle.clap.specs.Words.{Text}
use Rattle.command_line.specs.TraceLayouts.{LayoutDemand, asked_with_layout}

abbrev pub misses_usage : Text
misses_usage = codes "usage: predator misses TRACE [--size N] [--shift N]\n"

abbrev pub asked_of_misses : List Text → Option LayoutDemand
asked_of_misses words = asked_with_layout (codes "misses") words
