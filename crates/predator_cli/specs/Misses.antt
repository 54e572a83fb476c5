-- The command `misses`: what sharing costs in a trace.
use Rattle.std.specs.Prelude.{ℕ, List}
use Rattle.command_line.specs.TraceLayouts.{LayoutDemand}
use Rattle.base.specs.Lines.{Grid}
use Rattle.shelf.specs.Shelf.{Files}
use Rattle.misses.specs.Texts.{misses_of_records}
use Rattle.trace_passes.specs.Passes.{Trace, all_records}
use Rattle.command_io.specs.Readings.{Reading}
use Rattle.command_io.specs.Works.{Work}
use Rattle.predator_cli.specs.Counting.{counted_readings, counted_work}
use Rattle.predator_cli.specs.Replay.{whole_for}

abbrev pub misses_readings : LayoutDemand → List Reading
misses_readings demand = counted_readings (whole_for demand.layout.size) demand.trace

-- the misses of each line of a trace, under a layout
abbrev pub misses_text : Grid → Trace → List ℕ
misses_text g t = misses_of_records g t.ending.whole (all_records t)

abbrev pub misses_work : LayoutDemand → Files → Work
misses_work demand files = counted_work (misses_text demand.layout) demand.trace files
