-- The command `blame`: which instructions and which harts take the lines of a trace from each
-- other.
use Rattle.std.specs.Prelude.{ℕ, List, true}
use Rattle.command_line.specs.TraceLayouts.{LayoutDemand}
use Rattle.base.specs.Lines.{Grid}
use Rattle.shelf.specs.Shelf.{Files}
use Rattle.invalidations.specs.BlameRecords.{blame_of_records}
use Rattle.trace_passes.specs.Passes.{Trace, all_records}
use Rattle.trace_passes.specs.declared.wanted.Wanted.{Wanted}
use Rattle.command_io.specs.Readings.{Reading}
use Rattle.command_io.specs.Works.{Work}
use Rattle.predator_cli.specs.Counting.{counted_readings, counted_work}
use Rattle.predator_cli.specs.Replay.{whole_for}

-- a whole trace, filtered or not, each of whose accesses has its pc
abbrev pub whole_with_pcs : ℕ → Wanted
whole_with_pcs size = record (whole_for size) { pcs = true }

abbrev pub blame_readings : LayoutDemand → List Reading
blame_readings demand = counted_readings (whole_with_pcs demand.layout.size) demand.trace

-- who takes each line of a trace, under a layout
abbrev pub blame_text : Grid → Trace → List ℕ
blame_text g t = blame_of_records g t.ending.whole (all_records t)

abbrev pub blame_work : LayoutDemand → Files → Work
blame_work demand files = counted_work (blame_text demand.layout) demand.trace files
