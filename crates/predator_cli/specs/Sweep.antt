-- The command `sweep`: what every shift of a line size counts in a trace.
use Rattle.std.specs.Prelude.{ℕ, List}
use Rattle.command_line.specs.Sweep.{SweepDemand}
use Rattle.layout_sweep.specs.Seen.{sweep_of_records}
use Rattle.shelf.specs.Shelf.{Files}
use Rattle.trace_passes.specs.Passes.{Trace, all_records}
use Rattle.command_io.specs.Readings.{Reading}
use Rattle.command_io.specs.Works.{Work}
use Rattle.predator_cli.specs.Counting.{counted_readings, counted_work}
use Rattle.predator_cli.specs.Replay.{whole_for}

abbrev pub sweep_readings : SweepDemand → List Reading
sweep_readings demand = counted_readings (whole_for demand.size) demand.trace

-- what every shift of a size counts in a trace
abbrev pub sweep_text_of : ℕ → Trace → List ℕ
sweep_text_of n t = sweep_of_records n t.ending.whole (all_records t)

abbrev pub sweep_work : SweepDemand → Files → Work
sweep_work demand files = counted_work (sweep_text_of demand.size) demand.trace files
