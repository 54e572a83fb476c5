-- The command `split`: the two halves of a trace.
use Rattle.std.specs.Prelude.{ℕ, ◌-◌, min, List, [], ◌∷◌, codes, length}
use Rattle.command_line.specs.Split.{SplitDemand}
use Rattle.shelf.specs.Shelf.{Files}
use Rattle.trace_files.specs.Copies.{halves}
use Rattle.trace_format.specs.Rules.{touches_in}
use Rattle.trace_passes.specs.Passes.{Trace}
use Rattle.command_io.specs.Readings.{Reading}
use Rattle.command_io.specs.Works.{Work}
use Rattle.predator_cli.specs.Copies.{copied_reading, copy_of, copy_text}

abbrev pub split_readings : SplitDemand → List Reading
split_readings demand = copied_reading demand.trace ∷ []

-- how many accesses stand before the cut, and how many behind it
abbrev pub split_text : ℕ → Trace → List ℕ
split_text at t =
    let all = length (touches_in t.items) in
    copy_text (codes "split") (min at all) (all - min at all)

abbrev pub split_work : SplitDemand → Files → Work
split_work demand files = copy_of (split_text demand.at)
    (halves demand.at demand.first demand.second) demand.trace files
