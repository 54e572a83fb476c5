-- The command `caches`: what is left of a trace's invalidations in private caches of a shape.
use Rattle.std.specs.Prelude.{ℕ, List}
use Rattle.base.specs.Shapes.{CacheShape}
use Rattle.command_line.specs.Caches.{CachesDemand}
use Rattle.finite_cache.specs.Seen.{caches_of_records}
use Rattle.shelf.specs.Shelf.{Files}
use Rattle.trace_passes.specs.Passes.{Trace, all_records}
use Rattle.command_io.specs.Readings.{Reading}
use Rattle.command_io.specs.Works.{Work}
use Rattle.predator_cli.specs.Counting.{counted_readings, counted_work}
use Rattle.predator_cli.specs.Replay.{whole}

abbrev pub caches_readings : CachesDemand → List Reading
caches_readings demand = counted_readings whole demand.trace

-- what bounded caches count of each line of a trace, beside unbounded ones
abbrev pub caches_text : CacheShape → Trace → List ℕ
caches_text k t = caches_of_records k (all_records t)

abbrev pub caches_work : CachesDemand → Files → Work
caches_work demand files = counted_work (caches_text demand.shape) demand.trace files
