use Rattle.std.proofs.Common.{arith}
use Rattle.std.proofs.lemmas.Grind.{common_steps}
use Rattle.detector.specs.Laws.Entries.{blank_entries}
use Rattle.detector_tests.specs.MapEntries.{map_entry}
use Rattle.detector_tests.proofs.map_index.MapIndex.new.Goals as goal

pub returns : goal.returns
returns c = blank_entries (map_entry (record { lines = c.new.result }))
    (λ q. grind (arith, common_steps, c.new.ensures.empty))
