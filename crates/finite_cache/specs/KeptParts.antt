-- The tables of the program as the parts that are kept.
use Rattle.std.specs.Prelude.{ℕ}
use Rattle.indexmap.specs.IndexMap.{IndexMap}
use Rattle.finite_cache.specs.CacheState.{LineUse, Parts, WaySet}
use Rattle.finite_cache.specs.declared.rows.Tally.{Tally}

abbrev pub parts_of : {S T U : Type 0} → IndexMap ℕ WaySet S → IndexMap ℕ LineUse T
    → IndexMap ℕ Tally U → Parts
parts_of sets lines rows =
    record { sets = sets.entries; lines = lines.entries; rows = rows.entries }
