-- A line that is taken out of the lists of all harts of some but one.
use Rattle.std.specs.Prelude.{ℕ, Bool, not, ◌&&◌, ◌==◌, List}
use Rattle.std.specs.List.{list_any}
use Rattle.finite_cache.specs.Bounded.{has, set_of}
use Rattle.finite_cache.specs.CacheState.{cell_of}
use Rattle.base.specs.Shapes.{CacheShape}

-- whether a list has it
abbrev pub had_by_another : CacheShape → List ℕ → ℕ → ℕ → (ℕ → List ℕ) → Bool
had_by_another k harts h r lists =
    list_any (λ g. not (g == h) && has r (lists (cell_of k g (set_of k r)))) harts

-- whether a cell is that of such a hart
abbrev pub is_cell_of_another : CacheShape → List ℕ → ℕ → ℕ → ℕ → Bool
is_cell_of_another k harts h r c =
    list_any (λ g. not (g == h) && (c == cell_of k g (set_of k r))) harts
