-- Bounds of what is kept, and that each line is noted with the harts that have it.
use Rattle.std.specs.Prelude.{◌≡◌, ℕ, ◌<◌, ◌≤◌, ◌^◌, eqb, IsTrue, List, sum_by}
use Rattle.std.specs.List.{AllByRecursion, list_any}
use Rattle.finite_cache.specs.Bounded.{has, set_of}
use Rattle.finite_cache.specs.CacheState.{Parts, WaySet, harts_of, lists_of, use_of}
use Rattle.base.specs.Shapes.{CacheShape}
use Rattle.finite_cache.specs.declared.rows.Tally.{Tally}

-- each list has room for so many lines
abbrev pub HaveWays : ℕ → List (ℕ × WaySet) → Type 0
HaveWays n sets = AllByRecursion (λ e. e.1.ways ≡ n) sets

-- A line is in lists of its own set alone, and only of harts that came to it.
abbrev pub AreNoted : CacheShape → (ℕ → ℕ → List ℕ) → (ℕ → List ℕ) → Type 0
AreNoted k lists harts =
    (h s q : ℕ) → s < k.sets → IsTrue (has q (lists h s))
    → (set_of k q ≡ s) × IsTrue (list_any (eqb h) (harts q))

abbrev pub bounded_sum : List (ℕ × Tally) → ℕ
bounded_sum rows = sum_by (λ e. e.1.bounded) rows

abbrev pub unbounded_sum : List (ℕ × Tally) → ℕ
unbounded_sum rows = sum_by (λ e. e.1.unbounded) rows

-- parts before the access at a position
pub record AreFit (k : CacheShape) (position : ℕ) (p : Parts) : Type 0 where
  pub ways : HaveWays k.ways p.sets
  pub noted : AreNoted k (lists_of k p.sets) (harts_of p.lines)
  pub evicted : (r : ℕ) → (use_of p.lines r).evicted ≤ position
  pub bounded : bounded_sum p.rows ≤ position
  pub unbounded : unbounded_sum p.rows ≤ position
  pub small : AllByRecursion (λ e. e.0 ≤ 2 ^ 32) p.rows
