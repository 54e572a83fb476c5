-- The latest access of a list that passes a test.
use Rattle.std.specs.Prelude.{ℕ, zero, suc, Bool, false, if◌then◌else◌, List, map, length}
use Rattle.std.specs.Prelude.{slice_get, Option, Some, None, option_and_then}
use Rattle.std.specs.Option.{option_map_or}
use Rattle.sharing_rules.specs.AccessLists.{AccessList}
use Rattle.invalidations.specs.declared.sited.Sited.{Sited}

-- the accesses of a sited list
abbrev pub accesses_of : List Sited → AccessList
accesses_of u = map (λ s. s.access) u

-- the greatest number below n that passes
abbrev pub greatest_below : (ℕ → Bool) → ℕ → Option ℕ
greatest_below p zero = None
greatest_below p (suc n) = if p n then Some n else greatest_below p n

-- the latest place of which the access passes, and that access
unfoldable pub latest_place : (Sited → Bool) → List Sited → Option ℕ
latest_place p u = greatest_below (λ i. option_map_or p (slice_get u i) false) (length u)

unfoldable pub latest : (Sited → Bool) → List Sited → Option Sited
latest p u = option_and_then (slice_get u) (latest_place p u)
