-- Places in an access list. A question about a place is asked of what came before it and of the
-- access there.
use Rattle.std.specs.Prelude.{ℕ, zero, suc, ◌+◌, Bool, false, List, [], ◌∷◌, ◌++◌, Option, Some}
use Rattle.std.specs.Prelude.{None, if◌then◌else◌, length, take, slice_get}
use Rattle.std.specs.Option.{option_map_or, option_or}
use Rattle.base.specs.Touch.{Touch}
use Rattle.sharing_rules.specs.AccessLists.{AccessList}

-- a question about a place
abbrev pub Question : Type 0
Question = AccessList → Touch → Bool

-- whether place i of the list passes
abbrev pub passes_at : Question → AccessList → ℕ → Bool
passes_at asked t i = option_map_or (asked (take i t)) (slice_get t i) false

-- 0, 1, .. below n
abbrev pub below : ℕ → List ℕ
below zero = []
below (suc n) = below n ++ n ∷ []

-- the least number below n that passes
abbrev pub least_below : (ℕ → Bool) → ℕ → Option ℕ
least_below p zero = None
least_below p (suc n) = option_or (least_below p n) (if p n then Some n else None)

-- how many numbers below n pass
abbrev pub count_below : (ℕ → Bool) → ℕ → ℕ
count_below p zero = 0
count_below p (suc n) = count_below p n + (if p n then 1 else 0)

-- the least place that passes
unfoldable pub first_place : Question → AccessList → Option ℕ
first_place asked t = least_below (passes_at asked t) (length t)

-- how many places pass
unfoldable pub count_places : Question → AccessList → ℕ
count_places asked t = count_below (passes_at asked t) (length t)
