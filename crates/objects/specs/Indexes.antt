-- How a table finds the live item at an address: what its type keeps of its fields.
use Rattle.std.specs.Prelude.{◌≡◌, ℕ, List, slice_get, Bool, true, false, Option, Some}
use Rattle.std.specs.Option.{option_map_or}

-- whether the item at a place of a list passes a test
abbrev pub passes_in : {X : Type 0} → (X → Bool) → List X → ℕ → Bool
passes_in p xs i = option_map_or p (slice_get xs i) false

-- f gives of each address the place in a list of the one item that lives there
pub record IsIndex {X : Type 0} (lives : ℕ → X → Bool) (f : ℕ → Option ℕ) (xs : List X)
    : Type 0 where
  pub found : (addr i : ℕ) → f addr ≡ Some i → passes_in (lives addr) xs i ≡ true
  pub has : (addr i : ℕ) → passes_in (lives addr) xs i ≡ true → f addr ≡ Some i
