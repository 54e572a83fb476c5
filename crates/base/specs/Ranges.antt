-- Lines as ranges of addresses.
use Rattle.std.specs.Prelude.{◌≡◌, ℕ, ◌+◌, ◌*◌, Bool, ◌&&◌, IsTrue, pos, ◌+ℤ◌, ◌-ℤ◌, int_le, int_lt}
use Rattle.base.specs.declared.layout.Range.{Range}

-- whether a range holds an address
abbrev pub holds_address : Range → ℕ → Bool
holds_address r a = int_le r.base (pos a) && int_lt (pos a) (r.base +ℤ pos r.size)

-- line k of the layout (n, o)
abbrev pub line_range : ℕ → ℕ → ℕ → Range
line_range n o k = record { base = pos (k * n + o) -ℤ pos n; size = n }

-- the line of address a under (n, o): the one range of n bytes that begins at o modulo n and holds
-- a
pub record IsLineOf (n o a : ℕ) (line : Range) : Type 0 where
  pub size : line.size ≡ n
  pub begins : (k : ℕ) × (line.base +ℤ pos n ≡ pos (k * n + o))
  pub holds : IsTrue (holds_address line a)
