-- Layouts. A layout (n, o) cuts the addresses into lines of n bytes that begin at o modulo n; the
-- first may begin below 0.
use Rattle.std.specs.Prelude.{ℕ, ◌+◌, ◌-◌, ◌/◌, ◌%◌, ◌==◌, Bool, ◌&&◌, nat_lt, eqb, [], ◌∷◌}
use Rattle.std.specs.List.{list_any}

-- a layout, as contracts see it
pub record Grid : Type 0 where
  pub size : ℕ
  pub offset : ℕ

-- a power of two from 4 to 1024
abbrev pub is_line_size : ℕ → Bool
is_line_size n = list_any (eqb n) (4 ∷ 8 ∷ 16 ∷ 32 ∷ 64 ∷ 128 ∷ 256 ∷ 512 ∷ 1024 ∷ [])

-- such a size, and a multiple of 4 below it
abbrev pub is_layout : ℕ → ℕ → Bool
is_layout n o = is_line_size n && nat_lt o n && (o % 4 == 0)

-- the number of the line of an address under (n, o)
abbrev pub line_number : ℕ → ℕ → ℕ → ℕ
line_number n o a = (a + n - o) / n
