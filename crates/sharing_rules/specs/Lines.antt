-- A line: a set of addresses, with a place for each of its words.
use Rattle.std.specs.Prelude.{ℕ, ◌+◌, ◌-◌, ◌/◌, ◌%◌, Bool, ◌==◌, ℤ, pos, ◌+ℤ◌, ◌-ℤ◌, nat_abs}
use Rattle.base.specs.Lines.{Grid, line_number}
use Rattle.base.specs.Ranges.{line_range}
use Rattle.base.specs.declared.layout.Range.{Range}

-- line `number` of the layout (size, offset)
pub record Line : Type 0 where
  pub size : ℕ
  pub offset : ℕ
  pub number : ℕ

-- line k of a layout
abbrev pub grid_line : Grid → ℕ → Line
grid_line g k = record { size = g.size; offset = g.offset; number = k }

-- the line of an address under a layout
abbrev pub line_at : Grid → ℕ → Line
line_at g a = record { size = g.size; offset = g.offset; number = line_number g.size g.offset a }

-- whether a line holds an address
abbrev pub is_inside : Line → ℕ → Bool
is_inside l a = line_number l.size l.offset a == l.number

-- its addresses
abbrev pub range_of : Line → Range
range_of l = line_range l.size l.offset l.number

-- which word of its line an address is in
abbrev pub word_place : Line → ℕ → ℕ
word_place l a = (a + l.size - l.offset) % l.size / 4

-- the native layout (n, 0)
abbrev pub native_grid : ℕ → Grid
native_grid n = record { size = n; offset = 0 }

-- its line k; line 1 begins at address 0
abbrev pub native_line : ℕ → ℕ → Line
native_line n k = record { size = n; offset = 0; number = k }

-- the line of n bytes that begins at an address
abbrev pub line_from : ℕ → ℕ → Line
line_from n base = line_at (record { size = n; offset = base % n }) base

-- the number of the line of a layout in which an address lies, which may be one below 0
abbrev pub number_of_base : Grid → ℤ → ℕ
number_of_base g base = nat_abs (base +ℤ pos g.size -ℤ pos g.offset) / g.size
