-- Numbers among bytes, the low byte first.
use Rattle.std.specs.Prelude.{◌≡◌, ◌⊎◌, ℕ, zero, suc, ◌+◌, ◌*◌, ◌/◌, ◌%◌, List, slice_index}
use Rattle.std.specs.Prelude.{slice_set}

-- the sizes of an access in bytes
abbrev pub IsSize : ℕ → Type 0
IsSize size = (size ≡ 1) ⊎ (size ≡ 2) ⊎ (size ≡ 4)

-- the number that n bytes from a place on make
abbrev pub number_in : List ℕ → ℕ → ℕ → ℕ
number_in bytes at zero = 0
number_in bytes at (suc n) = slice_index bytes at + 256 * number_in bytes (at + 1) n

-- bytes with the low n bytes of a number from a place on
abbrev pub with_number : List ℕ → ℕ → ℕ → ℕ → List ℕ
with_number bytes at zero value = bytes
with_number bytes at (suc n) value = with_number (slice_set bytes at (value % 256)) (at + 1) n
    (value / 256)
