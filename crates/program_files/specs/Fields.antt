-- The fields of an ELF file of 32 bits at their places, as the ELF specification lays them out.
-- Numbers are little endian.
use Rattle.std.specs.Prelude.{ℕ, ◌+◌, List, take, drop, length, Bool, nat_le}
use Rattle.std.specs.Simd.{first_chunks}
use Rattle.std.specs.Int.{w16, w32}
use Rattle.base.specs.Fields.{number_at}

-- a range of the file lies in it; sums do not wrap
abbrev pub lies_in : List ℕ → ℕ → ℕ → Bool
lies_in file offset size = nat_le (offset + size) (length file)

abbrev pub part : List ℕ → ℕ → ℕ → List ℕ
part file offset size = take size (drop offset file)

-- the first n rows, of so many bytes each, of a table that begins at a place
abbrev pub rows : ℕ → ℕ → ℕ → List ℕ → List (List ℕ)
rows size n place file = first_chunks size n (drop place file)

-- ---- the file header

abbrev pub entry_of : List ℕ → ℕ
entry_of file = number_at w32 24 file

-- where the program headers begin, how long each is, and how many there are
abbrev pub program_offset : List ℕ → ℕ
program_offset file = number_at w32 28 file

abbrev pub program_row_size : List ℕ → ℕ
program_row_size file = number_at w16 42 file

abbrev pub program_count : List ℕ → ℕ
program_count file = number_at w16 44 file

-- the same of the section headers
abbrev pub section_offset : List ℕ → ℕ
section_offset file = number_at w32 32 file

abbrev pub section_row_size : List ℕ → ℕ
section_row_size file = number_at w16 46 file

abbrev pub section_count : List ℕ → ℕ
section_count file = number_at w16 48 file
