-- The faults of a program file in their order, each with the test of the file that says where it
-- has that fault.
use Rattle.std.specs.Prelude.{ℕ, ◌*◌, ◌%◌, ◌==◌, Bool, not, ◌&&◌, ◌||◌, nat_lt, nat_eq, List, []}
use Rattle.std.specs.Prelude.{◌∷◌, ◌++◌, length, find, slice_index, Option}
use Rattle.std.specs.Option.{option_map}
use Rattle.std.specs.List.{list_any, starts_with}
use Rattle.program_files.specs.declared.fault.ElfFault.{ElfFault}
use Rattle.program_files.specs.declared.fault.ElfFault.TheVariants.{TooShort, BadMagic, BadClass}
use Rattle.program_files.specs.declared.fault.ElfFault.TheVariants.{BadData, BadVersion, BadType}
use Rattle.program_files.specs.declared.fault.ElfFault.TheVariants.{BadMachine, BadFlags}
use Rattle.program_files.specs.declared.fault.ElfFault.TheVariants.{BadHeaderSize, HeadersOutside}
use Rattle.program_files.specs.declared.fault.ElfFault.TheVariants.{Dynamic, SegmentOutsideFile}
use Rattle.program_files.specs.declared.fault.ElfFault.TheVariants.{SegmentSizes, SegmentOverlap}
use Rattle.program_files.specs.declared.fault.ElfFault.TheVariants.{BadSymbols, BadSymbolName}
use Rattle.program_files.specs.Fields.{lies_in, program_offset, program_row_size}
use Rattle.base.specs.Fields.{number_at}
use Rattle.std.specs.Int.{w16, w32}
use Rattle.program_files.specs.Fields.{program_count, section_offset, section_row_size}
use Rattle.program_files.specs.Fields.{section_count}
use Rattle.program_files.specs.Programs.{program_headers, is_dynamic, is_outside, has_wrong_size}
use Rattle.program_files.specs.Programs.{overlap, some_pair}
use Rattle.program_files.specs.Symbols.{has_no_table, has_open_names}

-- a table of faults, first to last
abbrev pub Faults : Type 0
Faults = List (ElfFault × (List ℕ → Bool))

-- the first fault of a table that a file has
abbrev pub first_fault : Faults → List ℕ → Option ElfFault
first_fault table file = option_map (λ row. row.0) (find (λ row. row.1 file) table)

-- 7F and "ELF"
abbrev pub magic : List ℕ
magic = 127 ∷ 69 ∷ 76 ∷ 70 ∷ []

-- a table of so many rows, of a size, is laid out as it must be, or has none
abbrev pub has_other_rows : ℕ → ℕ → ℕ → Bool
has_other_rows size n row_size = nat_lt 0 n && not (row_size == size)

abbrev pub is_table_outside : ℕ → ℕ → ℕ → List ℕ → Bool
is_table_outside size n place file = nat_lt 0 n && not (lies_in file place (size * n))

-- what the file header must say of the file
abbrev pub header_faults : Faults
header_faults =
    (TooShort, λ file. nat_lt (length file) 52)
    ∷ (BadMagic, λ file. not (starts_with nat_eq file magic))
    ∷ (BadClass, λ file. not (slice_index file 4 == 1))
    ∷ (BadData, λ file. not (slice_index file 5 == 1))
    ∷ (BadVersion, λ file. not (slice_index file 6 == 1) || not (number_at w32 20 file == 1))
    ∷ (BadType, λ file. not (number_at w16 16 file == 2))
    ∷ (BadMachine, λ file. not (number_at w16 18 file == 243))
    ∷ (BadFlags, λ file. not (number_at w32 36 file % 16 == 0))
    ∷ []

-- what it must say of the two tables
abbrev pub table_faults : Faults
table_faults = (
  BadHeaderSize,
  λ file. has_other_rows 32 (program_count file) (program_row_size file) ||
      has_other_rows 40 (section_count file) (section_row_size file),
)
    ∷ (
      HeadersOutside,
      λ file. is_table_outside 32 (program_count file) (program_offset file)
          file || is_table_outside 40 (section_count file) (section_offset file) file,
    )
    ∷ []

-- what the program headers must say
abbrev pub segment_faults : Faults
segment_faults =
    (Dynamic, λ file. list_any is_dynamic (program_headers file))
    ∷ (SegmentOutsideFile, λ file. list_any (is_outside file) (program_headers file))
    ∷ (SegmentSizes, λ file. list_any has_wrong_size (program_headers file))
    ∷ (SegmentOverlap, λ file. some_pair overlap (program_headers file))
    ∷ []

-- the first fault of a file that is read
abbrev pub read_fault : List ℕ → Option ElfFault
read_fault file = first_fault (header_faults ++ table_faults ++ segment_faults) file

-- what the symbol table must say
abbrev pub symbol_faults : Faults
symbol_faults = (BadSymbols, has_no_table) ∷ (BadSymbolName, has_open_names) ∷ []

-- the first fault of a file's symbols
abbrev pub symbols_fault : List ℕ → Option ElfFault
symbols_fault file = first_fault symbol_faults file
