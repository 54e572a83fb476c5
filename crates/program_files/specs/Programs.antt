-- The program headers of an ELF file, and the segments that they place in memory.
use Rattle.std.specs.Prelude.{ℕ, ◌+◌, ◌^◌, ◌==◌, Bool, false, not, ◌&&◌, ◌||◌, nat_lt, List, []}
use Rattle.std.specs.Prelude.{◌∷◌, map, filter}
use Rattle.std.specs.List.{list_any}
use Rattle.program_files.specs.Fields.{lies_in, part, rows, program_offset, program_count}
use Rattle.base.specs.Fields.{number_at}
use Rattle.std.specs.Int.{w32}
use Rattle.program_files.specs.declared.program.ProgramHeader.{ProgramHeader}

-- the header that a row of 32 bytes says
abbrev pub program_header : List ℕ → ProgramHeader
program_header row =
    record {
      kind = number_at w32 0 row;
      offset = number_at w32 4 row;
      addr = number_at w32 8 row;
      file_size = number_at w32 16 row;
      size = number_at w32 20 row;
      flags = number_at w32 24 row;
    }

-- the program headers, in their order
abbrev pub program_headers : List ℕ → List ProgramHeader
program_headers file = map program_header (rows 32 (program_count file) (program_offset file) file)

-- PT_LOAD
abbrev pub is_loadable : ProgramHeader → Bool
is_loadable h = h.kind == 1

-- PT_DYNAMIC or PT_INTERP
abbrev pub is_dynamic : ProgramHeader → Bool
is_dynamic h = (h.kind == 2) || (h.kind == 3)

-- it has bytes in the file that do not lie there
abbrev pub is_outside : List ℕ → ProgramHeader → Bool
is_outside file h = is_loadable h && (nat_lt 0 h.file_size && not
    (lies_in file h.offset h.file_size))

-- more bytes in the file than in memory, or an end above 2^32
abbrev pub has_wrong_size : ProgramHeader → Bool
has_wrong_size h = is_loadable h && (nat_lt h.size h.file_size || nat_lt (2 ^ 32)
    (h.addr + h.size))

-- a segment has bytes in memory
abbrev pub is_segment : ProgramHeader → Bool
is_segment h = is_loadable h && nat_lt 0 h.size

-- both are segments, and some address is in both
abbrev pub overlap : ProgramHeader → ProgramHeader → Bool
overlap a b = is_segment a && (is_segment b && (nat_lt a.addr (b.addr + b.size) && nat_lt b.addr
    (a.addr + a.size)))

-- two headers of the list, one after the other there, pass the test
abbrev pub some_pair : (ProgramHeader → ProgramHeader → Bool) → List ProgramHeader → Bool
some_pair test [] = false
some_pair test (h ∷ others) = list_any (test h) others || some_pair test others

-- A segment: where it begins in memory, how many bytes it has there, its flags, and its first
-- bytes. The others are zero.
pub record Loaded : Type 0 where
  pub addr : ℕ
  pub size : ℕ
  pub flags : ℕ
  pub content : List ℕ

-- the segment of a header
abbrev pub loaded : List ℕ → ProgramHeader → Loaded
loaded file h = record {
  addr = h.addr;
  size = h.size;
  flags = h.flags;
  content = part file h.offset h.file_size;
}

-- the segments of headers, and of a file, in their order
abbrev pub segments_in : List ℕ → List ProgramHeader → List Loaded
segments_in file headers = map (loaded file) (filter is_segment headers)

abbrev pub segments_of : List ℕ → List Loaded
segments_of file = segments_in file (program_headers file)
