-- Worked program files: some that are accepted, and some that are refused.
use Rattle.std.proofs.Common.{◌≡◌, ℕ, ◌+◌, ◌*◌, List, [], ◌∷◌, ◌++◌, Some, None, true, false, take}
use Rattle.std.proofs.Common.{refl}
use Rattle.std.specs.List.{flat_map}
use Rattle.std.specs.Int.{to_le_bytes, w32}
use Rattle.objects.specs.declared.symbol.SymbolKind.TheVariants.{Function}
use Rattle.program_files.specs.Faults.{read_fault, symbols_fault}
use Rattle.program_files.specs.Programs.{segments_of}
use Rattle.program_files.specs.Symbols.{symbols_of}
use Rattle.program_files.specs.Images.{image_byte, image_page}
use Rattle.program_files.specs.PlacedImages.{place_fault, image_of}
use Rattle.program_files.specs.declared.image.Space.{Space}
use Rattle.program_files.specs.declared.image.Image.{Image}
use Rattle.program_files.specs.declared.fault.ElfFault.TheVariants.{TooShort, BadMachine, BadFlags}
use Rattle.program_files.specs.declared.fault.ElfFault.TheVariants.{HeadersOutside}
use Rattle.program_files.specs.declared.fault.ElfFault.TheVariants.{SegmentOutsideFile}
use Rattle.program_files.specs.declared.fault.ElfFault.TheVariants.{SegmentSizes, SegmentOverlap}
use Rattle.program_files.specs.declared.fault.ElfFault.TheVariants.{BadSymbols, BadSymbolName}

-- the bytes of words
bytes : List ℕ → List ℕ
bytes words = flat_map (to_le_bytes w32) words

-- A file header: entry 0x10000, program headers behind it and section headers at 152, so many of
-- each.
header : ℕ → ℕ → ℕ → ℕ → List ℕ
header machine flags programs sections =
    bytes (0x464c457f ∷ 0x00010101 ∷ 0 ∷ 0 ∷ (machine * 65536 + 2) ∷ 1 ∷ 0x10000 ∷ 52 ∷ 152 ∷ flags
    ∷ 0x00200034 ∷ (0x00280000 + programs)
    ∷ sections ∷ [])

-- the header of a loadable segment
segment : ℕ → ℕ → ℕ → ℕ → List ℕ
segment offset addr file_size size = bytes (1 ∷ offset ∷ addr ∷ 0 ∷ file_size ∷ size ∷ 7 ∷ 0 ∷ [])

-- three instructions
code : List ℕ
code = bytes (0x05d00893 ∷ 0x00700513 ∷ 0x00000073 ∷ [])

-- one segment, of the three instructions that stand behind its header
file : ℕ → ℕ → ℕ → List ℕ
file machine flags file_size = header machine flags 1 0 ++ segment 84 0x10000 file_size 12 ++ code

accepted : read_fault (file 243 0 12) ≡ None
unfolding file header segment code bytes
accepted = refl

placed : segments_of (file 243 0 12) ≡ record {
  addr = 0x10000;
  size = 12;
  flags = 7;
  content = 147 ∷ 8 ∷ 208 ∷ 5 ∷ 19 ∷ 5 ∷ 112 ∷ 0 ∷ 115 ∷ 0 ∷ 0 ∷ 0 ∷ [];
} ∷ []
unfolding file header segment code bytes
placed = refl

-- 16 MiB of memory, and a stack of 64 KiB for each of 8 harts
space : Space
space = record { memory = 0x1000000; stack = 0x10000; harts = 8 }

has_room : place_fault space (file 243 0 12) ≡ None
unfolding file header segment code bytes space
has_room = refl

placed_in : Image
placed_in = image_of space (file 243 0 12)

heap_and_stacks : (placed_in.heap_start ≡ 0x11000) × (placed_in.heap_end ≡ 0xf90000)
    × (placed_in.top ≡ 0x1010000)
unfolding placed_in file header segment code bytes space
heap_and_stacks = (refl, refl, refl)

byte_of_code : image_byte (segments_of (file 243 0 12)) 0x10002 ≡ 208
unfolding file header segment code bytes
byte_of_code = refl

byte_behind : image_byte (segments_of (file 243 0 12)) 0x1000c ≡ 0
unfolding file header segment code bytes
byte_behind = refl

page_of_code : image_page (segments_of (file 243 0 12)) 0x11000 0x1010000 0x10ffc ≡ record {
  mapped = true;
  writable = true;
  executable = true;
}
unfolding file header segment code bytes
page_of_code = refl

page_of_the_heap : image_page (segments_of (file 243 0 12)) 0x11000 0x1010000 0x11000 ≡ record {
  mapped = true;
  writable = true;
  executable = false;
}
unfolding file header segment code bytes
page_of_the_heap = refl

cut_in_the_file_header : read_fault (take 51 (file 243 0 12)) ≡ Some TooShort
unfolding file header segment code bytes
cut_in_the_file_header = refl

cut_in_the_program_headers : read_fault (take 83 (file 243 0 12)) ≡ Some HeadersOutside
unfolding file header segment code bytes
cut_in_the_program_headers = refl

cut_in_the_segment : read_fault (take 95 (file 243 0 12)) ≡ Some SegmentOutsideFile
unfolding file header segment code bytes
cut_in_the_segment = refl

other_machine : read_fault (file 62 0 12) ≡ Some BadMachine
unfolding file header segment code bytes
other_machine = refl

compressed : read_fault (file 243 1 12) ≡ Some BadFlags
unfolding file header segment code bytes
compressed = refl

longer_in_the_file : read_fault (file 243 0 16 ++ code) ≡ Some SegmentSizes
unfolding file header segment code bytes
longer_in_the_file = refl

-- A segment of a page, and one of a byte. The first is 4096 bytes long, so that they may touch.
two : ℕ → List ℕ
two addr = header 243 0 2 0 ++ segment 0 0x10000 0 4096 ++ segment 0 addr 0 1

touching : read_fault (two 0x11000) ≡ None
unfolding two header segment bytes
touching = refl

overlapping : read_fault (two 0x10fff) ≡ Some SegmentOverlap
unfolding two header segment bytes
overlapping = refl

section : ℕ → ℕ → ℕ → ℕ → ℕ → List ℕ
section kind offset size link entry_size = bytes (0 ∷ kind ∷ 0 ∷ 0 ∷ offset ∷ size ∷ link ∷ 0 ∷ 0
    ∷ entry_size ∷ [])

-- The three instructions with a symbol table, its names and the section headers behind them. The
-- function `run` has its
-- name at a place, and the other symbol has no section.
with_symbols : ℕ → ℕ → List ℕ
with_symbols name link =
    header 243 0 1 3 ++ segment 84 0x10000 12 12 ++ code
    ++ bytes (0 ∷ 0 ∷ 0 ∷ 0 ∷ name ∷ 0x10000 ∷ 12 ∷ 0x10012 ∷ 1 ∷ 0x20000 ∷ 4 ∷ 17 ∷ [])
    ++ bytes (0x6e757200 ∷ 0 ∷ [])
    ++ section 0 0 0 0 0 ++ section 2 96 48 link 16 ++ section 3 144 8 0 0

named : symbols_fault (with_symbols 1 2) ≡ None
unfolding with_symbols header segment section code bytes
named = refl

kept : symbols_of (with_symbols 1 2)
    ≡ record { kind = Function; addr = 0x10000; size = 12; name = 114 ∷ 117 ∷ 110 ∷ [] } ∷ []
unfolding with_symbols header segment section code bytes
kept = refl

name_outside : symbols_fault (with_symbols 8 2) ≡ Some BadSymbolName
unfolding with_symbols header segment section code bytes
name_outside = refl

no_names : symbols_fault (with_symbols 1 0) ≡ Some BadSymbols
unfolding with_symbols header segment section code bytes
no_names = refl
