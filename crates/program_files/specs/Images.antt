-- The memory of a program file: what its segments, the heap and the stacks take, and where each
-- lies.
use Rattle.std.specs.Prelude.{◌≡◌, ℕ, ◌+◌, ◌-◌, ◌*◌, ◌/◌, ◌%◌, ◌^◌, ◌==◌, Bool, not, ◌&&◌, ◌||◌}
use Rattle.std.specs.Prelude.{nat_lt, nat_le, min, max, List, [], ◌∷◌, length, map, find}
use Rattle.std.specs.Prelude.{slice_index}
use Rattle.std.specs.Option.{option_map_or}
use Rattle.std.specs.List.{list_any, range_with_len}
use Rattle.rv32_hart.specs.declared.page.Page.{Page}
use Rattle.rv32_hart.specs.Space.{Space, byte_at, page_at, size_of, is_among}
use Rattle.rv32_hart.specs.Changes.{touches}
use Rattle.program_files.specs.Fields.{entry_of}
use Rattle.program_files.specs.Programs.{Loaded, segments_of}
use Rattle.program_files.specs.Faults.{Faults}
use Rattle.program_files.specs.declared.fault.ElfFault.TheVariants.{SegmentOutsideMemory}
use Rattle.program_files.specs.declared.fault.ElfFault.TheVariants.{EntryMisaligned}
use Rattle.program_files.specs.declared.fault.ElfFault.TheVariants.{EntryNotExecutable}

-- PF_X and PF_W
abbrev pub may_run : Loaded → Bool
may_run s = s.flags % 2 == 1

abbrev pub may_write : Loaded → Bool
may_write s = s.flags / 2 % 2 == 1

-- ---- where the parts lie

-- the least address of segments, above all addresses where there are none
abbrev pub least : List Loaded → ℕ
least [] = 2 ^ 32
least (s ∷ others) = min s.addr (least others)

abbrev pub greatest_end : List Loaded → ℕ
greatest_end [] = 0
greatest_end (s ∷ others) = max (s.addr + s.size) (greatest_end others)

abbrev pub page_down : ℕ → ℕ
page_down a = a / 4096 * 4096

abbrev pub page_up : ℕ → ℕ
page_up a = (a + 4095) / 4096 * 4096

-- the memory's first address, and its end
abbrev pub base_of : List Loaded → ℕ
base_of segments = page_down (least segments)

abbrev pub top_of : ℕ → List Loaded → ℕ
top_of memory segments = base_of segments + memory

-- the heap begins behind the last segment
abbrev pub heap_start_of : List Loaded → ℕ
heap_start_of segments = page_up (greatest_end segments)

-- ---- faults

-- segments, and the memory ends too high or has no room for them and the stacks
abbrev pub has_no_room : ℕ → ℕ → List Loaded → Bool
has_no_room memory stacks segments =
    nat_lt 0 (length segments) && (nat_lt 0xfffff000 (top_of memory segments) || nat_lt
    (top_of memory segments) (heap_start_of segments + stacks))

-- an executable segment touches the page of an address
abbrev pub runs_at : ℕ → Loaded → Bool
runs_at a s = may_run s && touches s.addr s.size a

-- the faults of a file that is placed in a memory of so many bytes, with so many for the stacks
abbrev pub place_faults : ℕ → ℕ → Faults
place_faults memory stacks =
    (SegmentOutsideMemory, λ file. has_no_room memory stacks (segments_of file))
    ∷ (EntryMisaligned, λ file. not (entry_of file % 4 == 0))
    ∷ (EntryNotExecutable, λ file. not (list_any (runs_at (entry_of file)) (segments_of file)))
    ∷ []

-- ---- bytes and rights

-- the byte at an address: that of the segment which has the address, zero past its content and
-- where there is none
abbrev pub holds : ℕ → Loaded → Bool
holds a s = is_among s.addr s.size a

abbrev pub image_byte : List Loaded → ℕ → ℕ
image_byte segments a = option_map_or (λ s. slice_index s.content (a - s.addr))
    (find (holds a) segments) 0

-- the segments that touch an address's page
abbrev pub touches_page : ℕ → Loaded → Bool
touches_page a s = touches s.addr s.size a

abbrev pub writes_at : ℕ → Loaded → Bool
writes_at a s = may_write s && touches s.addr s.size a

-- the rights of an address's page: those of all segments that touch it, and in the heap and the
-- stacks those of data
abbrev pub image_page : List Loaded → ℕ → ℕ → ℕ → Page
image_page segments heap_start top a =
    let behind = nat_le heap_start a && nat_lt a top in
    record {
      mapped = list_any (touches_page a) segments || behind;
      writable = list_any (writes_at a) segments || behind;
      executable = list_any (runs_at a) segments;
    }

-- a memory holds the image of segments
pub record IsImage (segments : List Loaded) (memory : ℕ) (m : Space) : Type 0 where
  pub base : m.base ≡ base_of segments
  pub size : size_of m ≡ memory
  pub bytes : (a : ℕ) → byte_at m a ≡ image_byte segments a
  pub pages : (a : ℕ) → page_at m a ≡ image_page segments (heap_start_of segments)
      (top_of memory segments) a

-- the memory that holds it: the byte of each address from the base on, and the rights of each page
unfoldable pub memory_of : ℕ → List Loaded → Space
memory_of memory segments =
    let base = base_of segments in
    let rights = image_page segments (heap_start_of segments) (top_of memory segments) in
    record {
      base = base;
      bytes = map (λ i. image_byte segments (base + i))
          (range_with_len 0 memory);
      pages = map (λ k. rights (base + 4096 * k))
          (range_with_len 0 (memory / 4096));
    }
