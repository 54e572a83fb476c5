-- A memory that holds an image is determined by its base, its size, and its byte and rights at each
-- address; so is the image.
use Rattle.std.proofs.Common.{◌≡◌, ℕ, ◌+◌, ◌-◌, ◌*◌, ◌/◌, ◌%◌, ◌<◌, ◌≤◌, List, false, nat_lt}
use Rattle.std.proofs.Common.{length, map, get_or, refl, ap, sym, ◌∙◌, arith}
use Rattle.std.proofs.lemmas.Bool.Decides.{nat_tests}
use Rattle.std.proofs.lemmas.List.{ext_get_or}
use Rattle.std.proofs.lemmas.List.FromFn.{length-map-range_with_len, get_or-map-range_with_len}
use Rattle.std.specs.List.{range_with_len}
use Rattle.rv32_hart.specs.declared.page.Page.{Page}
use Rattle.rv32_hart.specs.Space.{Space, byte_at, page_at, size_of, no_page}
use Rattle.program_files.specs.Fields.{entry_of}
use Rattle.program_files.specs.Programs.{Loaded, segments_of}
use Rattle.program_files.specs.Images.{base_of, top_of, heap_start_of, image_byte, image_page}
use Rattle.program_files.specs.Images.{memory_of, IsImage}
use Rattle.program_files.specs.PlacedImages.{IsImageOf, image_of}
use Rattle.program_files.proofs.Rooms.{whole_below}
use Rattle.program_files.specs.declared.image.Image.{Image}
use Rattle.program_files.specs.declared.image.Space.{Space as Allowed}

-- a list that has a function's value at each place
from_each : {X : Type 0} (f : ℕ → X) (d : X) (n : ℕ) (xs : List X) → length xs ≡ n
    → ((i : ℕ) → i < n → get_or xs i d ≡ f i)
    → xs ≡ map f (range_with_len 0 n)
from_each f d n xs long each =
    ext_get_or d xs (map f (range_with_len 0 n)) (long ∙ sym (length-map-range_with_len f 0 n))
    (λ i within. each i (omega arith)
    ∙ sym (get_or-map-range_with_len f 0 n i i d (omega arith) (omega arith)))

not_below : (base i : ℕ) → nat_lt (base + i) base ≡ false
not_below base i = grind (arith, nat_tests)

past : (base i : ℕ) → base + i - base ≡ i
past base i = omega arith

past_pages : (base k : ℕ) → (base + 4096 * k - base) / 4096 ≡ k
past_pages base k = omega arith

byte_from_base : (m : Space) (i : ℕ) → byte_at m (m.base + i) ≡ get_or m.bytes i 0
byte_from_base m i = rw (not_below m.base i, past m.base i) refl

page_from_base : (m : Space) (k : ℕ) → page_at m (m.base + 4096 * k) ≡ get_or m.pages k no_page
page_from_base m k = rw (not_below m.base (4096 * k), past_pages m.base k) refl

-- two memories are the same
abbrev same_type : Space → Space → Type 0
same_type m n = m ≡ n

same_space : (base first : ℕ) (bytes others : List ℕ) (pages rights : List Page) → base ≡ first
    → bytes ≡ others → pages ≡ rights
    → same_type (record { base = base; bytes = bytes; pages = pages })
    (record { base = first; bytes = others; pages = rights })
same_space base first bytes others pages rights b c p = rw (b, c, p) refl

page_count : (size count : ℕ) → size ≡ 4096 * count → count ≡ size / 4096
page_count size count h = omega arith

pub whole_memory : (segments : List Loaded) (memory : ℕ) (m : Space) → IsImage segments memory m
    → size_of m ≡ 4096 * length m.pages
    → m ≡ memory_of memory segments
unfolding memory_of
whole_memory segments memory m image pages =
    let base = base_of segments in
    let rights = image_page segments (heap_start_of segments) (top_of memory segments) in
    let count : length m.pages ≡ memory / 4096 = page_count memory (length m.pages)
    (sym image.size ∙ pages) in
    let made = memory_of memory segments in
    same_space m.base made.base m.bytes made.bytes m.pages made.pages image.base
    (from_each (λ i. image_byte segments (base + i)) 0 memory m.bytes image.size
    (λ i _. sym (byte_from_base m i) ∙ image.bytes (m.base + i)
    ∙ ap (λ b. image_byte segments (b + i)) image.base))
    (from_each (λ k. rights (base + 4096 * k)) no_page (memory / 4096) m.pages count
    (λ k _. sym (page_from_base m k) ∙ image.pages (m.base + 4096 * k)
    ∙ ap (λ b. rights (b + 4096 * k)) image.base))

-- the heap's beginning and the stacks have room in the memory that is placed
pub room_for : (file : List ℕ) (space : Allowed) (m : Space) (first heap stacks base size : ℕ)
    → IsImage (segments_of file) space.memory m
    → first ≡ base_of (segments_of file) → heap + stacks ≤ first + space.memory → base ≡ m.base
    → size ≡ size_of m
    → heap + stacks ≤ base + size
room_for file space m first heap stacks base size image f room b z =
    let same : base ≡ first = b ∙ image.base ∙ sym f in
    let extent : size ≡ space.memory = z ∙ image.size in
    omega (arith, room, same, extent)

pub whole_heap : (file : List ℕ) (heap : ℕ) → heap ≡ heap_start_of (segments_of file) → heap % 16
    ≡ 0
whole_heap file heap h = omega arith

pub heap_ends : (space : Allowed) (base size stacks : ℕ) → base % 4096 ≡ 0 → size % 4096 ≡ 0
    → space.stack % 4096 ≡ 0
    → stacks ≡ space.harts * space.stack → (base + size - stacks) % 16 ≡ 0
heap_ends space base size stacks b z k s =
    ap (λ n. (base + size - n) % 16) s ∙ whole_below base size space.harts space.stack b z k

pub heap_fits : (heap stacks base size : ℕ) → heap + stacks ≤ base + size
    → heap ≤ base + size - stacks
heap_fits heap stacks base size room = omega arith

pub stacks_fill : (space : Allowed) (heap stacks base size : ℕ) → stacks ≡ space.harts * space.stack
    → heap + stacks ≤ base + size
    → base + size - stacks + space.harts * space.stack ≡ base + size
stacks_fill space heap stacks base size s room = ap (λ n. base + size - stacks + n) (sym s)
    ∙ omega arith

-- the image that is put together of a memory and its places
pub placed_so : (file : List ℕ) (space : Allowed) (m : Space) (entry heap base size stacks : ℕ)
    → IsImage (segments_of file) space.memory m → entry ≡ entry_of file → heap
    ≡ heap_start_of (segments_of file)
    → base ≡ m.base → size ≡ size_of m → stacks ≡ space.harts * space.stack
    → heap + stacks ≤ base + size
    → IsImageOf file space (record {
      memory = m;
      entry = entry;
      heap_start = heap;
      heap_end = base + size - stacks;
      top = base + size;
      stack = space.stack;
      harts = space.harts;
    })
placed_so file space m entry heap base size stacks image e h b z s room =
    let first : base ≡ base_of (segments_of file) = b ∙ image.base in
    let extent : size ≡ space.memory = z ∙ image.size in
    record {
      memory = image;
      entry = e;
      heap_start = h;
      top = omega (arith, first, extent);
      heap_end = ap (λ n. base + size - n) s;
      room = omega (arith, room);
      stack = refl;
      harts = refl;
    }

abbrev same_images : Image → Image → Type 0
same_images x y = x ≡ y

-- and it is the image of the file
pub whole_so : (file : List ℕ) (space : Allowed) (m : Space) (entry heap base size stacks : ℕ)
    → IsImage (segments_of file) space.memory m → size_of m ≡ 4096 * length m.pages → entry
    ≡ entry_of file
    → heap ≡ heap_start_of (segments_of file) → base ≡ m.base → size ≡ size_of m → stacks
    ≡ space.harts * space.stack
    → same_images (record {
      memory = m;
      entry = entry;
      heap_start = heap;
      heap_end = base + size - stacks;
      top = base + size;
      stack = space.stack;
      harts = space.harts;
    }) (image_of space file)
whole_so file space m entry heap base size stacks image pages e h b z s =
    rw (
      whole_memory (segments_of file) space.memory m image pages,
      e,
      h,
      s,
      b ∙ image.base,
      z
          ∙ image.size,
    ) refl
