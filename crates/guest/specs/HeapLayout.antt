-- How the live blocks of a heap lie: what the type keeps of its fields.
use Rattle.std.specs.Prelude.{◌≡◌, ℕ, ◌+◌, ◌%◌, ◌≤◌, List, [], ◌∷◌, length, map, slice_index, Option}
use Rattle.std.specs.Option.{option_map}
use Rattle.guest.specs.declared.block_tree.LiveBlock.{LiveBlock}
use Rattle.guest.specs.declared.heap.HeapBlock.{HeapBlock}
use Rattle.guest.specs.Heaps.{lives_at, most_blocks, rounded}
use Rattle.guest.specs.LiveBlocks.{block_at}
use Rattle.objects.specs.Indexes.{IsIndex}

-- the number of the live block at an address, and how many bytes it takes
abbrev pub number_at : List LiveBlock → ℕ → Option ℕ
number_at live addr = option_map (λ b. b.number) (block_at addr live)

abbrev pub bytes_at : List LiveBlock → ℕ → Option ℕ
bytes_at live addr = option_map (λ b. b.bytes) (block_at addr live)

-- how many bytes a block of a list takes
abbrev pub taken_by : List HeapBlock → ℕ → ℕ
taken_by blocks i = rounded (slice_index (map (λ b. b.size) blocks) i)

-- how many bytes the live block at an address takes
abbrev pub taken_at : (ℕ → Option ℕ) → List HeapBlock → ℕ → Option ℕ
taken_at f blocks addr = option_map (taken_by blocks) (f addr)

-- From an address on the heap is a gap, a live block, a gap and so on, up to its end.
abbrev pub IsTiled : ℕ → ℕ → ℕ → List LiveBlock → Type 0
IsTiled at gap end [] = (at % 16 ≡ 0) × (at + gap ≡ end)
IsTiled at gap end (b ∷ bs) =
    (at % 16 ≡ 0) × (at + gap ≡ b.addr) × (16 ≤ b.bytes) × IsTiled (b.addr + b.bytes) b.gap end bs

-- The blocks of a heap, and its live ones in the order of addresses.
pub record IsLaidOut (start gap end : ℕ) (live : List LiveBlock) (blocks : List HeapBlock)
    : Type 0 where
  pub few : length blocks ≤ most_blocks
  pub tiled : IsTiled start gap end live
  pub index : IsIndex lives_at (number_at live) blocks
  pub bytes : (addr : ℕ) → bytes_at live addr ≡ taken_at (number_at live) blocks addr
