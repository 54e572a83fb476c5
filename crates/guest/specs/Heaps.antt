-- The guest's heap: a range of addresses, and all blocks that were ever made in it, live or dead.
use Rattle.std.specs.Prelude.{ℕ, ◌+◌, ◌*◌, ◌/◌, ◌%◌, ◌^◌, ◌≤◌, max, List, [], ◌∷◌, ◌++◌}
use Rattle.std.specs.Prelude.{length, map, Bool, true, false, not, ◌&&◌, ◌==◌, nat_le, nat_lt}
use Rattle.std.specs.Prelude.{IsTrue, IsFalse, Option, Some, None, if◌then◌else◌}
use Rattle.std.specs.List.{list_any}
use Rattle.guest.specs.declared.heap.HeapBlock.{HeapBlock}

-- the blocks in order of making
pub record Heap : Type 0 where
  pub start : ℕ
  pub end : ℕ
  pub blocks : List HeapBlock

-- how many blocks a heap ever makes
abbrev pub most_blocks : ℕ
most_blocks = 2 ^ 20

-- how many bytes a block of a size takes: a multiple of 16, at least 16
abbrev pub rounded : ℕ → ℕ
rounded size = max 16 ((size + 15) / 16 * 16)

-- whether two ranges of bytes, each with its first address and its size, have an address in common
abbrev pub do_meet : ℕ → ℕ → ℕ → ℕ → Bool
do_meet a m b n = nat_lt a (b + n) && nat_lt b (a + m)

-- whether a block of a size can be made at a place
abbrev pub can_stand : Heap → ℕ → ℕ → Bool
can_stand h size place =
    nat_lt (length h.blocks) most_blocks
    && (place % 16 == 0)
    && nat_le h.start place
    && nat_le (place + rounded size) h.end
    && not (list_any (λ b. b.live && do_meet place (rounded size) b.addr (rounded b.size)) h.blocks)

-- a block of the size can be made there, and at no lesser place
abbrev pub IsLeastPlace : Heap → ℕ → ℕ → Type 0
IsLeastPlace h size place =
    IsTrue (can_stand h size place) × ((q : ℕ) → IsTrue (can_stand h size q) → place ≤ q)

abbrev pub HasNoPlace : Heap → ℕ → Type 0
HasNoPlace h size = (q : ℕ) → IsFalse (can_stand h size q)

-- a heap once a block of a size is made at a place, if there is one
abbrev pub after_alloc : Heap → ℕ → Option ℕ → Heap
after_alloc h size None = h
after_alloc h size (Some place) =
    record h { blocks = h.blocks ++ record { addr = place; size = size; live = true } ∷ [] }

-- whether a block begins at an address and lives
abbrev pub lives_at : ℕ → HeapBlock → Bool
lives_at addr b = b.live && (b.addr == addr)

-- a heap once the live block at an address, if there is one, died
abbrev pub after_free : Heap → ℕ → Heap
after_free h addr =
    record h {
      blocks = map (λ b. if lives_at addr b then record b { live = false } else b) h.blocks;
    }
