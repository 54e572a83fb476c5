-- Heap blocks with their lives. A block lives from the position of its birth up to that of its
-- death, if it died.
use Rattle.std.specs.Prelude.{ℕ, List, [], ◌∷◌, ◌++◌, map, Bool, ◌&&◌, ◌==◌, if◌then◌else◌}
use Rattle.std.specs.Prelude.{Some, None, is_none, ◌≡◌, false}
use Rattle.std.specs.List.{AllPairs, list_any}
use Rattle.objects.specs.declared.block.Block.{Block}

-- whether a block begins at an address and lives
abbrev pub is_live_at : ℕ → Block → Bool
is_live_at addr b = is_none b.died && (b.addr == addr)

-- whether two blocks both live, at one address
abbrev pub live_together : Block → Block → Bool
live_together a b = is_none b.died && is_live_at b.addr a

-- whether a block lives at the address of a live one of a list
abbrev pub meets_live : List Block → Block → Bool
meets_live blocks b = list_any (λ a. live_together a b) blocks

-- at most one block lives at an address
abbrev pub NoTwoLive : List Block → Type 0
NoTwoLive blocks = AllPairs (λ a b. live_together a b ≡ false) blocks

-- the blocks once the live one at an address, if there is one, died at a position
abbrev pub blocks_after_free : List Block → ℕ → ℕ → List Block
blocks_after_free blocks position addr =
    map (λ b. if is_live_at addr b then record b { died = Some position } else b) blocks

-- a block that is born at a position
abbrev pub newborn : ℕ → ℕ → ℕ → List ℕ → Block
newborn position addr size sites =
    record { addr = addr; size = size; sites = sites; born = position; died = None }

-- the blocks once one is made: a live one of its address dies first
abbrev pub blocks_after_alloc : List Block → ℕ → ℕ → ℕ → List ℕ → List Block
blocks_after_alloc blocks position addr size sites =
    blocks_after_free blocks position addr ++ newborn position addr size sites ∷ []
