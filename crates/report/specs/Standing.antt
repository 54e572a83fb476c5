-- What stands on a line: a symbol or a heap block whose bytes meet the line's range, a block while
-- both live.
use Rattle.std.specs.Prelude.{ℕ, ◌+◌, ◌<◌, ◌≤◌, pos, ◌+ℤ◌, int_lt, max, min, nat_lt, Bool, ◌&&◌}
use Rattle.std.specs.Prelude.{IsTrue, Option, None, Some, IfSome}
use Rattle.objects.specs.declared.block.Block.{Block}
use Rattle.base.specs.declared.layout.Range.{Range}
use Rattle.base.specs.Ranges.{holds_address}

-- some address of the bytes from `addr` on is in the range
pub record SymbolStands (r : Range) (addr size : ℕ) : Type 0 where
  pub at : ℕ
  pub begins : addr ≤ at
  pub ends : at < addr + size
  pub holds : IsTrue (holds_address r at)

-- at some position from a start up to an end a block is born and has not died
pub record LivesBetween (start end : ℕ) (b : Block) : Type 0 where
  pub position : ℕ
  pub from : start ≤ position
  pub before : position < end
  pub born : b.born ≤ position
  pub alive : IfSome b.died (λ died. position < died)

-- a block stands on a line that is kept from a start up to an end
pub record BlockStands (r : Range) (start end : ℕ) (b : Block) : Type 0 where
  pub meets : SymbolStands r b.addr b.size
  pub lives : LivesBetween start end b

-- the same as tests
abbrev pub symbol_stands : Range → ℕ → ℕ → Bool
symbol_stands r addr size =
    nat_lt 0 size
    && (nat_lt 0 r.size
    && (int_lt (pos addr) (r.base +ℤ pos r.size) && int_lt r.base (pos addr +ℤ pos size)))

-- up to which position a block is kept
abbrev pub last_position : Option ℕ → ℕ → ℕ
last_position None end = end
last_position (Some died) end = min died end

abbrev pub block_stands : Range → ℕ → ℕ → Block → Bool
block_stands r start end b =
    symbol_stands r b.addr b.size && nat_lt (max b.born start) (last_position b.died end)
