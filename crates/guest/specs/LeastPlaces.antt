-- Where the heap has room for a block.
use Rattle.std.specs.Prelude.{ℕ, zero, suc, Bool, [], Option, Some, None, if◌then◌else◌}
use Rattle.std.specs.Option.{option_or}
use Rattle.guest.specs.Heaps.{Heap, can_stand}

-- a heap without blocks
abbrev pub heap_over : ℕ → ℕ → Heap
heap_over start end = record { start = start; end = end; blocks = [] }

-- the least number below n that passes
abbrev pub least_below : (ℕ → Bool) → ℕ → Option ℕ
least_below p zero = None
least_below p (suc n) = option_or (least_below p n) (if p n then Some n else None)

-- the least place of a heap at which a block of a size can be made
unfoldable pub least_place : Heap → ℕ → Option ℕ
least_place h size = least_below (can_stand h size) h.end
