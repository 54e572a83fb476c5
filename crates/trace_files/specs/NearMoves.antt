-- Moves of a filtered list. A move may bring words together that weren't near, and then accesses
-- that were left out would have mattered. A near table brings none together.
use Rattle.std.specs.Prelude.{ℕ, ◌+◌, ◌-◌, ◌*◌, ◌/◌, ◌^◌, max, min, Bool, not, ◌&&◌, ◌||◌, nat_eq, nat_le}
use Rattle.std.specs.Prelude.{IsTrue, List}
use Rattle.std.specs.List.{All, list_all}
use Rattle.base.specs.Touch.{Touch}
use Rattle.sharing_rules.specs.Filtered.{is_near}
use Rattle.trace_files.specs.Moves.{is_in_place, moved_addr}
use Rattle.trace_files.specs.declared.move_row.Move.{Move}

-- under what a moved list is filtered: lines of at most 256 bytes
abbrev pub moved_near : ℕ → ℕ
moved_near k = min k 8

-- where a byte of the place of a move comes from
abbrev pub origin : Move → ℕ → ℕ
origin m byte = byte - m.to + m.from

-- Each byte of a place that is near an access once it is moved comes from an address that is near
-- it before, whether anybody accesses that byte or not.
abbrev pub IsNearFor : ℕ → List Move → Touch → Type 0
IsNearFor k table a = All (λ m. (byte : ℕ) → IsTrue (is_in_place byte m)
    → IsTrue (is_near (moved_near k) byte (moved_addr table a.addr))
    → IsTrue (is_near k (origin m byte) a.addr)) table

-- a table that is near for a filtered list
abbrev pub IsNearTable : ℕ → List Move → List Touch → Type 0
IsNearTable k table v = All (IsNearFor k table) v

-- ---- the same as a test of bounds

-- the least address that is near x, and the end of those that are
abbrev pub near_from : ℕ → ℕ → ℕ
near_from k x = (x / 2 ^ k - 1) * 2 ^ k

abbrev pub near_end : ℕ → ℕ → ℕ
near_end k x = (x / 2 ^ k + 2) * 2 ^ k

-- the first byte of a place that is near x under c, and the end of those that are: none are where
-- the end isn't above the first
abbrev pub first_beside : ℕ → ℕ → Move → ℕ
first_beside c x m = max m.to (near_from c x)

abbrev pub end_beside : ℕ → ℕ → Move → ℕ
end_beside c x m = min (m.to + m.size) (near_end c x)

-- the first of these bytes and the last come from addresses near the access, if there are any
abbrev pub comes_from_near : ℕ → ℕ → ℕ → Move → Bool
comes_from_near k x addr m =
    let first = first_beside (moved_near k) x m in
    let end = end_beside (moved_near k) x m in
    nat_le end first
    || (is_near k (origin m first) addr && is_near k (origin m (end - 1)) addr)

-- The table isn't near for an access at an address, whether that is moved or not. A list that isn't
-- filtered lacks no access, so that no table is far for it.
unfoldable pub is_far : ℕ → List Move → ℕ → Bool
is_far near table addr =
    not (nat_eq near 0)
    && not (list_all (comes_from_near near (moved_addr table addr) addr) table)
