-- How the moves of a table are kept, so that one is found by an address.
use Rattle.std.specs.Prelude.{◌≡◌, ℕ, ◌+◌, ◌<◌, ◌≤◌, Bool, not, ◌&&◌, nat_lt, List, map}
use Rattle.std.specs.List.{All, AllPairs, list_all}
use Rattle.trace_files.specs.Tables.{IsTable}
use Rattle.trace_files.specs.declared.move_row.Move.{Move}

-- the way back: from the place to the range
abbrev pub turned : Move → Move
turned m = record { from = m.to; size = m.size; to = m.from }

-- where the range ends
abbrev pub end_of : Move → ℕ
end_of m = m.from + m.size

-- each range has bytes, and begins at or above the end of each one before it
pub record AreRising (rows : List Move) : Type 0 where
  pub some : All (λ m. 0 < m.size) rows
  pub order : AllPairs (λ a b. end_of a ≤ b.from) rows

-- two ranges have a byte in common
abbrev pub cross : Move → Move → Bool
cross a b = nat_lt a.from (end_of b) && nat_lt b.from (end_of a)

-- a range crosses none of these
abbrev pub crosses_none : List Move → Move → Bool
crosses_none rows m = list_all (λ e. not (cross e m)) rows

-- The moves are a table, and beside them stand the ways back, in their own order.
pub record AreKept (rows places : List Move) : Type 0 where
  pub table : IsTable rows
  pub rising : AreRising places
  pub same : (test : Move → Bool) → list_all test places ≡ list_all test (map turned rows)
