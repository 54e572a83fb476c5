-- The entries passed are not kept.
use Rattle.std.proofs.Common.{◌≡◌, ℕ, List, map, length, false}
use Rattle.std.specs.List.{list_any, filter_map}
use Rattle.program_files.specs.Symbols.{symbol_entry, symbol_in, has_open_name}
use Rattle.program_files.proofs.symbol.next_kept.Given as goal

abbrev pub invariant-loop-row : goal.invariant-loop-row
invariant-loop-row l =
    ((names : List ℕ) → filter_map (symbol_in names) (map symbol_entry l.fn.rows)
    ≡ filter_map (symbol_in names) (map symbol_entry l.rest))
    × ((names : List ℕ) → list_any (has_open_name names) (map symbol_entry l.fn.rows) ≡ false
    → list_any (has_open_name names) (map symbol_entry l.rest) ≡ false)

abbrev pub decreases-loop-row : goal.decreases-loop-row
decreases-loop-row l = length l.rest
