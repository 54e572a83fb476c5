-- The rows passed are no segments.
use Rattle.std.proofs.Common.{◌≡◌, ℕ, List, map, filter, length, false}
use Rattle.std.specs.List.{list_any}
use Rattle.program_files.specs.Programs.{program_header, is_segment, is_outside}
use Rattle.program_files.proofs.program.next_segment.Given as goal

abbrev pub invariant-loop-row : goal.invariant-loop-row
invariant-loop-row l =
    (filter is_segment (map program_header l.fn.rows)
    ≡ filter is_segment (map program_header l.rest))
    × ((file : List ℕ) → list_any (is_outside file) (map program_header l.fn.rows) ≡ false
    → list_any (is_outside file) (map program_header l.rest) ≡ false)

abbrev pub decreases-loop-row : goal.decreases-loop-row
decreases-loop-row l = length l.rest
