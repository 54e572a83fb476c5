use Rattle.std.proofs.Common.{◌≡◌, ℕ, ◌<◌, get_or, false}
use Rattle.trace_files.specs.Tables.{is_byte}
use Rattle.trace_files.proofs.move_row.index_of_byte.Given as goal

abbrev pub invariant-loop-place : goal.invariant-loop-place
invariant-loop-place l = (k : ℕ) → k < l.place → is_byte l.code (get_or l.text k 0) ≡ false
