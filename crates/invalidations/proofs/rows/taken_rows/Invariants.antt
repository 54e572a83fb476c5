use Rattle.std.proofs.Common.{◌≡◌, take}
use Rattle.invalidations.proofs.rows.taken_rows.Given as goal

abbrev pub invariant-loop-i : goal.invariant-loop-i
invariant-loop-i l = l.rows.items ≡ take l.i l.table.entries
