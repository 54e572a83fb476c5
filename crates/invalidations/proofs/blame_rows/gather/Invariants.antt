use Rattle.std.proofs.Common.{◌≡◌, ℕ, take}
use Rattle.invalidations.specs.BlameKept.{rows_in}
use Rattle.invalidations.specs.BlameRows.{gathered_at}
use Rattle.invalidations.proofs.blame_rows.gather.Given as goal

abbrev pub invariant-loop-i : goal.invariant-loop-i
invariant-loop-i l =
    (r : ℕ) → gathered_at l.gathered.entries r ≡ rows_in r (take l.i l.table.entries)
