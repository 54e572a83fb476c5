use Rattle.std.proofs.Common.{◌≡◌, take}
use Rattle.invalidations.specs.BlameRows.{heads_of}
use Rattle.invalidations.proofs.blame_rows.heads.Given as goal

abbrev pub invariant-loop-i : goal.invariant-loop-i
invariant-loop-i l = l.heads.items ≡ heads_of l.layout (take l.i l.lines.entries)
