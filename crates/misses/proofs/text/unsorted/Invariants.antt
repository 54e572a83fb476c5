use Rattle.std.proofs.Common.{◌≡◌, take, map, filter}
use Rattle.misses.specs.Rows.{row_of}
use Rattle.misses.specs.Texts.{is_reported}
use Rattle.misses.proofs.text.unsorted.Given as goal

abbrev pub invariant-loop-i : goal.invariant-loop-i
invariant-loop-i l = l.rows.items
    ≡ filter is_reported (map (row_of l.misses.grid) (take l.i l.misses.lines))
