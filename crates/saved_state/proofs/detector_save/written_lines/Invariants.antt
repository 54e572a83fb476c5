use Rattle.std.proofs.Common.{◌+◌, ◌-◌, ◌≤◌, ◌^◌}
use Rattle.saved_state.specs.Counted.{AreCounted, AreInRange, count_below}
use Rattle.detector.specs.Counts.{count_at}
use Rattle.saved_state.proofs.detector_save.written_lines.Given as goal

-- the written lines below `from`
abbrev pub invariant-loop-number : goal.invariant-loop-number
invariant-loop-number g l = record {
  counted : AreCounted (count_below l.from (count_at l.detector.writes)) l.lines.items;
  in_range : AreInRange l.lines.items;
  from : l.from ≤ 2 ^ 30 + 1;
}

abbrev pub decreases-loop-number : goal.decreases-loop-number
decreases-loop-number g l = 2 ^ 30 + 1 - l.from
