use Rattle.std.proofs.Common.{◌≡◌, ℕ, ◌-◌, ◌<◌, ◌≤◌, ◌^◌}
use Rattle.detector_tests.specs.MapEntries.{map_entry}
use Rattle.detector_tests.proofs.map_index.MapIndexLineIndex.next_from.Given as goal

-- no line from the given one up to `from` was written
abbrev pub invariant-loop-from : goal.invariant-loop-from
invariant-loop-from l = record {
  at_or_above : l.line ≤ l.from;
  unwritten : (q : ℕ) → l.line ≤ q → q < l.from → (map_entry l.self q).writes ≡ 0;
}

abbrev pub decreases-loop-from : goal.decreases-loop-from
decreases-loop-from l = 2 ^ 31 - l.from
