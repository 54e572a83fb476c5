use Rattle.std.proofs.Common.{◌+◌, ◌*◌, ◌<◌, ◌≤◌}
use Rattle.detector.specs.Pages.{NoneWritten}
use Rattle.detector.specs.PagedEntries.{paged_entry}
use Rattle.detector.proofs.paged_index.PagedIndexLineIndex.next_from.Given as goal

-- no line up to the next one to look at was written
abbrev pub invariant-loop-number : goal.invariant-loop-number
invariant-loop-number l = record {
  within : l.place < 262144;
  at_or_above : l.line ≤ l.number * 262144 + l.place;
  unwritten : NoneWritten (paged_entry l.self) l.line (l.number * 262144 + l.place);
}
