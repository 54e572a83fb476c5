use Rattle.std.proofs.Common.{◌+◌, ◌*◌, ◌<◌, ◌≤◌}
use Rattle.detector.specs.Pages.{NoneWritten, directory_entry}
use Rattle.detector.proofs.pages.next_in_directory.Given as goal

-- no line up to the next one to look at was written
abbrev pub invariant-loop-number : goal.invariant-loop-number
invariant-loop-number l = record {
  within : l.place < 64;
  at_or_above : l.from ≤ l.number * 64 + l.place;
  unwritten : NoneWritten (directory_entry l.directory.items) l.from (l.number * 64 + l.place);
}
