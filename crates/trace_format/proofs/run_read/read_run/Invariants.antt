use Rattle.std.proofs.Common.{◌≡◌, ◌+◌, ◌≤◌, length}
use Rattle.trace_format.specs.Sound.{IsSound}
use Rattle.trace_format.specs.ReaderStates.{HasSameHead, ReadsBut, reading_at}
use Rattle.trace_format.proofs.run_read.read_run.Given as goal

abbrev pub invariant-loop-ahead : goal.invariant-loop-ahead
invariant-loop-ahead l = record {
  sound : IsSound l.progress;
  head : HasSameHead l.progress l.fn.progress;
  fewer : length l.rest ≤ length l.bytes;
  exact : l.progress.place + length l.rest ≡ l.fn.progress.place + length l.bytes;
  read : ReadsBut (reading_at l.fn.progress) l.bytes (reading_at l.progress) l.rest l.fn.into.items
      l.into.items;
}

abbrev pub decreases-loop-ahead : goal.decreases-loop-ahead
decreases-loop-ahead l = length l.rest
