-- What is in memory, and what is left to be put there, make up the image.
use Rattle.std.proofs.Common.{length}
use Rattle.program_files.proofs.Placing.{Placed}
use Rattle.program_files.proofs.image.put_segments.Given as goal

abbrev pub invariant-loop-segment : goal.invariant-loop-segment
invariant-loop-segment l = Placed l.initial.segments l.fn.memory l.segments l.memory

abbrev pub decreases-loop-segment : goal.decreases-loop-segment
decreases-loop-segment l = length l.segments
