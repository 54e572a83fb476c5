-- The segments passed are not executable there.
use Rattle.std.proofs.Common.{◌≡◌, length}
use Rattle.std.specs.List.{list_any}
use Rattle.program_files.specs.Images.{runs_at}
use Rattle.program_files.proofs.image.some_runs_at.Given as goal

abbrev pub invariant-loop-segment : goal.invariant-loop-segment
invariant-loop-segment l = list_any (runs_at l.addr) l.segments
    ≡ list_any (runs_at l.addr) l.initial.segments

abbrev pub decreases-loop-segment : goal.decreases-loop-segment
decreases-loop-segment l = length l.segments
