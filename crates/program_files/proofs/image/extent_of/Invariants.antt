-- What was seen and what is left make up all segments.
use Rattle.std.proofs.Common.{◌≡◌, ◌≤◌, ◌^◌, min, max, length}
use Rattle.program_files.specs.Images.{least, greatest_end}
use Rattle.program_files.proofs.image.extent_of.Given as goal

abbrev pub invariant-loop-segment : goal.invariant-loop-segment
invariant-loop-segment l =
    (min l.first (least l.segments) ≡ least l.initial.segments)
    × (max l.end (greatest_end l.segments) ≡ greatest_end l.initial.segments)
    × (l.first ≤ 2 ^ 32) × (l.end ≤ 2 ^ 33)

abbrev pub decreases-loop-segment : goal.decreases-loop-segment
decreases-loop-segment l = length l.segments
