-- The text, and the lines of the segments that are left, make up the whole.
use Rattle.std.proofs.Common.{◌≡◌, ◌++◌, length, string_bytes}
use Rattle.std.specs.List.{flat_map}
use Rattle.program_files.specs.Summaries.{segment_text}
use Rattle.program_files.proofs.summaries.segment_lines.Given as goal

abbrev pub invariant-loop-segment : goal.invariant-loop-segment
invariant-loop-segment l = string_bytes l.text ++ flat_map segment_text l.segments
    ≡ flat_map segment_text l.initial.segments

abbrev pub decreases-loop-segment : goal.decreases-loop-segment
decreases-loop-segment l = length l.segments
