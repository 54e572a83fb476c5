-- One segment more is placed.
use Rattle.program_files.specs.SegmentViews.{segment_shown}
use Rattle.program_files.proofs.Placing.{placed_step}
use Rattle.program_files.proofs.image.put_segments.Goals as goal

pub loop-segment-preserved : goal.loop-segment-preserved
loop-segment-preserved c =
    placed_step c.args.segments c.args.memory.now c.loop-segment.memory c.put_segment.new.memory
    (segment_shown c.in-Some.segment)
    c.loop-segment.segments c.next.new.self
    c.in-Some.ensures.steps c.loop-segment.invariant c.put_segment.ensures.base
    c.put_segment.ensures.size c.put_segment.ensures.bytes
    c.put_segment.ensures.pages
