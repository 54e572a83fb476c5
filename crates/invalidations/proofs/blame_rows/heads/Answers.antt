use Rattle.misses.specs.Laws.Stated.{listed_more}
use Rattle.invalidations.specs.BlameRows.{has_invalidations, head_of}
use Rattle.invalidations.proofs.blame_rows.heads.Goals as goal

pub loop-i-preserved : goal.loop-i-preserved
loop-i-preserved c =
    listed_more (head_of c.args.layout) has_invalidations c.args.lines.now.entries c.loop-i.i
    c.head_at.result c.loop-i.heads.items c.push_head.new.heads.items
    (rw c.len-i-end.ensures.len at c.loop-i-test.true) c.head_at.ensures c.loop-i.invariant
    c.in_ok-push_head.ensures
