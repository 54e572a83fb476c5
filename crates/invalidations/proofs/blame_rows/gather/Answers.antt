use Rattle.std.proofs.Common.{sym}
use Rattle.invalidations.proofs.BlameLaws.{gathered_more}
use Rattle.invalidations.proofs.blame_rows.gather.Goals as goal

pub loop-i-preserved : goal.loop-i-preserved
loop-i-preserved c =
    gathered_more c.args.table.now.entries c.loop-i.gathered.entries
    c.push_row.new.gathered.entries c.loop-i.i (c.in-Some.key.now, c.in-Some.taken.now)
    c.from-line.result (sym c.in-Some.ensures.entry) c.from-line.ensures c.loop-i.invariant
    c.in_ok-push_row-in-Some.ensures
