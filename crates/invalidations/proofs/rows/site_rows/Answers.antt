use Rattle.std.proofs.Common.{sym}
use Rattle.invalidations.proofs.TextLaws.{rows_more}
use Rattle.invalidations.proofs.rows.site_rows.Goals as goal

pub loop-i-preserved : goal.loop-i-preserved
loop-i-preserved c =
    rows_more c.args.sites.now.entries c.loop-i.rows.items c.push.new.self.items c.loop-i.i
    (c.in-Some.pc.now, c.in-Some.word.now) (sym c.in-Some.ensures.entry) c.loop-i.invariant
    c.in_ok-push-in-Some.ensures.items
