use Rattle.finite_cache.specs.CacheState.{row_kept}
use Rattle.finite_cache.specs.Texts.{is_reported}
use Rattle.misses.specs.Laws.Stated.{listed_more}
use Rattle.finite_cache.proofs.text.unsorted.Goals as goal

pub loop-i-preserved : goal.loop-i-preserved
loop-i-preserved c =
    listed_more (row_kept c.args.caches.now.shape c.args.caches.now.parts.lines) is_reported
    c.args.caches.now.parts.rows c.loop-i.i c.row.result c.loop-i.rows.items
    c.push_reported.new.rows.items (rw c.row_count-i-end.ensures.kept at c.loop-i-test.true)
    c.row.ensures.kept c.loop-i.invariant c.in_ok-push_reported.ensures
