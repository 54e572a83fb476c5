use Rattle.misses.specs.Rows.{row_of}
use Rattle.misses.specs.Texts.{is_reported}
use Rattle.misses.specs.Laws.Stated.{listed_more}
use Rattle.misses.proofs.text.unsorted.Goals as goal

pub loop-i-preserved : goal.loop-i-preserved
loop-i-preserved c =
    listed_more (row_of c.args.misses.now.grid) is_reported c.args.misses.now.lines c.loop-i.i
    c.row.result c.loop-i.rows.items c.push_reported.new.rows.items (rw c.line_count-i-end.ensures at c.loop-i-test.true)
    c.row.ensures.kept c.loop-i.invariant c.in_ok-push_reported.ensures
