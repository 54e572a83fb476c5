-- Where all are there, none needs to be made.
use Rattle.layout_sweep.proofs.RowLaws.{row-has}
use Rattle.layout_sweep.proofs.pages.make_row.Goals as goal

pub returns-then-has_row-clause-made : goal.returns-then-has_row-clause-made
returns-then-has_row-clause-made c =
    row-has c.args.pages.now.items c.args.word c.args.words (record {
      near = c.has_row.ensures.near c.if-has_row.true;
      page = c.has_row.ensures.page c.if-has_row.true;
      there = c.has_row.ensures.there c.if-has_row.true;
    })
