-- The row is there.
use Rattle.layout_sweep.proofs.pages.note_word.Goals as goal

pub note_near-requires-clause-row : goal.note_near-requires-clause-row
note_near-requires-clause-row g c = record {
  near = c.has_row.ensures.near c.if-has_row.true;
  page = c.has_row.ensures.page c.if-has_row.true;
  there = c.has_row.ensures.there c.if-has_row.true;
}
