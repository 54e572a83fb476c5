-- Lines of one word each.
use Rattle.std.proofs.Common.{refl}
use Rattle.base.specs.Lines.{line_number}
use Rattle.misses.specs.MissCounts.{lines_of}
use Rattle.misses.specs.Laws.Costs.{needed-own_line, word_line-useless}
use Rattle.misses.specs.Laws.WordLines.{layout-keeps, word_lines-part}
use Rattle.misses.proofs.laws.word_lines_waste_nothing.Goals as goal

pub returns-clause-useless : goal.returns-clause-useless
returns-clause-useless c = λ r t.
    word_line-useless (line_number 4 0) r t (layout-keeps 4 0 refl) word_lines-part

pub returns-clause-needed : goal.returns-clause-needed
returns-clause-needed c = λ g r t a good needed.
    needed-own_line (lines_of g) (line_number 4 0) r t a (layout-keeps g.size g.offset good)
    word_lines-part needed
