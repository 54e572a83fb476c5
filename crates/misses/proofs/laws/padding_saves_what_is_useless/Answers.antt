-- A line beside the own lines of its words.
use Rattle.std.proofs.Common.{arith}
use Rattle.misses.specs.MissCounts.{lines_of}
use Rattle.misses.specs.Laws.WordLines.{layout-keeps}
use Rattle.misses.specs.Laws.WordsApart.{apart-missed, needed-apart, saved-apart}
use Rattle.misses.proofs.laws.padding_saves_what_is_useless.Goals as goal

pub returns-clause-needed : goal.returns-clause-needed
returns-clause-needed c = λ g r t good.
    needed-apart (lines_of g) r t (layout-keeps g.size g.offset good)

pub returns-clause-missed : goal.returns-clause-missed
returns-clause-missed c = λ g r t. apart-missed (lines_of g) r t

pub returns-clause-saved : goal.returns-clause-saved
returns-clause-saved c = λ g r t good.
    saved-apart (lines_of g) r t (layout-keeps g.size g.offset good)

pub returns-clause-bounded : goal.returns-clause-bounded
returns-clause-bounded c = λ g r t good.
    let all = saved-apart (lines_of g) r t (layout-keeps g.size g.offset good) in
    omega (arith, all)
