use Rattle.placement.specs.Laws.Groups.{line-sized}
use Rattle.placement.specs.Laws.MovedCounts.{place_alone, place_line}
use Rattle.placement.proofs.laws.a_harts_lines_count_nothing.Goals as goal

pub returns-clause-alone : goal.returns-clause-alone
returns-clause-alone c = λ n e t i h sized within low is.
    place_alone n e t i h (line-sized n sized) within low is

pub returns-clause-nothing : goal.returns-clause-nothing
returns-clause-nothing c = λ n e t i h sized within low is.
    place_line n e t i h (line-sized n sized) within low is
