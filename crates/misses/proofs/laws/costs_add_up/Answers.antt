-- What the numbers of a line owe each other.
use Rattle.misses.specs.MissCounts.{lines_of}
use Rattle.misses.specs.Laws.Costs.{alone-costs, cold-needed, costs-ordered, costs-sum}
use Rattle.misses.specs.Laws.WordLines.{layout-keeps}
use Rattle.misses.proofs.laws.costs_add_up.Goals as goal

pub returns-clause-first : goal.returns-clause-first
returns-clause-first c = λ g r t a. cold-needed (lines_of g) r t a

pub returns-clause-cold : goal.returns-clause-cold
returns-clause-cold c = λ g r t good.
    (costs-ordered (lines_of g) r t (layout-keeps g.size g.offset good)).needed

pub returns-clause-needed : goal.returns-clause-needed
returns-clause-needed c = λ g r t good.
    (costs-ordered (lines_of g) r t (layout-keeps g.size g.offset good)).missed

pub returns-clause-sum : goal.returns-clause-sum
returns-clause-sum c = λ g r t good.
    costs-sum (lines_of g) r t (layout-keeps g.size g.offset good)

pub returns-clause-alone : goal.returns-clause-alone
returns-clause-alone c = λ g h r t good alone.
    alone-costs (lines_of g) h r t (layout-keeps g.size g.offset good) alone
