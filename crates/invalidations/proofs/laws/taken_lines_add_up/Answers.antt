-- Every invalidation of a line is counted once.
use Rattle.invalidations.specs.Laws.BlameKept.{all-shorter}
use Rattle.invalidations.specs.Laws.Sums.{harts-sum, pairs-sum}
use Rattle.invalidations.proofs.laws.taken_lines_add_up.Goals as goal

pub returns-clause-pairs : goal.returns-clause-pairs
returns-clause-pairs c = λ l u. pairs-sum l 0 u

pub returns-clause-harts : goal.returns-clause-harts
returns-clause-harts c = λ l u. harts-sum l 0 u

pub returns-clause-all : goal.returns-clause-all
returns-clause-all c = all-shorter
