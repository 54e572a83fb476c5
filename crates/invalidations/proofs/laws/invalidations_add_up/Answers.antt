-- Every invalidation is counted once.
use Rattle.invalidations.specs.Laws.Sums.{harts-sum, pairs-sum, invalidations-counted}
use Rattle.invalidations.proofs.laws.invalidations_add_up.Goals as goal

pub returns-clause-invalidations : goal.returns-clause-invalidations
returns-clause-invalidations c = invalidations-counted

pub returns-clause-pairs : goal.returns-clause-pairs
returns-clause-pairs c = pairs-sum

pub returns-clause-harts : goal.returns-clause-harts
returns-clause-harts c = harts-sum
