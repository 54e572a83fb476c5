-- The victim of an invalidation.
use Rattle.invalidations.specs.Laws.Invalidations.{has-victim}
use Rattle.invalidations.proofs.laws.victims_hold_the_line.Goals as goal

pub returns : goal.returns
returns c = λ l start before s taken. has-victim l start before s taken
