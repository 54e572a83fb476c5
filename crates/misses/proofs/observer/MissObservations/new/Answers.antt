use Rattle.misses.proofs.SeenLaws.{nothing_missed_yet}
use Rattle.misses.proofs.observer.MissObservations.new.Goals as goal

pub returns-clause-begun : goal.returns-clause-begun
returns-clause-begun c = rw (c.new.ensures, c.new-2.ensures) (nothing_missed_yet c.args.layout)
