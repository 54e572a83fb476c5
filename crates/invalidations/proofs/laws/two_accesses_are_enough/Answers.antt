-- Two accesses determine every victim.
use Rattle.invalidations.specs.Laws.Two.{held-two, victim-two}
use Rattle.invalidations.proofs.laws.two_accesses_are_enough.Goals as goal

pub returns-clause-victim : goal.returns-clause-victim
returns-clause-victim c = victim-two

pub returns-clause-held : goal.returns-clause-held
returns-clause-held c = held-two
