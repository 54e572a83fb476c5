-- What is found of a line has its count since its start.
use Rattle.invalidations.specs.Latest.{accesses_of}
use Rattle.invalidations.specs.Laws.Listed.{listed-counted}
use Rattle.invalidations.proofs.laws.listed_counts_are_invalidations.Goals as goal

pub returns : goal.returns
returns c = λ g v u f m. listed-counted g v (accesses_of u) f m
