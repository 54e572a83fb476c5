-- The invalidations of a line from its beginning on, and the counts from a later start.
use Rattle.invalidations.specs.Laws.BlameCounts.{first_write-counts, listed-least}
use Rattle.invalidations.proofs.laws.invalidations_beside_later_counts.Goals as goal

pub returns-clause-first_write : goal.returns-clause-first_write
returns-clause-first_write c = λ l u. (first_write-counts l u).0

pub returns-clause-unwritten : goal.returns-clause-unwritten
returns-clause-unwritten c = λ l u. (first_write-counts l u).1

pub returns-clause-listed : goal.returns-clause-listed
returns-clause-listed c = listed-least
