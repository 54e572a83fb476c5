use Rattle.layout_sweep.specs.Laws.Listed.{listed-lines, listed-total}
use Rattle.layout_sweep.proofs.laws.what_is_counted_is_listed.Goals as goal

pub returns-clause-lines : goal.returns-clause-lines
returns-clause-lines c = λ g t. listed-lines g t

pub returns-clause-total : goal.returns-clause-total
returns-clause-total c = λ g t. listed-total g t
