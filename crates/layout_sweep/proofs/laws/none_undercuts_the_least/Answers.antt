use Rattle.layout_sweep.specs.Laws.Least.{least-lowest}
use Rattle.layout_sweep.proofs.laws.none_undercuts_the_least.Goals as goal

pub returns : goal.returns
returns c = λ n t x e. least-lowest n t x e
