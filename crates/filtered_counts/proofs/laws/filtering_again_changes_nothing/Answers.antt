use Rattle.filtered_counts.specs.Laws.Witnesses.{filtered-same, filtered-twice, kept-witness}
use Rattle.filtered_counts.specs.Laws.Witnesses.{same-redundant}
use Rattle.filtered_counts.proofs.laws.filtering_again_changes_nothing.Goals as goal

pub returns-clause-witness : goal.returns-clause-witness
returns-clause-witness c = λ k t a le e. kept-witness k t le a e

pub returns-clause-next : goal.returns-clause-next
returns-clause-next c = λ k t v a le w. same-redundant k t v le w a

pub returns-clause-same : goal.returns-clause-same
returns-clause-same c = λ k t v le w. filtered-same k t v le w

pub returns-clause-twice : goal.returns-clause-twice
returns-clause-twice c = λ k t le. filtered-twice k t le
