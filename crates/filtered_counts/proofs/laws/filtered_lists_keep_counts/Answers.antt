use Rattle.filtered_counts.specs.Laws.Same.{same-counts, same-sweep}
use Rattle.filtered_counts.specs.Laws.Witnesses.{filtered-without}
use Rattle.filtered_counts.proofs.laws.filtered_lists_keep_counts.Goals as goal

pub returns-clause-counts : goal.returns-clause-counts
returns-clause-counts c = λ k g t v within w. same-counts k g within t v w

pub returns-clause-sweep : goal.returns-clause-sweep
returns-clause-sweep c = λ k t v w. same-sweep k t v w

pub returns-clause-filtered : goal.returns-clause-filtered
returns-clause-filtered c = λ k t. filtered-without k t
