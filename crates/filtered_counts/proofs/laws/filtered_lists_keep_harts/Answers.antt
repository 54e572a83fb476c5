use Rattle.filtered_counts.specs.Laws.Harts.{filtered-accesses, same-harts, sited-filtered}
use Rattle.filtered_counts.specs.Laws.Harts.{sited-lists}
use Rattle.filtered_counts.proofs.laws.filtered_lists_keep_harts.Goals as goal

pub returns-clause-harts : goal.returns-clause-harts
returns-clause-harts c = λ k g u w within s. same-harts k g within u w s

pub returns-clause-accesses : goal.returns-clause-accesses
returns-clause-accesses c = λ k u w s. sited-lists k u w s

pub returns-clause-filtered : goal.returns-clause-filtered
returns-clause-filtered c = λ k u. sited-filtered k u

pub returns-clause-same : goal.returns-clause-same
returns-clause-same c = λ k u. filtered-accesses k u
