use Rattle.trace_filter.proofs.FilterLaws.{filtered_items-push, filtered_touches}
use Rattle.trace_filter.proofs.laws.a_filtered_trace_has_the_filtered_list.Goals as goal

pub returns-clause-accesses : goal.returns-clause-accesses
returns-clause-accesses c = filtered_touches

pub returns-clause-next : goal.returns-clause-next
returns-clause-next c = filtered_items-push
