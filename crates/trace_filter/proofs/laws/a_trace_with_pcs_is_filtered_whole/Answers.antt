use Rattle.trace_filter.proofs.Accepted.{accepts, found, whole}
use Rattle.trace_filter.proofs.laws.a_trace_with_pcs_is_filtered_whole.Goals as goal

pub returns-clause-accepted : goal.returns-clause-accepted
returns-clause-accepted c = accepts

pub returns-clause-found : goal.returns-clause-found
returns-clause-found c = found

pub returns-clause-whole : goal.returns-clause-whole
returns-clause-whole c = whole
