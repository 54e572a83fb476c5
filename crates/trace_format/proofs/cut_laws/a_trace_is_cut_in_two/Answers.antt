use Rattle.trace_format.proofs.Cuts.{cut_in_two, halves_grow}
use Rattle.trace_format.proofs.cut_laws.a_trace_is_cut_in_two.Goals as goal

pub returns-clause-halves : goal.returns-clause-halves
returns-clause-halves c = λ cut items e inner. cut_in_two cut items e inner

pub returns-clause-grows : goal.returns-clause-grows
returns-clause-grows c = λ cut seen item. halves_grow cut seen item
