use Rattle.std.proofs.Common.{sym, ◌∙◌}
use Rattle.trace_format.proofs.Endings.{end_is_of_trace, fault_is_of_bytes, trace_has_end}
use Rattle.trace_format.proofs.reader.TraceReader.finish.Goals as goal

pub returns-clause-trace : goal.returns-clause-trace
returns-clause-trace c = λ bytes first items e small has is.
    end_is_of_trace c.args.self.now bytes first items e has
    (c.what_is_read_was_spelled.ensures.trace_found bytes e small)
    (sym c.ending_so_far.ensures ∙ is)

pub returns-clause-whole : goal.returns-clause-whole
returns-clause-whole c = λ bytes first items e has reads. c.ending_so_far.ensures
    ∙ trace_has_end c.args.self.now bytes first items e has
    reads

pub returns-clause-fault : goal.returns-clause-fault
returns-clause-fault c = λ bytes first items f small has is.
    fault_is_of_bytes c.args.self.now bytes first items has f
    (c.where_the_first_fault_stands.ensures.stands bytes f small)
    (sym c.ending_so_far.ensures ∙ is)
