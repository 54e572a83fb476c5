use Rattle.trace_passes.specs.Laws.Passes.{trace-ending}
use Rattle.trace_passes.proofs.Spelled.{spelled_as}
use Rattle.trace_passes.proofs.laws.a_trace_is_its_spelling.Goals as goal

pub returns : goal.returns
returns c = λ bytes t small is.
    spelled_as bytes t (c.what_is_read_was_spelled.ensures.trace_found bytes t.ending small
    (trace-ending bytes t is)) is
