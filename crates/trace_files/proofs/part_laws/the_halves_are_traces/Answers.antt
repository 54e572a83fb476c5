use Rattle.trace_format.specs.Splits.{begin_split}
use Rattle.trace_files.proofs.HalfTraces.{are_halves, is_whole}
use Rattle.trace_files.proofs.part_laws.the_halves_are_traces.Goals as goal

pub returns-clause-whole : goal.returns-clause-whole
returns-clause-whole c = λ bytes t small is.
    is_whole t (c.a_trace_is_its_spelling.ensures bytes t small is).good

pub returns-clause-halves : goal.returns-clause-halves
returns-clause-halves c = λ at t is plain.
    are_halves at t plain is.good.good
    (c.a_trace_is_cut_in_two.ensures.halves (begin_split t.header t.ending.accesses at).cut t.items
    t.ending is.good.good.inner)
