use Rattle.std.proofs.Common.{◌++◌, ◌∙◌}
use Rattle.std.proofs.lemmas.List.{take-append-drop}
use Rattle.trace_format.specs.Rules.{touches_in}
use Rattle.trace_format.specs.Splits.{begin_split}
use Rattle.trace_passes.specs.Laws.Passes.{trace-parts}
use Rattle.trace_files.proofs.copy_laws.the_halves_have_the_accesses_of_the_whole.Goals as goal

pub returns-clause-accesses : goal.returns-clause-accesses
returns-clause-accesses c = λ at bytes t is.
    let cut = (begin_split t.header t.ending.accesses at).cut in
    let two = c.a_trace_is_cut_in_two.ensures.halves cut t.items t.ending
    (trace-parts bytes t is).inner in
    (λ i. two.first i ++ two.second i) ∙ take-append-drop cut (touches_in t.items)

pub returns-clause-records : goal.returns-clause-records
returns-clause-records c = λ at bytes t is.
    let cut = (begin_split t.header t.ending.accesses at).cut in
    (c.a_trace_is_cut_in_two.ensures.halves cut t.items t.ending
    (trace-parts bytes t is).inner).whole
