use Rattle.std.proofs.Common.{◌∙◌, ap, sym}
use Rattle.saved_state.specs.Laws.Reading.{read_is_spelled}
use Rattle.saved_state.specs.Resuming.{resumption_in}
use Rattle.saved_state.specs.Saving.{state_of}
use Rattle.saved_state.proofs.ListLaws.{resumed_from}
use Rattle.saved_state.proofs.detector_resume.resume_detector.Goals as goal

pub read_parts-requires-clause-header : goal.read_parts-requires-clause-header
read_parts-requires-clause-header g c = sym c.in-Some.ensures.value

pub returns-in-Err-clause-refused : goal.returns-in-Err-clause-refused
returns-in-Err-clause-refused g c = λ memory.
    ap (λ n. resumption_in n c.args.part.now) (sym c.in-Some.ensures.levels)
    ∙ c.in-Err.ensures.refused memory

pub returns-in-Ok-clause-resumed : goal.returns-in-Ok-clause-resumed
returns-in-Ok-clause-resumed g c =
    ap (λ n. resumption_in n c.args.part.now) (sym c.in-Some.ensures.levels)
    ∙ c.in-Ok.ensures.resumed

pub returns-in-Ok-clause-spelled : goal.returns-in-Ok-clause-spelled
returns-in-Ok-clause-spelled g c =
    read_is_spelled c.args.part.now (state_of c.in-Some.header.harts c.read_parts.new.detector)
    c.in-Ok.used c.in-Ok.ensures.state

pub returns-in-Ok-clause-of_list : goal.returns-in-Ok-clause-of_list
returns-in-Ok-clause-of_list g c = λ grid v harts t more may is.
    resumed_from c.args.part.now more grid v harts t c.read_parts.new.detector
    c.in-Some.header.harts c.in-Ok.used
    c.in-Ok.ensures.state may is
