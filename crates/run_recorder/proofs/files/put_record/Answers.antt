use Rattle.std.proofs.Common.{◌∙◌, List, subst, sym}
use Rattle.shelf.specs.Files.{Output}
use Rattle.shelf.specs.OnTheirWay.{IsOutputs}
use Rattle.run_recorder.proofs.Events.{untraced}
use Rattle.run_recorder.proofs.files.put_record.Goals as goal

pub returns-else-has_trace-clause-outputs : goal.returns-else-has_trace-clause-outputs
returns-else-has_trace-clause-outputs g c = λ bytes before on.
    subst (λ (l : List Output). IsOutputs c.args.outputs.now l before
    (g.S.Shelf.outside c.args.shelf.now))
    (untraced c.args.files.now bytes c.args.speller.now.writer c.args.item.now
    (sym c.has_trace.ensures ∙ c.if-has_trace.false)) on
