use Rattle.std.proofs.Common.{◌∙◌, List, subst, sym}
use Rattle.shelf.specs.Files.{Output}
use Rattle.shelf.specs.OnTheirWay.{IsOutputs}
use Rattle.run_recorder.specs.Recording.{touch_records}
use Rattle.run_recorder.proofs.Events.{untraced_all}
use Rattle.run_recorder.proofs.files.put_touches.Goals as goal

pub returns-else-has_trace-clause-outputs : goal.returns-else-has_trace-clause-outputs
returns-else-has_trace-clause-outputs g c = λ bytes before on.
    subst (λ (l : List Output). IsOutputs c.args.outputs.now l before
    (g.S.Shelf.outside c.args.shelf.now))
    (untraced_all c.args.files.now bytes c.args.speller.now.writer
    (touch_records c.args.version c.args.touches.now)
    (sym c.has_trace.ensures ∙ c.if-has_trace.false)) on
