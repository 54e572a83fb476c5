use Rattle.std.proofs.Common.{List, subst, sym}
use Rattle.shelf.specs.Files.{Output}
use Rattle.shelf.specs.OnTheirWay.{IsOutputs}
use Rattle.shelf.specs.Laws.Files.{outputs_with-nothing}
use Rattle.run_recorder.proofs.files.put_spelled_into.Goals as goal

pub returns-in-Trace-clause-outputs : goal.returns-in-Trace-clause-outputs
returns-in-Trace-clause-outputs g c = rw c.in-Trace.is c.put_bytes.ensures.outputs

pub returns-in-Trace-clause-cut : goal.returns-in-Trace-clause-cut
returns-in-Trace-clause-cut g c = rw c.in-Trace.is c.put_bytes.ensures.cut

pub returns-in-Output-clause-outputs : goal.returns-in-Output-clause-outputs
returns-in-Output-clause-outputs g c =
    rw c.in-Output.is
    (λ all before on.
    subst (λ (l : List Output). IsOutputs c.args.outputs.now l before
    (g.S.Shelf.outside c.args.shelf.now)) (sym (outputs_with-nothing all c.args.place)) on)
