use Rattle.std.proofs.Common.{◌≡◌, ◌++◌, ◌∙◌, ℕ, List, ap}
use Rattle.shelf.specs.declared.shelf.ShelfError.TheVariants.{NoMemory}
use Rattle.shelf.specs.OnTheirWay.{outputs_with}
use Rattle.shelf.specs.Laws.Files.{AreCut-longer, GoOn-with, IsOutputs-cut}
use Rattle.trace_format.specs.Spelling.{spell_record}
use Rattle.trace_files.proofs.trace_outputs.TraceOutputs.put_record.Goals as goal

pub returns-in-Ok-clause-outputs : goal.returns-in-Ok-clause-outputs
returns-in-Ok-clause-outputs g c =
    let w = c.args.writer.now in
    let bytes = spell_record w.version w.before c.args.item.now in
    let is : c.deref.result.now ≡ bytes =
    c.deref.ensures.value ∙ c.in-Ok.ensures.ok
    ∙ ap (λ (l : List ℕ). l ++ bytes) c.clear.ensures.items in
    rw (← c.self.view_is, ← is) c.put.ensures.outputs

pub returns-in-Ok-clause-cut : goal.returns-in-Ok-clause-cut
returns-in-Ok-clause-cut g c =
    let w = c.args.writer.now in
    let bytes = spell_record w.version w.before c.args.item.now in
    let is : c.deref.result.now ≡ bytes =
    c.deref.ensures.value ∙ c.in-Ok.ensures.ok
    ∙ ap (λ (l : List ℕ). l ++ bytes) c.clear.ensures.items in
    rw (← c.self.view_is, ← is) c.put.ensures.cut

pub returns-in-Err-clause-cut : goal.returns-in-Err-clause-cut
returns-in-Err-clause-cut g c = λ outputs before on.
    let w = c.args.writer.now in
    let bytes = spell_record w.version w.before c.args.item.now in
    let old = g.S.Shelf.outside c.args.shelf.now in
    AreCut-longer outputs (outputs_with outputs c.args.place bytes) before old NoMemory
    (GoOn-with outputs c.args.place bytes)
    (IsOutputs-cut c.args.self.now outputs before old NoMemory (λ e. cc) on)
