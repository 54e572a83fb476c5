use Rattle.std.proofs.Common.{◌∷◌, ◌++◌, ◌∙◌, [], List, ap, subst, length, arith}
use Rattle.std.proofs.lemmas.List.{length-append}
use Rattle.shelf.specs.Files.{AreCut, Output}
use Rattle.shelf.specs.OneFile.{Waiting}
use Rattle.shelf.specs.OnTheirWay.{IsOutputs, outputs_with}
use Rattle.shelf.specs.Laws.Files.{AreCut-longer, GoOn-with}
use Rattle.trace_format.specs.Spelling.{spell_header}
use Rattle.trace_format.specs.Writing.{Writing}
use Rattle.trace_files.proofs.Begun.{as_many, header_last}
use Rattle.trace_files.proofs.trace_outputs.TraceOutputs.begin_trace.Goals as goal

pub put_header-requires-clause-place : goal.put_header-requires-clause-place
put_header-requires-clause-place g c =
    let one : List Waiting = record { name = c.args.name.now; kept = [] } ∷ [] in
    omega (
      arith,
      ap length c.in-Ok.ensures.begun,
      length-append c.args.self.now one,
      c.requires.place,
    )

pub returns-in-Err-clause-cut : goal.returns-in-Err-clause-cut
returns-in-Err-clause-cut g c = λ outputs before on.
    let old = g.S.Shelf.outside c.args.shelf.now in
    let none : List Output = outputs ++ record { name = c.args.name.now; bytes = [] } ∷ [] in
    let bytes = spell_header c.args.version c.args.header in
    let now = g.S.Shelf.outside c.begin.new.shelf in
    subst (λ (l : List Output). AreCut l before now c.in-Err.error)
    (header_last outputs c.args.name.now c.args.version c.args.header c.args.place
    (as_many c.args.self.now outputs before old on ∙ c.requires.place))
    (AreCut-longer none (outputs_with none c.args.place bytes) before now c.in-Err.error
    (GoOn-with none c.args.place bytes)
    (c.in-Err.ensures.cut outputs before on))

pub returns-in-Ok-put_header-clause-count : goal.returns-in-Ok-put_header-clause-count
returns-in-Ok-put_header-clause-count g c =
    let one : List Waiting = record { name = c.args.name.now; kept = [] } ∷ [] in
    omega (
      arith,
      c.put_header.ensures.count,
      ap length c.in-Ok.ensures.begun,
      length-append c.args.self.now one,
      c.requires.place,
    )

pub returns-in-Ok-put_header-clause-outputs : goal.returns-in-Ok-put_header-clause-outputs
returns-in-Ok-put_header-clause-outputs g c = λ outputs before on.
    let old = g.S.Shelf.outside c.args.shelf.now in
    let none : List Output = outputs ++ record { name = c.args.name.now; bytes = [] } ∷ [] in
    let now = g.S.Shelf.outside c.put_header.new.shelf in
    subst (λ (l : List Output). IsOutputs c.put_header.new.self l before now)
    (ap (λ (w : Writing). outputs_with none c.args.place (spell_header w.version c.args.header))
    c.new-writer.ensures
    ∙ header_last outputs c.args.name.now c.args.version c.args.header c.args.place
    (as_many c.args.self.now outputs before old on ∙ c.requires.place))
    (c.in-Ok-put_header.ensures.outputs none before (c.in-Ok.ensures.outputs outputs before on))

pub returns-in-Err-put_header-clause-cut : goal.returns-in-Err-put_header-clause-cut
returns-in-Err-put_header-clause-cut g c = λ outputs before on.
    let old = g.S.Shelf.outside c.args.shelf.now in
    let none : List Output = outputs ++ record { name = c.args.name.now; bytes = [] } ∷ [] in
    let now = g.S.Shelf.outside c.put_header.new.shelf in
    subst (λ (l : List Output). AreCut l before now c.in-Err-put_header.error)
    (ap (λ (w : Writing). outputs_with none c.args.place (spell_header w.version c.args.header))
    c.new-writer.ensures
    ∙ header_last outputs c.args.name.now c.args.version c.args.header c.args.place
    (as_many c.args.self.now outputs before old on ∙ c.requires.place))
    (c.in-Err-put_header.ensures.cut none before (c.in-Ok.ensures.outputs outputs before on))
