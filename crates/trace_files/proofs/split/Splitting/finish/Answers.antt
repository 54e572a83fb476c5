use Rattle.std.proofs.Common.{◌∙◌, arith}
use Rattle.std.proofs.lemmas.Result.{IfErr-weaker, on_ok_weaker}
use Rattle.shelf.specs.OnTheirWay.{outputs_with}
use Rattle.shelf.specs.Laws.Files.{AreCut-longer, GoOn-with}
use Rattle.trace_format.specs.Spelling.{spell_ending}
use Rattle.trace_files.proofs.split.Splitting.finish.Goals as goal

pub put_record-requires-clause-place : goal.put_record-requires-clause-place
put_record-requires-clause-place g c = rw c.requires.count (omega arith)

pub returns-in-Err-clause-cut : goal.returns-in-Err-clause-cut
returns-in-Err-clause-cut g c = λ outputs before on.
    let v = c.args.version in
    let one = outputs_with outputs 0 (spell_ending v c.args.first) in
    AreCut-longer one (outputs_with one 1 (spell_ending v c.args.second)) before
    (g.S.Shelf.outside c.put_record.new.shelf)
    c.in-Err.error (GoOn-with one 1 (spell_ending v c.args.second))
    (rw c.new-first_writer.ensures at (c.in-Err.ensures.cut outputs before on))

pub put_record-requires-2-clause-place : goal.put_record-requires-2-clause-place
put_record-requires-2-clause-place g c = rw (c.put_record.ensures.count ∙ c.requires.count)
    (omega arith)

pub returns-in-Err-put_record-clause-cut : goal.returns-in-Err-put_record-clause-cut
returns-in-Err-put_record-clause-cut g c = λ outputs before on.
    let one = outputs_with outputs 0 (spell_ending c.args.version c.args.first) in
    let put = rw c.new-first_writer.ensures at (c.in-Ok.ensures.outputs outputs before on) in
    rw c.new-second_writer.ensures at (c.in-Err-put_record.ensures.cut one before put)

pub returns-clause-written : goal.returns-clause-written
returns-clause-written g c =
    on_ok_weaker c.finish.result
    (λ written outputs before on.
    let one = outputs_with outputs 0 (spell_ending c.args.version c.args.first) in
    let put = rw c.new-first_writer.ensures at (c.in-Ok.ensures.outputs outputs before on) in
    let both = rw c.new-second_writer.ensures at (c.in-Ok-put_record.ensures.outputs one before
    put) in
    written (outputs_with one 1 (spell_ending c.args.version c.args.second)) before both)
    c.finish.ensures.written

pub returns-clause-cut : goal.returns-clause-cut
returns-clause-cut g c =
    IfErr-weaker c.finish.result _ _
    (λ error cut outputs before on.
    let one = outputs_with outputs 0 (spell_ending c.args.version c.args.first) in
    let put = rw c.new-first_writer.ensures at (c.in-Ok.ensures.outputs outputs before on) in
    let both = rw c.new-second_writer.ensures at (c.in-Ok-put_record.ensures.outputs one before
    put) in
    cut (outputs_with one 1 (spell_ending c.args.version c.args.second)) before both)
    c.finish.ensures.cut
