use Rattle.std.proofs.lemmas.Result.{IfErr-weaker}
use Rattle.trace_files.proofs.OneTraces.{put_on, record_unput}
use Rattle.trace_files.proofs.maker.note_record.Goals as goal

pub returns-in-Ok-clause-noted : goal.returns-in-Ok-clause-noted
returns-in-Ok-clause-noted g c =
    put_on c.put.result c.args.file.now c.put.new.self c.args.item.now
    (g.S.Shelf.outside c.args.shelf.now) (g.S.Shelf.outside c.put.new.shelf) c.put.ensures.files
    c.put.ensures.has c.put.ensures.outputs

pub returns-in-Ok-clause-cut : goal.returns-in-Ok-clause-cut
returns-in-Ok-clause-cut g c =
    IfErr-weaker c.put.result _ _
    (λ error cut items before on. cut items before on.came on.outputs) c.put.ensures.cut

-- where the observer finds no memory, what was put stands but for what waits
pub returns-in-Err-clause-cut : goal.returns-in-Err-clause-cut
returns-in-Err-clause-cut g c = λ items before on.
    record_unput c.args.file.now items c.args.item.now before (g.S.Shelf.outside c.args.shelf.now)
    on
