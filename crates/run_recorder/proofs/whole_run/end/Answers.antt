use Rattle.std.proofs.Common.{◌∷◌, ◌++◌, [], ℕ, List}
use Rattle.std.proofs.lemmas.Result.{IfErr-weaker, on_ok_weaker}
use Rattle.shelf.specs.Shelf.{Outside}
use Rattle.shelf.specs.Files.{Output as AnOutput, AreCut}
use Rattle.shelf.specs.OnTheirWay.{IsOutputs}
use Rattle.trace_format.specs.declared.record.TraceRecord.{TraceRecord}
use Rattle.trace_format.specs.declared.record.TraceRecord.TheVariants as records
use Rattle.trace_format.specs.declared.record.Version.{Version}
use Rattle.run_recorder.specs.Recorded.{outputs_of}
use Rattle.run_recorder.specs.Recording.{AreCutAfter, AreNoted, bytes_so_far}
use Rattle.run_recorder.proofs.whole_run.end.Goals as goal

pub returns-in-Ok-clause-written : goal.returns-in-Ok-clause-written
returns-in-Ok-clause-written g c =
    let e : TraceRecord = records.End c.args.ending.now in
    on_ok_weaker c.finish.result
    (λ written v harts items put before on. written
    (outputs_of c.args.files.now (bytes_so_far v harts (items ++ e ∷ []) put)) before
    (c.in-Ok.ensures.noted v harts items put before on).outputs)
    c.finish.ensures.written

pub returns-in-Ok-clause-cut : goal.returns-in-Ok-clause-cut
returns-in-Ok-clause-cut g c =
    let end : TraceRecord = records.End c.args.ending.now in
    let files = c.args.files.now in
    let old = g.S.Shelf.outside c.args.shelf.now in
    let mid = g.S.Shelf.outside c.note_record.new.shelf in
    let new = g.S.Shelf.outside c.finish.new.shelf in
    IfErr-weaker c.finish.result (λ e. (outputs : List AnOutput) (before : Outside)
    → IsOutputs c.note_record.new.outputs outputs before mid
    → AreCut outputs before new e)
    (λ e. (v : Version) (harts : ℕ) (items : List TraceRecord) (put : List ℕ) (before : Outside)
    → AreNoted v harts items put files c.args.outputs.now c.args.speller.now.writer before old
    → AreCutAfter v harts (items ++ end ∷ []) put files before new e)
    (λ e cut v harts items put before on. cut
    (outputs_of files (bytes_so_far v harts (items ++ end ∷ []) put)) before
    (c.in-Ok.ensures.noted v harts items put before on).outputs)
    c.finish.ensures.cut
