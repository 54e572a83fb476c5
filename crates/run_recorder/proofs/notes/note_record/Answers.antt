use Rattle.std.proofs.Common.{◌∷◌, ◌++◌, [], ℕ, List, subst}
use Rattle.std.proofs.lemmas.Result.{IfErr-weaker}
use Rattle.shelf.specs.Shelf.{Outside}
use Rattle.shelf.specs.Files.{Output as AnOutput, AreCut}
use Rattle.shelf.specs.OnTheirWay.{IsOutputs}
use Rattle.trace_format.specs.declared.record.TraceRecord.{TraceRecord}
use Rattle.trace_format.specs.declared.record.Version.{Version}
use Rattle.run_recorder.specs.declared.run_file.Content.{Content}
use Rattle.run_recorder.specs.Recorded.{outputs_of}
use Rattle.run_recorder.specs.Recording.{AreCutAfter, AreNoted, bytes_so_far, record_part}
use Rattle.run_recorder.proofs.Events.{both_at_ok, cut_unput, record_put, writer_on}
use Rattle.run_recorder.proofs.Putting.{longer}
use Rattle.run_recorder.proofs.notes.note_record.Goals as goal

pub returns-in-Ok-clause-noted : goal.returns-in-Ok-clause-noted
returns-in-Ok-clause-noted g c =
    let files = c.args.files.now in
    let item = c.args.item.now in
    let w = c.args.speller.now.writer in
    let new = g.S.Shelf.outside c.put_record.new.shelf in
    both_at_ok c.put_record.result
    (λ f next v harts items put before on. record {
      outputs = subst (λ (l : List AnOutput). IsOutputs c.put_record.new.outputs l before new)
          (record_put v harts files items put w item on.writer)
          (f (bytes_so_far v harts items put) before on.outputs);
      writer = writer_on v files items w c.put_record.new.speller.writer item on.writer next;
    }) c.put_record.ensures.outputs c.put_record.ensures.writer

pub returns-in-Ok-clause-cut : goal.returns-in-Ok-clause-cut
returns-in-Ok-clause-cut g c =
    let item = c.args.item.now in
    let files = c.args.files.now in
    let w = c.args.speller.now.writer in
    let old = g.S.Shelf.outside c.args.shelf.now in
    let new = g.S.Shelf.outside c.put_record.new.shelf in
    IfErr-weaker c.put_record.result (λ e. (more : Content → List ℕ) (before : Outside)
    → IsOutputs c.args.outputs.now (outputs_of files more) before old
    → AreCut (outputs_of files (longer more (record_part w item))) before new e)
    (λ e. (v : Version) (harts : ℕ) (items : List TraceRecord) (put : List ℕ) (before : Outside)
    → AreNoted v harts items put files c.args.outputs.now w before old
    → AreCutAfter v harts (items ++ item ∷ []) put files before new e)
    (λ e cut v harts items put before on. subst (λ (l : List AnOutput). AreCut l before new e)
    (record_put v harts files items put w item on.writer)
    (cut (bytes_so_far v harts items put) before on.outputs))
    c.put_record.ensures.cut

-- where the observer finds no memory, what was put stands but for what waits
pub returns-in-Err-clause-cut : goal.returns-in-Err-clause-cut
returns-in-Err-clause-cut g c = λ v harts items put before on.
    cut_unput v harts items (c.args.item.now ∷ []) put c.args.files.now c.args.outputs.now
    c.args.speller.now.writer before (g.S.Shelf.outside c.args.shelf.now) on
