use Rattle.std.proofs.Common.{◌++◌, ℕ, List, subst}
use Rattle.std.proofs.lemmas.Result.{IfErr-weaker, on_ok_weaker}
use Rattle.shelf.specs.Shelf.{Outside}
use Rattle.shelf.specs.Files.{Output as AnOutput, AreCut}
use Rattle.shelf.specs.OnTheirWay.{IsOutputs}
use Rattle.trace_format.specs.declared.record.TraceRecord.{TraceRecord}
use Rattle.run_recorder.specs.declared.run_file.Content.{Content}
use Rattle.run_recorder.specs.Recorded.{outputs_of}
use Rattle.run_recorder.specs.Recording.{AreCutAfter, AreNoted, bytes_so_far, records_part}
use Rattle.run_recorder.specs.Recording.{touch_records}
use Rattle.run_recorder.proofs.Events.{both_at_ok, cut_unput, records_put, writer_behind}
use Rattle.run_recorder.proofs.Putting.{longer}
use Rattle.run_recorder.proofs.touches.note_touches.Goals as goal

pub returns-in-Ok-clause-given : goal.returns-in-Ok-clause-given
returns-in-Ok-clause-given g c =
    on_ok_weaker c.put_touches.result (λ f. c.in-Ok.ensures.given) c.put_touches.ensures.outputs

pub returns-in-Ok-clause-good : goal.returns-in-Ok-clause-good
returns-in-Ok-clause-good g c =
    on_ok_weaker c.put_touches.result (λ f. c.in-Ok.ensures.good) c.put_touches.ensures.outputs

pub returns-in-Ok-clause-noted : goal.returns-in-Ok-clause-noted
returns-in-Ok-clause-noted g c =
    let files = c.args.files.now in
    let more = touch_records c.args.version c.args.touches.now in
    let w = c.args.speller.now.writer in
    let new = g.S.Shelf.outside c.put_touches.new.shelf in
    both_at_ok c.put_touches.result
    (λ f next harts items put before on. record {
      outputs = subst (λ (l : List AnOutput). IsOutputs c.put_touches.new.outputs l before new)
          (records_put c.args.version harts files items more put w on.writer)
          (f (bytes_so_far c.args.version harts items put) before on.outputs);
      writer = writer_behind c.args.version files items more w c.put_touches.new.speller.writer
          on.writer next;
    }) c.put_touches.ensures.outputs c.put_touches.ensures.writer

pub returns-in-Ok-clause-cut : goal.returns-in-Ok-clause-cut
returns-in-Ok-clause-cut g c =
    let files = c.args.files.now in
    let more = touch_records c.args.version c.args.touches.now in
    let w = c.args.speller.now.writer in
    let old = g.S.Shelf.outside c.args.shelf.now in
    let new = g.S.Shelf.outside c.put_touches.new.shelf in
    IfErr-weaker c.put_touches.result (λ e. (bytes : Content → List ℕ) (before : Outside)
    → IsOutputs c.args.outputs.now (outputs_of files bytes) before old
    → AreCut (outputs_of files (longer bytes (records_part w more))) before new e)
    (λ e. (harts : ℕ) (items : List TraceRecord) (put : List ℕ) (before : Outside)
    → AreNoted c.args.version harts items put files c.args.outputs.now w before old
    → AreCutAfter c.args.version harts (items ++ more) put files before new e)
    (λ e cut harts items put before on. subst (λ (l : List AnOutput). AreCut l before new e)
    (records_put c.args.version harts files items more put w on.writer)
    (cut (bytes_so_far c.args.version harts items put) before on.outputs))
    c.put_touches.ensures.cut

-- where the observer finds no memory, what was put stands but for what waits
pub returns-in-Err-clause-cut : goal.returns-in-Err-clause-cut
returns-in-Err-clause-cut g c = λ harts items put before on.
    cut_unput c.args.version harts items (touch_records c.args.version c.args.touches.now) put
    c.args.files.now c.args.outputs.now c.args.speller.now.writer before
    (g.S.Shelf.outside c.args.shelf.now) on
