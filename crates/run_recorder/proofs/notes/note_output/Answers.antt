use Rattle.std.proofs.Common.{◌++◌, ℕ, List, subst}
use Rattle.std.proofs.lemmas.Result.{IfErr-weaker, on_ok_weaker}
use Rattle.shelf.specs.Shelf.{Outside}
use Rattle.shelf.specs.Files.{Output as AnOutput, AreCut}
use Rattle.shelf.specs.OnTheirWay.{IsOutputs}
use Rattle.trace_format.specs.declared.record.TraceRecord.{TraceRecord}
use Rattle.trace_format.specs.declared.record.Version.{Version}
use Rattle.trace_format.specs.Writing.{Writing}
use Rattle.run_recorder.specs.declared.run_file.Content.{Content}
use Rattle.run_recorder.specs.Recorded.{outputs_of}
use Rattle.run_recorder.specs.Recording.{AreCutAfter, AreNoted, bytes_so_far, output_part}
use Rattle.run_recorder.proofs.Events.{output_put}
use Rattle.run_recorder.proofs.Putting.{longer}
use Rattle.run_recorder.proofs.notes.note_output.Goals as goal

pub returns-clause-noted : goal.returns-clause-noted
returns-clause-noted g c =
    let bytes = c.args.bytes.now in
    let new = g.S.Shelf.outside c.put_output.new.shelf in
    on_ok_weaker c.put_output.result
    (λ f v harts items put w before on. record {
      outputs = subst (λ (l : List AnOutput). IsOutputs c.put_output.new.outputs l before new)
          (output_put v harts c.args.files.now items put bytes)
          (f (bytes_so_far v harts items put) before (rw c.show_output.ensures on.outputs));
      writer = on.writer;
    })
    c.put_output.ensures.outputs

pub returns-clause-cut : goal.returns-clause-cut
returns-clause-cut g c =
    let bytes = c.args.bytes.now in
    let files = c.args.files.now in
    let old = g.S.Shelf.outside c.args.shelf.now in
    let mid = g.S.Shelf.outside c.show_output.new.shelf in
    let new = g.S.Shelf.outside c.put_output.new.shelf in
    IfErr-weaker c.put_output.result (λ e. (more : Content → List ℕ) (before : Outside)
    → IsOutputs c.args.outputs.now (outputs_of files more) before mid
    → AreCut (outputs_of files (longer more (output_part bytes))) before new e)
    (λ e. (v : Version) (harts : ℕ) (items : List TraceRecord) (put : List ℕ) (w : Writing)
    (before : Outside) → AreNoted v harts items put files c.args.outputs.now w before old
    → AreCutAfter v harts items (put ++ bytes) files before new e)
    (λ e cut v harts items put w before on. subst (λ (l : List AnOutput). AreCut l before new e)
    (output_put v harts files items put bytes)
    (cut (bytes_so_far v harts items put) before (rw c.show_output.ensures on.outputs)))
    c.put_output.ensures.cut
