use Rattle.std.proofs.Common.{◌∙◌, List, subst, arith}
use Rattle.std.proofs.lemmas.Result.{IfErr-weaker, on_ok_weaker}
use Rattle.shelf.specs.Files.{AreCut, Output}
use Rattle.shelf.specs.OnTheirWay.{IsOutputs}
use Rattle.shelf.specs.Laws.Files.{IsOutputs-begun}
use Rattle.trace_format.specs.Laws.Writing.{writer-more}
use Rattle.trace_files.specs.OneTrace.{so_far}
use Rattle.trace_files.proofs.OneTraces.{put_more}
use Rattle.trace_files.proofs.trace_file.TraceFileTarget.put.Goals as goal

pub put_record-requires-clause-place : goal.put_record-requires-clause-place
put_record-requires-clause-place g c = rw c.requires.way.came.count (omega arith)

pub put_record-requires-clause-begun : goal.put_record-requires-clause-begun
put_record-requires-clause-begun g c =
    let w = c.requires.way in
    IsOutputs-begun c.args.self.now.files _ w.before (g.S.Shelf.outside c.args.shelf.now) w.outputs

pub returns-clause-has : goal.returns-clause-has
returns-clause-has g c =
    on_ok_weaker c.put_record.result
    (λ next seen has. record {
      writer = next ∙ writer-more c.args.self.now.version c.args.self.now.writer seen
          c.args.item.now has.writer;
      count = c.put_record.ensures.count ∙ has.count;
    })
    c.put_record.ensures.next

pub returns-clause-outputs : goal.returns-clause-outputs
returns-clause-outputs g c =
    let t = c.args.self.now in
    on_ok_weaker c.put_record.result
    (λ outputs seen before has on.
    subst (λ (l : List Output). IsOutputs c.put_record.new.self l before
    (g.S.Shelf.outside c.put_record.new.shelf))
    (put_more t seen c.args.item.now has)
    (outputs (so_far t seen) before on))
    c.put_record.ensures.outputs

pub returns-clause-cut : goal.returns-clause-cut
returns-clause-cut g c =
    let t = c.args.self.now in
    IfErr-weaker c.put_record.result _ _
    (λ error cut seen before has on.
    subst (λ (l : List Output). AreCut l before (g.S.Shelf.outside c.put_record.new.shelf) error)
    (put_more t seen c.args.item.now has)
    (cut (so_far t seen) before on))
    c.put_record.ensures.cut
