use Rattle.std.proofs.Common.{◌∙◌, ap, List, Some, None, refl, subst, sym}
use Rattle.std.proofs.lemmas.Result.{IfErr-weaker}
use Rattle.shelf.specs.Files.{AreCut, Output}
use Rattle.trace_format.specs.declared.record.TraceRecord.TheVariants as records
use Rattle.trace_filter.specs.Files.{filtered_so_far}
use Rattle.trace_filter.specs.Passages.{written}
use Rattle.trace_filter.specs.declared.record_filter.Passage.{Passage}
use Rattle.trace_filter.proofs.FilterFiles.{as_given, begun_file, both_ok, has_put, left_out, put_on}
use Rattle.trace_filter.proofs.FilterFiles.{unput}
use Rattle.trace_filter.proofs.filter_file.FilterFile.put.Goals as goal

pub put_record-requires-clause-begun : goal.put_record-requires-clause-begun
put_record-requires-clause-begun g c =
    begun_file c.args.self.now (g.S.Shelf.outside c.args.shelf.now) c.requires.way

pub put_record-requires-in-Ok-Ended-clause-begun : goal.put_record-requires-in-Ok-Ended-clause-begun
put_record-requires-in-Ok-Ended-clause-begun g c =
    begun_file c.args.self.now (g.S.Shelf.outside c.args.shelf.now) c.requires.way

pub returns-in-Ok-Kept-clause-came : goal.returns-in-Ok-Kept-clause-came
returns-in-Ok-Kept-clause-came g c =
    let f = c.args.self.now in
    let item = c.args.item.now in
    let old = g.S.Shelf.outside c.args.shelf.now in
    let new = g.S.Shelf.outside c.put_record.new.shelf in
    let e = c.in-Ok-Kept.ensures in
    both_ok c.put_record.result
    (λ next outputs k name h seen before came.
    has_put k name h f seen before old came item item _ new
    (as_given k name h f seen before old came item (Some item) (sym (ap (λ (p : Passage). written p item) c.in-Ok-Kept.field-0-is)
    ∙ e.written seen came.filtered))
    e.near (e.filtered seen came.filtered) next
    (outputs (filtered_so_far k name h seen) before came.outputs))
    c.put_record.ensures.next c.put_record.ensures.outputs

pub returns-in-Ok-Kept-clause-cut : goal.returns-in-Ok-Kept-clause-cut
returns-in-Ok-Kept-clause-cut g c =
    let f = c.args.self.now in
    let item = c.args.item.now in
    let old = g.S.Shelf.outside c.args.shelf.now in
    let new = g.S.Shelf.outside c.put_record.new.shelf in
    let e = c.in-Ok-Kept.ensures in
    IfErr-weaker c.put_record.result _ _
    (λ error cut k name h seen before came.
    subst (λ (l : List Output). AreCut l before new error)
    (put_on k name h f seen before old came item item
    (as_given k name h f seen before old came item (Some item) (sym (ap (λ (p : Passage). written p item) c.in-Ok-Kept.field-0-is)
    ∙ e.written seen came.filtered)))
    (cut (filtered_so_far k name h seen) before came.outputs))
    c.put_record.ensures.cut

pub returns-in-Ok-LeftOut-clause-came : goal.returns-in-Ok-LeftOut-clause-came
returns-in-Ok-LeftOut-clause-came g c = λ k name h seen before came.
    let f = c.args.self.now in
    let item = c.args.item.now in
    let old = g.S.Shelf.outside c.args.shelf.now in
    let e = c.in-Ok-LeftOut.ensures in
    left_out k name h f seen before old came item _
    (as_given k name h f seen before old came item None (sym (ap (λ (p : Passage). written p item) c.in-Ok-LeftOut.field-0-is)
    ∙ e.written seen came.filtered))
    e.near (e.filtered seen came.filtered) refl refl

pub returns-in-Ok-Ended-clause-came : goal.returns-in-Ok-Ended-clause-came
returns-in-Ok-Ended-clause-came g c =
    let f = c.args.self.now in
    let item = c.args.item.now in
    let end = records.End c.in-Ok-Ended.end in
    let old = g.S.Shelf.outside c.args.shelf.now in
    let new = g.S.Shelf.outside c.put_record-in-Ok-Ended.new.shelf in
    let e = c.in-Ok-Ended.ensures in
    both_ok c.put_record-in-Ok-Ended.result
    (λ next outputs k name h seen before came.
    has_put k name h f seen before old came item end _ new
    (as_given k name h f seen before old came item (Some end) (sym (ap (λ (p : Passage). written p item) c.in-Ok-Ended.field-0-is)
    ∙ e.written seen came.filtered))
    e.near (e.filtered seen came.filtered) next
    (outputs (filtered_so_far k name h seen) before came.outputs))
    c.put_record-in-Ok-Ended.ensures.next c.put_record-in-Ok-Ended.ensures.outputs

pub returns-in-Ok-Ended-clause-cut : goal.returns-in-Ok-Ended-clause-cut
returns-in-Ok-Ended-clause-cut g c =
    let f = c.args.self.now in
    let item = c.args.item.now in
    let end = records.End c.in-Ok-Ended.end in
    let old = g.S.Shelf.outside c.args.shelf.now in
    let new = g.S.Shelf.outside c.put_record-in-Ok-Ended.new.shelf in
    let e = c.in-Ok-Ended.ensures in
    IfErr-weaker c.put_record-in-Ok-Ended.result _ _
    (λ error cut k name h seen before came.
    subst (λ (l : List Output). AreCut l before new error)
    (put_on k name h f seen before old came item end
    (as_given k name h f seen before old came item (Some end) (sym (ap (λ (p : Passage). written p item) c.in-Ok-Ended.field-0-is)
    ∙ e.written seen came.filtered)))
    (cut (filtered_so_far k name h seen) before came.outputs))
    c.put_record-in-Ok-Ended.ensures.cut

pub returns-in-Err-clause-cut : goal.returns-in-Err-clause-cut
returns-in-Err-clause-cut g c = λ k name h seen before came.
    unput k name h c.args.self.now seen before (g.S.Shelf.outside c.args.shelf.now) came
    c.args.item.now
