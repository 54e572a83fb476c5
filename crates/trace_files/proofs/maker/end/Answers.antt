use Rattle.std.proofs.Common.{◌∷◌, ◌++◌, [], List, subst}
use Rattle.std.proofs.lemmas.Result.{IfErr-weaker, on_ok_weaker}
use Rattle.shelf.specs.Files.{Output}
use Rattle.shelf.specs.OnTheirWay.{IsOutputs}
use Rattle.trace_format.specs.declared.record.TraceRecord.{TraceRecord}
use Rattle.trace_format.specs.declared.record.TraceRecord.TheVariants as records
use Rattle.trace_passes.specs.Passes.{all_records}
use Rattle.trace_files.specs.Made.{made, made_items}
use Rattle.trace_files.specs.OneTrace.{so_far}
use Rattle.trace_files.proofs.Answering.{on_ok}
use Rattle.trace_files.proofs.OneTraces.{begun_way, on_way, way_of}
use Rattle.trace_files.proofs.maker.end.Goals as goal

pub finish-requires : goal.finish-requires
finish-requires g c =
    let way = c.requires.way in
    let mid = g.S.Shelf.outside c.note_record.new.shelf in
    begun_way c.note_record.new.file mid
    (way_of c.note_record.new.file (way.seen ++ records.End (made c.args.count).ending ∷ [])
    way.before mid
    (c.in-Ok.ensures.noted way.seen way.before
    (on_way c.args.file.now (g.S.Shelf.outside c.args.shelf.now) way)))

pub returns-in-Ok-clause-given : goal.returns-in-Ok-clause-given
returns-in-Ok-clause-given g c =
    on_ok c.finish.result
    (λ begun so. c.in-Ok.ensures.given begun (made_items c.args.count) so)

pub returns-in-Ok-clause-written : goal.returns-in-Ok-clause-written
returns-in-Ok-clause-written g c =
    let all = all_records (made c.args.count) in
    on_ok_weaker c.finish.result
    (λ written before on.
    written (so_far c.args.file.now all) before
    (subst (λ (s : List TraceRecord → List Output). IsOutputs c.note_record.new.file.files (s all)
    before (g.S.Shelf.outside c.note_record.new.shelf)) c.note_record.ensures.files
    (c.in-Ok.ensures.noted (made_items c.args.count) before on).outputs))
    c.finish.ensures.written

pub returns-in-Ok-clause-cut : goal.returns-in-Ok-clause-cut
returns-in-Ok-clause-cut g c =
    let all = all_records (made c.args.count) in
    IfErr-weaker c.finish.result _ _
    (λ error cut before on.
    cut (so_far c.args.file.now all) before
    (subst (λ (s : List TraceRecord → List Output). IsOutputs c.note_record.new.file.files (s all)
    before (g.S.Shelf.outside c.note_record.new.shelf)) c.note_record.ensures.files
    (c.in-Ok.ensures.noted (made_items c.args.count) before on).outputs))
    c.finish.ensures.cut

pub returns-clause-cut : goal.returns-clause-cut
returns-clause-cut g c = λ before on. c.in-Err.ensures.cut (made_items c.args.count) before on
