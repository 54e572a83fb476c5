use Rattle.std.proofs.Common.{◌∷◌, ◌∙◌, [], refl}
use Rattle.std.proofs.lemmas.List.{append-nil}
use Rattle.std.proofs.lemmas.Result.{IfErr-weaker, on_ok_weaker}
use Rattle.trace_format.specs.declared.record.TraceRecord.TheVariants as records
use Rattle.trace_format.specs.declared.record.Version.TheVariants.{One}
use Rattle.trace_passes.specs.Passes.{all_records}
use Rattle.trace_files.specs.Made.{made, made_header, made_items}
use Rattle.trace_files.proofs.MadeGoing.{file_cut, room_for_end, whole_cut, whole_written}
use Rattle.trace_files.proofs.OneTraces.{begun_file, way_of}
use Rattle.trace_files.proofs.maker.make_trace.Goals as goal

pub returns-in-Err-clause-cut : goal.returns-in-Err-clause-cut
returns-in-Err-clause-cut g c =
    whole_cut c.args.name.now c.args.count [] (all_records (made c.args.count))
    (g.S.Shelf.outside c.args.shelf.now) (g.S.Shelf.outside c.begin.new.shelf) c.in-Err.error refl
    c.in-Err.ensures.cut

pub note_accesses-requires-clause-way : goal.note_accesses-requires-clause-way
note_accesses-requires-clause-way g c =
    let old = g.S.Shelf.outside c.args.shelf.now in
    let mid = g.S.Shelf.outside c.begin.new.shelf in
    way_of c.in-Ok.file [] old mid
    (begun_file c.in-Ok.file c.args.name.now One made_header old mid c.in-Ok.ensures.files
    c.in-Ok.ensures.has c.in-Ok.ensures.outputs)

pub returns-in-Err-note_accesses-clause-cut : goal.returns-in-Err-note_accesses-clause-cut
returns-in-Err-note_accesses-clause-cut g c =
    let old = g.S.Shelf.outside c.args.shelf.now in
    let mid = g.S.Shelf.outside c.begin.new.shelf in
    file_cut c.in-Ok.file c.args.name.now c.args.count (made_items c.args.count)
    (records.End (made c.args.count).ending ∷ []) old
    (g.S.Shelf.outside c.note_accesses.new.shelf) c.in-Err-note_accesses.error
    c.in-Ok.ensures.files refl
    (c.in-Err-note_accesses.ensures.cut old
    (begun_file c.in-Ok.file c.args.name.now One made_header old mid c.in-Ok.ensures.files
    c.in-Ok.ensures.has c.in-Ok.ensures.outputs))

pub end-requires-clause-room : goal.end-requires-clause-room
end-requires-clause-room g c =
    room_for_end g.O.Observer.begins g.O.Observer.given c.args.count c.args.observer.now
    c.note_accesses.new.observer c.requires.few c.requires.begins
    c.in-Ok-note_accesses.ensures.given

pub returns-clause-made : goal.returns-clause-made
returns-clause-made g c =
    on_ok_weaker c.end.result
    (λ given. given c.args.observer.now c.in-Ok-note_accesses.ensures.given) c.end.ensures.given

pub returns-clause-written : goal.returns-clause-written
returns-clause-written g c =
    let old = g.S.Shelf.outside c.args.shelf.now in
    let mid = g.S.Shelf.outside c.begin.new.shelf in
    on_ok_weaker c.end.result
    (λ written.
    whole_written c.note_accesses.new.file c.args.name.now c.args.count old
    (g.S.Shelf.outside c.end.new.shelf)
    (c.note_accesses.ensures.files ∙ c.in-Ok.ensures.files)
    (written old (c.in-Ok-note_accesses.ensures.noted old
    (begun_file c.in-Ok.file c.args.name.now One made_header old mid c.in-Ok.ensures.files
    c.in-Ok.ensures.has c.in-Ok.ensures.outputs)))) c.end.ensures.written

pub returns-clause-cut : goal.returns-clause-cut
returns-clause-cut g c =
    let old = g.S.Shelf.outside c.args.shelf.now in
    let mid = g.S.Shelf.outside c.begin.new.shelf in
    IfErr-weaker c.end.result _ _
    (λ error cut.
    file_cut c.note_accesses.new.file c.args.name.now c.args.count
    (all_records (made c.args.count)) [] old (g.S.Shelf.outside c.end.new.shelf) error
    (c.note_accesses.ensures.files ∙ c.in-Ok.ensures.files) (append-nil _)
    (cut old (c.in-Ok-note_accesses.ensures.noted old
    (begun_file c.in-Ok.file c.args.name.now One made_header old mid c.in-Ok.ensures.files
    c.in-Ok.ensures.has c.in-Ok.ensures.outputs)))) c.end.ensures.cut
