use Rattle.std.proofs.Common.{[], List, take, arith, subst}
use Rattle.std.proofs.lemmas.List.{take_all}
use Rattle.trace_format.specs.declared.record.TraceRecord.{TraceRecord}
use Rattle.run_recorder.specs.Recording.{AreNoted}
use Rattle.run_recorder.proofs.Symbols.{symbol_room, symbols_cut, symbols_more}
use Rattle.run_recorder.proofs.whole_run.note_symbols.Goals as goal

pub note_record-requires-clause-room : goal.note_record-requires-clause-room
note_record-requires-clause-room g c =
    symbol_room g.O.Observer.begins g.O.Observer.given c.args.symbols.now c.loop-place.place
    c.index-symbols-place.result
    c.args.observer.now c.loop-place.observer c.loop-place-test.true c.index-symbols-place.is
    c.requires.symbols c.requires.begins
    c.loop-place.invariant.given_so_far

pub returns-in-Err-clause-cut : goal.returns-in-Err-clause-cut
returns-in-Err-clause-cut g c = λ v harts before on.
    symbols_cut v harts c.args.symbols.now c.loop-place.place c.index-symbols-place.result
    c.args.files.now before
    (g.S.Shelf.outside c.note_record.new.shelf) c.in-Err.error c.loop-place-test.true
    c.index-symbols-place.is
    (c.in-Err.ensures.cut v harts (take c.loop-place.place c.args.symbols.now) [] before
    (c.loop-place.invariant.noted v harts before on))

pub loop-place-preserved : goal.loop-place-preserved
loop-place-preserved g c =
    symbols_more g.O.Observer.given c.args.symbols.now c.loop-place.place
    c.index-symbols-place.result c.args.observer.now
    c.loop-place.observer c.note_record.new.observer c.args.files.now c.args.outputs.now
    c.loop-place.outputs c.note_record.new.outputs c.args.speller.now.writer
    c.loop-place.speller.writer c.note_record.new.speller.writer
    (g.S.Shelf.outside c.args.shelf.now) (g.S.Shelf.outside c.loop-place.shelf)
    (g.S.Shelf.outside c.note_record.new.shelf)
    c.loop-place-test.true c.index-symbols-place.is c.loop-place.invariant c.in-Ok.ensures.given
    c.in-Ok.ensures.noted
    c.note_record.ensures.count c.in-Ok.ensures.begun

pub returns-clause-noted : goal.returns-clause-noted
returns-clause-noted g c = λ v harts before on.
    subst (λ (l : List TraceRecord). AreNoted v harts l [] c.args.files.now
    c.loop-place.outputs c.loop-place.speller.writer before
    (g.S.Shelf.outside c.loop-place.shelf))
    (take_all c.loop-place.place c.args.symbols.now (omega (arith, c.loop-place-test.false)))
    (c.loop-place.invariant.noted v harts before on)
