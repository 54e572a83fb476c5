use Rattle.std.proofs.Common.{◌++◌, ℕ, List}
use Rattle.std.proofs.lemmas.List.Elements.{All-append}
use Rattle.std.proofs.lemmas.Result.{IfErr-weaker, on_ok_weaker}
use Rattle.shelf.specs.Shelf.{Outside}
use Rattle.trace_format.specs.Rules.{IsGoodRecord}
use Rattle.trace_format.specs.declared.record.TraceRecord.{TraceRecord}
use Rattle.run_recorder.specs.Recording.{AreCutAfter, AreNoted, event_bytes, event_records}
use Rattle.run_recorder.specs.Recording.{touch_records}
use Rattle.run_recorder.proofs.Following.{given_more}
use Rattle.run_recorder.proofs.Touching.{cut_behind, cut_in_front, noted_behind, room_front}
use Rattle.run_recorder.proofs.Touching.{room_rest}
use Rattle.run_recorder.proofs.touches.note_turn.Goals as goal

pub note_touches-requires-clause-room : goal.note_touches-requires-clause-room
note_touches-requires-clause-room g c =
    room_front g.O.Observer.begins g.O.Observer.given c.args.observer.now
    (touch_records c.args.version c.args.touches.now) (event_records c.args.version
    c.args.guest.now.config c.args.event)
    c.requires.room

pub note_event-requires-clause-room : goal.note_event-requires-clause-room
note_event-requires-clause-room g c =
    room_rest g.O.Observer.begins g.O.Observer.given c.args.observer.now
    c.note_touches.new.observer (touch_records c.args.version c.args.touches.now)
    (event_records c.args.version c.args.guest.now.config c.args.event) c.requires.room
    c.in-Ok.ensures.given

pub returns-in-Ok-clause-given : goal.returns-in-Ok-clause-given
returns-in-Ok-clause-given g c =
    on_ok_weaker c.note_event.result
    (λ f. given_more g.O.Observer.given c.args.observer.now c.note_touches.new.observer
    c.note_event.new.observer (touch_records c.args.version c.args.touches.now)
    (event_records c.args.version c.args.guest.now.config c.args.event) c.in-Ok.ensures.given f)
    c.note_event.ensures.given

pub returns-in-Ok-clause-good : goal.returns-in-Ok-clause-good
returns-in-Ok-clause-good g c =
    let harts = c.args.guest.now.setup.harts in
    on_ok_weaker c.note_event.result
    (λ f. All-append (IsGoodRecord c.args.version harts) (touch_records c.args.version
    c.args.touches.now)
    (event_records c.args.version c.args.guest.now.config c.args.event)
    (c.in-Ok.ensures.good harts c.requires.theirs) c.note_event.ensures.good)
    c.note_event.ensures.given

pub returns-in-Ok-clause-noted : goal.returns-in-Ok-clause-noted
returns-in-Ok-clause-noted g c =
    let files = c.args.files.now in
    let front = touch_records c.args.version c.args.touches.now in
    let stated = event_records c.args.version c.args.guest.now.config c.args.event in
    let out = event_bytes c.args.guest.now.config c.args.event in
    on_ok_weaker c.note_event.result
    (λ f harts items put before on. noted_behind c.args.version harts files c.note_event.new.outputs
    c.note_event.new.speller.writer items front stated (put ++ out) before (g.S.Shelf.outside
    c.note_event.new.shelf)
    (f harts (items ++ front) put before (c.in-Ok.ensures.noted harts items put before on)))
    c.note_event.ensures.noted

pub returns-in-Ok-clause-cut : goal.returns-in-Ok-clause-cut
returns-in-Ok-clause-cut g c =
    let files = c.args.files.now in
    let front = touch_records c.args.version c.args.touches.now in
    let stated = event_records c.args.version c.args.guest.now.config c.args.event in
    let out = event_bytes c.args.guest.now.config c.args.event in
    let old = g.S.Shelf.outside c.args.shelf.now in
    let mid = g.S.Shelf.outside c.note_touches.new.shelf in
    let new = g.S.Shelf.outside c.note_event.new.shelf in
    IfErr-weaker c.note_event.result
    (λ e. (harts : ℕ) (items : List TraceRecord) (put : List ℕ) (before : Outside)
    → AreNoted c.args.version harts items put files c.note_touches.new.outputs
    c.note_touches.new.speller.writer before mid
    → AreCutAfter c.args.version harts (items ++ stated) (put ++ out) files before new e)
    (λ e. (harts : ℕ) (items : List TraceRecord) (put : List ℕ) (before : Outside)
    → AreNoted c.args.version harts items put files c.args.outputs.now
    c.args.speller.now.writer before old
    → AreCutAfter c.args.version harts (items ++ (front ++ stated)) (put ++ out) files before new e)
    (λ e f harts items put before on. cut_behind c.args.version harts files items front stated (put
    ++ out) before
    new e
    (f harts (items ++ front) put before (c.in-Ok.ensures.noted harts items put before on)))
    c.note_event.ensures.cut

pub returns-in-Err-clause-cut : goal.returns-in-Err-clause-cut
returns-in-Err-clause-cut g c = λ harts items put before on.
    cut_in_front c.args.version harts c.args.files.now items (touch_records c.args.version
    c.args.touches.now)
    (event_records c.args.version c.args.guest.now.config c.args.event) put
    (event_bytes c.args.guest.now.config c.args.event) before
    (g.S.Shelf.outside c.note_touches.new.shelf) c.in-Err.error
    (c.in-Err.ensures.cut harts items put before on)
