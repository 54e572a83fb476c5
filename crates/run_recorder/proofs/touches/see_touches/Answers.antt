use Rattle.std.proofs.Common.{arith}
use Rattle.run_recorder.proofs.Touching.{no_touches, touch_room, touches_more, touches_seen}
use Rattle.run_recorder.proofs.touches.see_touches.Goals as goal

pub loop-place-init : goal.loop-place-init
loop-place-init g c =
    no_touches g.O.Observer.given c.args.version c.args.touches.now c.args.observer.now

pub note-requires-clause-room : goal.note-requires-clause-room
note-requires-clause-room g c =
    touch_room g.O.Observer.begins g.O.Observer.given c.args.version c.args.touches.now
    c.loop-place.place
    c.index-touches-place.result c.touch_record-item.result c.args.observer.now
    c.loop-place.observer c.loop-place-test.true c.index-touches-place.is
    c.touch_record-item.ensures.value c.requires.room c.loop-place.invariant.given_on

pub loop-place-preserved : goal.loop-place-preserved
loop-place-preserved g c =
    touches_more g.O.Observer.given c.args.version c.args.touches.now c.loop-place.place
    c.index-touches-place.result c.touch_record-item.result c.args.observer.now
    c.loop-place.observer c.note.new.self c.loop-place-test.true c.index-touches-place.is
    c.touch_record-item.ensures.value c.touch_record-item.ensures.good c.loop-place.invariant
    c.in-Ok.ensures.given

pub returns-clause-given : goal.returns-clause-given
returns-clause-given g c =
    (touches_seen g.O.Observer.given c.args.version c.args.touches.now c.loop-place.place
    c.args.observer.now c.loop-place.observer (omega (arith, c.loop-place-test.false))
    c.loop-place.invariant).given_on

pub returns-clause-good : goal.returns-clause-good
returns-clause-good g c =
    (touches_seen g.O.Observer.given c.args.version c.args.touches.now c.loop-place.place
    c.args.observer.now c.loop-place.observer (omega (arith, c.loop-place-test.false))
    c.loop-place.invariant).good
