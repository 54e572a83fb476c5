use Rattle.std.proofs.Common.{arith}
use Rattle.run_recorder.proofs.Spelled.{all_spelled, none_spelled, touch_spelled}
use Rattle.run_recorder.proofs.speller.Speller.spell_touches.Goals as goal

pub loop-place-init : goal.loop-place-init
loop-place-init c = rw c.clear.ensures.items (none_spelled c.args.self.now.writer)

pub loop-place-preserved : goal.loop-place-preserved
loop-place-preserved c =
    touch_spelled c.args.version c.args.touches.now c.loop-place.place
    c.index-touches-place.result c.touch_record-item.result c.args.self.now.writer
    c.loop-place.self.writer c.item.new.self c.loop-place.self.bytes.items c.item.new.into.items
    c.loop-place-test.true c.index-touches-place.is c.touch_record-item.ensures.value
    c.loop-place.invariant c.in-Ok.ensures.ok c.in-Ok.ensures.next

pub returns-clause-bytes : goal.returns-clause-bytes
returns-clause-bytes c =
    (all_spelled c.args.version c.args.touches.now c.loop-place.place c.args.self.now.writer
    c.loop-place.self.writer c.loop-place.self.bytes.items
    (omega (arith, c.loop-place-test.false)) c.loop-place.invariant).spelled

pub returns-clause-next : goal.returns-clause-next
returns-clause-next c =
    (all_spelled c.args.version c.args.touches.now c.loop-place.place c.args.self.now.writer
    c.loop-place.self.writer c.loop-place.self.bytes.items
    (omega (arith, c.loop-place-test.false)) c.loop-place.invariant).next
