use Rattle.std.proofs.Common.{arith}
use Rattle.invalidations.proofs.Watching.{no_touches, touches_more, touches_watched}
use Rattle.invalidations.proofs.watch.note_touches.Goals as goal

pub loop-place-init : goal.loop-place-init
loop-place-init c = no_touches c.args.touches.now c.args.explainer.now

pub loop-place-preserved : goal.loop-place-preserved
loop-place-preserved c =
    touches_more c.args.touches.now c.loop-place.place c.index-touches-place.result
    c.args.explainer.now c.loop-place.explainer c.on_access.new.self c.loop-place-test.true
    c.index-touches-place.is c.loop-place.invariant c.in-Ok.ensures.noted

pub returns-clause-noted : goal.returns-clause-noted
returns-clause-noted c =
    touches_watched c.args.touches.now c.loop-place.place c.args.explainer.now
    c.loop-place.explainer (omega (arith, c.loop-place-test.false)) c.loop-place.invariant
