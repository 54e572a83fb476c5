use Rattle.rv32_hart.specs.Effect.{machine}
use Rattle.guest.proofs.GoingAhead.{stepped_all, stepped_none}
use Rattle.guest.proofs.ahead.own_steps.Goals as goal

pub loop-made-init : goal.loop-made-init
loop-made-init c =
    stepped_none c.args.hart (machine c.args.state.now c.args.memory.now c.args.held.now)
    c.args.calls.now c.args.touches.now

pub loop-made-preserved : goal.loop-made-preserved
loop-made-preserved c =
    stepped_all c.args.hart c.loop-made.made 1
    (machine c.args.state.now c.args.memory.now c.args.held.now)
    (machine c.loop-made.state c.loop-made.memory c.loop-made.held)
    (machine c.one_step.new.state c.one_step.new.memory c.one_step.new.held) c.args.calls.now
    c.loop-made.calls c.one_step.new.calls c.args.touches.now c.loop-made.touches
    c.one_step.new.touches c.loop-made.invariant c.if-not-one_step.ensures.made
