use Rattle.rv32_hart.specs.Effect.{machine}
use Rattle.guest.proofs.GoingAhead.{stepped_other, stepped_touch}
use Rattle.guest.proofs.ahead.reach_memory.Goals as goal

pub returns-in-Next-default-Some-clause-made : goal.returns-in-Next-default-Some-clause-made
returns-in-Next-default-Some-clause-made c =
    stepped_touch c.args.hart c.pc-pc.result
    (machine c.args.state.now c.args.memory.now c.args.held.now)
    (machine c.step.new.state c.step.new.memory c.step.new.held) c.in-Next-default-Some.instr
    c.in-Next-default-Some.access c.args.calls.now c.note.new.self c.args.touches.now
    c.put.new.self
    (rw c.in-Next-default-Some.field-1-is at c.in-Next-default-Some.ensures.effect)
    c.step.ensures.harts c.pc-pc.ensures.value c.note.ensures c.put.ensures

pub returns-in-Next-default-None-clause-made : goal.returns-in-Next-default-None-clause-made
returns-in-Next-default-None-clause-made c =
    stepped_other c.args.hart c.pc-pc.result
    (machine c.args.state.now c.args.memory.now c.args.held.now)
    (machine c.step.new.state c.step.new.memory c.step.new.held) c.in-Next-default-None.instr
    c.args.calls.now c.note-in-Next-default-None.new.self c.args.touches.now
    (rw c.in-Next-default-None.field-1-is at c.in-Next-default-None.ensures.effect)
    c.step.ensures.harts c.pc-pc.ensures.value c.note-in-Next-default-None.ensures
