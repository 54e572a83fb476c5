use Rattle.guest.proofs.GoingAhead.{stepped_own}
use Rattle.guest.proofs.ahead.one_step.Goals as goal

pub returns-in-Some-clause-made : goal.returns-in-Some-clause-made
returns-in-Some-clause-made c =
    stepped_own c.args.hart c.pc-pc.result c.args.state.now c.own_step.new.state c.args.memory.now
    c.own_step.new.memory c.args.held.now c.own_step.new.held c.in-Some.instr c.args.calls.now
    c.note.new.self c.args.touches.now c.in-Some.ensures.made c.own_step.ensures.memory
    c.own_step.ensures.held c.pc-pc.ensures.value c.note.ensures
