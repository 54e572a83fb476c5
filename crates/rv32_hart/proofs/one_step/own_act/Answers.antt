use Rattle.std.proofs.Common.{◌∙◌, ap, sym}
use Rattle.rv32_hart.specs.Effect.{Machine, machine}
use Rattle.rv32_hart.proofs.OwnSteps.{own_left, own_made}
use Rattle.rv32_hart.proofs.one_step.own_act.Goals as goal

pub returns-in-Next-clause-made : goal.returns-in-Next-clause-made
returns-in-Next-clause-made c =
    (own_made c.args.hart c.args.instr c.in-Next.made
    (machine c.args.state.now c.args.memory.now c.args.held.now)
    (machine c.act.new.state c.act.new.memory c.act.new.held) c.in-Next._access
    (sym c.is_own.ensures ∙ c.if-not-is_own.false) c.requires.read c.in-Next.ensures).step

pub returns-in-Next-clause-memory : goal.returns-in-Next-clause-memory
returns-in-Next-clause-memory c =
    (own_made c.args.hart c.args.instr c.in-Next.made
    (machine c.args.state.now c.args.memory.now c.args.held.now)
    (machine c.act.new.state c.act.new.memory c.act.new.held) c.in-Next._access
    (sym c.is_own.ensures ∙ c.if-not-is_own.false) c.requires.read c.in-Next.ensures).memory

pub returns-in-Next-clause-held : goal.returns-in-Next-clause-held
returns-in-Next-clause-held c =
    (own_made c.args.hart c.args.instr c.in-Next.made
    (machine c.args.state.now c.args.memory.now c.args.held.now)
    (machine c.act.new.state c.act.new.memory c.act.new.held) c.in-Next._access
    (sym c.is_own.ensures ∙ c.if-not-is_own.false) c.requires.read c.in-Next.ensures).held

pub returns-in-Call : goal.returns-in-Call
returns-in-Call c =
    let left = own_left c.args.hart c.args.instr
    (machine c.args.state.now c.args.memory.now c.args.held.now)
    (machine c.act.new.state c.act.new.memory c.act.new.held) c.act.result
    (sym c.is_own.ensures ∙ c.if-not-is_own.false)
    c.in-Call.is c.act.ensures in
    record {
      made = tt;
      left = λ _. ap (λ (x : Machine). x.state) left;
      memory = ap (λ (x : Machine). x.memory) left;
      held = ap (λ (x : Machine). x.held) left;
    }
