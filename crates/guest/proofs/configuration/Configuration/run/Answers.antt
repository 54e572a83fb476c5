use Rattle.std.proofs.Common.{◌∙◌, ap, arith, refl}
use Rattle.guest.specs.ConfigInside.{config_of}
use Rattle.guest.specs.Turns.{chosen, wants_memory}
use Rattle.guest.proofs.TurnAnswers.{if_ok-map, on_ok-if}
use Rattle.guest.proofs.AtCall.{called}
use Rattle.guest.proofs.CallFits.{fits_called, fits_chosen}
use Rattle.guest.proofs.OwnAccesses.{own_seen}
use Rattle.guest.proofs.configuration.Configuration.run.Goals as goal

pub returns-in-Next-clause-seen : goal.returns-in-Next-clause-seen
returns-in-Next-clause-seen c =
    rw c.go_on.ensures.seen
    (own_seen c.args.hart _ c.pc-pc.result _ _ c.in-Next.instr c.in-Next.access _ c.in-Next.ensures.effect
    c.requires.ready.inside)

pub returns-in-Call-clause-turn : goal.returns-in-Call-clause-turn
returns-in-Call-clause-turn c =
    if_ok-map c.call.result _ _
    (λ turn h. called c.args.setup.now c.args.hart c.from.result
    (chosen (config_of c.args.self.now)) c.index_mut-state.result.now
    c.step.new.state c.step.new.memory c.step.new.held _
    (c.from.ensures ∙ c.number.ensures.value) (omega arith) c.index_mut-state.ensures.value
    c.in-Call.ensures.effect c.in-Call.ensures.left
    h)
    c.call.ensures.turn

pub returns-in-Call-clause-fits : goal.returns-in-Call-clause-fits
returns-in-Call-clause-fits c =
    on_ok-if c.call.result _ _
    (λ turn h harts fits. fits_called harts c.args.hart c.from.result c.args.setup.now
    (chosen (config_of c.args.self.now)) c.step.new.state
    c.step.new.memory c.step.new.held
    turn (config_of c.call.new.self) h c.step.ensures.harts
    (fits_chosen harts (config_of c.args.self.now) fits))
    c.call.ensures.turn

pub returns-in-Call-clause-settled : goal.returns-in-Call-clause-settled
returns-in-Call-clause-settled c = λ h.
    c.call.ensures.settled
    (ap (wants_memory (config_of c.args.self.now))
    (called c.args.setup.now c.args.hart c.from.result (chosen (config_of c.args.self.now))
    c.index_mut-state.result.now c.step.new.state
    c.step.new.memory c.step.new.held _
    (c.from.ensures ∙ c.number.ensures.value) (omega arith) c.index_mut-state.ensures.value
    c.in-Call.ensures.effect c.in-Call.ensures.left
    refl)
    ∙ h)
