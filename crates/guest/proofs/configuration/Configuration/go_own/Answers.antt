use Rattle.std.proofs.Common.{◌∙◌, arith}
use Rattle.guest.specs.ConfigInside.{config_of}
use Rattle.guest.proofs.GoingAhead.{few_put, gone_none, gone_own}
use Rattle.guest.proofs.configuration.Configuration.go_own.Goals as goal

pub returns-then-most-eq0 : goal.returns-then-most-eq0
returns-then-most-eq0 c =
    gone_none c.args.hart c.args.most (config_of c.args.self.now) c.args.touches.now

pub overflow_add-self-2 : goal.overflow_add-self-2
overflow_add-self-2 c =
    omega (
      arith,
      few_put c.args.hart c.own_steps-made.result _ _ _ _ c.args.touches.now
          c.own_steps-made.new.touches c.own_steps-made.ensures.made,
      c.len.ensures.value,
      c.len-before.ensures.value,
      c.own_steps-made.ensures.most,
      c.requires.accesses,
      c.requires.few,
    )

pub returns : goal.returns
returns c =
    gone_own c.args.hart c.from-place.result c.args.most c.own_steps-made.result
    (config_of c.args.self.now) c.index_mut-state.result.now c.own_steps-made.new.state
    c.index_mut-calls.result.now c.own_steps-made.new.calls c.own_steps-made.new.memory
    c.own_steps-made.new.held c.args.touches.now c.own_steps-made.new.touches
    c.advance_by.new.self _ (c.from-place.ensures ∙ c.number.ensures.value)
    (omega (arith, c.requires.ready.inside, c.requires.ready.states))
    (omega (arith, c.requires.ready.inside, c.requires.ready.calls))
    c.index_mut-state.ensures.value c.index_mut-calls.ensures.value c.own_steps-made.ensures.made
    c.own_steps-made.ensures.most (rw c.runnable.ensures.value at c.advance_by.ensures.after)
    (omega (arith, c.len.ensures.value, c.len-before.ensures.value))
