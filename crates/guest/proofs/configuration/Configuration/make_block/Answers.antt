use Rattle.guest.specs.ConfigInside.{config_of}
use Rattle.guest.proofs.LeastPlace.{block-made, placed-least, unmade-block}
use Rattle.guest.proofs.configuration.Configuration.make_block.Goals as goal

pub returns-in-Ok-clause-turn : goal.returns-in-Ok-clause-turn
returns-in-Ok-clause-turn c =
    block-made c.args.hart c.value_in-size.result (config_of c.args.self.now)
    (config_of c.take_turn.new.self) c.alloc.new.self
    c.in-Ok.place _
    c.answer_block.ensures.turn c.take_turn.ensures c.in-Ok.ensures.made c.value_in-size.ensures
    (placed-least c.args.self.now.heap c.value_in-size.result c.in-Ok.place c.in-Ok.ensures.place)

pub returns-in-Err-clause-settled : goal.returns-in-Err-clause-settled
returns-in-Err-clause-settled c = λ h.
    c.in-Err.ensures.settled
    (unmade-block c.args.hart c.value_in-size.result (config_of c.args.self.now)
    c.value_in-size.ensures h)
