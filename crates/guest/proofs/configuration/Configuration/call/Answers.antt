use Rattle.std.proofs.Common.{◌∙◌, ap}
use Rattle.guest.specs.Configs.{Config}
use Rattle.guest.specs.GuestCalls.{call_turn}
use Rattle.guest.proofs.configuration.Configuration.call.Goals as goal

pub returns-in_default-clause-turn
    : goal.returns-in_default-clause-turn
returns-in_default-clause-turn c =
    c.other_call.ensures.turn ∙ ap (λ (d : Config). call_turn c.args.setup.now c.args.hart d)
    c.take_turn.ensures
