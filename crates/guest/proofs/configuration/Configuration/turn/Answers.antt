use Rattle.std.proofs.Common.{◌∙◌, ap}
use Rattle.guest.specs.ConfigInside.{config_of}
use Rattle.guest.specs.Turns.{wants_memory}
use Rattle.guest.proofs.TurnAnswers.{fits-either, if_ok-map}
use Rattle.guest.proofs.configuration.Configuration.turn.Goals as goal

pub returns-clause-turn : goal.returns-clause-turn
returns-clause-turn c =
    if_ok-map c.run.result _ _
    (λ turn h. h ∙ c.is_spent.ensures.turn c.if-is_spent.false) c.run.ensures.turn

pub returns-clause-fits : goal.returns-clause-fits
returns-clause-fits c =
    fits-either c.run.result c.args.setup.now.harts (config_of c.args.self.now)
    (config_of c.run.new.self) c.run.ensures.fits c.run.ensures.refused c.requires.fits

pub returns-clause-settled : goal.returns-clause-settled
returns-clause-settled c = λ h.
    c.run.ensures.settled
    (ap (wants_memory (config_of c.args.self.now)) (c.is_spent.ensures.turn c.if-is_spent.false) ∙ h)
