use Rattle.std.proofs.Common.{sym}
use Rattle.std.proofs.lemmas.Bool.{leb-true, leb-false}
use Rattle.guest.specs.ConfigInside.{config_of}
use Rattle.guest.proofs.ChosenTurn.{turn_made, turn_spent}
use Rattle.guest.proofs.configuration.Configuration.is_spent.Goals as goal

pub returns-clause-over : goal.returns-clause-over
returns-clause-over c = λ spent.
    turn_spent c.args.setup.now (config_of c.args.self.now) c.args.hart (sym c.requires.next)
    c.requires.runs (leb-true c.args.setup.now.budget c.args.self.now.steps spent)

pub returns-clause-turn : goal.returns-clause-turn
returns-clause-turn c = λ left.
    turn_made c.args.setup.now (config_of c.args.self.now) c.args.hart (sym c.requires.next)
    c.requires.runs (leb-false c.args.setup.now.budget c.args.self.now.steps left)
