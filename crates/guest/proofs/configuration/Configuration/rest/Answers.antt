use Rattle.std.proofs.Common.{ℕ, ◌∙◌, Option, ap}
use Rattle.std.specs.Option.{option_map_or}
use Rattle.base.specs.declared.ending.Outcome.TheVariants.{Deadlock, Exit}
use Rattle.guest.specs.GuestCalls.{over}
use Rattle.guest.specs.ConfigInside.{config_of}
use Rattle.guest.proofs.ChosenTurn.{turn_idle}
use Rattle.guest.proofs.configuration.Configuration.rest.Goals as goal

pub returns-in-Some-clause-over : goal.returns-in-Some-clause-over
returns-in-Some-clause-over c = λ s none.
    let x = config_of c.args.self.now in
    ap (λ (o : Option ℕ). over (option_map_or Exit o Deadlock) x) c.in-Some.ensures.answer
    ∙ turn_idle s x none

pub returns-in-None-clause-over : goal.returns-in-None-clause-over
returns-in-None-clause-over c = λ s none.
    let x = config_of c.args.self.now in
    ap (λ (o : Option ℕ). over (option_map_or Exit o Deadlock) x) c.in-None.ensures.answer
    ∙ turn_idle s x none
