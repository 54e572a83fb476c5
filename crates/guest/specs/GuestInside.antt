-- What is true of every guest.
use Rattle.std.specs.Prelude.{◌≡◌, ◌≤◌, IfSome}
use Rattle.guest.specs.declared.guest.Guest.TheInside.{Inside}
use Rattle.guest.specs.Configs.{Fits}
use Rattle.guest.specs.ConfigInside.{config_of}
use Rattle.guest.specs.SeenTurns.{IsEndOf}
use Rattle.guest.specs.Runs.{Progress}

abbrev pub progress_of : Inside → Progress
progress_of g = record { setup = g.setup; config = config_of g.config; ending = g.ending }

-- its end states its counts, and is one of its harts
pub record IsGood (g : Inside) : Type 0 where
  pub fits : Fits g.setup.harts (config_of g.config)
  pub accesses : g.config.accesses ≤ g.config.steps
  pub steps : g.config.steps ≤ g.setup.budget
  pub stated : IfSome g.ending (λ e. (e.steps ≡ g.config.steps) × (e.accesses ≡ g.config.accesses))
  pub end : IfSome g.ending (λ e. IsEndOf g.setup.harts e.outcome)
