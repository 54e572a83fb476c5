use Rattle.std.proofs.Common.{◌-◌}
use Rattle.guest.specs.ConfigInside.{config_of}
use Rattle.guest.proofs.PassedTurns.{Passing}
use Rattle.guest.proofs.configuration.Configuration.run_on.Given as goal

abbrev pub invariant-turns : goal.invariant-turns
invariant-turns l =
    Passing l.setup l.until (config_of l.initial.self) (config_of l.self) l.touches

abbrev pub decreases-turns : goal.decreases-turns
decreases-turns l = l.setup.budget - l.self.steps
