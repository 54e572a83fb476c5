use Rattle.std.proofs.Common.{◌-◌}
use Rattle.invalidations.proofs.Watching.{Watches}
use Rattle.invalidations.proofs.watch.follow.Given as goal

abbrev pub invariant-turns : goal.invariant-turns
invariant-turns l = Watches l.initial.guest l.guest l.initial.explainer l.explainer

abbrev pub decreases-turns : goal.decreases-turns
decreases-turns l = l.guest.setup.budget - l.guest.config.steps
