use Rattle.std.proofs.Common.{ap}
use Rattle.guest.specs.Configs.{Config}
use Rattle.guest.specs.ConfigInside.{config_of}
use Rattle.guest.proofs.RunSteps.{run_short}
use Rattle.guest.proofs.guest.Guest.new.Goals as goal

pub returns-clause-short : goal.returns-clause-short
returns-clause-short c = run_short _ (config_of c.in_ok-config.config)
    (ap (λ (x : Config). x.steps) c.in_ok-config.ensures)
    (ap (λ (x : Config). x.accesses) c.in_ok-config.ensures)
