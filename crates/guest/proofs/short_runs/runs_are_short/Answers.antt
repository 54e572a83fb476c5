use Rattle.guest.proofs.RunSteps.{run_short}
use Rattle.guest.proofs.short_runs.runs_are_short.Goals as goal

pub returns : goal.returns
returns c = run_short
