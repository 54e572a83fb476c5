use Rattle.hart_scheduler.proofs.Shortened.{lone_all}
use Rattle.hart_scheduler.proofs.lone_choice.lone_goes_on.Goals as goal

pub returns : goal.returns
returns c = lone_all
