use Rattle.hart_scheduler.proofs.InTurn.{lone_chosen}
use Rattle.hart_scheduler.proofs.lone_choice.lone_is_chosen.Goals as goal

pub returns : goal.returns
returns c = lone_chosen
