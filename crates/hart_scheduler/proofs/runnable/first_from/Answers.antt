use Rattle.std.proofs.Common.{refl, None, Some}
use Rattle.hart_scheduler.proofs.InTurn.{first_of}
use Rattle.hart_scheduler.proofs.runnable.first_from.Goals as goal

pub returns-in-Some : goal.returns-in-Some
returns-in-Some c = first_of c.args.runnable.now c.args.from c.args.harts (Some c.in-Some.after) _
    c.in-Some.ensures refl

pub returns-in-None : goal.returns-in-None
returns-in-None c = first_of c.args.runnable.now c.args.from c.args.harts None
    c.lowest_runnable-in-None.result c.in-None.ensures c.lowest_runnable-in-None.ensures
