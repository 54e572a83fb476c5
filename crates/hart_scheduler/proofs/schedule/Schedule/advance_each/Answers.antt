use Rattle.hart_scheduler.proofs.Shortened.{all_made, rest_of_hart}
use Rattle.hart_scheduler.proofs.schedule.Schedule.advance_each.Goals as goal

pub only_shorten-requires : goal.only_shorten-requires
only_shorten-requires c =
    rw c.loop-made.invariant.0
    (rest_of_hart c.args.runnable.now c.args.self.now c.args.turns c.loop-made.made c.args.hart
    c.requires.chosen)

pub returns-then-only_shorten-clause-after : goal.returns-then-only_shorten-clause-after
returns-then-only_shorten-clause-after c =
    all_made c.args.runnable.now c.args.self.now c.loop-made.self c.shorten.new.self c.args.turns
    c.loop-made.made c.loop-made.invariant.0 c.loop-made-test.true c.if-only_shorten.ensures
    c.shorten.ensures
