use Rattle.std.proofs.Common.{sym, ◌∙◌}
use Rattle.hart_scheduler.proofs.Shortened.{left_of}
use Rattle.hart_scheduler.proofs.schedule.Schedule.turns_left.Goals as goal

pub returns-then-is_of-clause-sure : goal.returns-then-is_of-clause-sure
returns-then-is_of-clause-sure c =
    let i = c.self.inside in
    λ runnable able.
    left_of runnable i.turns i.listed i.latest i.harts i.quantum c.args.hart c.left.result
    c.args.self.now c.self.invariant.order c.self.view_is (sym c.is_of.ensures ∙ c.if-is_of.true)
    c.left.ensures able
