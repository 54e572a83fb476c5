use Rattle.std.proofs.Common.{arith, sym, ◌∙◌}
use Rattle.hart_scheduler.proofs.Shortened.{only_rounds, only_shorter}
use Rattle.hart_scheduler.proofs.schedule.Schedule.only_shorten.Goals as goal

pub returns-then-turns-from : goal.returns-then-turns-from
returns-then-turns-from c =
    let i = c.self.inside in
    only_shorter c.args.runnable.now i.turns i.listed i.latest i.harts i.quantum c.args.hart
    c.args.turns c.args.self.now c.self.invariant.order c.self.view_is
    (sym c.is_of.ensures ∙ c.if-not-is_of.false)
    (omega (arith, c.if-turns-from.true, c.from.ensures, c.left.ensures)) c.requires

pub returns-in-Round : goal.returns-in-Round
returns-in-Round c =
    let i = c.self.inside in
    only_rounds c.args.runnable.now i.turns i.listed i.latest i.harts i.quantum c.args.hart
    c.args.turns c.args.self.now c.in-Round.is c.self.invariant.order c.self.view_is
    (sym c.is_of.ensures ∙ c.if-not-is_of.false) c.requires
