use Rattle.std.proofs.Common.{◌≡◌, arith, sym, ◌∙◌, ap}
use Rattle.hart_scheduler.specs.ScheduleParts.{AStreak}
use Rattle.hart_scheduler.specs.Choices.{Plan, is_runnable}
use Rattle.hart_scheduler.proofs.Ordered.{nothing_after}
use Rattle.hart_scheduler.proofs.schedule.Schedule.take_listed.Goals as goal

pub draw_turns-requires-clause-over : goal.draw_turns-requires-clause-over
draw_turns-requires-clause-over c = nothing_after (is_runnable c.args.runnable.now)
    c.self.inside.listed c.take.new.self c.take.ensures.after
    (sym c.take.ensures.taken ∙ c.if-not-take.true)

pub invariant_of-self : goal.invariant_of-self
invariant_of-self c =
    let harts : c.self.inside.harts ≡ c.args.self.now.harts = ap (λ (plan : Plan). plan.harts)
    c.self.view_is in
    let own : c.new-self-inside.result.hart ≡ c.args.hart = ap (λ (s : AStreak). s.hart)
    c.new-self-inside.ensures in
    record {
      harts = c.self.invariant.harts;
      latest = omega (arith, c.requires.inside, harts, own);
      order = nothing_after (is_runnable c.args.runnable.now) c.self.inside.listed c.take.new.self
          c.take.ensures.after
          (sym c.take.ensures.taken ∙ c.if-not-take.true);
    }
