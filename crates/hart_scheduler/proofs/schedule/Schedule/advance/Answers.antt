use Rattle.std.proofs.Common.{ap, sym, ◌∙◌}
use Rattle.std.proofs.lemmas.Bool.{and_from}
use Rattle.hart_scheduler.specs.Choices.{Plan, choice, plan_with}
use Rattle.hart_scheduler.proofs.Ordered.{after_chosen, went_on}
use Rattle.hart_scheduler.proofs.schedule.Schedule.advance.Goals as goal

pub returns-then-has_left-clause-after : goal.returns-then-has_left-clause-after
returns-then-has_left-clause-after c =
    let i = c.self.inside in
    let runnable = c.args.runnable.now in
    let hart = c.args.hart in
    rw c.shorten.ensures
    (went_on runnable i.turns i.listed i.latest i.harts i.quantum hart c.self.invariant.order
    (ap (λ (plan : Plan). choice runnable plan) c.self.view_is ∙ c.requires.chosen)
    (and_from _ _ (sym c.is_of.ensures ∙ c.if-not-is_of.false)
    (sym c.has_left.ensures ∙ c.if-has_left.true))
    ∙ ap (λ (plan : Plan). plan_with runnable plan hart) c.self.view_is
    ∙ after_chosen runnable c.args.self.now hart c.requires.chosen)
