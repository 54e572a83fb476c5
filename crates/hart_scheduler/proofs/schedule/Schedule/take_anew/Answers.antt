use Rattle.std.proofs.Common.{◌≡◌, [], arith, ap, sym, None, ◌∙◌}
use Rattle.hart_scheduler.specs.ScheduleParts.{AStreak}
use Rattle.hart_scheduler.specs.Choices.{Plan, going_on, plan_with}
use Rattle.hart_scheduler.specs.ScheduleInside.{streak_in}
use Rattle.hart_scheduler.proofs.InTurn.{chosen_inside}
use Rattle.hart_scheduler.proofs.Ordered.{after_chosen, drawn_anew, plan_drawn}
use Rattle.hart_scheduler.proofs.schedule.Schedule.take_anew.Goals as goal

pub take_listed-requires-clause-inside : goal.take_listed-requires-clause-inside
take_listed-requires-clause-inside c = chosen_inside c.args.runnable.now c.args.self.now
    c.args.hart c.requires.all c.requires.chosen

pub draw_turns-requires-clause-inside : goal.draw_turns-requires-clause-inside
draw_turns-requires-clause-inside c = chosen_inside c.args.runnable.now c.args.self.now
    c.args.hart c.requires.all c.requires.chosen

pub invariant_of-self : goal.invariant_of-self
invariant_of-self c =
    let harts : c.self.inside.harts ≡ c.args.self.now.harts = ap (λ (plan : Plan). plan.harts)
    c.self.view_is in
    let inside = chosen_inside c.args.runnable.now c.args.self.now c.args.hart c.requires.all
    c.requires.chosen in
    let own : c.take_turn.new.self.hart ≡ c.args.hart = ap (λ (s : AStreak). s.hart)
    c.take_turn.ensures in
    let over : c.self.inside.listed ≡ [] = rw c.in-Round.is at c.self.invariant.order in
    record {
      harts = c.self.invariant.harts;
      latest = omega (arith, inside, harts, own);
      order = rw c.in-Round.is over;
    }

pub returns-in-Drawn : goal.returns-in-Drawn
returns-in-Drawn c =
    let i = c.self.inside in
    let runnable = c.args.runnable.now in
    let hart = c.args.hart in
    let over : i.listed ≡ [] = rw c.in-Drawn.is at c.self.invariant.order in
    let anew : going_on runnable (streak_in i.turns i.latest) ≡ None =
    ap (λ (plan : Plan). going_on runnable plan.streak) c.self.view_is ∙ c.requires.anew in
    c.draw_turns.ensures
    ∙ ap (λ (plan : Plan). plan_drawn plan hart c.in-Drawn.draws) (sym c.self.view_is)
    ∙ sym (rw c.in-Drawn.is (drawn_anew runnable i.listed i.latest i.harts i.quantum hart
    c.in-Drawn.draws over (rw c.in-Drawn.is at anew)))
    ∙ ap (λ (plan : Plan). plan_with runnable plan hart) c.self.view_is
    ∙ after_chosen runnable c.args.self.now hart c.requires.chosen
