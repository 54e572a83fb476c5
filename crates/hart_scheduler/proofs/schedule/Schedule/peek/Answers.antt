use Rattle.std.proofs.Common.{sym, ◌∙◌, Option, ℕ, subst}
use Rattle.std.specs.Prelude.{IsTrue, IfSome}
use Rattle.hart_scheduler.specs.Choices.{is_runnable}
use Rattle.hart_scheduler.proofs.InTurn.{choice_none, choice_able}
use Rattle.hart_scheduler.proofs.schedule.Schedule.peek.Goals as goal

pub returns-clause-none : goal.returns-clause-none
returns-clause-none c = let law = choice_none c.args.runnable.now c.args.self.now c.requires in
    ((λ r. law.0 (sym c.choice.ensures ∙ r)), (λ n. c.choice.ensures ∙ law.1 n))

pub returns-clause-able : goal.returns-clause-able
returns-clause-able c =
    let P : Option ℕ → Type 0 = λ o.
    IfSome o (λ hart. IsTrue (is_runnable c.args.runnable.now hart)) in
    subst P (sym c.choice.ensures) (choice_able c.args.runnable.now c.args.self.now)
