use Rattle.std.proofs.Common.{ℕ, Some, arith, ap, ◌∙◌}
use Rattle.guest.proofs.LoneHart.{lone_found}
use Rattle.guest.proofs.threads.lone_in.Goals as goal

pub returns-in-Some : goal.returns-in-Some
returns-in-Some c =
    lone_found c.args.phases.now c.args.running _ c.requires.running (omega arith)
    (ap (λ (n : ℕ). Some n) c.hart_at.ensures ∙ c.in-Some.ensures.answer)

pub returns-in-None : goal.returns-in-None
returns-in-None c = lone_found c.args.phases.now c.args.running _ c.requires.running (omega arith)
    c.in-None.ensures.answer
