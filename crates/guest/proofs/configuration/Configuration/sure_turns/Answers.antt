use Rattle.std.proofs.Common.{◌≡◌, ◌∙◌, ℕ, arith, subst, sym}
use Rattle.std.proofs.lemmas.List.{length-map}
use Rattle.std.proofs.lemmas.Option.{same_Some}
use Rattle.hart_scheduler.specs.Choices.{AreOf}
use Rattle.guest.specs.Phases.{is_runnable}
use Rattle.guest.specs.ConfigInside.{config_of}
use Rattle.guest.specs.Turns.{runnable_in}
use Rattle.guest.proofs.NextHart.{lone-marked}
use Rattle.guest.proofs.configuration.Configuration.sure_turns.Goals as goal

pub returns-in-Some : goal.returns-in-Some
returns-in-Some c =
    let runnable = runnable_in (config_of c.args.self.now) in
    let plan = c.args.self.now.schedule in
    let sure : (n : ℕ) → AreOf runnable plan n c.in-Some._lone = λ n.
    c.lone_goes_on.ensures runnable plan c.in-Some._lone n
    (length-map c.args.self.now.threads is_runnable ∙ sym c.requires.plan)
    (lone-marked c.args.self.now.threads c.in-Some._lone c.in-Some.ensures.alone) in
    let same : c.in-Some._lone ≡ c.args.hart =
    same_Some _ _ (sym (sure 1 0 (omega arith)) ∙ c.requires.next) in
    let P : ℕ → Type 0 = λ h. AreOf runnable plan 18446744073709551615 h in
    subst P same (sure 18446744073709551615)
