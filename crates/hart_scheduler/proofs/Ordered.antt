-- What a choice leaves of a list, and of a streak that goes on.
use Rattle.std.proofs.Common.{◌≡◌, ℕ, ◌-◌, Bool, true, false, List, [], ◌∷◌, is_some, Option, Some}
use Rattle.std.proofs.Common.{None, ap, refl, sym, subst, true≢false, ◌∙◌, inl, inr, arith}
use Rattle.std.proofs.lemmas.Bool.{cases_Bool, and_parts}
use Rattle.std.proofs.lemmas.Bool.Decides.{nat_tests}
use Rattle.std.proofs.lemmas.Option.{none-some}
use Rattle.std.specs.Prelude.{◌&&◌, nat_eq, nat_lt, IsTrue}
use Rattle.std.specs.List.{find, after_first}
use Rattle.std.specs.Option.{IfSome, option_map_or}
use Rattle.hart_scheduler.specs.ScheduleParts.{AStreak}
use Rattle.hart_scheduler.specs.declared.turns.Turns.{Turns}
use Rattle.hart_scheduler.specs.declared.turns.Turns.TheVariants.{First, Round, Drawn}
use Rattle.hart_scheduler.specs.Choices.{Plan, is_runnable, choice, goes_on, plan_with, plan_after}
use Rattle.hart_scheduler.specs.Choices.{drawn_turns, going_on}
use Rattle.hart_scheduler.specs.Draws.{next_state, number_in}
use Rattle.hart_scheduler.specs.ScheduleInside.{streak_in, draws_in, IsInOrder}
use Rattle.hart_scheduler.proofs.InTurn.{choice_able}
use Rattle.hart_scheduler.proofs.ListedLaws.{after_first-miss}

no_value : (o : Option ℕ) → is_some o ≡ false → o ≡ None
no_value None none = refl
no_value (Some x) none = absurd (true≢false none)

module _ (p : ℕ → Bool) where
  nothing-after : (xs : List ℕ) → find p xs ≡ None → after_first p xs ≡ []
  nothing-after [] none = refl
  nothing-after (x ∷ xs) none =
      elim (cases_Bool (p x)) [
        | inl hit ↦ absurd (none-some x (sym (rw hit at none)))
        | inr miss ↦ after_first-miss p x xs miss ∙ nothing-after xs (rw miss at none)
      ]

  -- where none is found, nothing is left
  pub nothing_after : (xs ys : List ℕ) → ys ≡ after_first p xs → is_some (find p xs) ≡ false
      → ys ≡ []
  nothing_after xs ys after miss = after ∙ nothing-after xs (no_value (find p xs) miss)

-- the hart that is chosen goes on where it has turns left
pub chosen_on : (runnable : List Bool) (plan : Plan) (hart : ℕ) (latest : AStreak)
    → choice runnable plan ≡ Some hart
    → (nat_eq latest.hart hart && nat_lt 0 latest.left) ≡ true
    → goes_on runnable latest ≡ true
chosen_on runnable plan hart latest chosen left =
    let P : Option ℕ → Type 0 = λ o. IfSome o (λ h. IsTrue (is_runnable runnable h)) in
    let able : is_runnable runnable hart ≡ true = subst P chosen (choice_able runnable plan) in
    let own : nat_eq latest.hart hart ≡ true = (and_parts _ _ left).0 in
    let same : latest.hart ≡ hart = grind (arith, nat_tests) in
    rw (same, able) (and_parts _ _ left).1

-- the plan of a schedule's parts
abbrev pub plan_by : Turns → List ℕ → AStreak → ℕ → ℕ → Plan
plan_by turns listed latest harts quantum = record {
  listed = listed;
  streak = streak_in turns latest;
  harts = harts;
  quantum = quantum;
  draws = draws_in turns;
}

-- the plan once a hart is drawn by the next number, and its turns by the one after it
abbrev pub plan_drawn : Plan → ℕ → ℕ → Plan
plan_drawn plan hart state = record plan {
  streak = Some (record {
    hart = hart;
    left = drawn_turns plan.quantum (number_in (next_state (next_state state))) - 1;
  });
  draws = Some (next_state (next_state state));
}

-- a streak that goes on has one turn less, and nothing else changes
pub went_on : (runnable : List Bool) (turns : Turns) (listed : List ℕ) (latest : AStreak)
    (harts quantum hart : ℕ) → IsInOrder turns listed latest
    → choice runnable (plan_by turns listed latest harts quantum) ≡ Some hart
    → (nat_eq latest.hart hart && nat_lt 0 latest.left) ≡ true
    → plan_by turns listed (record { hart = latest.hart; left = latest.left - 1 }) harts quantum
    ≡ plan_with runnable (plan_by turns listed latest harts quantum) hart
went_on runnable (First draws) listed latest harts quantum hart order chosen left =
    let some : nat_lt 0 latest.left ≡ true = (and_parts _ _ left).1 in
    absurd (true≢false (sym (rw order at some)))
went_on runnable Round listed latest harts quantum hart order chosen left =
    let own : nat_eq latest.hart hart ≡ true = (and_parts _ _ left).0 in
    let same : hart ≡ latest.hart = grind (arith, nat_tests) in
    rw (order, own, same) refl
went_on runnable (Drawn draws) listed latest harts quantum hart order chosen left =
    let plan = plan_by (Drawn draws) listed latest harts quantum in
    let on : goes_on runnable latest ≡ true = chosen_on runnable plan hart latest chosen left in
    rw (order, on) refl

-- where none goes on, the hart that was drawn has as many turns as the next number draws
pub drawn_anew : (runnable : List Bool) (listed : List ℕ) (latest : AStreak)
    (harts quantum hart state : ℕ) → listed ≡ []
    → going_on runnable (Some latest) ≡ None
    → plan_with runnable (plan_by (Drawn state) listed latest harts quantum) hart
    ≡ plan_drawn (plan_by (Drawn state) listed latest harts quantum) hart state
drawn_anew runnable listed latest harts quantum hart state over none = rw (over, none) refl

-- the plan after the hart that was chosen
pub after_chosen : (runnable : List Bool) (plan : Plan) (hart : ℕ)
    → choice runnable plan ≡ Some hart → plan_with runnable plan hart ≡ plan_after runnable plan
after_chosen runnable plan hart chosen =
    sym (ap (λ (o : Option ℕ). option_map_or (plan_with runnable plan) o plan) chosen)
