-- What drawn turns come to: without a seed none is drawn, each takes the next two drawn numbers of
-- its seed, and the first of these says how many runnable harts are below the one that is drawn.
use Rattle.std.specs.Prelude.{◌≡◌, ℕ, zero, suc, ◌+◌, ◌-◌, ◌%◌, ◌≤◌, Bool, List, length}
use Rattle.std.specs.Prelude.{None, Some, refl, slice_get}
use Rattle.std.specs.List.{filter, range_with_len}
use Rattle.std.proofs.Common.{ap, sym, ◌∙◌, inl, inr, arith}
use Rattle.std.proofs.lemmas.Bool.{cases_Bool}
use Rattle.std.proofs.lemmas.Option.{none-some, same_Some}
use Rattle.hart_scheduler.specs.Draws.{state_after, drawn_number}
use Rattle.hart_scheduler.specs.Choices.{Plan, is_runnable, choice_in_turn, choice_after_list}
use Rattle.hart_scheduler.specs.Choices.{runnable_harts, drawn_hart, drawn_turns, going_on}
use Rattle.hart_scheduler.specs.Choices.{choice_drawn, streak_drawn, state_drawn}

-- where nothing is drawn, harts are chosen in turn
pub undrawn : (runnable : List Bool) (plan : Plan) → plan.draws ≡ None
    → choice_after_list runnable plan ≡ choice_in_turn runnable plan
undrawn runnable plan none = rw none refl

-- a hart that follows a streak once so many numbers of a seed were drawn: the next number draws it,
-- the one after that how many turns in a row it has, of which it takes one
pub record IsNextDrawn (runnable : List Bool) (plan : Plan) (seed n hart : ℕ) : Type 0 where
  pub chosen : choice_drawn runnable plan (state_after seed n) ≡ drawn_hart runnable plan.harts
      (drawn_number seed (suc n))
  pub turns : (streak_drawn runnable plan hart (state_after seed n)).left + 1 ≡ drawn_turns
      plan.quantum (drawn_number seed (suc (suc n)))
  pub state : state_drawn runnable plan (state_after seed n) ≡ state_after seed (suc (suc n))

pub next_drawn : (runnable : List Bool) (plan : Plan) (seed n hart : ℕ)
    → going_on runnable plan.streak ≡ None → IsNextDrawn runnable plan seed n hart
next_drawn runnable plan seed n hart none = record {
  chosen = rw none refl;
  turns = rw none (omega arith);
  state = rw none refl;
}

module _ (p : ℕ → Bool) where
  -- as many pass below a number as stand before it among those that pass
  below-place : (n a k h : ℕ) → slice_get (filter p (range_with_len a n)) k ≡ Some h
      → (a ≤ h) × (length (filter p (range_with_len a (h - a))) ≡ k)
  below-place zero a k h is = absurd (none-some h is)
  below-place (suc n) a zero h is =
      elim (cases_Bool (p a)) [
        | inl hit ↦
            let same : a ≡ h = same_Some _ _ (rw hit at is) in
            let e : h - a ≡ 0 = omega (arith, same) in
            (omega (arith, same), rw e refl)
        | inr miss ↦
            let later = below-place n (a + 1) zero h (rw miss at is) in
            let e : h - a ≡ suc (h - (a + 1)) = omega (arith, later.0) in
            (omega (arith, later.0), rw e (rw miss later.1))
      ]
  below-place (suc n) a (suc k) h is =
      elim (cases_Bool (p a)) [
        | inl hit ↦
            let later = below-place n (a + 1) k h (rw hit at is) in
            let e : h - a ≡ suc (h - (a + 1)) = omega (arith, later.0) in
            (omega (arith, later.0), rw e (rw hit (ap (λ (m : ℕ). suc m) later.1)))
        | inr miss ↦
            let later = below-place n (a + 1) (suc k) h (rw miss at is) in
            let e : h - a ≡ suc (h - (a + 1)) = omega (arith, later.0) in
            (omega (arith, later.0), rw e (rw miss later.1))
      ]

-- of m runnable harts as many are below the one that a number draws as it leaves divided by m
pub drawn_below : (runnable : List Bool) (harts number hart : ℕ)
    → drawn_hart runnable harts number ≡ Some hart
    → length (runnable_harts runnable hart) ≡ number % length (runnable_harts runnable harts)
drawn_below runnable harts number hart is =
    let e : hart - 0 ≡ hart = omega arith in
    ap (λ (n : ℕ). length (filter (is_runnable runnable) (range_with_len 0 n))) (sym e)
    ∙ (below-place (is_runnable runnable) harts 0 _ hart is).1
