-- A longer list asks the same of each place that it had, so a least place never moves.
use Rattle.std.proofs.Common.{◌≡◌, ℕ, zero, suc, ◌+◌, ◌<◌, ◌≤◌, Bool, true, false, List, [], ◌∷◌}
use Rattle.std.proofs.Common.{◌++◌, Some, None, length, take, refl, ◌∙◌, subst, arith}
use Rattle.std.proofs.Common.{length-append, inl, inr}
use Rattle.std.proofs.lemmas.List.{take-append-le, take_at, length-take}
use Rattle.std.proofs.Math.Nat.{add-zero, add-suc}
use Rattle.std.proofs.lemmas.Option.{none-some, same_Some}
use Rattle.std.proofs.lemmas.Bool.{cases_Bool, cases_eq}
use Rattle.std.specs.Prelude.{slice_get, if◌then◌else◌}
use Rattle.std.specs.Option.{option_or}
use Rattle.base.specs.Touch.{Touch}
use Rattle.sharing_rules.specs.Places.{passes_at, least_below, count_below, first_place}
use Rattle.sharing_rules.specs.Places.{count_places}
use Rattle.sharing_rules.specs.Laws.Lists.{slice_cases, slice_get-append_left, slice_get-push}

pub passes_at-append : (asked : List Touch → Touch → Bool) (t s : List Touch) (i : ℕ) → i < length t
    → passes_at asked (t ++ s) i ≡ passes_at asked t i
passes_at-append asked t s i h =
    let le : i ≤ length t = omega arith in
    rw (take-append-le i t s le, slice_get-append_left t s i h)

pub passes_at-push : (asked : List Touch → Touch → Bool) (t : List Touch) (a : Touch)
    → passes_at asked (t ++ a ∷ []) (length t) ≡ asked t a
passes_at-push asked t a = rw (take_at t (a ∷ []) (length t) refl, slice_get-push t a)

pub least_below-congr : (p q : ℕ → Bool) (n : ℕ) → ((i : ℕ) → i < n → p i ≡ q i)
    → least_below p n ≡ least_below q n
least_below-congr p q zero h = refl
least_below-congr p q (suc n) h = rw (
  least_below-congr p q n (λ i l. h i (omega arith)),
  h n (omega arith),
)

pub count_below-congr : (p q : ℕ → Bool) (n : ℕ) → ((i : ℕ) → i < n → p i ≡ q i)
    → count_below p n ≡ count_below q n
count_below-congr p q zero h = refl
count_below-congr p q (suc n) h = rw (
  count_below-congr p q n (λ i l. h i (omega arith)),
  h n (omega arith),
)

pub first_place-empty : (asked : List Touch → Touch → Bool) → first_place asked [] ≡ None
unfolding first_place
first_place-empty asked = refl

-- one access more
pub first_place-push : (asked : List Touch → Touch → Bool) (t : List Touch) (a : Touch)
    → first_place asked (t ++ a ∷ []) ≡ option_or (first_place asked t)
    (if asked t a then Some (length t) else None)
unfolding first_place
first_place-push asked t a =
    let len : length (t ++ a ∷ []) ≡ suc (length t) = omega (arith, length-append t (a ∷ [])) in
    rw (
      len,
      least_below-congr _ _ (length t) (passes_at-append asked t (a ∷ [])),
      passes_at-push asked t a,
    )

pub count_places-push : (asked : List Touch → Touch → Bool) (t : List Touch) (a : Touch)
    → count_places asked (t ++ a ∷ []) ≡ count_places asked t + (if asked t a then 1 else 0)
unfolding count_places
count_places-push asked t a =
    let len : length (t ++ a ∷ []) ≡ suc (length t) = omega (arith, length-append t (a ∷ [])) in
    rw (
      len,
      count_below-congr _ _ (length t) (passes_at-append asked t (a ∷ [])),
      passes_at-push asked t a,
    )

least_below-more : (p : ℕ → Bool) (n m i : ℕ) → least_below p n ≡ Some i
    → least_below p (n + m) ≡ Some i
least_below-more p n zero i e = rw add-zero e
least_below-more p n (suc m) i e = rw (add-suc, least_below-more p n m i e)

-- a longer list moves no first place
pub first_place-append : (asked : List Touch → Touch → Bool) (t s : List Touch) (i : ℕ)
    → first_place asked t ≡ Some i → first_place asked (t ++ s) ≡ Some i
unfolding first_place
first_place-append asked t s i e =
    rw (length-append t s)
    (least_below-more _ (length t) (length s) i
    (least_below-congr _ _ (length t) (passes_at-append asked t s) ∙ e))

least_below-within : (p : ℕ → Bool) (n i : ℕ) → least_below p n ≡ Some i → i < n
least_below-within p zero i e = absurd (none-some i e)
least_below-within p (suc n) i e =
    elim (slice_cases (least_below p n)) [
      | inl none ↦ elim (cases_Bool (p n)) [
        | inl passes ↦ let k : Some n ≡ Some i = rw (none, passes) at e in let same : n ≡ i =
            same_Some n i k in omega arith
        | inr fails ↦ let k : None ≡ Some i = rw (none, fails) at e in absurd (none-some i k)
      ]
      | inr some ↦
          let k : Some some.0 ≡ Some i = rw some.1 at e in
          let below = least_below-within p n some.0 some.1 in
          let same : some.0 ≡ i = same_Some some.0 i k in omega arith
    ]

-- a first place is a place
pub first_place-within : (asked : List Touch → Touch → Bool) (t : List Touch) (i : ℕ)
    → first_place asked t ≡ Some i → i < length t
unfolding first_place
first_place-within asked t i e = least_below-within (passes_at asked t) (length t) i e

count_below-none : (p : ℕ → Bool) (n : ℕ) → ((i : ℕ) → i < n → p i ≡ false) → count_below p n ≡ 0
count_below-none p zero none = refl
count_below-none p (suc n) none = rw (
  count_below-none p n (λ i l. none i (omega arith)),
  none n (omega arith),
)

passes_at-none : (asked : List Touch → Touch → Bool) (t : List Touch) (i : ℕ) → i < length t
    → ((before : List Touch) (a : Touch) → length before < length t → asked before a ≡ false)
    → passes_at asked t i ≡ false
passes_at-none asked t i l none =
    elim (slice_cases (slice_get t i)) [
      | inl past ↦ rw past
      | inr there ↦
          let short : length (take i t) < length t = omega (arith, length-take i t) in
          rw (there.1, none (take i t) there.0 short)
    ]

-- where the answer is no at each place below, nothing is counted
pub count_places-none : (asked : List Touch → Touch → Bool) (t : List Touch)
    → ((before : List Touch) (a : Touch) → length before < length t → asked before a ≡ false)
    → count_places asked t ≡ 0
unfolding count_places
count_places-none asked t none = count_below-none (passes_at asked t) (length t)
    (λ i l. passes_at-none asked t i l none)

least_below-passes : (p : ℕ → Bool) (n i : ℕ) → least_below p n ≡ Some i → p i ≡ true
least_below-passes p zero i e = absurd (none-some i e)
least_below-passes p (suc n) i e =
    elim (slice_cases (least_below p n)) [
      | inl none ↦ elim (cases_Bool (p n)) [
        | inl passes ↦ let k : Some n ≡ Some i = rw (none, passes) at e
            in rw (← same_Some n i k) passes
        | inr fails ↦ let k : None ≡ Some i = rw (none, fails) at e in absurd (none-some i k)
      ]
      | inr some ↦ let k : Some some.0 ≡ Some i = rw some.1 at e
          in rw (← same_Some some.0 i k) (least_below-passes p n some.0 some.1)
    ]

-- a first place passes
pub first_place-passes : (asked : List Touch → Touch → Bool) (t : List Touch) (i : ℕ)
    → first_place asked t ≡ Some i → passes_at asked t i ≡ true
unfolding first_place
first_place-passes asked t i e = least_below-passes (passes_at asked t) (length t) i e

least_below-none : (p : ℕ → Bool) (n : ℕ) → ((i : ℕ) → i < n → p i ≡ false) → least_below p n ≡ None
least_below-none p zero none = refl
least_below-none p (suc n) none = rw (
  least_below-none p n (λ i l. none i (omega arith)),
  none n (omega arith),
)

least_below-least : (p : ℕ → Bool) (n i : ℕ) → i < n → p i ≡ true → ((j : ℕ) → j < i → p j ≡ false)
    → least_below p n ≡ Some i
least_below-least p zero i l e none = absurd (omega (arith, l))
least_below-least p (suc n) i l e none =
    elim (cases_eq i n) [
      | inl here ↦
          let all_no : least_below p n ≡ None =
          least_below-none p n (λ j below. none j (omega arith)) in
          let yes_here : p n ≡ true = subst (λ k. p k ≡ true) here e in
          rw (all_no, yes_here, here)
      | inr other ↦ let before : least_below p n ≡ Some i = least_below-least p n i
          (omega arith) e none in rw before
    ]

-- a place that passes, where none before it does, is the first
pub first_place-least : (asked : List Touch → Touch → Bool) (t : List Touch) (i : ℕ) → i < length t
    → passes_at asked t i ≡ true → ((j : ℕ) → j < i → passes_at asked t j ≡ false)
    → first_place asked t ≡ Some i
unfolding first_place
first_place-least asked t i l e none = least_below-least (passes_at asked t) (length t) i l e none

pub count_places-empty : (asked : List Touch → Touch → Bool) → count_places asked [] ≡ 0
unfolding count_places
count_places-empty asked = refl

-- where no place passes there is no first
pub first_place-never : (asked : List Touch → Touch → Bool) (t : List Touch)
    → ((i : ℕ) → i < length t → passes_at asked t i ≡ false) → first_place asked t ≡ None
unfolding first_place
first_place-never asked t none = least_below-none (passes_at asked t) (length t) none
