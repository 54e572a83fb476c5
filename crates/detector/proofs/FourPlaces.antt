-- A list changed at up to four places, what stands at a place of a longer one, and the first
-- element
-- that passes a test.
use Rattle.std.proofs.Common.{◌≡◌, ◌≢◌, ℕ, zero, suc, Bool, true, false, List, [], ◌∷◌, ◌++◌}
use Rattle.std.proofs.Common.{Option, Some, None, map, length, refl, sym, ap, ◌∙◌, ◌⊎◌, arith, inl}
use Rattle.std.proofs.Common.{inr}
use Rattle.std.proofs.lemmas.Bool.{cases_Bool, cases_eq, cases_lt}
use Rattle.std.proofs.lemmas.Option.{same_Some, none-some, slice_get_within, slice_get-map}
use Rattle.std.proofs.lemmas.List.{length-append}
use Rattle.std.specs.Prelude.{slice_get, slice_set, option_map}
use Rattle.std.specs.List.{find}
use Rattle.std.specs.Option.{option_map_or}
use Rattle.sharing_rules.specs.Laws.Lists.{slice_cases, get-set_same, get-set_other}
use Rattle.sharing_rules.specs.Laws.Lists.{slice_get-append_left, slice_get-push, same_by_get}

-- what stands at a place of a list and one element more
pub slice_get-more : {X : Type 0} (t : List X) (a x : X) (i : ℕ) → slice_get (t ++ a ∷ []) i
    ≡ Some x
    → (slice_get t i ≡ Some x) ⊎ ((i ≡ length t) × (x ≡ a))
slice_get-more t a x i e =
    elim (cases_lt i (length t)) [
      | inl l ↦ inl (sym (slice_get-append_left t (a ∷ []) i l) ∙ e)
      | inr l ↦
          let within = slice_get_within (t ++ a ∷ []) i x e in
          let last : i ≡ length t = omega (arith, length-append t (a ∷ [])) in
          inr (last, same_Some x a (sym e ∙ ap (slice_get (t ++ a ∷ [])) last ∙ slice_get-push t a))
    ]

-- one place changed, if one is named
abbrev pub change_at : {X : Type 0} → (X → X) → Option ℕ → List X → List X
change_at f place xs = option_map_or (λ i. option_map_or (λ x. slice_set xs i (f x))
    (slice_get xs i) xs) place xs

pub change_at-here : {X : Type 0} (f : X → X) (i : ℕ) (xs : List X)
    → slice_get (change_at f (Some i) xs) i ≡ option_map f (slice_get xs i)
change_at-here f i xs =
    elim (slice_cases (slice_get xs i)) [
      | inl none ↦ rw (none, none)
      | inr some ↦ rw (some.1) (get-set_same xs i (f some.0) (slice_get_within xs i some.0 some.1))
    ]

pub change_at-other : {X : Type 0} (f : X → X) (o : Option ℕ) (xs : List X) (j : ℕ) → o ≢ Some j
    → slice_get (change_at f o xs) j ≡ slice_get xs j
change_at-other f None xs j apart = refl
change_at-other f (Some i) xs j apart =
    elim (slice_cases (slice_get xs i)) [
      | inl none ↦ rw none
      | inr some ↦ rw (some.1) (get-set_other xs i j (f some.0) (λ e. apart (ap Some (sym e))))
    ]

-- whether a place is named
pub is_place : (o : Option ℕ) (j : ℕ) → (o ≡ Some j) ⊎ (o ≢ Some j)
is_place None j = inr (λ e. none-some j e)
is_place (Some i) j = elim (cases_eq i j) [
  | inl e ↦ inl (ap Some e)
  | inr other ↦
      inr (λ e. other (same_Some i j e))
]

-- no two of the four are the same
pub record AreApart (o₁ o₂ o₃ o₄ : Option ℕ) : Type 0 where
  pub one_two : (j : ℕ) → o₁ ≡ Some j → o₂ ≢ Some j
  pub one_three : (j : ℕ) → o₁ ≡ Some j → o₃ ≢ Some j
  pub one_four : (j : ℕ) → o₁ ≡ Some j → o₄ ≢ Some j
  pub two_three : (j : ℕ) → o₂ ≡ Some j → o₃ ≢ Some j
  pub two_four : (j : ℕ) → o₂ ≡ Some j → o₄ ≢ Some j
  pub three_four : (j : ℕ) → o₃ ≡ Some j → o₄ ≢ Some j

-- where all others stay the same under f, the four changed one after the other are the whole list
-- under f
pub change_four : {X : Type 0} (f : X → X) (o₁ o₂ o₃ o₄ : Option ℕ) (xs : List X)
    → AreApart o₁ o₂ o₃ o₄
    → ((j : ℕ) (x : X) → slice_get xs j ≡ Some x → o₁ ≢ Some j → o₂ ≢ Some j → o₃ ≢ Some j
    → o₄ ≢ Some j → f x ≡ x)
    → change_at f o₄ (change_at f o₃ (change_at f o₂ (change_at f o₁ xs))) ≡ map f xs
change_four {X} f o₁ o₂ o₃ o₄ xs apart rest =
    let ys₁ = change_at f o₁ xs in
    let ys₂ = change_at f o₂ (change_at f o₁ xs) in
    let ys₃ = change_at f o₃ (change_at f o₂ (change_at f o₁ xs)) in
    same_by_get (change_at f o₄ (change_at f o₃ (change_at f o₂ (change_at f o₁ xs)))) (map f xs)
    (λ j.
    elim (is_place o₁ j) [
      | inl e ↦
          change_at-other f o₄ ys₃ j (apart.one_four j e)
          ∙ change_at-other f o₃ ys₂ j (apart.one_three j e)
          ∙ change_at-other f o₂ ys₁ j (apart.one_two j e)
          ∙ ap (λ o. slice_get (change_at f o xs) j) e ∙ change_at-here f j xs
          ∙ sym (slice_get-map f xs j)
      | inr n₁ ↦ elim (is_place o₂ j) [
        | inl e ↦
            change_at-other f o₄ ys₃ j (apart.two_four j e)
            ∙ change_at-other f o₃ ys₂ j (apart.two_three j e)
            ∙ ap (λ o. slice_get (change_at f o (change_at f o₁ xs)) j) e ∙ change_at-here f j ys₁
            ∙ ap (option_map f) (change_at-other f o₁ xs j n₁) ∙ sym (slice_get-map f xs j)
        | inr n₂ ↦ elim (is_place o₃ j) [
          | inl e ↦
              change_at-other f o₄ ys₃ j (apart.three_four j e)
              ∙ ap (λ o. slice_get (change_at f o (change_at f o₂ (change_at f o₁ xs))) j) e
              ∙ change_at-here f j ys₂
              ∙ ap (option_map f) (change_at-other f o₂ ys₁ j n₂ ∙ change_at-other f o₁ xs j n₁)
              ∙ sym (slice_get-map f xs j)
          | inr n₃ ↦ elim (is_place o₄ j) [
            | inl e ↦
                ap (λ o. slice_get (change_at f o (change_at f o₃
                (change_at f o₂ (change_at f o₁ xs)))) j) e ∙ change_at-here f j ys₃
                ∙ ap (option_map f) (change_at-other f o₃ ys₂ j n₃ ∙ change_at-other f o₂ ys₁ j n₂
                ∙ change_at-other f o₁ xs j n₁)
                ∙ sym (slice_get-map f xs j)
            | inr n₄ ↦
                change_at-other f o₄ ys₃ j n₄ ∙ change_at-other f o₃ ys₂ j n₃
                ∙ change_at-other f o₂ ys₁ j n₂ ∙ change_at-other f o₁ xs j n₁
                ∙ same j (slice_get xs j) refl n₁ n₂ n₃ n₄ ∙ sym (slice_get-map f xs j)
          ]
        ]
      ]
    ])
  where
    same : (j : ℕ) (o : Option X) → slice_get xs j ≡ o → o₁ ≢ Some j → o₂ ≢ Some j → o₃ ≢ Some j
        → o₄ ≢ Some j
        → slice_get xs j ≡ option_map f (slice_get xs j)
    same j None e n₁ n₂ n₃ n₄ = e ∙ ap (option_map f) (sym e)
    same j (Some x) e n₁ n₂ n₃ n₄ = e ∙ ap Some (sym (rest j x e n₁ n₂ n₃ n₄))
        ∙ ap (option_map f) (sym e)

-- the first that passes
pub find-none : {X : Type 0} (p : X → Bool) (xs : List X)
    → ((j : ℕ) (y : X) → slice_get xs j ≡ Some y → p y ≡ false) → find p xs ≡ None
find-none p [] h = refl
find-none p (x ∷ xs) h = rw (h 0 x refl) (find-none p xs (λ j. h (suc j)))

pub find-only : {X : Type 0} (p : X → Bool) (xs : List X) (i : ℕ) (x : X) → slice_get xs i ≡ Some x
    → p x ≡ true
    → ((j : ℕ) (y : X) → slice_get xs j ≡ Some y → p y ≡ true → j ≡ i) → find p xs ≡ Some x
find-only p [] i x at passes only = absurd (none-some x at)
find-only p (y ∷ xs) zero x at passes only =
    let same : y ≡ x = same_Some y x at in
    rw (ap p same ∙ passes) (ap Some same)
find-only p (y ∷ xs) (suc i) x at passes only =
    elim (cases_Bool (p y)) [
      | inl e ↦ let q : zero ≡ suc i = only 0 y refl e in absurd (omega arith)
      | inr e ↦ rw e (find-only p xs i x at passes
          (λ j z here t. let q : suc j ≡ suc i = only (suc j) z here t in omega arith))
    ]
