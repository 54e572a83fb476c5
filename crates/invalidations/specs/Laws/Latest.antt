-- The latest access that passes, after one access more.
use Rattle.std.proofs.Common.{◌≡◌, ℕ, zero, suc, ◌<◌, Bool, true, false, List, [], ◌∷◌, ◌++◌}
use Rattle.std.proofs.Common.{Some, None, length, length-append, refl, arith}
use Rattle.std.proofs.Common.{inl, inr}
use Rattle.std.proofs.lemmas.Bool.{cases_Bool}
use Rattle.std.proofs.lemmas.List.{length-map, map-append}
use Rattle.std.proofs.lemmas.Option.{none-some, same_Some}
use Rattle.std.specs.Option.{option_map_or}
use Rattle.std.specs.Prelude.{if◌then◌else◌, slice_get}
use Rattle.base.specs.Touch.{Touch}
use Rattle.sharing_rules.specs.Laws.Lists.{by_push, slice_cases, slice_get-append_left}
use Rattle.sharing_rules.specs.Laws.Lists.{slice_get-push}
use Rattle.invalidations.specs.declared.sited.Sited.{Sited}
use Rattle.invalidations.specs.Latest.{accesses_of, greatest_below, latest, latest_place}

pub accesses_of-push : (u : List Sited) (s : Sited)
    → accesses_of (u ++ s ∷ []) ≡ accesses_of u ++ s.access ∷ []
accesses_of-push u s = map-append {B = Touch} (λ (x : Sited). x.access) u (s ∷ [])

pub length-accesses_of : (u : List Sited) → length (accesses_of u) ≡ length u
length-accesses_of u = length-map u (λ (x : Sited). x.access)

greatest_below-same : (p q : ℕ → Bool) (n : ℕ) → ((i : ℕ) → i < n → p i ≡ q i)
    → greatest_below p n ≡ greatest_below q n
greatest_below-same p q zero same = refl
greatest_below-same p q (suc n) same = rw (
  greatest_below-same p q n (λ i l. same i (omega arith)),
  same n (omega arith),
) refl

greatest_below-within : (p : ℕ → Bool) (n i : ℕ) → greatest_below p n ≡ Some i → i < n
greatest_below-within p zero i e = absurd (none-some i e)
greatest_below-within p (suc n) i e =
    elim (cases_Bool (p n)) [
      | inl yes_n ↦
          let k : Some n ≡ Some i = rw yes_n at e in
          let same : n ≡ i = same_Some n i k in omega (arith, same)
      | inr no_n ↦
          let k : greatest_below p n ≡ Some i = rw no_n at e in
          let less = greatest_below-within p n i k in omega (arith, less)
    ]

passes-left : (p : Sited → Bool) (u : List Sited) (s : Sited) (i : ℕ) → i < length u
    → option_map_or p (slice_get (u ++ s ∷ []) i) false ≡ option_map_or p (slice_get u i) false
passes-left p u s i l = rw (slice_get-append_left u (s ∷ []) i l) refl

pub latest_place-push : (p : Sited → Bool) (u : List Sited) (s : Sited)
    → latest_place p (u ++ s ∷ []) ≡ if p s then Some (length u) else latest_place p u
unfolding latest_place
latest_place-push p u s =
    let len : length (u ++ s ∷ []) ≡ suc (length u) = omega (arith, length-append u (s ∷ [])) in
    rw (
      len,
      greatest_below-same _ _ (length u) (passes-left p u s),
      slice_get-push u s,
    ) refl

pub latest_place-within : (p : Sited → Bool) (u : List Sited) (i : ℕ)
    → latest_place p u ≡ Some i → i < length u
unfolding latest_place
latest_place-within p u i e =
    greatest_below-within (λ j. option_map_or p (slice_get u j) false) (length u) i e

pub latest-empty : (p : Sited → Bool) → latest p [] ≡ None
unfolding latest latest_place
latest-empty p = refl

pub latest-push : (p : Sited → Bool) (u : List Sited) (s : Sited)
    → latest p (u ++ s ∷ []) ≡ if p s then Some s else latest p u
unfolding latest
latest-push p u s =
    rw (latest_place-push p u s)
    (elim (cases_Bool (p s)) [
      | inl e ↦ rw e (slice_get-push u s)
      | inr e ↦ rw e (elim (slice_cases (latest_place p u)) [
        | inl none ↦ rw none refl
        | inr some ↦ rw some.1 (slice_get-append_left u (s ∷ []) some.0
            (latest_place-within p u some.0 some.1))
      ])
    ])

-- what it is passes
pub latest-passes : (p : Sited → Bool) (u : List Sited) (v : Sited) → latest p u ≡ Some v
    → p v ≡ true
latest-passes p u v =
    by_push (λ (u : List Sited). latest p u ≡ Some v → p v ≡ true)
    (λ e. absurd (none-some v (rw (latest-empty p) at e)))
    (λ u s ih e.
    elim (cases_Bool (p s)) [
      | inl passes ↦
          let k : Some s ≡ Some v = rw (latest-push p u s, passes) at e in
          rw (← same_Some s v k) passes
      | inr fails ↦ let k : latest p u ≡ Some v = rw (latest-push p u s, fails) at e in ih k
    ])
    u
