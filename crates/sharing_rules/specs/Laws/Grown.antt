-- What is chosen by keys, where the choice grows: all that was chosen, and what is chosen anew.
use Rattle.std.proofs.Common.{◌≡◌, ℕ, true, false, eqb, List, [], ◌∷◌, ◌++◌, Option, Some, None}
use Rattle.std.proofs.Common.{refl, sym, ap, ◌∙◌, subst, inl, inr}
use Rattle.std.proofs.lemmas.Bool.{cases_Bool, false≢true, eqb-true, eq-eqb, or_cases}
use Rattle.std.proofs.lemmas.Option.{none-some}
use Rattle.std.proofs.lemmas.List.Elements.{filter_map-append}
use Rattle.std.proofs.lemmas.List.{append-nil}
use Rattle.std.proofs.lemmas.List.Sorted.{IsPermutation-refl, IsPermutation-sym}
use Rattle.std.proofs.lemmas.List.Sorted.{IsPermutation-trans, IsPermutation-cons}
use Rattle.std.proofs.lemmas.List.Sorted.{IsPermutation-middle}
use Rattle.std.specs.Prelude.{◌⊎◌, if◌then◌else◌, filter_map, is_some, option_to_list}
use Rattle.std.specs.List.{list_any, AllByRecursion, IsDistinct}
use Rattle.std.specs.List.Sorted.{IsPermutation}
use Rattle.sharing_rules.specs.Arrivals.{note_arrival}
use Rattle.sharing_rules.specs.Laws.Lists.{slice_cases}

pub eqb-same : (i : ℕ) → eqb i i ≡ true
eqb-same i = eq-eqb i i refl

-- what a key gives now, and gave nothing before
abbrev pub fresh : {X : Type 0} → (ℕ → Option X) → (ℕ → Option X) → ℕ → Option X
fresh h now k = if is_some (h k) then None else now k

pub fresh-none : {X : Type 0} (h now : ℕ → Option X) (k : ℕ) → h k ≡ None → fresh h now k ≡ now k
fresh-none h now k e = rw e

pub fresh-some : {X : Type 0} (h now : ℕ → Option X) (k : ℕ) (x : X) → h k ≡ Some x
    → fresh h now k ≡ None
fresh-some h now k x e = rw e

-- what was given is given still, and the rest is new
pub filter_map-grown : {X : Type 0} (h now : ℕ → Option X)
    → ((k : ℕ) (x : X) → h k ≡ Some x → now k ≡ Some x) → (ks : List ℕ)
    → IsPermutation (filter_map now ks) (filter_map h ks ++ filter_map (fresh h now) ks)
filter_map-grown h now stays [] = IsPermutation-refl []
filter_map-grown h now stays (k ∷ ks) =
    let ih = filter_map-grown h now stays ks in
    elim (slice_cases (h k)) [
      | inl none ↦ elim (slice_cases (now k)) [
        | inl still ↦ rw (none, still) ih
        | inr some ↦
            rw (none, some.1)
            (IsPermutation-trans (some.0 ∷ filter_map now ks)
            (some.0 ∷ (filter_map h ks ++ filter_map (fresh h now) ks))
            (filter_map h ks ++ some.0 ∷ filter_map (fresh h now) ks)
            (IsPermutation-cons some.0 _ _ ih)
            (IsPermutation-sym _ _
            (IsPermutation-middle (filter_map h ks) some.0 (filter_map (fresh h now) ks))))
      ]
      | inr some ↦ rw (some.1, stays k some.0 some.1) (IsPermutation-cons some.0 _ _ ih)
    ]

pub filter_map-nothing : {X : Type 0} (d : ℕ → Option X) (ks : List ℕ)
    → AllByRecursion (λ k. d k ≡ None) ks → filter_map d ks ≡ []
filter_map-nothing d [] all = refl
filter_map-nothing d (k ∷ ks) all = rw all.0 (filter_map-nothing d ks all.1)

all_of : (P : ℕ → Type 0) → ((k : ℕ) → P k) → (ks : List ℕ) → AllByRecursion P ks
all_of P f [] = tt
all_of P f (k ∷ ks) = (f k, all_of P f ks)

pub filter_map-never : {X : Type 0} (d : ℕ → Option X) (ks : List ℕ) → ((k : ℕ) → d k ≡ None)
    → filter_map d ks ≡ []
filter_map-never d ks none = filter_map-nothing d ks (all_of (λ k. d k ≡ None) none ks)

others : {X : Type 0} (d : ℕ → Option X) (j : ℕ) (ks : List ℕ)
    → ((k : ℕ) → eqb j k ≡ false → d k ≡ None) → AllByRecursion (λ k. eqb j k ≡ false) ks
    → AllByRecursion (λ k. d k ≡ None) ks
others d j [] none all = tt
others d j (k ∷ ks) none all = (none k all.0, others d j ks none all.1)

single_in : {X : Type 0} (d : ℕ → Option X) (j : ℕ) (ks : List ℕ) → IsDistinct eqb ks
    → ((k : ℕ) → eqb j k ≡ false → d k ≡ None) → list_any (eqb j) ks ≡ true
    → filter_map d ks ≡ option_to_list (d j)
unfolding IsDistinct
single_in d j [] distinct none has = absurd (false≢true has)
single_in d j (k ∷ ks) distinct none has =
    elim (cases_Bool (eqb j k)) [
      | inl here ↦
          let same : j ≡ k = eqb-true j k here in
          let rest : filter_map d ks ≡ [] = filter_map-nothing d ks
          (others d j ks none (subst (λ z. AllByRecursion (λ y. eqb z y ≡ false) ks)
          (sym same) distinct.0)) in
          elim (slice_cases (d k)) [
            | inl nothing ↦ rw (nothing, same, nothing) rest
            | inr some ↦ rw (some.1, same, some.1, rest)
          ]
      | inr other ↦
          rw (none k other)
          (single_in d j ks distinct.1 none
          (elim (or_cases (eqb j k) (list_any (eqb j) ks) has)
          [ inl e ↦ absurd (false≢true (sym other ∙ e)) | inr e ↦ e ]))
    ]

all_none : {X : Type 0} (d : ℕ → Option X) (j : ℕ) → ((k : ℕ) → eqb j k ≡ false → d k ≡ None)
    → d j ≡ None → (k : ℕ) → d k ≡ None
all_none d j none here k = elim (cases_Bool (eqb j k)) [
  | inl e ↦ ap d (sym (eqb-true j k e))
      ∙ here
  | inr e ↦ none k e
]

-- where one key alone gives something
pub filter_map-single : {X : Type 0} (d : ℕ → Option X) (j : ℕ) (ks : List ℕ) → IsDistinct eqb ks
    → ((k : ℕ) → eqb j k ≡ false → d k ≡ None) → (list_any (eqb j) ks ≡ true) ⊎ (d j ≡ None)
    → filter_map d ks ≡ option_to_list (d j)
filter_map-single d j ks distinct none (inl has) = single_in d j ks distinct none has
filter_map-single d j ks distinct none (inr nothing) =
    filter_map-never d ks (all_none d j none nothing) ∙ ap option_to_list (sym nothing)

-- what key i gives, and no other
abbrev only : {X : Type 0} → (ℕ → Option X) → ℕ → ℕ → Option X
only d i k = if eqb i k then d k else None

only-stays : {X : Type 0} (d : ℕ → Option X) (i k : ℕ) (x : X) → only d i k ≡ Some x → d k ≡ Some x
only-stays d i k x e = elim (cases_Bool (eqb i k)) [
  | inl here ↦ rw here at e
  | inr other ↦
      let z : None ≡ Some x = rw other at e in absurd (none-some x z)
]

only-other : {X : Type 0} (d : ℕ → Option X) (i k : ℕ) → eqb i k ≡ false → only d i k ≡ None
only-other d i k other = rw other

only-here : {X : Type 0} (d : ℕ → Option X) (i k : ℕ) → eqb i k ≡ true → only d i k ≡ d k
only-here d i k here = rw here

rest_of : {X : Type 0} (d : ℕ → Option X) (i j : ℕ)
    → ((k : ℕ) → eqb i k ≡ false → eqb j k ≡ false → d k ≡ None) → (k : ℕ) → eqb j k ≡ false
    → fresh (only d i) d k ≡ None
rest_of d i j none k other =
    elim (cases_Bool (eqb i k)) [
      | inl here ↦ elim (slice_cases (d k)) [
        | inl nothing ↦ fresh-none (only d i) d k (only-here d i k here ∙ nothing) ∙ nothing
        | inr some ↦ fresh-some (only d i) d k some.0 (only-here d i k here ∙ some.1)
      ]
      | inr away ↦ fresh-none (only d i) d k (only-other d i k away) ∙ none k away other
    ]

-- where two keys alone give something
pub filter_map-two : {X : Type 0} (d : ℕ → Option X) (i j : ℕ) (ks : List ℕ) → IsDistinct eqb ks
    → eqb i j ≡ false → ((k : ℕ) → eqb i k ≡ false → eqb j k ≡ false → d k ≡ None)
    → (list_any (eqb i) ks ≡ true) ⊎ (d i ≡ None) → (list_any (eqb j) ks ≡ true) ⊎ (d j ≡ None)
    → IsPermutation (filter_map d ks) (option_to_list (d i) ++ option_to_list (d j))
filter_map-two d i j ks distinct apart none has_i has_j =
    let here : only d i i ≡ d i = only-here d i i (eqb-same i) in
    let there : fresh (only d i) d j ≡ d j = fresh-none (only d i) d j (only-other d i j apart) in
    let first : filter_map (only d i) ks ≡ option_to_list (d i) =
    filter_map-single (only d i) i ks distinct (λ k e. only-other d i k e)
    (elim has_i [ inl a ↦ inl a | inr b ↦ inr (here ∙ b) ]) ∙ ap option_to_list here in
    let second : filter_map (fresh (only d i) d) ks ≡ option_to_list (d j) =
    filter_map-single (fresh (only d i) d) j ks distinct (rest_of d i j none)
    (elim has_j [ inl a ↦ inl a | inr b ↦ inr (there ∙ b) ]) ∙ ap option_to_list there in
    subst (λ ys. IsPermutation (filter_map d ks) (option_to_list (d i) ++ ys)) second
    (subst (λ xs. IsPermutation (filter_map d ks) (xs ++ filter_map (fresh (only d i) d) ks)) first
    (filter_map-grown (only d i) d (only-stays d i) ks))

-- one key more that gave nothing
pub filter_map-arrival : {X : Type 0} (h : ℕ → Option X) (ks : List ℕ) (j : ℕ)
    → (list_any (eqb j) ks ≡ true) ⊎ (h j ≡ None)
    → filter_map h (note_arrival ks j) ≡ filter_map h ks
filter_map-arrival h ks j known =
    elim (cases_Bool (list_any (eqb j) ks)) [
      | inl has ↦ rw has
      | inr lacks ↦ elim known [
        | inl has ↦ absurd (false≢true (sym lacks ∙ has))
        | inr nothing ↦ rw (lacks, filter_map-append h ks (j ∷ []), nothing)
            (append-nil (filter_map h ks))
      ]
    ]
