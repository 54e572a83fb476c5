-- What a stable sort leaves is the list in order, also where elements tie.
use Rattle.std.proofs.Common.{◌≡◌, suc, Bool, true, false, List, [], ◌∷◌, filter, refl, sym, ap}
use Rattle.std.proofs.Common.{◌∙◌, subst, arith, inl, inr}
use Rattle.std.proofs.lemmas.List.Sorted.{sorted_far}
use Rattle.std.proofs.lemmas.List.Elements.{All-from_get_or, recursion_from_All}
use Rattle.std.proofs.lemmas.Bool.{cases_Bool, false≢true}
use Rattle.std.specs.Cmp.{IsStrictWeakOrder}
use Rattle.std.specs.List.{AllByRecursion}
use Rattle.std.specs.List.Sorted.{IsSortedBy, IsStableBy, ties}
use Rattle.sharing_rules.specs.Listed.{put_in_order, in_order}
use Rattle.sharing_rules.specs.Laws.Orders.{sorted_tail, put_in_order-all}
use Rattle.sharing_rules.specs.Laws.Lists.{weaker}

-- no element comes before an earlier one
abbrev pub IsUp : {X : Type 0} → (X → X → Bool) → List X → Type 0
IsUp lt [] = Unit {0}
IsUp lt (x ∷ xs) = AllByRecursion (λ y. lt y x ≡ false) xs × IsUp lt xs

up_from_sorted : {X : Type 0} (lt : X → X → Bool) → IsStrictWeakOrder lt → (xs : List X)
    → IsSortedBy lt xs → IsUp lt xs
up_from_sorted lt o [] up = tt
up_from_sorted lt o (x ∷ xs) up = (
  recursion_from_All (λ y. lt y x ≡ false) xs
      (All-from_get_or (λ y. lt y x ≡ false) xs x
      (λ i l. sorted_far lt o (x ∷ xs) up 0 (suc i) x (omega arith) (omega arith))),
  up_from_sorted lt o xs (sorted_tail lt x xs up),
)

put_in_order-up : {X : Type 0} (lt : X → X → Bool) → IsStrictWeakOrder lt → (x : X) (ys : List X)
    → IsUp lt ys
    → IsUp lt (put_in_order lt x ys)
put_in_order-up lt o x [] up = (tt, tt)
put_in_order-up lt o x (y ∷ ys) up =
    elim (cases_Bool (lt y x)) [
      | inl later ↦ rw later (
        put_in_order-all (λ z. lt z y ≡ false) lt x ys
            (o.one_way y x later) up.0,
        put_in_order-up lt o x ys up.1,
      )
      | inr here ↦ rw here (
        (
          here,
          weaker (λ z. lt z y ≡ false) (λ z. lt z x ≡ false)
              (λ z e. o.chain z y x e here) ys up.0,
        ),
        up,
      )
    ]

in_order-up : {X : Type 0} (lt : X → X → Bool) → IsStrictWeakOrder lt → (xs : List X)
    → IsUp lt (in_order lt xs)
in_order-up lt o [] = tt
in_order-up lt o (x ∷ xs) = put_in_order-up lt o x (in_order lt xs) (in_order-up lt o xs)

-- two that tie with a third tie with each other
tied_both : {X : Type 0} (lt : X → X → Bool) → IsStrictWeakOrder lt → (w x y : X) → ties lt w y
    ≡ true → ties lt w x ≡ true → lt y x ≡ false
tied_both lt o w x y tied_y tied_x =
    elim (cases_Bool (lt y w)) [
      | inl e ↦ absurd (elim (cases_Bool (lt w y)) [
        | inl f ↦ false≢true (rw f at tied_y)
        | inr f ↦ false≢true (rw (e, f) at tied_y)
      ])
      | inr e ↦ elim (cases_Bool (lt w x)) [
        | inl f ↦ absurd (false≢true (rw f at tied_x))
        | inr f ↦ o.chain y w x e f
      ]
    ]

put_in_order-stable : {X : Type 0} (lt : X → X → Bool) → IsStrictWeakOrder lt
    → (w x : X) (ys : List X)
    → filter (ties lt w) (put_in_order lt x ys) ≡ filter (ties lt w) (x ∷ ys)
put_in_order-stable lt o w x [] = refl
put_in_order-stable lt o w x (y ∷ ys) =
    elim (cases_Bool (lt y x)) [
      | inr here ↦ rw here
      | inl later ↦
          rw later (elim (cases_Bool (ties lt w y)) [
            | inl in_y ↦ elim (cases_Bool (ties lt w x)) [
              | inl in_x ↦ absurd (false≢true (sym (tied_both lt o w x y in_y in_x) ∙ later))
              | inr out_x ↦ rw (in_y, out_x) (ap (λ zs. y ∷ zs)
                  (rw out_x at (put_in_order-stable lt o w x ys)))
            ]
            | inr out_y ↦ rw out_y (put_in_order-stable lt o w x ys)
          ])
    ]

filter-cons : {X : Type 0} (p : X → Bool) (x : X) (xs ys : List X) → filter p xs ≡ filter p ys
    → filter p (x ∷ xs) ≡ filter p (x ∷ ys)
filter-cons p x xs ys e = elim (cases_Bool (p x)) [
  | inl keeps ↦
      rw keeps (ap (λ zs. x ∷ zs) e)
  | inr drops ↦ rw drops e
]

in_order-stable : {X : Type 0} (lt : X → X → Bool) → IsStrictWeakOrder lt → (w : X) (xs : List X)
    → filter (ties lt w) (in_order lt xs)
    ≡ filter (ties lt w) xs
in_order-stable lt o w [] = refl
in_order-stable lt o w (x ∷ xs) = put_in_order-stable lt o w x (in_order lt xs)
    ∙ filter-cons (ties lt w) x (in_order lt xs) xs
    (in_order-stable lt o w xs)

irreflexive : {X : Type 0} (lt : X → X → Bool) → IsStrictWeakOrder lt → (x : X) → lt x x ≡ false
irreflexive lt o x = elim (cases_Bool (lt x x)) [ inl e ↦ o.one_way x x e | inr e ↦ e ]

ties_self : {X : Type 0} (lt : X → X → Bool) → IsStrictWeakOrder lt → (x : X) → ties lt x x ≡ true
ties_self lt o x = rw (irreflexive lt o x)

-- what stands first in what a test leaves is one of the list
filter-first : {X : Type 0} (P : X → Type 0) (p : X → Bool) (x : X) (ys rest : List X)
    → AllByRecursion P ys → filter p ys ≡ x ∷ rest → P x
filter-first P p x [] rest all e = cc
filter-first P p x (y ∷ ys) rest all e =
    elim (cases_Bool (p y)) [
      | inl keeps ↦ let k : y ∷ filter p ys ≡ x ∷ rest = rw keeps at e in let same : y ≡ x = cc in
          subst P same all.0
      | inr drops ↦ filter-first P p x ys rest all.1 (rw drops at e)
    ]

-- the first of one list doesn't come after that of another with the same ties
no_later : {X : Type 0} (lt : X → X → Bool) → IsStrictWeakOrder lt → (x y : X) (xs ys : List X)
    → AllByRecursion (λ z. lt z y ≡ false) ys
    → filter (ties lt x) (x ∷ xs) ≡ filter (ties lt x) (y ∷ ys) → lt x y ≡ false
no_later lt o x y xs ys up same =
    let mine : x ∷ filter (ties lt x) xs ≡ filter (ties lt x) (y ∷ ys) =
    rw (ties_self lt o x) at same in
    filter-first (λ z. lt z y ≡ false) (ties lt x) x (y ∷ ys) (filter (ties lt x) xs)
    (irreflexive lt o y, up) (sym mine)

tail_same : {X : Type 0} (p : X → Bool) (x : X) (xs ys : List X) → filter p (x ∷ xs)
    ≡ filter p (x ∷ ys) → filter p xs ≡ filter p ys
tail_same p x xs ys e =
    elim (cases_Bool (p x)) [
      | inl keeps ↦ let k : x ∷ filter p xs ≡ x ∷ filter p ys = rw keeps at e in cc
      | inr drops ↦ rw drops at e
    ]

same_up : {X : Type 0} (lt : X → X → Bool) → IsStrictWeakOrder lt → (xs ys : List X) → IsUp lt xs
    → IsUp lt ys
    → ((w : X) → filter (ties lt w) xs ≡ filter (ties lt w) ys) → xs ≡ ys
same_up lt o [] [] up us same = refl
same_up lt o [] (y ∷ ys) up us same = let k : [] ≡ y ∷ filter (ties lt y) ys =
    rw (ties_self lt o y) at (same y) in cc
same_up lt o (x ∷ xs) [] up us same = let k : x ∷ filter (ties lt x) xs ≡ [] =
    rw (ties_self lt o x) at (same x) in cc
same_up lt o (x ∷ xs) (y ∷ ys) up us same =
    let low : lt x y ≡ false = no_later lt o x y xs ys us.0 (same x) in
    let high : lt y x ≡ false = no_later lt o y x ys xs up.0 (sym (same y)) in
    let firsts : x ∷ filter (ties lt x) xs ≡ y ∷ filter (ties lt x) ys =
    rw (irreflexive lt o x, low, high) at (same x) in
    let head : x ≡ y = cc in
    ap (λ z. z ∷ xs) head
    ∙ ap (λ zs. y ∷ zs) (same_up lt o xs ys up.1 us.1
    (λ w. tail_same (ties lt w) y xs ys (subst (λ z. filter (ties lt w) (z ∷ xs)
    ≡ filter (ties lt w) (y ∷ ys)) head (same w))))

-- a stable sort's result is the list in order
pub in_order-from_stable : {X : Type 0} (lt : X → X → Bool) → IsStrictWeakOrder lt
    → (xs ys : List X) → IsSortedBy lt ys
    → IsStableBy lt xs ys → ys ≡ in_order lt xs
in_order-from_stable lt o xs ys sorted stable =
    same_up lt o ys (in_order lt xs) (up_from_sorted lt o ys sorted) (in_order-up lt o xs)
    (λ w. stable w ∙ sym (in_order-stable lt o w xs))
