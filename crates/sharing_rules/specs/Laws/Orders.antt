-- What a list in order is: a permutation of the list, and the only one that rises.
use Rattle.std.proofs.Common.{◌≡◌, suc, ◌+◌, Bool, true, false, not, List, [], ◌∷◌, get_or, refl}
use Rattle.std.proofs.Common.{sym, ap, ◌∙◌, subst, arith, inl, inr, add-one}
use Rattle.std.proofs.lemmas.List.Sorted.{IsPermutation-refl, IsPermutation-sym}
use Rattle.std.proofs.lemmas.List.Sorted.{IsPermutation-trans, IsPermutation-cons}
use Rattle.std.proofs.lemmas.List.Sorted.{IsPermutation-middle, sorted_far}
use Rattle.std.proofs.lemmas.List.Elements.{All-from_recursion, recursion_from_All, All-get_or}
use Rattle.std.proofs.lemmas.List.Elements.{All-from_get_or}
use Rattle.std.proofs.lemmas.Map.Keys.{IsDistinct-IsPermutation, IsDistinct-head, IsDistinct-tail}
use Rattle.std.proofs.lemmas.Bool.{cases_Bool, false≢true}
use Rattle.std.proofs.Math.Bool.{or_comm}
use Rattle.std.specs.Cmp.{IsStrictWeakOrder}
use Rattle.std.specs.List.{AllByRecursion, IsDistinct}
use Rattle.std.specs.List.Sorted.{IsPermutation, IsSortedBy}
use Rattle.sharing_rules.specs.Listed.{put_in_order, in_order}
use Rattle.sharing_rules.specs.Members.{ties, IsRising, Member}
use Rattle.sharing_rules.specs.Laws.Lists.{Member-permutation, all_at, all_permuted, weaker}

put_in_order-permutes : {X : Type 0} (lt : X → X → Bool) (x : X) (ys : List X)
    → IsPermutation (x ∷ ys) (put_in_order lt x ys)
put_in_order-permutes lt x [] = IsPermutation-refl (x ∷ [])
put_in_order-permutes lt x (y ∷ ys) =
    elim (cases_Bool (lt y x)) [
      | inl later ↦
          rw later (IsPermutation-trans (x ∷ (y ∷ ys)) (y ∷ (x ∷ ys)) (y ∷ put_in_order lt x ys)
          (IsPermutation-sym (y ∷ (x ∷ ys)) (x ∷ (y ∷ ys)) (IsPermutation-middle (y ∷ []) x ys))
          (IsPermutation-cons y (x ∷ ys) (put_in_order lt x ys) (put_in_order-permutes lt x ys)))
      | inr here ↦ rw here (IsPermutation-refl (x ∷ (y ∷ ys)))
    ]

-- a list in order has the elements of the list
pub in_order-permutes : {X : Type 0} (lt : X → X → Bool) (xs : List X)
    → IsPermutation xs (in_order lt xs)
in_order-permutes lt [] = IsPermutation-refl []
in_order-permutes lt (x ∷ xs) =
    IsPermutation-trans (x ∷ xs) (x ∷ in_order lt xs) (put_in_order lt x (in_order lt xs))
    (IsPermutation-cons x xs (in_order lt xs) (in_order-permutes lt xs))
    (put_in_order-permutes lt x (in_order lt xs))

pub lt_irreflexive : {X : Type 0} (lt : X → X → Bool) → IsStrictWeakOrder lt → (x : X)
    → lt x x ≡ true → ⊥
lt_irreflexive lt o x e = false≢true (sym (o.one_way x x e) ∙ e)

pub lt_transitive : {X : Type 0} (lt : X → X → Bool) → IsStrictWeakOrder lt → (x y z : X)
    → lt x y ≡ true → lt y z ≡ true → lt x z ≡ true
lt_transitive lt o x y z e f =
    elim (cases_Bool (lt x z)) [
      | inl yes_xz ↦ yes_xz
      | inr no_xz ↦ absurd (false≢true (sym (o.chain x z y no_xz (o.one_way y z f)) ∙ e))
    ]

pub put_in_order-all : {X : Type 0} (P : X → Type 0) (lt : X → X → Bool) (x : X) (ys : List X) → P x
    → AllByRecursion P ys → AllByRecursion P (put_in_order lt x ys)
put_in_order-all P lt x ys one all = all_permuted P (x ∷ ys) (put_in_order lt x ys)
    (put_in_order-permutes lt x ys) (one, all)

apart : {X : Type 0} (lt : X → X → Bool) (x y : X) → ties lt x y ≡ false → lt y x ≡ false
    → lt x y ≡ true
apart lt x y e f =
    elim (cases_Bool (lt x y)) [
      | inl yes_xy ↦ yes_xy
      | inr no_xy ↦ let k : true ≡ false = rw (no_xy, f) at e in absurd (false≢true (sym k))
    ]

put_in_order-rises : {X : Type 0} (lt : X → X → Bool) → IsStrictWeakOrder lt → (x : X) (ys : List X)
    → AllByRecursion (λ y. ties lt x y ≡ false) ys → IsRising lt ys
    → IsRising lt (put_in_order lt x ys)
put_in_order-rises lt o x [] apart_all rises = (tt, tt)
put_in_order-rises lt o x (y ∷ ys) apart_all rises =
    elim (cases_Bool (lt y x)) [
      | inl later ↦ rw later (
        put_in_order-all (λ z. lt y z ≡ true) lt x ys later rises.0,
        put_in_order-rises lt o x ys apart_all.1 rises.1,
      )
      | inr here ↦
          let first : lt x y ≡ true = apart lt x y apart_all.0 here in
          rw here (
            (
              first,
              weaker (λ z. lt y z ≡ true) (λ z. lt x z ≡ true)
                  (λ z e. lt_transitive lt o x y z first e) ys rises.0,
            ),
            rises,
          )
    ]

-- a list of which no two elements tie rises once it is in order
pub in_order-rises : {X : Type 0} (lt : X → X → Bool) → IsStrictWeakOrder lt → (xs : List X)
    → IsDistinct (ties lt) xs → IsRising lt (in_order lt xs)
in_order-rises lt o [] d = tt
in_order-rises lt o (x ∷ xs) d =
    put_in_order-rises lt o x (in_order lt xs)
    (all_permuted (λ y. ties lt x y ≡ false) xs (in_order lt xs) (in_order-permutes lt xs)
    (IsDistinct-head (ties lt) x xs d))
    (in_order-rises lt o xs (IsDistinct-tail (ties lt) x xs d))

-- two rising lists with the same elements are one
pub same_rising : {X : Type 0} (lt : X → X → Bool) → IsStrictWeakOrder lt → (xs ys : List X)
    → IsRising lt xs → IsRising lt ys → ((z : X) → Member z xs → Member z ys)
    → ((z : X) → Member z ys → Member z xs) → xs ≡ ys
same_rising lt o [] [] r s into back = refl
same_rising lt o [] (y ∷ ys) r s into back = absurd (back y (inl refl))
same_rising lt o (x ∷ xs) [] r s into back = absurd (into x (inl refl))
same_rising lt o (x ∷ xs) (y ∷ ys) r s into back =
    let head : x ≡ y = elim (into x (inl refl)) [
      | inl e ↦ e
      | inr m ↦ elim (back y (inl refl)) [
        | inl e ↦ sym e
        | inr n ↦ absurd
            (false≢true (sym (o.one_way x y (all_at (λ z. lt x z ≡ true) xs y r.0 n))
            ∙ all_at (λ z. lt y z ≡ true) ys x s.0 m))
      ]
    ] in
    ap (λ z. z ∷ xs) head
    ∙ ap (λ zs. y ∷ zs) (same_rising lt o xs ys r.1 s.1
    (λ z m. elim (into z (inr m)) [
      | inl e ↦ absurd
          (lt_irreflexive lt o x
          (subst (λ w. lt x w ≡ true) (e ∙ sym head) (all_at (λ w. lt x w ≡ true) xs z r.0 m)))
      | inr n ↦ n
    ])
    (λ z m. elim (back z (inr m)) [
      | inl e ↦ absurd
          (lt_irreflexive lt o y
          (subst (λ w. lt y w ≡ true) (e ∙ head) (all_at (λ w. lt y w ≡ true) ys z s.0 m)))
      | inr n ↦ n
    ]))

-- a rising permutation of a list is the list in order
pub in_order-from_rising : {X : Type 0} (lt : X → X → Bool) → IsStrictWeakOrder lt
    → (xs ys : List X) → IsDistinct (ties lt) xs → IsPermutation xs ys → IsRising lt ys
    → ys ≡ in_order lt xs
in_order-from_rising lt o xs ys d perm rises =
    same_rising lt o ys (in_order lt xs) rises (in_order-rises lt o xs d)
    (λ z m. Member-permutation (in_order lt xs) xs z
    (IsPermutation-sym xs (in_order lt xs) (in_order-permutes lt xs))
    (Member-permutation xs ys z perm m))
    (λ z m. Member-permutation ys xs z (IsPermutation-sym xs ys perm)
    (Member-permutation xs (in_order lt xs) z (in_order-permutes lt xs) m))

pub ties_flip : {X : Type 0} (lt : X → X → Bool) (x y : X) → ties lt x y ≡ ties lt y x
ties_flip lt x y = ap not (or_comm (lt x y) (lt y x))

-- permutations of a list of which no two elements tie have one order
pub in_order-permutation : {X : Type 0} (lt : X → X → Bool) → IsStrictWeakOrder lt
    → (xs ys : List X) → IsDistinct (ties lt) xs → IsPermutation xs ys
    → in_order lt xs ≡ in_order lt ys
in_order-permutation lt o xs ys d perm =
    sym (in_order-from_rising lt o xs (in_order lt ys) d
    (IsPermutation-trans xs ys (in_order lt ys) perm (in_order-permutes lt ys))
    (in_order-rises lt o ys (IsDistinct-IsPermutation (ties lt) (ties_flip lt) xs ys perm d)))

rises_after : {X : Type 0} (lt : X → X → Bool) → IsStrictWeakOrder lt → (x : X) (xs : List X)
    → IsDistinct (ties lt) (x ∷ xs) → IsSortedBy lt (x ∷ xs)
    → AllByRecursion (λ y. lt x y ≡ true) xs
rises_after lt o x xs d up =
    recursion_from_All (λ y. lt x y ≡ true) xs
    (All-from_get_or (λ y. lt x y ≡ true) xs x
    (λ i l. apart lt x (get_or xs i x)
    (All-get_or (λ y. ties lt x y ≡ false) xs i x l
    (All-from_recursion (λ y. ties lt x y ≡ false) xs (IsDistinct-head (ties lt) x xs d)))
    (sorted_far lt o (x ∷ xs) up 0 (suc i) x (omega arith) (omega arith))))

pub sorted_tail : {X : Type 0} (lt : X → X → Bool) (x : X) (xs : List X) → IsSortedBy lt (x ∷ xs)
    → IsSortedBy lt xs
sorted_tail lt x xs up = λ k d low high.
    subst (λ i. lt (get_or (x ∷ xs) i d) (get_or (x ∷ xs) (suc k) d) ≡ false) (add-one (k + 1))
    (subst (λ i. lt (get_or (x ∷ xs) (k + 1 + 1) d) (get_or (x ∷ xs) i d) ≡ false) (add-one k)
    (up (k + 1) d (omega arith) (omega arith)))

pub rising-from_sorted : {X : Type 0} (lt : X → X → Bool) → IsStrictWeakOrder lt → (xs : List X)
    → IsDistinct (ties lt) xs → IsSortedBy lt xs → IsRising lt xs
rising-from_sorted lt o [] d up = tt
rising-from_sorted lt o (x ∷ xs) d up = (
  rises_after lt o x xs d up,
  rising-from_sorted lt o xs (IsDistinct-tail (ties lt) x xs d)
      (sorted_tail lt x xs up),
)

-- what std's sort leaves of a list of which no two elements tie is the list in order
pub in_order-from_sorted : {X : Type 0} (lt : X → X → Bool) → IsStrictWeakOrder lt
    → (xs ys : List X) → IsDistinct (ties lt) xs → IsPermutation xs ys → IsSortedBy lt ys
    → ys ≡ in_order lt xs
in_order-from_sorted lt o xs ys d perm up =
    in_order-from_rising lt o xs ys d perm
    (rising-from_sorted lt o ys (IsDistinct-IsPermutation (ties lt) (ties_flip lt) xs ys perm d)
    up)

put_in_order-front : {X : Type 0} (lt : X → X → Bool) → IsStrictWeakOrder lt → (x : X) (ys : List X)
    → AllByRecursion (λ y. lt x y ≡ true) ys → put_in_order lt x ys ≡ x ∷ ys
put_in_order-front lt o x [] all = refl
put_in_order-front lt o x (y ∷ ys) all = rw (o.one_way x y all.0)

-- a list that rises is in order already
pub in_order-same : {X : Type 0} (lt : X → X → Bool) → IsStrictWeakOrder lt → (xs : List X)
    → IsRising lt xs → in_order lt xs ≡ xs
in_order-same lt o [] r = refl
in_order-same lt o (x ∷ xs) r = ap (put_in_order lt x) (in_order-same lt o xs r.1)
    ∙ put_in_order-front lt o x xs r.0

-- a rising list with the elements of another is that list in order
pub in_order-from_members : {X : Type 0} (lt : X → X → Bool) → IsStrictWeakOrder lt
    → (xs ys : List X) → IsDistinct (ties lt) xs → IsRising lt ys
    → ((z : X) → Member z ys → Member z xs) → ((z : X) → Member z xs → Member z ys)
    → ys ≡ in_order lt xs
in_order-from_members lt o xs ys d rises into back =
    same_rising lt o ys (in_order lt xs) rises (in_order-rises lt o xs d)
    (λ z m. Member-permutation (in_order lt xs) xs z
    (IsPermutation-sym xs (in_order lt xs) (in_order-permutes lt xs)) (into z m))
    (λ z m. back z (Member-permutation xs (in_order lt xs) z (in_order-permutes lt xs) m))
