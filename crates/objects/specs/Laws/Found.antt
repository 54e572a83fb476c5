-- The rows of a table that were found by their numbers.
use Rattle.std.proofs.Common.{◌≡◌, ℕ, zero, suc, ◌+◌, ◌<◌, Bool, true, false, List, [], ◌∷◌, ◌++◌}
use Rattle.std.proofs.Common.{get_or, length, filter, Some, refl, sym, ap, ◌∙◌, arith}
use Rattle.std.proofs.Common.{append_assoc, true≢false, inl, inr}
use Rattle.std.specs.Prelude.{filter_map, slice_get}
use Rattle.std.specs.List.{find}
use Rattle.std.specs.List.Sorted.{IsNonDecreasingBy}
use Rattle.std.proofs.lemmas.Bool.{cases_Bool}
use Rattle.std.proofs.lemmas.List.{length_push}
use Rattle.objects.specs.AddressTrees.{Extent, extents_from, meets, numbers_on}

module _ {X : Type 0} (addr size : X → ℕ) where
  -- numbers that count up don't fall
  number_at : (n : ℕ) (xs : List X) (i : ℕ) (d : Extent) → i < length (extents_from addr size n xs)
      → (get_or (extents_from addr size n xs) i d).number ≡ n + i
  number_at n [] i d within = absurd (omega arith)
  number_at n (x ∷ xs) zero d within = omega arith
  number_at n (x ∷ xs) (suc i) d within =
      let rest : (get_or (extents_from addr size (n + 1) xs) i d).number ≡ n + 1 + i =
      number_at (n + 1) xs i d (omega arith) in
      omega arith

  pub extents-rise : (xs : List X) → IsNonDecreasingBy (λ e. e.number) (extents_from addr size 0 xs)
  extents-rise xs = λ i j d le within.
      (let a = number_at 0 xs i d (omega arith) in let b = number_at 0 xs j d within in
      omega (arith, a, b))

  pub extents-append : (n : ℕ) (xs ys : List X) → extents_from addr size n (xs ++ ys)
      ≡ extents_from addr size n xs ++ extents_from addr size (n + length xs) ys
  extents-append n [] ys = ap (λ k. extents_from addr size k ys) (omega arith)
  extents-append n (x ∷ xs) ys =
      ap (λ es. record { number = n; addr = addr x; size = size x } ∷ es)
      (extents-append (n + 1) xs ys
      ∙ ap (λ k. extents_from addr size (n + 1) xs ++ extents_from addr size k ys) (more xs))
    where
      more : (xs : List X) → n + 1 + length xs ≡ n + suc (length xs)
      more xs = omega arith

  pub length-extents : (n : ℕ) (xs : List X) → length (extents_from addr size n xs) ≡ length xs
  length-extents n [] = refl
  length-extents n (x ∷ xs) = ap suc (length-extents (n + 1) xs)

  get_there : (before : List X) (x : X) (xs : List X) → slice_get (before ++ x ∷ xs) (length before)
      ≡ Some x
  get_there [] x xs = refl
  get_there (y ∷ before) x xs = get_there before x xs

  rows_from : (from to n : ℕ) (all before xs : List X) → all ≡ before ++ xs → length before ≡ n
      → filter_map (slice_get all) (numbers_on from to (extents_from addr size n xs))
      ≡ filter (λ x. meets from to (addr x) (size x)) xs
  rows_from from to n all before [] is len = refl
  rows_from from to n all before (x ∷ xs) is len =
      let here : slice_get all n ≡ Some x = rw (is, ← len) (get_there before x xs) in
      let rest = rows_from from to (n + 1) all (before ++ x ∷ []) xs
      (is ∙ sym (append_assoc before (x ∷ []) xs)) (length_push before x ∙ ap (λ k. k + 1) len) in
      elim (cases_Bool (meets from to (addr x) (size x))) [
        | inl met ↦ rw (met, here) (ap (λ ys. x ∷ ys) rest)
        | inr apart ↦ rw apart rest
      ]

  -- the rows of the numbers that were found are those of the list that meet the addresses
  pub rows_found : (from to : ℕ) (xs : List X)
      → filter_map (slice_get xs) (numbers_on from to (extents_from addr size 0 xs))
      ≡ filter (λ x. meets from to (addr x) (size x)) xs
  rows_found from to xs = rows_from from to 0 xs [] xs refl refl

-- a test that passes less than another is the same among what the other passes
module _ {X : Type 0} (p q : X → Bool) (less : (x : X) → p x ≡ true → q x ≡ true) where
  fails : (x : X) → q x ≡ false → p x ≡ false
  fails x failed = elim (cases_Bool (p x)) [
    | inl passes ↦ absurd (true≢false (sym (less x passes) ∙ failed))
    | inr fails_too ↦ fails_too
  ]

  pub filter_within : (xs : List X) → filter p (filter q xs) ≡ filter p xs
  filter_within [] = refl
  filter_within (x ∷ xs) =
      elim (cases_Bool (q x)) [
        | inl passes ↦ rw passes (elim (cases_Bool (p x)) [
          | inl both ↦ rw both (ap (λ ys. x ∷ ys) (filter_within xs))
          | inr one ↦ rw one (filter_within xs)
        ])
        | inr failed ↦ rw (failed, fails x failed) (filter_within xs)
      ]

  pub find_within : (xs : List X) → find p (filter q xs) ≡ find p xs
  find_within [] = refl
  find_within (x ∷ xs) =
      elim (cases_Bool (q x)) [
        | inl passes ↦ rw passes (elim (cases_Bool (p x)) [
          | inl both ↦ rw both refl
          | inr one ↦ rw one (find_within xs)
        ])
        | inr failed ↦ rw (failed, fails x failed) (find_within xs)
      ]
