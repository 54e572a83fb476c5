-- What may stand of two outputs where a call gave up, computed from the definitions.
use Rattle.std.proofs.Common.{◌≡◌, ℕ, zero, suc, List, [], ◌∷◌, Option, Some, None, refl, take}
use Rattle.std.specs.Prelude.{if◌then◌else◌}
use Rattle.std.proofs.lemmas.Bool.{cases_Bool}
use Rattle.std.proofs.Common.{inl, inr}
use Rattle.std.specs.Str.{bytes_eq}
use Rattle.shelf.specs.Shelf.{Files}
use Rattle.shelf.specs.Files.{Output, AreFronts, BegunInOrder}

abbrev a : List ℕ
a = 97 ∷ []

abbrev b : List ℕ
b = 98 ∷ []

-- two bytes are to go to `a`, and then one to `b`
abbrev two : List Output
two = record { name = a; bytes = 1 ∷ 2 ∷ [] } ∷ record { name = b; bytes = 3 ∷ [] } ∷ []

-- the file of each of the two names, and none of another one
abbrev files : Option (List ℕ) → Option (List ℕ) → Files
files one other name = if bytes_eq a name then one else if bytes_eq b name then other else None

-- `b` has a file from before
abbrev before : Files
before = files None (Some (9 ∷ []))

none_may_be_begun : BegunInOrder two before before
none_may_be_begun = (0, λ name. refl)

the_first_may_be : BegunInOrder two before (files (Some (1 ∷ [])) (Some (9 ∷ [])))
the_first_may_be = (
  1,
  λ name. elim (cases_Bool (bytes_eq a name)) [
    | inl is ↦ rw is (1, refl)
    | inr is ↦ rw is refl
  ],
)

both_may_be : BegunInOrder two before (files (Some (1 ∷ 2 ∷ [])) (Some []))
both_may_be = (
  2,
  λ name. elim (cases_Bool (bytes_eq a name)) [
    | inl is ↦ rw is (2, refl)
    | inr is ↦ elim (cases_Bool (bytes_eq b name)) [
      | inl also ↦ rw (is, also) (0, refl)
      | inr also ↦ rw (is, also) refl
    ]
  ],
)

-- the second one is never begun alone
so_many : (begun : ℕ) → AreFronts (take begun two) before (files None (Some [])) → ⊥
so_many zero fronts = let no : files None (Some []) b ≡ before b = fronts b in cc
so_many (suc k) fronts =
    let no : files None (Some []) a ≡ Some (take (fronts a).0 (1 ∷ 2 ∷ [])) = (fronts a).1 in cc

not_the_second_alone : BegunInOrder two before (files None (Some [])) → ⊥
not_the_second_alone begun = so_many begun.0 begun.1

-- and what stands of a begun one is no other part of its bytes than a front
abbrev an_end : Option (List ℕ)
an_end = Some (2 ∷ [])

no_front : (k : ℕ) → an_end ≡ Some (take k (1 ∷ 2 ∷ [])) → ⊥
no_front zero is = cc
no_front (suc k) is = cc

so_many_ends : (begun : ℕ) → AreFronts (take begun two) before (files an_end (Some (9 ∷ []))) → ⊥
so_many_ends zero fronts = let no : files an_end (Some (9 ∷ [])) a ≡ before a = fronts a in cc
so_many_ends (suc k) fronts = no_front (fronts a).0 (fronts a).1

not_an_end : BegunInOrder two before (files an_end (Some (9 ∷ []))) → ⊥
not_an_end begun = so_many_ends begun.0 begun.1
