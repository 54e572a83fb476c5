-- The first of the shifts whose total no other undercuts.
use Rattle.std.proofs.Common.{◌≡◌, ℕ, zero, suc, ◌+◌, ◌*◌, ◌/◌, ◌<◌, ◌≤◌, Bool, true, false, leb, List, []}
use Rattle.std.proofs.Common.{◌∷◌}
use Rattle.std.proofs.Common.{Some, refl, sym, ap, ◌∙◌, subst, arith, inl, inr, length}
use Rattle.std.proofs.lemmas.Bool.{and_from, and_parts, cases_Bool, cases_lt, false≢true}
use Rattle.std.proofs.lemmas.Bool.{le-leb, leb-true}
use Rattle.std.proofs.lemmas.List.{length-map}
use Rattle.std.proofs.lemmas.Option.{none-some, same_Some}
use Rattle.std.specs.List.{find, list_all}
use Rattle.std.specs.Prelude.{slice_get}
use Rattle.sharing_rules.specs.AccessLists.{AccessList}
use Rattle.sharing_rules.specs.Laws.Lists.{length-below, slice_get-map-below}
use Rattle.sharing_rules.specs.Places.{below}
use Rattle.layout_sweep.specs.Counts.{least_of, sweep_of, swept_of}
use Rattle.layout_sweep.specs.declared.counts.Swept.{Swept}

-- the first of the least of the first n
pub record IsFirstLeast (all : List Swept) (n : ℕ) (x : Swept) : Type 0 where
  pub place : ℕ
  pub within : place < n
  pub there : slice_get all place ≡ Some x
  pub least : (j : ℕ) (y : Swept) → j < n → slice_get all j ≡ Some y → x.total ≤ y.total
  pub first : (j : ℕ) (y : Swept) → j < place → slice_get all j ≡ Some y → x.total < y.total

-- one more
pub least-kept : (all : List Swept) (n : ℕ) (x y : Swept) → IsFirstLeast all n x
    → slice_get all n ≡ Some y → x.total ≤ y.total → IsFirstLeast all (n + 1) x
least-kept all n x y is next le = record {
  place = is.place;
  within = omega (arith, is.within);
  there = is.there;
  least = λ j z less at. elim (cases_lt j n) [
    | inl before ↦ is.least j z before at
    | inr here ↦
        let same : j ≡ n = omega (arith, less, here) in
        let z_is : y ≡ z = same_Some y z (sym next ∙ ap (slice_get all) (sym same) ∙ at) in
        subst (λ (v : Swept). x.total ≤ v.total) z_is le
  ];
  first = is.first;
}

pub least-new : (all : List Swept) (n : ℕ) (x y : Swept) → IsFirstLeast all n x
    → slice_get all n ≡ Some y → y.total < x.total → IsFirstLeast all (n + 1) y
least-new all n x y is next lower = record {
  place = n;
  within = omega arith;
  there = next;
  least = λ j z less at. elim (cases_lt j n) [
    | inl before ↦ let le = is.least j z before at in omega (arith, le, lower)
    | inr here ↦
        let same : j ≡ n = omega (arith, less, here) in
        let z_is : y ≡ z = same_Some y z (sym next ∙ ap (slice_get all) (sym same) ∙ at) in
        subst (λ (v : Swept). y.total ≤ v.total) z_is (omega arith)
  ];
  first = λ j z before at. let le = is.least j z before at in omega (arith, le, lower);
}

-- a test of all elements, by their places
all-from_places : (p : Swept → Bool) (all : List Swept)
    → ((j : ℕ) (y : Swept) → slice_get all j ≡ Some y → p y ≡ true) → list_all p all ≡ true
all-from_places p [] each = refl
all-from_places p (x ∷ all) each = and_from _ _ (each 0 x refl)
    (all-from_places p all (λ j y at. each (suc j) y at))

place-from_all : (p : Swept → Bool) (all : List Swept) (j : ℕ) (y : Swept)
    → list_all p all ≡ true → slice_get all j ≡ Some y → p y ≡ true
place-from_all p [] j y h at = absurd (none-some y at)
place-from_all p (x ∷ all) zero y h at =
    subst (λ v. p v ≡ true) (same_Some x y at) (and_parts (p x) (list_all p all) h).0
place-from_all p (x ∷ all) (suc j) y h at =
    place-from_all p all j y (and_parts (p x) (list_all p all) h).1 at

-- the first element that passes
found_first : (p : Swept → Bool) (all : List Swept) (j : ℕ) (x : Swept)
    → slice_get all j ≡ Some x → p x ≡ true
    → ((i : ℕ) (y : Swept) → i < j → slice_get all i ≡ Some y → p y ≡ false)
    → find p all ≡ Some x
found_first p [] j x at passes none = absurd (none-some x at)
found_first p (z ∷ all) zero x at passes none =
    let here : p z ≡ true = ap p (same_Some z x at) ∙ passes in rw here at
found_first p (z ∷ all) (suc j) x at passes none =
    let not_here : p z ≡ false = none 0 z (omega arith) refl in
    rw not_here (found_first p all j x at passes (λ i y less there.
    none (suc i) y (omega (arith, less)) there))

-- what a find gives: an element that passes, and none before it does
record IsFound (p : Swept → Bool) (all : List Swept) (x : Swept) : Type 0 where
  place : ℕ
  there : slice_get all place ≡ Some x
  passes : p x ≡ true
  none : (i : ℕ) (y : Swept) → i < place → slice_get all i ≡ Some y → p y ≡ false

behind : (p : Swept → Bool) (z : Swept) (all : List Swept) (j : ℕ) → p z ≡ false
    → ((i : ℕ) (y : Swept) → i < j → slice_get all i ≡ Some y → p y ≡ false)
    → (i : ℕ) (y : Swept) → i < suc j → slice_get (z ∷ all) i ≡ Some y → p y ≡ false
behind p z all j not_here none zero y less at =
    subst (λ v. p v ≡ false) (same_Some z y at) not_here
behind p z all j not_here none (suc i) y less at = none i y (omega (arith, less)) at

find-found : (p : Swept → Bool) (all : List Swept) (x : Swept) → find p all ≡ Some x
    → IsFound p all x
find-found p [] x e = absurd (none-some x e)
find-found p (z ∷ all) x e =
    elim (cases_Bool (p z)) [
      | inl here ↦
          let it : Some z ≡ Some x = rw here at e in
          record {
            place = 0;
            there = it;
            passes = subst (λ v. p v ≡ true) (same_Some z x it) here;
            none = λ i y less there. absurd (omega (arith, less));
          }
      | inr not_here ↦
          let later : find p all ≡ Some x = rw not_here at e in
          let rest = find-found p all x later in
          record {
            place = suc rest.place;
            there = rest.there;
            passes = rest.passes;
            none = behind p z all rest.place not_here rest.none;
          }
    ]

pub within_list : (ys : List Swept) (i : ℕ) (y : Swept) → slice_get ys i ≡ Some y → i < length ys
within_list [] i y e = absurd (none-some y e)
within_list (z ∷ ys) zero y e = omega arith
within_list (z ∷ ys) (suc i) y e = let k = within_list ys i y e in omega (arith, k)

abbrev undercut_by_none : List Swept → Swept → Bool
undercut_by_none all x = list_all (λ y. leb x.total y.total) all

pub least-is : (all : List Swept) (x : Swept) → IsFirstLeast all (length all) x
    → Some x ≡ least_of all
least-is all x is =
    sym (found_first (undercut_by_none all) all is.place x is.there
    (all-from_places (λ y. leb x.total y.total) all
    (λ j y at. le-leb _ _ (is.least j y (within_list all j y at) at)))
    (λ i y less at. elim (cases_Bool (undercut_by_none all y)) [
      | inl passes ↦
          let le = leb-true _ _ (place-from_all (λ z. leb y.total z.total) all is.place x passes
          is.there) in
          let more = is.first i y less at in
          absurd (omega (arith, le, more))
      | inr fails ↦ fails
    ]))

-- What is the least of what a list's shifts count: one of them, with a total that none undercuts,
-- the lowest of these.
pub record IsLowest (n : ℕ) (t : AccessList) (x : Swept) : Type 0 where
  pub place : ℕ
  pub within : place < n / 4
  pub is : x ≡ swept_of n t place
  pub least : (i : ℕ) → i < n / 4 → x.total ≤ (swept_of n t i).total
  pub lowest : (i : ℕ) → i < n / 4 → (swept_of n t i).total ≡ x.total → x.shift ≤ 4 * i

pub least-lowest : (n : ℕ) (t : AccessList) (x : Swept) → least_of (sweep_of n t) ≡ Some x
    → IsLowest n t x
least-lowest n t x e =
    let all : List Swept = sweep_of n t in
    let found = find-found (undercut_by_none all) all x e in
    let long : length all ≡ n / 4 = length-map (below (n / 4)) (swept_of n t)
    ∙ length-below (n / 4) in
    let within : found.place < n / 4 =
    subst (λ k. found.place < k) long (within_list all found.place x found.there) in
    let swept : (i : ℕ) → i < n / 4 → slice_get all i ≡ Some (swept_of n t i) =
    λ i less. slice_get-map-below (swept_of n t) (n / 4) i less in
    let is : x ≡ swept_of n t found.place = same_Some _ _ (sym found.there ∙ swept found.place within)
    in
    record {
      place = found.place;
      within = within;
      is = is;
      least = λ i less. leb-true _ _
          (place-from_all (λ y. leb x.total y.total) all i (swept_of n t i) found.passes
          (swept i less));
      lowest = λ i less same. elim (cases_lt i found.place) [
        | inl before ↦
            let passes : undercut_by_none all (swept_of n t i) ≡ true =
            ap (λ k. list_all (λ (y : Swept). leb k y.total) all) same ∙ found.passes in
            absurd (false≢true
            (sym (found.none i (swept_of n t i) before (swept i less)) ∙ passes))
        | inr behind_it ↦
            let shift : x.shift ≡ 4 * found.place = ap (λ (v : Swept). v.shift) is in
            omega (arith, shift, behind_it)
      ];
    }
