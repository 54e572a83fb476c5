-- Lists of entries that a function gives, one for each number of a list that names none twice.
use Rattle.std.proofs.Common.{◌≡◌, ℕ, zero, suc, ◌<◌, ◌≤◌, true, false, eqb, ltb}
use Rattle.std.proofs.Common.{List, [], ◌∷◌, ◌++◌, length, refl, sym, ap, ◌∙◌, subst}
use Rattle.std.proofs.Common.{arith, inl, inr, map, Some, None}
use Rattle.std.proofs.lemmas.Bool.{cases_Bool, cases_eq, eqb-true, false≢true, ltb-true}
use Rattle.std.proofs.lemmas.Bool.{or_parts}
use Rattle.std.proofs.lemmas.Bool.Decides.{nat_tests}
use Rattle.std.proofs.lemmas.List.{length-map, map-append}
use Rattle.std.specs.List.{IsDistinct, list_any}
use Rattle.std.specs.Map.{lookup}
use Rattle.std.specs.Prelude.{if◌then◌else◌, nat_eq, slice_get, slice_set}
use Rattle.indexmap.specs.IndexMap.{insert_entry}
use Rattle.sharing_rules.specs.Arrivals.{note_arrival}
use Rattle.sharing_rules.specs.Laws.Lists.{get-set_other, get-set_same, length-below, same_by_get}
use Rattle.sharing_rules.specs.Laws.Lists.{slice_get-map-below}
use Rattle.sharing_rules.specs.Laws.Sums.{AgreeBut, none-of}
use Rattle.sharing_rules.specs.Places.{below}

-- each number with what f gives for it
abbrev pub entries : {V : Type 0} → (ℕ → V) → List ℕ → List (ℕ × V)
entries f ks = map (λ k. (k, f k)) ks

pub lookup-entries : {V : Type 0} (f : ℕ → V) (ks : List ℕ) (r : ℕ)
    → lookup (eqb r) (entries f ks) ≡ if list_any (eqb r) ks then Some (f r) else None
lookup-entries f [] r = refl
lookup-entries f (k ∷ ks) r =
    elim (cases_Bool (eqb r k)) [
      | inl here ↦ rw here (ap (λ j. Some (f j)) (sym (eqb-true r k here)))
      | inr other ↦ rw (other, lookup-entries f ks r) refl
    ]

entries-same : {V : Type 0} (f g : ℕ → V) (r : ℕ) (ks : List ℕ) → AgreeBut r f g
    → list_any (eqb r) ks ≡ false → entries g ks ≡ entries f ks
entries-same f g r [] agree none = refl
entries-same f g r (k ∷ ks) agree none =
    let parts = or_parts (eqb r k) (list_any (eqb r) ks) none in
    rw (agree k parts.0, entries-same f g r ks agree parts.1) refl

insert-new : {V : Type 0} (f : ℕ → V) (ks : List ℕ) (r : ℕ) (v : V) → list_any (eqb r) ks ≡ false
    → insert_entry nat_eq (entries f ks) r v ≡ entries f ks ++ (r, v) ∷ []
insert-new f [] r v none = refl
insert-new f (k ∷ ks) r v none =
    let parts = or_parts (eqb r k) (list_any (eqb r) ks) none in
    rw (parts.0, insert-new f ks r v parts.1) refl

insert-known : {V : Type 0} (f g : ℕ → V) (ks : List ℕ) (r : ℕ) → IsDistinct eqb ks
    → AgreeBut r f g → list_any (eqb r) ks ≡ true
    → insert_entry nat_eq (entries f ks) r (g r) ≡ entries g ks
unfolding IsDistinct
insert-known f g [] r d agree there = absurd (false≢true there)
insert-known f g (k ∷ ks) r d agree there =
    elim (cases_Bool (eqb r k)) [
      | inl here ↦
          let same = eqb-true r k here in
          let none : list_any (eqb r) ks ≡ false =
          subst (λ j. list_any (eqb j) ks ≡ false) (sym same) (none-of k ks d.0) in
          rw (here, entries-same f g r ks agree none) (ap (λ j. (k, g j) ∷ entries f ks) same)
      | inr other ↦
          let later : list_any (eqb r) ks ≡ true = rw other at there in
          rw (other, agree k other, insert-known f g ks r d.1 agree later) refl
    ]

-- an entry more, or another one in its place
pub insert-entries : {V : Type 0} (f g : ℕ → V) (ks : List ℕ) (r : ℕ) → IsDistinct eqb ks
    → AgreeBut r f g → insert_entry nat_eq (entries f ks) r (g r) ≡ entries g (note_arrival ks r)
insert-entries f g ks r d agree =
    elim (cases_Bool (list_any (eqb r) ks)) [
      | inl there ↦ rw there (insert-known f g ks r d agree there)
      | inr none ↦ rw none
          (insert-new f ks r (g r) none
          ∙ ap (λ es. es ++ (r, g r) ∷ []) (sym (entries-same f g r ks agree none))
          ∙ sym (map-append (λ k. (k, g k)) ks (r ∷ [])))
    ]

slice_get-past : {V : Type 0} (xs : List V) (i : ℕ) → length xs ≤ i → slice_get xs i ≡ None
slice_get-past [] i le = refl
slice_get-past (x ∷ xs) zero le = absurd (omega (arith, le))
slice_get-past (x ∷ xs) (suc i) le = slice_get-past xs i (omega (arith, le))

agree-at : {V : Type 0} (f g : ℕ → V) (n j : ℕ) → g j ≡ f j
    → slice_get (map g (below n)) j ≡ slice_get (map f (below n)) j
agree-at f g zero j e = refl
agree-at f g (suc n) j e =
    elim (cases_Bool (ltb j (suc n))) [
      | inl lt ↦ slice_get-map-below g (suc n) j (ltb-true j (suc n) lt) ∙ ap Some e
          ∙ sym (slice_get-map-below f (suc n) j (ltb-true j (suc n) lt))
      | inr ge ↦
          let past : suc n ≤ j = grind (arith, nat_tests) in
          let many = length-map (below (suc n)) g ∙ length-below (suc n) in
          let many_too = length-map (below (suc n)) f ∙ length-below (suc n) in
          slice_get-past (map g (below (suc n))) j (omega (arith, past, many))
          ∙ sym (slice_get-past (map f (below (suc n))) j (omega (arith, past, many_too)))
    ]

-- where two give the same but at one place, the one is the other with that place set
pub map-set : {V : Type 0} (f g : ℕ → V) (n i : ℕ) → i < n → AgreeBut i f g
    → map g (below n) ≡ slice_set (map f (below n)) i (g i)
map-set f g n i lt agree =
    same_by_get (map g (below n)) (slice_set (map f (below n)) i (g i))
    (λ j. elim (cases_eq j i) [
      | inl e ↦
          let len : i < length (map f (below n)) =
          omega (arith, lt, length-map (below n) f, length-below n) in
          rw e (slice_get-map-below g n i lt ∙ sym (get-set_same (map f (below n)) i (g i) len))
      | inr ne ↦
          let other : eqb i j ≡ false = grind (arith, nat_tests) in
          agree-at f g n j (agree j other) ∙ sym (get-set_other (map f (below n)) i j (g i) ne)
    ])
