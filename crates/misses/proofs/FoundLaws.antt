-- The entry at an index is a line's, where it has the line's number.
use Rattle.std.proofs.Common.{◌≡◌, ℕ, zero, suc, true, false, eqb, List, [], ◌∷◌, refl, sym, ap}
use Rattle.std.proofs.Common.{◌∙◌, subst, inl, inr, Some}
use Rattle.std.proofs.lemmas.Bool.{cases_Bool, eq-eqb, eqb-true, false≢true}
use Rattle.std.proofs.lemmas.Option.{none-some, same_Some}
use Rattle.std.specs.List.{AllByRecursion, IsDistinct}
use Rattle.std.specs.Map.{keys_of, lookup, values_of}
use Rattle.std.specs.Prelude.{slice_get, nat_eq, is_some}
use Rattle.indexmap.specs.IndexMap.{insert_entry, set_value_at}
use Rattle.misses.specs.MissCounts.{LineEntry}

apart : (q : ℕ) (es : List (ℕ × LineEntry)) (i k : ℕ) (l : LineEntry)
    → AllByRecursion (λ y. eqb q y ≡ false) (keys_of es) → slice_get es i ≡ Some (k, l)
    → eqb q k ≡ false
apart q [] i k l all at = absurd (none-some (k, l) at)
apart q (e ∷ es) zero k l all at =
    subst (λ (x : ℕ × LineEntry). eqb q x.0 ≡ false) (same_Some e (k, l) at) all.0
apart q (e ∷ es) (suc i) k l all at = apart q es i k l all.1 at

-- no entry before it has the number
other : (q k : ℕ) → eqb q k ≡ false → eqb k q ≡ false
other q k e =
    elim (cases_Bool (eqb k q)) [
      | inl same ↦ absurd (false≢true (sym e ∙ eq-eqb q k (sym (eqb-true k q same))))
      | inr differs ↦ differs
    ]

insert-key : (es : List (ℕ × LineEntry)) (i k : ℕ) (l w : LineEntry)
    → IsDistinct eqb (keys_of es) → slice_get es i ≡ Some (k, l)
    → insert_entry nat_eq es k w ≡ set_value_at es i w
unfolding IsDistinct
insert-key [] i k l w apart_keys at = absurd (none-some (k, l) at)
insert-key (e ∷ es) zero k l w apart_keys at =
    let here : eqb k e.0 ≡ true =
    eq-eqb k e.0 (ap (λ (x : ℕ × LineEntry). x.0) (sym (same_Some e (k, l) at))) in
    rw here refl
insert-key (e ∷ es) (suc i) k l w apart_keys at =
    let no : eqb k e.0 ≡ false = other e.0 k (apart e.0 es i k l apart_keys.0 at) in
    rw no (ap (λ xs. e ∷ xs) (insert-key es i k l w apart_keys.1 at))

value-at : (es : List (ℕ × LineEntry)) (i k : ℕ) (l : LineEntry) → slice_get es i ≡ Some (k, l)
    → slice_get (values_of es) i ≡ Some l
value-at [] i k l at = absurd (none-some (k, l) at)
value-at (e ∷ es) zero k l at =
    ap (λ (x : ℕ × LineEntry). Some x.1) (same_Some e (k, l) at)
value-at (e ∷ es) (suc i) k l at = value-at es i k l at

-- the same of the line of number r, which the entry's number is
module _ (es : List (ℕ × LineEntry)) (i k r : ℕ) (l : LineEntry) (same : eqb k r ≡ true)
    (at : slice_get es i ≡ Some (k, l))
  where
    pub insert-there : IsDistinct eqb (keys_of es) → (w : LineEntry)
        → insert_entry nat_eq es r w ≡ set_value_at es i w
    insert-there keys w =
        subst (λ x. insert_entry nat_eq es x w ≡ set_value_at es i w) (eqb-true k r same)
        (insert-key es i k l w keys at)

    pub value-there : lookup (eqb k) es ≡ Some l
        → slice_get (values_of es) i ≡ lookup (eqb r) es
    value-there found =
        value-at es i k l at ∙ sym found ∙ ap (λ x. lookup (eqb x) es) (eqb-true k r same)

    pub found-there : lookup (eqb k) es ≡ Some l → is_some (lookup (eqb r) es) ≡ true
    found-there found =
        subst (λ x. is_some (lookup (eqb x) es) ≡ true) (eqb-true k r same) (rw found refl)
