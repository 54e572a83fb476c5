-- Tables of entries, looked up by a number: what stands there after one is put in.
use Rattle.std.proofs.Common.{◌≡◌, ℕ, zero, suc, ◌<◌, true, false, eqb, List, [], ◌∷◌, length}
use Rattle.std.proofs.Common.{refl, sym, ap, ◌∙◌, subst, arith, inl, inr, Some, get_or}
use Rattle.std.proofs.lemmas.Bool.{cases_Bool, eqb-true, false≢true}
use Rattle.std.proofs.lemmas.Bool.Decides.{nat_tests}
use Rattle.std.proofs.lemmas.List.Quantifiers.{position-Some}
use Rattle.std.proofs.lemmas.Option.{none-some, same_Some}
use Rattle.std.specs.List.{AllByRecursion, position}
use Rattle.std.specs.Map.{keys_of, lookup, values_of}
use Rattle.std.specs.Option.{option_map_or}
use Rattle.std.specs.Prelude.{slice_get, nat_eq, is_some, if◌then◌else◌, IfSome}
use Rattle.std.specs.Prelude.{OnErr, Result, Ok, Err}
use Rattle.indexmap.specs.IndexMap.{insert_entry, set_value_at}
use Rattle.sharing_rules.specs.Laws.Lists.{slice_cases}

-- what a lookup finds, or d
abbrev pub found_or : {V T : Type 0} → (V → T) → T → List (ℕ × V) → ℕ → T
found_or f d es r = option_map_or f (lookup (eqb r) es) d

unlike : (q r x : ℕ) → eqb r x ≡ true → eqb q x ≡ eqb q r
unlike q r x e = ap (eqb q) (sym (eqb-true r x e))

apart : (q r x : ℕ) → eqb q x ≡ true → eqb r x ≡ false → eqb q r ≡ false
apart q r x here other = grind (arith, nat_tests)

module _ {V : Type 0} where
  pub lookup-insert : (es : List (ℕ × V)) (r q : ℕ) (v : V)
      → lookup (eqb q) (insert_entry nat_eq es r v) ≡ if eqb q r then Some v else lookup (eqb q) es
  lookup-insert [] r q v = refl
  lookup-insert (e ∷ es) r q v =
      elim (cases_Bool (eqb r e.0)) [
        | inl here ↦ elim (cases_Bool (eqb q r)) [
          | inl same ↦ rw (here, unlike q r e.0 here, same) refl
          | inr other ↦ rw (here, unlike q r e.0 here, other) refl
        ]
        | inr there ↦ elim (cases_Bool (eqb q e.0)) [
          | inl first ↦ rw (there, first, apart q r e.0 first there) refl
          | inr later ↦ rw (there, later, lookup-insert es r q v) refl
        ]
      ]

  -- an entry is put where its key stands first
  insert-first : (es : List (ℕ × V)) (r i : ℕ) (v : V) → i < length (keys_of es)
      → eqb r (get_or (keys_of es) i 0) ≡ true
      → ((k : ℕ) → k < i → eqb r (get_or (keys_of es) k 0) ≡ false)
      → insert_entry nat_eq es r v ≡ set_value_at es i v
  insert-first [] r i v within here none = absurd (omega (arith, within))
  insert-first (e ∷ es) r zero v within here none = rw here refl
  insert-first (e ∷ es) r (suc i) v within here none =
      let other : eqb r e.0 ≡ false = none 0 (omega arith) in
      rw other (ap (λ xs. e ∷ xs) (insert-first es r i v (omega (arith, within)) here
      (λ k lt. none (suc k) (omega (arith, lt)))))

  pub insert-at : (es : List (ℕ × V)) (r i : ℕ) (v : V) → position (eqb r) (keys_of es) ≡ Some i
      → set_value_at es i v ≡ insert_entry nat_eq es r v
  insert-at es r i v e =
      let at = position-Some (eqb r) (keys_of es) i 0 e in
      sym (insert-first es r i v at.0 at.1 at.2)

  pub found-insert : {T : Type 0} (f : V → T) (d : T) (es : List (ℕ × V)) (r q : ℕ) (v : V)
      → found_or f d (insert_entry nat_eq es r v) q ≡ if eqb q r then f v else found_or f d es q
  found-insert f d es r q v =
      elim (cases_Bool (eqb q r)) [
        | inl same ↦ rw (lookup-insert es r q v, same) refl
        | inr other ↦ rw (lookup-insert es r q v, other) refl
      ]

  -- the entry at an index, changed
  pub found-changed : {T : Type 0} (f : V → T) (d : T) (g : V → V) (es new : List (ℕ × V))
      (r i : ℕ) → Some i ≡ position (eqb r) (keys_of es)
      → slice_get (values_of es) i ≡ lookup (eqb r) es → true ≡ is_some (lookup (eqb r) es)
      → IfSome (slice_get (values_of es) i) (λ v. new ≡ set_value_at es i (g v))
      → (v : V) × (lookup (eqb r) es ≡ Some v)
      × ((q : ℕ) → found_or f d new q ≡ if eqb q r then f (g v) else found_or f d es q)
      × (new ≡ insert_entry nat_eq es r (g v))
  found-changed f d g es new r i at value found changed =
      elim (slice_cases (lookup (eqb r) es)) [
        | inl none ↦ let k : true ≡ false = rw none at found in absurd (false≢true (sym k))
        | inr some ↦
            let there : slice_get (values_of es) i ≡ Some some.0 = value ∙ some.1 in
            let set : new ≡ set_value_at es i (g some.0) = rw there at changed in
            let put : new ≡ insert_entry nat_eq es r (g some.0) =
            set ∙ insert-at es r i (g some.0) (sym at) in (
              some.0,
              some.1,
              λ q. ap (λ xs. found_or f d xs q) put ∙ found-insert f d es r q (g some.0),
              put,
            )
      ]

  pub all-insert : (P : ℕ × V → Type 0) (es : List (ℕ × V)) (r : ℕ) (v : V) → P (r, v)
      → ((q : ℕ) → P (q, v)) → AllByRecursion P es → AllByRecursion P (insert_entry nat_eq es r v)
  all-insert P [] r v p each all = (p, tt)
  all-insert P (e ∷ es) r v p each all =
      elim (cases_Bool (eqb r e.0)) [
        | inl here ↦ rw here (each e.0, all.1)
        | inr there ↦ rw there (all.0, all-insert P es r v p each all.1)
      ]

  pub at-lookup : (P : ℕ × V → Type 0) (es : List (ℕ × V)) (r : ℕ) (v : V) → AllByRecursion P es
      → lookup (eqb r) es ≡ Some v → (q : ℕ) × P (q, v)
  at-lookup P [] r v all e = absurd (none-some v e)
  at-lookup P (x ∷ es) r v all e =
      elim (cases_Bool (eqb r x.0)) [
        | inl here ↦
            let k : Some x.1 ≡ Some v = rw here at e in
            (x.0, subst (λ z. P (x.0, z)) (same_Some x.1 v k) all.0)
        | inr there ↦ let k : lookup (eqb r) es ≡ Some v = rw there at e in
            at-lookup P es r v all.1 k
      ]

  -- what stands at an index may be put there again
  set-same : (es : List (ℕ × V)) (i : ℕ) (v : V) → slice_get (values_of es) i ≡ Some v
      → set_value_at es i v ≡ es
  set-same [] i v there = refl
  set-same (e ∷ es) zero v there = ap (λ x. (e.0, x) ∷ es) (sym (same_Some e.1 v there))
  set-same (e ∷ es) (suc i) v there = ap (λ xs. e ∷ xs) (set-same es i v there)

  pub refused-same : {T E : Type 0} (result : Result T E) (es : List (ℕ × V)) (i : ℕ) (old new : V)
      → slice_get (values_of es) i ≡ Some old → OnErr result (new ≡ old)
      → OnErr result (set_value_at es i new ≡ es)
  refused-same (Ok x) es i old new there same = tt
  refused-same (Err e) es i old new there same =
      ap (set_value_at es i) same ∙ set-same es i old there
