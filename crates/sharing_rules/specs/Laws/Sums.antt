-- Sums over numbers that are noted once each, where what one of them gives grows.
use Rattle.std.proofs.Common.{◌≡◌, ℕ, ◌+◌, true, false, eqb, List, [], ◌∷◌, refl, sym, subst, arith}
use Rattle.std.proofs.Common.{inl, inr}
use Rattle.std.proofs.lemmas.Bool.{cases_Bool, eqb-true, false≢true, or_parts}
use Rattle.std.proofs.lemmas.List.Sums.{sum_by-cons, sum_by_push}
use Rattle.std.specs.List.{AllByRecursion, IsDistinct, list_any}
use Rattle.std.specs.Prelude.{sum_by}
use Rattle.sharing_rules.specs.Arrivals.{note_arrival}

-- outside r the two give the same
abbrev pub AgreeBut : {V : Type 0} → ℕ → (ℕ → V) → (ℕ → V) → Type 0
AgreeBut r f g = (j : ℕ) → eqb r j ≡ false → g j ≡ f j

pub none-of : (r : ℕ) (ks : List ℕ) → AllByRecursion (λ y. eqb r y ≡ false) ks
    → list_any (eqb r) ks ≡ false
none-of r [] all = refl
none-of r (k ∷ ks) all = rw (all.0, none-of r ks all.1) refl

sum-same : (f g : ℕ → ℕ) (x : ℕ) (ks : List ℕ) → AgreeBut x f g → list_any (eqb x) ks ≡ false
    → sum_by g ks ≡ sum_by f ks
sum-same f g x [] agree none = refl
sum-same f g x (k ∷ ks) agree none =
    let parts = or_parts (eqb x k) (list_any (eqb x) ks) none in
    let here = agree k parts.0 in
    let rest = sum-same f g x ks agree parts.1 in
    omega (arith, here, rest, sum_by-cons f k ks, sum_by-cons g k ks)

sum-known : (f g : ℕ → ℕ) (x n : ℕ) (ks : List ℕ) → IsDistinct eqb ks → AgreeBut x f g
    → g x ≡ f x + n → list_any (eqb x) ks ≡ true → sum_by g ks ≡ sum_by f ks + n
unfolding IsDistinct
sum-known f g x n [] d agree grows there = absurd (false≢true there)
sum-known f g x n (k ∷ ks) d agree grows there =
    elim (cases_Bool (eqb x k)) [
      | inl here ↦
          let same = eqb-true x k here in
          let none : list_any (eqb x) ks ≡ false =
          subst (λ j. list_any (eqb j) ks ≡ false) (sym same) (none-of k ks d.0) in
          let grown : g k ≡ f k + n = subst (λ j. g j ≡ f j + n) same grows in
          let rest = sum-same f g x ks agree none in
          omega (arith, grown, rest, sum_by-cons f k ks, sum_by-cons g k ks)
      | inr other ↦
          let later : list_any (eqb x) ks ≡ true = rw other at there in
          let rest = sum-known f g x n ks d.1 agree grows later in
          let here = agree k other in
          omega (arith, here, rest, sum_by-cons f k ks, sum_by-cons g k ks)
    ]

-- whether x was noted before or not
pub sum-noted : (f g : ℕ → ℕ) (x n : ℕ) (ks : List ℕ) → IsDistinct eqb ks → AgreeBut x f g
    → g x ≡ f x + n → (list_any (eqb x) ks ≡ false → f x ≡ 0)
    → sum_by g (note_arrival ks x) ≡ sum_by f ks + n
sum-noted f g x n ks d agree grows new =
    elim (cases_Bool (list_any (eqb x) ks)) [
      | inl there ↦ rw there (sum-known f g x n ks d agree grows there)
      | inr none ↦
          let same = sum-same f g x ks agree none in
          let nothing = new none in
          rw none (omega (arith, sum_by_push g ks x, same, grows, nothing))
    ]
