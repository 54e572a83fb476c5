-- What an access that is kept makes of the stamps.
use Rattle.std.proofs.Common.{◌≡◌, ◌≢◌, ℕ, ◌+◌, ◌<◌, ◌≤◌, false}
use Rattle.std.proofs.Common.{refl, sym, ap, ◌∙◌, subst, arith}
use Rattle.std.proofs.Common.{inl, inr, ◌⊎◌, eqb}
use Rattle.std.proofs.lemmas.Bool.{cases_eq, cases_lt, eq-eqb}
use Rattle.std.proofs.lemmas.Bool.Decides.{nat_tests}
use Rattle.std.specs.Prelude.{if◌then◌else◌}
use Rattle.base.specs.Touch.{Touch}
use Rattle.access_filter.specs.Stamps.{IsVisited, number_of}
use Rattle.access_filter.specs.Rules.{AreFit, IsFresh, IsKept}
use Rattle.access_filter.specs.Rules.{place_of}
use Rattle.access_filter.specs.declared.stamp.Stamp.{Stamp}

-- the region of a visited stamp: its number stays where the hart came last
pub visited : (h : ℕ) (m n : Stamp) → IsVisited h m n
    → ((m.last ≡ h) × (number_of n ≡ number_of m)) ⊎ ((m.last ≢ h) × (number_of n ≡ number_of m + 1))
visited h m n is =
    elim (cases_eq m.last h) [
      | inl same ↦ inl (same, is.number ∙ rw (eq-eqb m.last h same) refl)
      | inr other ↦ inr (
        other,
        is.number ∙ ap (λ x. if x then number_of m else number_of m + 1)
            (not_equal m.last h other),
      )
    ]
  where
    not_equal : (x y : ℕ) → x ≢ y → eqb x y ≡ false
    not_equal x y other = grind (arith, nat_tests)

-- a place is one of the three from r on, or not
pub beside : (r p : ℕ) → ((r ≤ p) × (p ≤ r + 2)) ⊎ ((p < r) ⊎ (r + 2 < p))
beside r p =
    elim (cases_lt p r) [
      | inl low ↦ inr (inl low)
      | inr above ↦ elim (cases_lt (r + 2) p) [
        | inl high ↦ inr (inr high)
        | inr within ↦ inl (above, within)
      ]
    ]

-- no number falls
rises : (q r : ℕ) (b : Touch) (W R V S : ℕ → Stamp) → IsKept q r b W R V S → (p : ℕ)
    → (number_of (R p) ≤ number_of (S p)) × (number_of (S p) ≤ number_of (R p) + 1)
rises q r b W R V S is p =
    elim (beside r p) [
      | inl near ↦ elim (visited b.hart (R p) (S p) (is.inside p near.0 near.1)) [
        | inl same ↦ (omega (arith, same.1), omega (arith, same.1))
        | inr other ↦ (omega (arith, other.1), omega (arith, other.1))
      ]
      | inr away ↦
          let same : number_of (S p) ≡ number_of (R p) = ap number_of (is.outside p away) in
          (omega (arith, same), omega (arith, same))
    ]

-- Another word that is fresh was it before, and its hart came last to its region; where that is one
-- of the three, its hart is that of the access.
record WasFresh (k r h : ℕ) (W R S : ℕ → Stamp) (p : ℕ) : Type 0 where
  before : IsFresh k W R p
  still : (S (place_of k p)).last ≡ (W p).last
  hart : r ≤ place_of k p → place_of k p ≤ r + 2 → (W p).last ≡ h

was_fresh : (k n q r : ℕ) (b : Touch) (W R V S : ℕ → Stamp) → AreFit k n W R
    → IsKept q r b W R V S → (p : ℕ) → p ≢ q → IsFresh k V S p → WasFresh k r b.hart W R S p
was_fresh k n q r b W R V S fit is p other fresh =
    let same : V p ≡ W p = is.others p other in
    let some : (W p).last ≢ 256 = λ none. fresh.some (ap (λ (m : Stamp). m.last) same ∙ none) in
    let number : number_of (W p) ≡ number_of (S (place_of k p)) =
    sym (ap number_of same) ∙ fresh.number in
    elim (beside r (place_of k p)) [
      | inl near ↦
          let at = is.inside (place_of k p) near.0 near.1 in
          elim (visited b.hart (R (place_of k p)) (S (place_of k p)) at) [
            | inl mine ↦
                let before : IsFresh k W R p = record { some = some; number = number ∙ mine.1 } in
                let hart : (W p).last ≡ b.hart = sym (fit.last p before) ∙ mine.0 in
                record { before = before; still = at.last ∙ sym hart; hart = λ x y. hart }
            | inr foreign ↦
                let low : number_of (W p) ≤ number_of (R (place_of k p)) = fit.low p in
                absurd (omega (arith, low, number, foreign.1))
          ]
      | inr away ↦
          let kept : S (place_of k p) ≡ R (place_of k p) = is.outside (place_of k p) away in
          let before : IsFresh k W R p = record { some = some; number = number ∙ ap number_of kept } in
          record {
            before = before;
            still = ap (λ (m : Stamp). m.last) kept ∙ fit.last p before;
            hart = λ x y. absurd (elim away [
              | inl low ↦ omega (arith, low, x)
              | inr high ↦ omega (arith, high, y)
            ]);
          }
    ]

-- the stamps stay fit
pub fit-kept : (k n q r : ℕ) (b : Touch) (W R V S : ℕ → Stamp) → b.hart < 256
    → r + 1 ≡ place_of k q → AreFit k n W R → IsKept q r b W R V S → AreFit k (n + 1) V S
fit-kept k n q r b W R V S small place fit is = record {
  last = λ p fresh. elim (cases_eq p q) [
    | inl here ↦ subst (λ z. (S (place_of k z)).last ≡ (V z).last) (sym here)
        ((is.inside (place_of k q) (omega (arith, place)) (omega (arith, place))).last ∙ sym is.last)
    | inr other ↦ (was_fresh k n q r b W R V S fit is p other fresh).still
        ∙ ap (λ (m : Stamp). m.last) (sym (is.others p other))
  ];
  agree = λ p o freshP freshO low high. elim (cases_eq p q) [
    | inl hereP ↦ elim (cases_eq o q) [
      | inl hereO ↦ ap (λ z. (V z).last) (hereP ∙ sym hereO)
      | inr otherO ↦ ap (λ z. (V z).last) hereP ∙ is.last ∙ sym (joined o otherO freshO
          (subst (λ z. place_of k z ≤ place_of k o + 1) hereP low)
          (subst (λ z. place_of k o ≤ place_of k z + 1) hereP high))
    ]
    | inr otherP ↦ elim (cases_eq o q) [
      | inl hereO ↦ joined p otherP freshP
          (subst (λ z. place_of k z ≤ place_of k p + 1) hereO high)
          (subst (λ z. place_of k p ≤ place_of k z + 1) hereO low)
          ∙ sym (ap (λ z. (V z).last) hereO ∙ is.last)
      | inr otherO ↦ ap (λ (m : Stamp). m.last) (is.others p otherP)
          ∙ fit.agree p o (was_fresh k n q r b W R V S fit is p otherP freshP).before
          (was_fresh k n q r b W R V S fit is o otherO freshO).before low high
          ∙ sym (ap (λ (m : Stamp). m.last) (is.others o otherO))
    ]
  ];
  low = λ p. elim (cases_eq p q) [
    | inl here ↦
        let number : number_of (V q) ≡ number_of (S (place_of k q)) =
        subst (λ z. number_of (V q) ≡ number_of (S z)) place is.number in
        subst (λ z. number_of (V z) ≤ number_of (S (place_of k z))) (sym here)
        (omega (arith, number))
    | inr other ↦
        let same : number_of (V p) ≡ number_of (W p) = ap number_of (is.others p other) in
        omega (arith, same, fit.low p, (rises q r b W R V S is (place_of k p)).0)
  ];
  few = λ p. omega (arith, fit.few p, (rises q r b W R V S is p).1);
  seen = λ p o some low high. elim (beside r o) [
    | inl near ↦ λ none. let last : (S o).last ≡ b.hart = (is.inside o near.0 near.1).last in
        omega (arith, small, last, none)
    | inr away ↦ elim (cases_eq p q) [
      | inl here ↦ absurd (beyond o away
          (subst (λ z. o ≤ place_of k z + 1) here low) (subst (λ z. place_of k z ≤ o + 1) here high))
      | inr other ↦ λ none. fit.seen p o
          (λ blank. some (ap (λ (m : Stamp). m.last) (is.others p other) ∙ blank)) low high
          (ap (λ (m : Stamp). m.last) (sym (is.outside o away)) ∙ none)
    ]
  ];
}
  where
    joined : (o : ℕ) → o ≢ q → IsFresh k V S o → place_of k q ≤ place_of k o + 1
        → place_of k o ≤ place_of k q + 1 → (V o).last ≡ b.hart
    joined o other fresh low high = ap (λ (m : Stamp). m.last) (is.others o other)
        ∙ (was_fresh k n q r b W R V S fit is o other fresh).hart
        (omega (arith, place, low)) (omega (arith, place, high))

    beyond : (o : ℕ) → (o < r) ⊎ (r + 2 < o) → o ≤ place_of k q + 1 → place_of k q ≤ o + 1 → ⊥
    beyond o (inl under) low high = omega (arith, under, high, place)
    beyond o (inr over) low high = omega (arith, over, low, place)
