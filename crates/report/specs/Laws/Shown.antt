-- The order of the listed lines is an order, and it looks at what is shown alone.
use Rattle.std.proofs.Common.{◌≡◌, ℕ, Bool, true, false, eqb, ltb, ◌&&◌, ◌||◌, ℤ, List, [], ◌∷◌}
use Rattle.std.proofs.Common.{map, refl, ap, ◌∙◌, inl, inr, arith}
use Rattle.std.proofs.lemmas.Bool.{cases_Bool}
use Rattle.std.proofs.lemmas.Bool.Decides.{nat_tests}
use Rattle.std.proofs.lemmas.Int.{ints}
use Rattle.std.specs.Prelude.{int_lt}
use Rattle.std.specs.Cmp.{IsStrictWeakOrder}
use Rattle.sharing_rules.specs.Listed.{in_order, put_in_order, rank}
use Rattle.report.specs.Shown.{ShownLine, is_shown_before}

-- by a falling number, then by a rising one, then by a rising integer
abbrev keyed : ℕ → ℕ → ℤ → ℕ → ℕ → ℤ → Bool
keyed c k b d l e = ltb d c || (eqb c d && (ltb k l || (eqb k l && int_lt b e)))

keyed-one_way : (c k : ℕ) (b : ℤ) (d l : ℕ) (e : ℤ) → keyed c k b d l e ≡ true
    → keyed d l e c k b ≡ false
keyed-one_way c k b d l e h = grind (arith, ints, nat_tests)

keyed-chain : (c k : ℕ) (b : ℤ) (d l : ℕ) (e : ℤ) (x m : ℕ) (z : ℤ) → keyed c k b d l e ≡ false
    → keyed d l e x m z ≡ false → keyed c k b x m z ≡ false
keyed-chain c k b d l e x m z h i = grind (arith, ints, nat_tests)

pub is_shown_before-ranks : IsStrictWeakOrder is_shown_before
is_shown_before-ranks = record {
  one_way = λ x y h. keyed-one_way x.count (rank x.kind) x.range.base y.count
      (rank y.kind) y.range.base h;
  chain = λ x y z h k. keyed-chain x.count (rank x.kind) x.range.base y.count
      (rank y.kind) y.range.base z.count (rank z.kind) z.range.base h k;
}

pub by_shown-ranks : {X : Type 0} (h : X → ShownLine)
    → IsStrictWeakOrder (λ x y. is_shown_before (h x) (h y))
by_shown-ranks h = record {
  one_way = λ x y e. is_shown_before-ranks.one_way (h x) (h y) e;
  chain = λ x y z e f. is_shown_before-ranks.chain (h x) (h y) (h z) e f;
}

put_in_order-map : {X Y : Type 0} (h : X → Y) (lt : Y → Y → Bool) (x : X) (xs : List X)
    → map h (put_in_order (λ x y. lt (h x) (h y)) x xs) ≡ put_in_order lt (h x) (map h xs)
put_in_order-map h lt x [] = refl
put_in_order-map h lt x (y ∷ ys) =
    elim (cases_Bool (lt (h y) (h x))) [
      | inl e ↦ rw e (ap (λ zs. h y ∷ zs)
          (put_in_order-map h lt x ys))
      | inr e ↦ rw e
    ]

-- an order by what a function shows of the elements
pub in_order-map : {X Y : Type 0} (h : X → Y) (lt : Y → Y → Bool) (xs : List X)
    → map h (in_order (λ x y. lt (h x) (h y)) xs) ≡ in_order lt (map h xs)
in_order-map h lt [] = refl
in_order-map h lt (x ∷ xs) = put_in_order-map h lt x (in_order (λ x y. lt (h x) (h y)) xs) ∙ ap
    (put_in_order lt (h x)) (in_order-map h lt xs)
