-- Redundant accesses after one access more.
use Rattle.std.proofs.Common.{◌≡◌, ℕ, zero, suc, ◌+◌, ◌<◌, ◌≤◌, Bool, true, false}
use Rattle.std.proofs.Common.{eqb, not, ◌&&◌, ◌||◌, List, [], ◌∷◌, ◌++◌, length, drop}
use Rattle.std.proofs.Common.{refl, sym, ap, ◌∙◌, arith, inl, inr, length-append}
use Rattle.std.proofs.lemmas.Bool.{false≢true, and_parts, and_from, or_cases}
use Rattle.std.proofs.lemmas.Bool.{or_left, or_right, eqb-true, eq-eqb}
use Rattle.std.proofs.Math.Bool.{or-false}
use Rattle.filtered_counts.specs.Laws.Near.{comes_near-word, comes-parts, near-both}
use Rattle.std.proofs.lemmas.List.Folds.{list_any-append}
use Rattle.std.specs.Prelude.{slice_get}
use Rattle.std.specs.Option.{option_map_or}
use Rattle.std.specs.List.{list_any}
use Rattle.base.specs.Touch.{Touch, is_write, word_of}
use Rattle.sharing_rules.specs.Places.{below}
use Rattle.sharing_rules.specs.Laws.Lists.{by_push, slice_get-append_left, slice_get-push}
use Rattle.sharing_rules.specs.Filtered.{comes_near, covers, is_redundant, is_witness}

drop-push : (t : List Touch) (n : ℕ) (a : Touch) → n ≤ length t
    → drop n (t ++ a ∷ []) ≡ drop n t ++ a ∷ []
drop-push t zero a le = refl
drop-push [] (suc n) a le = absurd (omega (arith, le))
drop-push (b ∷ t) (suc n) a le = drop-push t n a (omega (arith, le))

drop-all : (t : List Touch) (n : ℕ) → n ≡ length t → drop n t ≡ []
drop-all [] n e = ap (λ m. drop m []) e
drop-all (a ∷ t) zero e = absurd (omega (arith, e))
drop-all (a ∷ t) (suc n) e = drop-all t n (omega (arith, e))

both : (x y b : Bool) → ((x && b) || ((y && b) || false)) ≡ ((x || (y || false)) && b)
both true y true = refl
both true true false = refl
both true false false = refl
both false true true = refl
both false true false = refl
both false false true = refl
both false false false = refl

-- a test of the numbers below n that holds of each only where another thing does
any_below : (p q : ℕ → Bool) (b : Bool) (n : ℕ) → ((i : ℕ) → i < n → p i ≡ (q i && b))
    → list_any p (below n) ≡ (list_any q (below n) && b)
any_below p q b zero same = refl
any_below p q b (suc n) same =
    rw (
      list_any-append p (below n) (n ∷ []),
      list_any-append q (below n) (n ∷ []),
      any_below p q b n (λ i l. same i (omega arith)),
      same n (omega arith),
    )
    (both (list_any q (below n)) (q n) b)

later : (x y z : Bool) → (x && not (y || (z || false))) ≡ ((x && not y) && not z)
later true true z = refl
later true false true = refl
later true false false = refl
later false y z = refl

and-true : (x : Bool) → (x && not false) ≡ x
and-true true = refl
and-true false = refl

-- each earlier witness is one still where the access comes not near
pub witness-kept : (k : ℕ) (t : List Touch) (c a : Touch) (i : ℕ) → i < length t
    → is_witness k (t ++ c ∷ []) a i
    ≡ (is_witness k t a i && not (comes_near k a.hart a.addr c))
witness-kept k t c a i l =
    rw (
      slice_get-append_left t (c ∷ []) i l,
      drop-push t (i + 1) c (omega arith),
      list_any-append (comes_near k a.hart a.addr) (drop (i + 1) t) (c ∷ []),
    )
    (later (option_map_or (λ b. covers b a) (slice_get t i) false)
    (list_any (comes_near k a.hart a.addr) (drop (i + 1) t)) (comes_near k a.hart a.addr c))

pub witness-new : (k : ℕ) (t : List Touch) (c a : Touch)
    → is_witness k (t ++ c ∷ []) a (length t) ≡ covers c a
witness-new k t c a =
    let len : length t + 1 ≡ length (t ++ c ∷ []) = omega (arith, length-append t (c ∷ [])) in
    rw (slice_get-push t c, drop-all (t ++ c ∷ []) (length t + 1) len) (and-true (covers c a))

-- An access is redundant behind one access more where it was redundant before and that one doesn't
-- come near it, or where that one covers it.
pub is_redundant-push : (k : ℕ) (t : List Touch) (c a : Touch)
    → is_redundant k (t ++ c ∷ []) a
    ≡ ((is_redundant k t a && not (comes_near k a.hart a.addr c)) || covers c a)
is_redundant-push k t c a =
    let len : length (t ++ c ∷ []) ≡ suc (length t) = omega (arith, length-append t (c ∷ [])) in
    rw (
      len,
      list_any-append (is_witness k (t ++ c ∷ []) a) (below (length t)) (length t ∷ []),
      any_below (is_witness k (t ++ c ∷ []) a) (is_witness k t a)
          (not (comes_near k a.hart a.addr c)) (length t) (witness-kept k t c a),
      witness-new k t c a,
      or-false,
    )

-- ---- which accesses cover which

pub covers-parts : (b a : Touch) → covers b a ≡ true
    → (eqb b.hart a.hart ≡ true) × (word_of b.addr ≡ word_of a.addr)
    × ((is_write b.kind || not (is_write a.kind)) ≡ true)
covers-parts b a e =
    let outer = and_parts (eqb b.hart a.hart && eqb (word_of b.addr) (word_of a.addr))
    (is_write b.kind || not (is_write a.kind)) e in
    let inner = and_parts (eqb b.hart a.hart) (eqb (word_of b.addr) (word_of a.addr)) outer.0 in
    (inner.0, eqb-true _ _ inner.1, outer.1)

does-all : (x y z : Bool) → (x || not y) ≡ true → (y || not z) ≡ true → (x || not z) ≡ true
does-all true y z e f = refl
does-all false true z e f = absurd (false≢true e)
does-all false false true e f = absurd (false≢true f)
does-all false false false e f = refl

covers-trans : (d c a : Touch) → covers d c ≡ true → covers c a ≡ true → covers d a ≡ true
covers-trans d c a e f =
    let p = covers-parts d c e in
    let q = covers-parts c a f in
    let hart : eqb d.hart a.hart ≡ true =
    eq-eqb _ _ (eqb-true d.hart c.hart p.0 ∙ eqb-true c.hart a.hart q.0) in
    let word : eqb (word_of d.addr) (word_of a.addr) ≡ true = eq-eqb _ _ (p.1 ∙ q.1) in
    and_from _ _ (and_from _ _ hart word) (does-all _ _ _ p.2 q.2)

-- what comes near an access comes near those that it covers
covers-near : (k : ℕ) (c a d : Touch) → 2 ≤ k → covers c a ≡ true
    → comes_near k a.hart a.addr d ≡ comes_near k c.hart c.addr d
covers-near k c a d le e =
    let p = covers-parts c a e in
    let hart : c.hart ≡ a.hart = eqb-true _ _ p.0 in
    comes_near-word k a.hart a.addr c.addr d le (sym p.1)
    ∙ ap (λ h. comes_near k h c.addr d) (sym hart)

-- what a redundant access covers is redundant
pub covers-redundant : (k : ℕ) (t : List Touch) (c a : Touch) → 2 ≤ k → covers c a ≡ true
    → is_redundant k t c ≡ true → is_redundant k t a ≡ true
covers-redundant k t c a le e =
    by_push (λ (t : List Touch). is_redundant k t c ≡ true → is_redundant k t a ≡ true)
    (λ f. f)
    (λ t d ih f.
    let g : ((is_redundant k t c && not (comes_near k c.hart c.addr d)) || covers d c) ≡ true =
    sym (is_redundant-push k t d c) ∙ f in
    is_redundant-push k t d a
    ∙ (elim (or_cases (is_redundant k t c && not (comes_near k c.hart c.addr d)) (covers d c) g) [
      | inl before ↦
          let p = and_parts (is_redundant k t c) (not (comes_near k c.hart c.addr d)) before in
          or_left _ _ (and_from _ _ (ih p.0) (ap not (covers-near k c a d le e) ∙ p.1))
      | inr now ↦ or_right _ _ (covers-trans d c a now e)
    ]))
    t

not-true : (x : Bool) → not x ≡ true → x ≡ true → ⊥
not-true true e f = false≢true e
not-true false e f = false≢true f

-- Of two accesses by two harts near each other at most one is redundant.
pub near-redundant : (k : ℕ) (t : List Touch) (a c : Touch) → 2 ≤ k
    → comes_near k a.hart a.addr c ≡ true → is_redundant k t a ≡ true → is_redundant k t c ≡ true
    → ⊥
near-redundant k t a c le near =
    let back : comes_near k c.hart c.addr a ≡ true =
    near-both k a c a le near (eq-eqb _ _ refl) refl in
    by_push (λ (t : List Touch). is_redundant k t a ≡ true → is_redundant k t c ≡ true → ⊥)
    (λ e f. false≢true e)
    (λ t d ih e f.
    let g : ((is_redundant k t a && not (comes_near k a.hart a.addr d)) || covers d a) ≡ true =
    sym (is_redundant-push k t d a) ∙ e in
    let h : ((is_redundant k t c && not (comes_near k c.hart c.addr d)) || covers d c) ≡ true =
    sym (is_redundant-push k t d c) ∙ f in
    elim (or_cases (is_redundant k t a && not (comes_near k a.hart a.addr d)) (covers d a) g) [
      | inl before ↦
          let p = and_parts (is_redundant k t a) (not (comes_near k a.hart a.addr d)) before in
          elim (or_cases (is_redundant k t c && not (comes_near k c.hart c.addr d)) (covers d c) h) [
            | inl too ↦ ih p.0 (and_parts (is_redundant k t c) _ too).0
            | inr now ↦
                let q = covers-parts d c now in
                not-true _ p.1 (near-both k c a d le back q.0 q.1)
          ]
      | inr now ↦
          let q = covers-parts d a now in
          let there = near-both k a c d le near q.0 q.1 in
          elim (or_cases (is_redundant k t c && not (comes_near k c.hart c.addr d)) (covers d c) h) [
            | inl too ↦
                not-true _ (and_parts (is_redundant k t c) (not (comes_near k c.hart c.addr d)) too).1
                there
            | inr both ↦
                let r = covers-parts d c both in
                not-true _ (comes-parts k c.hart c.addr d there).0 r.0
          ]
    ])
    t
