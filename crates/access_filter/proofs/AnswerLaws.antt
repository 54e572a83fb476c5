-- What the stamps say of a list with one access more.
use Rattle.std.proofs.Common.{◌≡◌, ◌≢◌, ℕ, zero, suc, ◌+◌, ◌-◌, ◌*◌, ◌/◌, ◌<◌, ◌≤◌, ◌^◌, Bool, true, false}
use Rattle.std.proofs.Common.{not, ◌&&◌, ◌||◌, [], ◌∷◌, ◌++◌, refl, sym, ap, ◌∙◌, subst, arith}
use Rattle.std.proofs.Common.{inl, inr, ◌⊎◌, eqb}
use Rattle.std.proofs.Math.Nat.{div-div-eq-div-mul, mul-div-mul_right, mul-div_cancel}
use Rattle.std.proofs.lemmas.Nat.{pow_pos}
use Rattle.std.proofs.lemmas.Bool.{and_parts, cases_eq, eq-eqb, eqb-true, false≢true, le-leb}
use Rattle.std.proofs.lemmas.Bool.{leb-true}
use Rattle.std.proofs.lemmas.Bool.Decides.{nat_tests}
use Rattle.std.proofs.lemmas.List.Folds.{list_any-append}
use Rattle.std.specs.List.{list_any}
use Rattle.std.specs.Prelude.{◌==◌, nat_le}
use Rattle.base.specs.Touch.{Touch, is_write, word_of}
use Rattle.sharing_rules.specs.AccessLists.{AccessList}
use Rattle.sharing_rules.specs.Filtered.{comes_near, covers, is_near}
use Rattle.access_filter.specs.Stamps.{blank_stamp, number_of}
use Rattle.access_filter.specs.Rules.{AreFit, HasStamps, IsFresh, IsKept, finds_redundant, is_beside}
use Rattle.access_filter.specs.Rules.{HasBlankBeside, HasNewRegion, IsNewWord, is_covered}
use Rattle.access_filter.specs.Rules.{is_of_word, place_of}
use Rattle.access_filter.specs.declared.stamp.Stamp.{Stamp}
use Rattle.access_filter.proofs.StampLaws.{beside, visited}
use Rattle.access_filter.proofs.PushLaws.{redundant-push}

-- an address and its word lie in one region
word_region : (k a : ℕ) → 2 ≤ k → a / 4 * 4 / 2 ^ k ≡ a / 2 ^ k
word_region zero a h = absurd (omega (arith, h))
word_region (suc zero) a h = absurd (omega (arith, h))
word_region (suc (suc j)) a h =
    let right : 2 ^ suc (suc j) ≡ 2 ^ j * 4 = omega arith in
    let left : 2 ^ suc (suc j) ≡ 4 * 2 ^ j = omega arith in
    let four : 0 < 4 = omega arith in
    ap (λ n. a / 4 * 4 / n) right ∙ mul-div-mul_right (a / 4) (2 ^ j) four
    ∙ div-div-eq-div-mul a 4 (2 ^ j) ∙ ap (λ n. a / n) (sym left)

pub place_is : (k a q r : ℕ) → 2 ≤ k → q ≡ a / 4 → r ≡ a / 2 ^ k → r + 1 ≡ place_of k q
place_is k a q r big word region =
    ap (λ x. x + 1) (region ∙ sym (word_region k a big) ∙ ap (λ x. x * 4 / 2 ^ k) (sym word))

not_equal : (x y : ℕ) → x ≢ y → eqb x y ≡ false
not_equal x y other = grind (arith, nat_tests)

-- what it means that the stamps find an access redundant
record IsFound (k : ℕ) (W R : ℕ → Stamp) (a : Touch) : Type 0 where
  fresh : IsFresh k W R (a.addr / 4)
  hart : (W (a.addr / 4)).last ≡ a.hart
  last : (R (place_of k (a.addr / 4))).last ≡ a.hart
  kind : ((W (a.addr / 4)).writes || not (is_write a.kind)) ≡ true

found : (k n : ℕ) (W R : ℕ → Stamp) (a : Touch) → 2 ≤ k → a.hart < 256 → AreFit k n W R
    → finds_redundant k W R a ≡ true → IsFound k W R a
found k n W R a big small fit is =
    let m : Stamp = W (a.addr / 4) in
    let first = and_parts (eqb m.last a.hart && (m.writes || not (is_write a.kind)))
    (eqb (number_of m) (number_of (R (a.addr / 2 ^ k + 1)))) is in
    let who = and_parts (eqb m.last a.hart) (m.writes || not (is_write a.kind)) first.0 in
    let hart : m.last ≡ a.hart = eqb-true m.last a.hart who.0 in
    let number : number_of m ≡ number_of (R (a.addr / 2 ^ k + 1)) = eqb-true _ _ first.1 in
    let fresh : IsFresh k W R (a.addr / 4) = record {
      some = λ none. absurd (omega (arith, small, hart, none));
      number = number ∙ ap (λ p. number_of (R (p + 1))) (sym (word_region k a.addr big));
    } in
    record { fresh = fresh; hart = hart; last = fit.last (a.addr / 4) fresh ∙ hart; kind = who.1 }

-- the answer for the access's own word
same_word : (e x w aw m v : Bool) → (e ≡ true → ((x && (m || not w)) && v) ≡ false)
    → ((e && (w || not aw)) && true)
    ≡ ((e && true && (w || not aw)) || (not (not e && true) && ((x && (m || not aw)) && v)))
same_word false x w aw m v h = refl
same_word true x true true m v h = refl
same_word true x true false m v h = refl
same_word true x false false m v h = refl
same_word true false false true m v h = refl
same_word true true false true false v h = refl
same_word true true false true true v h = sym (h refl)

-- the answer for another word near
rest_of : (e f : Bool) → (f ≡ true → e ≡ true) → f ≡ (not (not e && true) && f)
rest_of true f h = refl
rest_of false false h = refl
rest_of false true h = sym (h refl)

none_of : (e f : Bool) → (f ≡ true → e ≡ false) → false ≡ (not (not e && true) && f)
none_of true true h = sym (h refl)
none_of true false h = refl
none_of false f h = refl

all_of : (x f : Bool) → f ≡ (not (x && false) && f)
all_of true f = refl
all_of false f = refl

and_false : (x : Bool) → (x && false) ≡ false
and_false true = refl
and_false false = refl

-- one access of the same word
answer-here : (k q r : ℕ) (b a : Touch) (W R V S : ℕ → Stamp) → 2 ≤ k → r ≡ b.addr / 2 ^ k
    → q ≡ b.addr / 4 → IsKept q r b W R V S → finds_redundant k W R b ≡ false → a.addr / 4 ≡ q
    → finds_redundant k V S a
    ≡ (covers b a || (not (comes_near k a.hart a.addr b) && finds_redundant k W R a))
answer-here k q r b a W R V S big region word is new here =
    let one : b.addr / 4 ≡ a.addr / 4 = sym word ∙ sym here in
    let near : b.addr / 2 ^ k ≡ a.addr / 2 ^ k = sym (word_region k b.addr big)
    ∙ ap (λ x. x * 4 / 2 ^ k) one ∙ word_region k a.addr big in
    let place : a.addr / 2 ^ k ≡ r = sym near ∙ sym region in
    let words : (word_of b.addr == word_of a.addr) ≡ true =
    eq-eqb (word_of b.addr) (word_of a.addr) (ap (λ x. x * 4) one) in
    let close : is_near k b.addr a.addr ≡ true =
    ap (λ x. nat_le x (a.addr / 2 ^ k + 1) && nat_le (a.addr / 2 ^ k) (x + 1)) near
    ∙ alone (a.addr / 2 ^ k) in
    let e : Bool = b.hart == a.hart in
    let m : Stamp = W (a.addr / 4) in
    let v : Bool = number_of m == number_of (R (a.addr / 2 ^ k + 1)) in
    let w : Bool = is_write b.kind in
    let aw : Bool = is_write a.kind in
    let before : e ≡ true → (((m.last == a.hart) && (m.writes || not w)) && v) ≡ false =
    λ same. ap (λ h. ((m.last == h) && (m.writes || not w)) && v) (sym (eqb-true _ _ same))
    ∙ ap (λ p. ((m.last == b.hart) && (m.writes || not w))
    && (number_of m == number_of (R (p + 1)))) (sym near)
    ∙ ap (λ x. is_covered (W x) (number_of (R (b.addr / 2 ^ k + 1))) b) (sym one) ∙ new in
    ap (λ x. is_covered (V x) (number_of (S (a.addr / 2 ^ k + 1))) a) here
    ∙ ap (λ x. is_covered (V q) (number_of (S (x + 1))) a) place
    ∙ ap (λ x. ((x == a.hart) && ((V q).writes || not aw))
    && (number_of (V q) == number_of (S (r + 1)))) is.last
    ∙ ap (λ x. (e && (x || not aw)) && (number_of (V q) == number_of (S (r + 1)))) is.writes
    ∙ ap (λ x. (e && (w || not aw)) && x) (eq-eqb _ _ is.number)
    ∙ same_word e (m.last == a.hart) w aw m.writes v before
    ∙ ap (λ x. (e && x && (w || not aw)) || (not (not e && true) && finds_redundant k W R a))
    (sym words)
    ∙ ap (λ x. covers b a || (not (not e && x) && finds_redundant k W R a)) (sym close)
  where
    alone : (x : ℕ) → (nat_le x (x + 1) && nat_le x (x + 1)) ≡ true
    alone x = ap (λ y. y && nat_le x (x + 1)) (le-leb x (x + 1) (omega arith))
        ∙ le-leb x (x + 1) (omega arith)

near_yes : (x y : ℕ) → x ≤ y + 1 → y ≤ x + 1 → (nat_le x (y + 1) && nat_le y (x + 1)) ≡ true
near_yes x y low high = ap (λ z. z && nat_le y (x + 1)) (le-leb x (y + 1) low)
    ∙ le-leb y (x + 1) high

not_le : (x y : ℕ) → y < x → nat_le x y ≡ false
not_le x y less = grind (arith, nat_tests)

near_no : (x y : ℕ) → (y + 1 < x) ⊎ (x + 2 < y + 1)
    → (nat_le x (y + 1) && nat_le y (x + 1)) ≡ false
near_no x y (inl low) = ap (λ z. z && nat_le y (x + 1)) (not_le x (y + 1) low)
near_no x y (inr high) = ap (λ z. nat_le x (y + 1) && z) (not_le y (x + 1) (omega (arith, high)))
    ∙ and_false (nat_le x (y + 1))

-- one access of another word
answer-there : (k n q r : ℕ) (b a : Touch) (W R V S : ℕ → Stamp) → 2 ≤ k → r ≡ b.addr / 2 ^ k
    → q ≡ b.addr / 4 → a.hart < 256 → AreFit k n W R → IsKept q r b W R V S
    → (a.addr / 4 ≡ q → ⊥) → finds_redundant k V S a
    ≡ (covers b a || (not (comes_near k a.hart a.addr b) && finds_redundant k W R a))
answer-there k n q r b a W R V S big region word small fit is there =
    let e : Bool = b.hart == a.hart in
    let p : ℕ = a.addr / 2 ^ k + 1 in
    let m : Stamp = W (a.addr / 4) in
    let F : Bool = finds_redundant k W R a in
    let apart : (word_of b.addr == word_of a.addr) ≡ false =
    not_equal (word_of b.addr) (word_of a.addr) (λ same. there (omega (arith, word, same))) in
    let uncovered : covers b a ≡ false =
    ap (λ x. e && x && (is_write b.kind || not (is_write a.kind))) apart
    ∙ ap (λ x. x && (is_write b.kind || not (is_write a.kind))) (and_false e) in
    let at : finds_redundant k V S a ≡ is_covered m (number_of (S p)) a =
    ap (λ (x : Stamp). is_covered x (number_of (S p)) a) (is.others (a.addr / 4) there) in
    let last : F ≡ true → (R p).last ≡ a.hart =
    λ is_found. ap (λ x. (R (x + 1)).last) (sym (word_region k a.addr big))
    ∙ (found k n W R a big small fit is_found).last in
    let low : number_of m ≤ number_of (R p) =
    subst (λ x. number_of m ≤ number_of (R (x + 1))) (word_region k a.addr big)
    (fit.low (a.addr / 4)) in
    at
    ∙ elim (beside r p) [
      | inl near ↦
          let close : is_near k b.addr a.addr ≡ true =
          near_yes (b.addr / 2 ^ k) (a.addr / 2 ^ k) (omega (arith, near.0, region))
          (omega (arith, near.1, region)) in
          elim (visited b.hart (R p) (S p) (is.inside p near.0 near.1)) [
            | inl mine ↦ ap (λ x. is_covered m x a) mine.1
                ∙ rest_of e F (λ f. eq-eqb b.hart a.hart (sym mine.0 ∙ last f))
                ∙ sym (ap (λ x. not (not e && x) && F) close)
            | inr foreign ↦
                let other : (number_of m == number_of (S p)) ≡ false =
                not_equal (number_of m) (number_of (S p))
                (λ same. omega (arith, low, foreign.1, same)) in
                let part : Bool = (m.last == a.hart) && (m.writes || not (is_write a.kind)) in
                ap (λ y. part && y) other ∙ and_false part
                ∙ none_of e F (λ f. not_equal b.hart a.hart (λ same. foreign.0 (last f ∙ sym same)))
                ∙ sym (ap (λ x. not (not e && x) && F) close)
          ]
      | inr away ↦
          let far : is_near k b.addr a.addr ≡ false =
          near_no (b.addr / 2 ^ k) (a.addr / 2 ^ k) (elim away [
            | inl under ↦ inl (omega (arith, under, region))
            | inr over ↦ inr (omega (arith, over, region))
          ]) in
          ap (λ (x : Stamp). is_covered m (number_of x) a) (is.outside p away)
          ∙ all_of (not e) F ∙ sym (ap (λ x. not (not e && x) && F) far)
    ]
    ∙ sym (ap (λ x. x || (not (comes_near k a.hart a.addr b) && F)) uncovered)

-- no access of a list, nor the one behind it
none_more : (p : Touch → Bool) (t : AccessList) (b : Touch) → list_any p t ≡ false → p b ≡ false
    → list_any p (t ++ b ∷ []) ≡ false
none_more p t b none new = list_any-append p t (b ∷ [])
    ∙ ap (λ x. x || (p b || false)) none ∙ ap (λ x. x || false) new

not_beside : (x p : ℕ) → (p < x) ⊎ (x + 2 < p) → (nat_le x p && nat_le p (x + 2)) ≡ false
not_beside x p (inl low) = ap (λ z. z && nat_le p (x + 2)) (not_le x p low)
not_beside x p (inr high) = ap (λ z. nat_le x p && z) (not_le p (x + 2) high)
    ∙ and_false (nat_le x p)

-- an access that is kept
pub stamps-kept : (k n q r : ℕ) (t : AccessList) (b : Touch) (W R V S : ℕ → Stamp) → 2 ≤ k
    → b.hart < 256 → r ≡ b.addr / 2 ^ k → q ≡ b.addr / 4 → AreFit k n W R → IsKept q r b W R V S
    → finds_redundant k W R b ≡ false → HasStamps k t W R → HasStamps k (t ++ b ∷ []) V S
stamps-kept k n q r t b W R V S big small region word fit is new has = record {
  answers = λ a hart. let far : Bool = not (comes_near k a.hart a.addr b) in
      elim (cases_eq (a.addr / 4) q) [
        | inl here ↦ answer-here k q r b a W R V S big region word is new here
        | inr there ↦ answer-there k n q r b a W R V S big region word hart fit is there
      ] ∙ ap (λ x. covers b a || (far && x)) (has.answers a hart) ∙ sym (redundant-push k t b a);
  new_words = λ p none. elim (cases_eq p q) [
    | inl here ↦ absurd (taken p here none)
    | inr other ↦ none_more (is_of_word p) t b
        (has.new_words p (ap (λ (m : Stamp). m.last) (sym (is.others p other)) ∙ none))
        (not_equal (b.addr / 4) p (λ same. other (sym same ∙ sym word)))
  ];
  new_regions = λ p none. elim (beside r p) [
    | inl near ↦
        let last : (S p).last ≡ b.hart = (is.inside p near.0 near.1).last in
        absurd (omega (arith, small, last, none))
    | inr away ↦ none_more (is_beside k p) t b
        (has.new_regions p (ap (λ (m : Stamp). m.last) (sym (is.outside p away)) ∙ none))
        (not_beside (b.addr / 2 ^ k) p (subst (λ x. (p < x) ⊎ (x + 2 < p)) region away))
  ];
}
  where
    taken : (p : ℕ) → p ≡ q → (V p).last ≡ 256 → ⊥
    taken p here none =
        let last : (V p).last ≡ b.hart = ap (λ x. (V x).last) here ∙ is.last in
        omega (arith, small, last, none)

-- the answer stays where a redundant access comes
same_answer : (c x f : Bool) → (c ≡ true → f ≡ true) → (f ≡ true → x ≡ true → c ≡ true)
    → f ≡ (c || (not x && f))
same_answer true x f h g = h refl
same_answer false true true h g = sym (g refl refl)
same_answer false true false h g = refl
same_answer false false f h g = refl

-- what a redundant access covers is redundant
covered-too : (k n : ℕ) (W R : ℕ → Stamp) (b a : Touch) → 2 ≤ k → b.hart < 256 → AreFit k n W R
    → finds_redundant k W R b ≡ true → covers b a ≡ true → finds_redundant k W R a ≡ true
covered-too k n W R b a big small fit is covered =
    let what = and_parts ((b.hart == a.hart) && (word_of b.addr == word_of a.addr))
    (is_write b.kind || not (is_write a.kind)) covered in
    let who = and_parts (b.hart == a.hart) (word_of b.addr == word_of a.addr) what.0 in
    let hart : b.hart ≡ a.hart = eqb-true _ _ who.0 in
    let same : word_of b.addr ≡ word_of a.addr = eqb-true _ _ who.1 in
    let word : b.addr / 4 ≡ a.addr / 4 = omega (arith, same) in
    let region : b.addr / 2 ^ k ≡ a.addr / 2 ^ k = sym (word_region k b.addr big)
    ∙ ap (λ x. x * 4 / 2 ^ k) word ∙ word_region k a.addr big in
    let m : Stamp = W (a.addr / 4) in
    let f = found k n W R b big small fit is in
    let kind : (m.writes || not (is_write b.kind)) ≡ true =
    subst (λ x. ((W x).writes || not (is_write b.kind)) ≡ true) word f.kind in
    let last : m.last ≡ a.hart = subst (λ x. (W x).last ≡ a.hart) word (f.hart ∙ hart) in
    let number : number_of m ≡ number_of (R (a.addr / 2 ^ k + 1)) =
    subst (λ x. number_of (W x) ≡ number_of (R (a.addr / 2 ^ k + 1))) word
    (f.fresh.number ∙ ap (λ x. number_of (R (x + 1))) (word_region k b.addr big ∙ region)) in
    ap (λ x. (x && (m.writes || not (is_write a.kind)))
    && (number_of m == number_of (R (a.addr / 2 ^ k + 1)))) (eq-eqb _ _ last)
    ∙ ap (λ x. x && (number_of m == number_of (R (a.addr / 2 ^ k + 1))))
    (weaker m.writes (is_write b.kind) (is_write a.kind) kind what.1) ∙ eq-eqb _ _ number
  where
    weaker : (m w v : Bool) → (m || not w) ≡ true → (w || not v) ≡ true → (m || not v) ≡ true
    weaker true w v h g = refl
    weaker false true v h g = absurd (false≢true h)
    weaker false false v h g = g

-- an access that is redundant
pub stamps-redundant : (k n : ℕ) (t : AccessList) (b : Touch) (W R : ℕ → Stamp) → 2 ≤ k
    → b.hart < 256 → AreFit k n W R → finds_redundant k W R b ≡ true → HasStamps k t W R
    → HasStamps k (t ++ b ∷ []) W R
stamps-redundant k n t b W R big small fit is has = record {
  answers = λ a hart. let far : Bool = not (comes_near k a.hart a.addr b) in
      same_answer (covers b a) (comes_near k a.hart a.addr b) (finds_redundant k W R a)
      (covered-too k n W R b a big small fit is)
      (λ f near. absurd (foreign a hart f near))
      ∙ ap (λ x. covers b a || (far && x)) (has.answers a hart) ∙ sym (redundant-push k t b a);
  new_words = λ p none. none_more (is_of_word p) t b (has.new_words p none)
      (not_equal (b.addr / 4) p (λ same. f.fresh.some (ap (λ x. (W x).last) same ∙ none)));
  new_regions = λ p none. none_more (is_beside k p) t b (has.new_regions p none)
      (elim (beside (b.addr / 2 ^ k) p) [
        | inl near ↦ absurd (fit.seen (b.addr / 4) p f.fresh.some
            (subst (λ x. p ≤ x + 1 + 1) (sym (word_region k b.addr big)) (omega (arith, near.1)))
            (subst (λ x. x + 1 ≤ p + 1) (sym (word_region k b.addr big)) (omega (arith, near.0)))
            none)
        | inr away ↦ not_beside (b.addr / 2 ^ k) p away
      ]);
}
  where
    f : IsFound k W R b
    f = found k n W R b big small fit is

    foreign : (a : Touch) → a.hart < 256 → finds_redundant k W R a ≡ true
        → comes_near k a.hart a.addr b ≡ true → ⊥
    foreign a hart finds near =
        let g = found k n W R a big hart fit finds in
        let parts = and_parts (not (b.hart == a.hart)) (is_near k b.addr a.addr) near in
        let low = and_parts (nat_le (b.addr / 2 ^ k) (a.addr / 2 ^ k + 1))
        (nat_le (a.addr / 2 ^ k) (b.addr / 2 ^ k + 1)) parts.1 in
        let one : b.addr / 2 ^ k ≤ a.addr / 2 ^ k + 1 = leb-true _ _ low.0 in
        let two : a.addr / 2 ^ k ≤ b.addr / 2 ^ k + 1 = leb-true _ _ low.1 in
        let same : b.hart ≡ a.hart = sym f.hart ∙ fit.agree (b.addr / 4) (a.addr / 4) f.fresh g.fresh
        (omega (arith, one, word_region k b.addr big, word_region k a.addr big))
        (omega (arith, two, word_region k b.addr big, word_region k a.addr big)) ∙ g.hart in
        false≢true (sym (ap not (eq-eqb b.hart a.hart same)) ∙ parts.0)

-- the same of stamps that read alike
pub fit-same : (k n : ℕ) (W R V S : ℕ → Stamp) → ((q : ℕ) → V q ≡ W q) → ((p : ℕ) → S p ≡ R p)
    → AreFit k n W R → AreFit k n V S
fit-same k n W R V S words regions fit = record {
  last = λ q fresh. ap (λ (m : Stamp). m.last) (regions (place_of k q)) ∙ fit.last q (was q fresh)
      ∙ ap (λ (m : Stamp). m.last) (sym (words q));
  agree = λ q r f g low high. ap (λ (m : Stamp). m.last) (words q)
      ∙ fit.agree q r (was q f) (was r g) low high ∙ ap (λ (m : Stamp). m.last) (sym (words r));
  low = λ q. subst (λ (m : Stamp). number_of m ≤ number_of (S (place_of k q))) (sym (words q))
      (subst (λ (m : Stamp). number_of (W q) ≤ number_of m) (sym (regions (place_of k q))) (fit.low q));
  few = λ p. subst (λ (m : Stamp). number_of m ≤ n) (sym (regions p)) (fit.few p);
  seen = λ q p some low high none. fit.seen q p
      (λ blank. some (ap (λ (m : Stamp). m.last) (words q) ∙ blank)) low high
      (ap (λ (m : Stamp). m.last) (sym (regions p)) ∙ none);
}
  where
    was : (q : ℕ) → IsFresh k V S q → IsFresh k W R q
    was q f = record {
      some = λ none. f.some (ap (λ (m : Stamp). m.last) (words q) ∙ none);
      number = ap number_of (sym (words q)) ∙ f.number ∙ ap number_of (regions (place_of k q));
    }

pub finds-same : (k : ℕ) (W R V S : ℕ → Stamp) (a : Touch) → ((q : ℕ) → V q ≡ W q)
    → ((p : ℕ) → S p ≡ R p) → finds_redundant k V S a ≡ finds_redundant k W R a
finds-same k W R V S a words regions =
    ap (λ (m : Stamp). is_covered m (number_of (S (a.addr / 2 ^ k + 1))) a) (words (a.addr / 4))
    ∙ ap (λ (m : Stamp). is_covered (W (a.addr / 4)) (number_of m) a) (regions (a.addr / 2 ^ k + 1))

pub stamps-same : (k : ℕ) (t : AccessList) (W R V S : ℕ → Stamp) → ((q : ℕ) → V q ≡ W q)
    → ((p : ℕ) → S p ≡ R p) → HasStamps k t W R → HasStamps k t V S
stamps-same k t W R V S words regions has = record {
  answers = λ a hart. finds-same k W R V S a words regions ∙ has.answers a hart;
  new_words = λ q none. has.new_words q (ap (λ (m : Stamp). m.last) (sym (words q)) ∙ none);
  new_regions = λ p none. has.new_regions p (ap (λ (m : Stamp). m.last) (sym (regions p)) ∙ none);
}

any_alike : (f g : Touch → Bool) → ((c : Touch) → f c ≡ g c) → (t : AccessList)
    → list_any f t ≡ list_any g t
any_alike f g same [] = refl
any_alike f g same (c ∷ t) = ap (λ x. x || list_any f t) (same c)
    ∙ ap (λ x. g c || x) (any_alike f g same t)

-- a blank stamp is that of a word or a region that is new
new_there : (k : ℕ) (t : AccessList) (a : Touch) (W R : ℕ → Stamp) → HasStamps k t W R
    → (W (a.addr / 4) ≡ blank_stamp) ⊎ HasBlankBeside R (a.addr / 2 ^ k)
    → IsNewWord t a ⊎ HasNewRegion k t a
new_there k t a W R has (inl blank) =
    inl (has.new_words (a.addr / 4) (ap (λ (m : Stamp). m.last) blank))
new_there k t a W R has (inr blank) =
    let r : ℕ = blank.place - 1 in
    let place : r + 1 ≡ blank.place = omega (arith, blank.above) in
    let region : r * 2 ^ k / 2 ^ k ≡ r = mul-div_cancel r (pow_pos k) in
    inr (record {
      addr = r * 2 ^ k;
      near = ap (λ x. nat_le (a.addr / 2 ^ k) (x + 1) && nat_le x (a.addr / 2 ^ k + 1)) region
          ∙ near_yes (a.addr / 2 ^ k) r (omega (arith, place, blank.low))
          (omega (arith, place, blank.high));
      new = any_alike (λ c. is_near k c.addr (r * 2 ^ k)) (is_beside k blank.place)
          (λ c. ap (λ x. nat_le (c.addr / 2 ^ k) (x + 1) && nat_le x (c.addr / 2 ^ k + 1)) region
          ∙ subst (λ p. (nat_le (c.addr / 2 ^ k) (r + 1) && nat_le r (c.addr / 2 ^ k + 1))
          ≡ is_beside k p c) place (shifted (c.addr / 2 ^ k) r)) t
          ∙ has.new_regions blank.place (ap (λ (m : Stamp). m.last) blank.blank);
    })
  where
    shifted : (x y : ℕ) → (nat_le x (y + 1) && nat_le y (x + 1))
        ≡ (nat_le x (y + 1) && nat_le (y + 1) (x + 2))
    shifted x y = grind (arith, nat_tests)

pub new_at : (k q r : ℕ) (t : AccessList) (a : Touch) (W R : ℕ → Stamp) → q ≡ a.addr / 4
    → r ≡ a.addr / 2 ^ k → HasStamps k t W R → (W q ≡ blank_stamp) ⊎ HasBlankBeside R r
    → IsNewWord t a ⊎ HasNewRegion k t a
new_at k q r t a W R word region has blank =
    new_there k t a W R has
    (subst (λ x. (W x ≡ blank_stamp) ⊎ HasBlankBeside R (a.addr / 2 ^ k)) word
    (subst (λ x. (W q ≡ blank_stamp) ⊎ HasBlankBeside R x) region blank))
