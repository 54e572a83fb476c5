-- Numbers in order: two lists of the same numbers in order are one.
use Rattle.std.proofs.Common.{◌≡◌, ℕ, zero, suc, ◌+◌, ◌<◌, ◌≤◌, true, false, List, [], ◌∷◌}
use Rattle.std.proofs.Common.{get_or, length, leb, refl, sym, ap, ◌∙◌, inl, inr, arith}
use Rattle.std.proofs.Common.{subst}
use Rattle.std.specs.Prelude.{◌==◌, if◌then◌else◌}
use Rattle.std.specs.List.{list_all, sum_by}
use Rattle.std.specs.List.Sorted.{IsNonDecreasingBy, IsPermutation}
use Rattle.std.proofs.lemmas.Bool.{and_parts, and_from, cases_Bool, cases_lt}
use Rattle.std.proofs.lemmas.Bool.Decides.{nat_tests}
use Rattle.std.proofs.lemmas.List.Sorted.{sum_by-IsPermutation}
use Rattle.std.proofs.lemmas.List.Sums.{sum_by-cons}
use Rattle.objects.specs.AddressTrees.{Extent, meets, numbers_on}

-- how often a number stands in a list
abbrev one : ℕ → ℕ → ℕ
one w n = if n == w then 1 else 0

abbrev times : ℕ → List ℕ → ℕ
times w [] = 0
times w (n ∷ ns) = one w n + times w ns

-- how often it is the number of a row that meets some addresses
abbrev weight : ℕ → ℕ → ℕ → Extent → ℕ
weight from to w e = if meets from to e.addr e.size then one w e.number else 0

times-sum : (w : ℕ) (ns : List ℕ) → times w ns ≡ sum_by (one w) ns
times-sum w [] = refl
times-sum w (n ∷ ns) = ap (λ k. one w n + k) (times-sum w ns) ∙ sym (sum_by-cons (one w) n ns)

times-numbers : (from to w : ℕ) (es : List Extent)
    → times w (numbers_on from to es) ≡ sum_by (weight from to w) es
times-numbers from to w [] = refl
times-numbers from to w (e ∷ es) =
    let rest = times-numbers from to w es in
    let here : times w (numbers_on from to (e ∷ es))
    ≡ weight from to w e + sum_by (weight from to w) es =
    elim (cases_Bool (meets from to e.addr e.size)) [
      | inl met ↦ rw met (ap (λ k. one w e.number + k) rest)
      | inr apart ↦ rw apart (omega (arith, rest))
    ] in
    here ∙ sym (sum_by-cons (weight from to w) e es)

-- the numbers of the rows of a list stand in another order of it as often
pub times-rows : (from to w : ℕ) (es fs : List Extent) → IsPermutation es fs
    → times w (numbers_on from to es) ≡ times w (numbers_on from to fs)
times-rows from to w es fs same =
    times-numbers from to w es ∙ sym (sum_by-IsPermutation (weight from to w) es fs same)
    ∙ sym (times-numbers from to w fs)

pub times-sorted : (w : ℕ) (ns ms : List ℕ) → IsPermutation ns ms → times w ns ≡ times w ms
times-sorted w ns ms same =
    times-sum w ns ∙ sym (sum_by-IsPermutation (one w) ns ms same) ∙ sym (times-sum w ms)

-- numbers that don't fall
abbrev Rises : List ℕ → Type 0
Rises [] = Unit {0}
Rises (n ∷ ns) = (list_all (leb n) ns ≡ true) × Rises ns

above : (low : ℕ) (ns : List ℕ) → ((j d : ℕ) → j < length ns → low ≤ get_or ns j d)
    → list_all (leb low) ns ≡ true
above low [] h = refl
above low (n ∷ ns) h =
    and_from (leb low n) (list_all (leb low) ns) here
    (above low ns (λ j d within. h (suc j) d (omega arith)))
  where
    here : leb low n ≡ true
    here = let f : low ≤ n = h zero n (omega arith) in grind (arith, nat_tests)

pub rises_from : (ns : List ℕ) → IsNonDecreasingBy (λ n. n) ns → Rises ns
rises_from [] h = tt
rises_from (n ∷ ns) h = (
  above n ns (λ j d within. h zero (suc j) d (omega arith) (omega arith)),
  rises_from ns (λ i j d le within. h (suc i) (suc j) d (omega arith) (omega arith)),
)

above_numbers : (from to low : ℕ) (es : List Extent)
    → ((j : ℕ) (d : Extent) → j < length es → low ≤ (get_or es j d).number)
    → list_all (leb low) (numbers_on from to es) ≡ true
above_numbers from to low [] h = refl
above_numbers from to low (e ∷ es) h =
    let rest = above_numbers from to low es (λ j d within. h (suc j) d (omega arith)) in
    elim (cases_Bool (meets from to e.addr e.size)) [
      | inl met ↦
          rw met (and_from (leb low e.number) (list_all (leb low) (numbers_on from to es)) here rest)
      | inr apart ↦ rw apart rest
    ]
  where
    here : leb low e.number ≡ true
    here = let f : low ≤ e.number = h zero e (omega arith) in grind (arith, nat_tests)

pub rises_rows : (from to : ℕ) (es : List Extent) → IsNonDecreasingBy (λ e. e.number) es
    → Rises (numbers_on from to es)
rises_rows from to [] h = tt
rises_rows from to (e ∷ es) h =
    let rest = rises_rows from to es
    (λ i j d le within. h (suc i) (suc j) d (omega arith) (omega arith)) in
    let behind = above_numbers from to e.number es
    (λ j d within. h zero (suc j) d (omega arith) (omega arith)) in
    elim (cases_Bool (meets from to e.addr e.size)) [
      | inl met ↦ rw met (behind, rest)
      | inr apart ↦ rw apart rest
    ]

-- a number below all of a list stands in it nowhere
nowhere : (w low : ℕ) → w < low → (ns : List ℕ) → list_all (leb low) ns ≡ true → times w ns ≡ 0
nowhere w low less [] e = refl
nowhere w low less (n ∷ ns) e =
    let p = and_parts (leb low n) (list_all (leb low) ns) e in
    let not : (n == w) ≡ false = apart n p.0 in
    let rest = nowhere w low less ns p.1 in
    rw not (omega (arith, rest))
  where
    apart : (n : ℕ) → leb low n ≡ true → (n == w) ≡ false
    apart n h = grind (arith, nat_tests)

self : (n : ℕ) → one n n ≡ 1
self n = let e : (n == n) ≡ true = grind (arith, nat_tests) in rw e refl

not_below : (x y : ℕ) (xs ys : List ℕ) → list_all (leb y) ys ≡ true
    → times x (x ∷ xs) ≡ times x (y ∷ ys) → x < y → ⊥
not_below x y xs ys up same less =
    let none : times x (y ∷ ys) ≡ 0 =
    nowhere x y less (y ∷ ys) (and_from (leb y y) (list_all (leb y) ys) (here y) up) in
    omega (arith, self x, same, none)
  where
    here : (y : ℕ) → leb y y ≡ true
    here y = grind (arith, nat_tests)

less_one : (a b c : ℕ) → a + b ≡ a + c → b ≡ c
less_one a b c e = omega arith

pub same_numbers : (xs ys : List ℕ) → Rises xs → Rises ys
    → ((w : ℕ) → times w xs ≡ times w ys) → xs ≡ ys
same_numbers [] [] up us same = refl
same_numbers [] (y ∷ ys) up us same = absurd (omega (arith, self y, same y))
same_numbers (x ∷ xs) [] up us same = absurd (omega (arith, self x, same x))
same_numbers (x ∷ xs) (y ∷ ys) up us same =
    elim (cases_lt x y) [
      | inl less ↦ absurd (not_below x y xs ys us.0 (same x) less)
      | inr more ↦ elim (cases_lt y x) [
        | inl less ↦ absurd (not_below y x ys xs up.0 (sym (same y)) less)
        | inr also ↦ both (omega (arith, more, also)) (same_numbers xs ys up.1 us.1)
      ]
    ]
  where
    both : x ≡ y → (((w : ℕ) → times w xs ≡ times w ys) → xs ≡ ys) → x ∷ xs ≡ y ∷ ys
    both is tails =
        ap (λ n. n ∷ xs) is
        ∙ ap (λ ns. y ∷ ns) (tails (λ w. less_one (one w y) (times w xs) (times w ys)
        (subst (λ (n : ℕ). one w n + times w xs ≡ one w y + times w ys) is (same w))))

-- the numbers that were found in some order, in order
pub in_order : (from to : ℕ) (rows tree : List Extent) (found sorted : List ℕ)
    → IsPermutation rows tree → IsNonDecreasingBy (λ e. e.number) rows
    → found ≡ numbers_on from to tree → IsPermutation found sorted
    → IsNonDecreasingBy (λ n. n) sorted → sorted ≡ numbers_on from to rows
in_order from to rows tree found sorted same rises is moved up =
    same_numbers sorted (numbers_on from to rows) (rises_from sorted up)
    (rises_rows from to rows rises)
    (λ w. sym (times-sorted w found sorted moved) ∙ ap (times w) is
    ∙ sym (times-rows from to w rows tree same))
