-- Where the lines begin that are kept of a list, and that they are lines of allowed layouts.
use Rattle.std.proofs.Common.{◌≡◌, ℕ, zero, suc, ◌+◌, ◌-◌, ◌*◌, ◌/◌, ◌%◌, ◌<◌, ◌≤◌, Bool, true}
use Rattle.std.proofs.Common.{false, eqb, ◌&&◌, pos, ◌-ℤ◌, List, [], ◌∷◌, Some, None, length, refl}
use Rattle.std.proofs.Common.{sym, ap, ◌∙◌, subst, arith, inl, inr}
use Rattle.std.proofs.lemmas.Bool.{false≢true, eqb-true, eq-eqb, or_cases, and_parts, and_from}
use Rattle.std.proofs.lemmas.Bool.{leb-true, lt-ltb}
use Rattle.std.proofs.lemmas.Int.{ints}
use Rattle.std.proofs.lemmas.Nat.{div-add-mod', div-mul-add}
use Rattle.std.proofs.lemmas.Option.{none-some, same_Some}
use Rattle.std.proofs.Math.Nat.{mod-lt, mul-mod_left}
use Rattle.std.specs.Prelude.{slice_get, nat_abs, ◌+ℤ◌}
use Rattle.std.specs.List.{list_any}
use Rattle.base.specs.Touch.{Touch}
use Rattle.base.specs.Lines.{is_layout, is_line_size}
use Rattle.sharing_rules.specs.Lines.{is_inside, native_line, line_from, range_of}
use Rattle.sharing_rules.specs.Members.{Member}
use Rattle.sharing_rules.specs.Observed.{observed_start}
use Rattle.sharing_rules.specs.Pairs.{all_pairs, best_pair_of, hot_pairs, is_hot_at, is_near, score}
use Rattle.sharing_rules.specs.Predicted.{best_between, is_native_size, word_address, shifted_base}
use Rattle.sharing_rules.specs.Predicted.{shifted_around, doubled_line}
use Rattle.sharing_rules.specs.Words.{words_since}
use Rattle.sharing_rules.specs.declared.word.Word.{Word}
use Rattle.sharing_rules.specs.Laws.Lists.{slice_cases, Member-filter}
use Rattle.sharing_rules.specs.Laws.Pairs.{first_best-is}
use Rattle.sharing_rules.specs.Laws.Words.{length-words_since}

-- The line from a base begins there.
from_base : (b n q r : ℕ) → 0 < n → q * n + r ≡ b → r < n → (b + n - r) / n ≡ q + 1
from_base b n q r some split less = let w : b + n - r ≡ (q + 1) * n + 0 = omega (arith, split)
    in ap (λ z. z / n) w ∙ div-mul-add (q + 1) n 0 some

back : (b n : ℕ) → (pos (b + n) -ℤ pos n) ≡ pos b
back b n = omega (arith, ints)

pub line_from-base : (n b : ℕ) → 0 < n → (range_of (line_from n b)).base ≡ pos b
line_from-base n b some =
    let split = div-add-mod' b n in
    let rest = mod-lt b some in
    let number : (b + n - b % n) / n ≡ b / n + 1 = from_base b n (b / n) (b % n) some split rest in
    let end : (b / n + 1) * n + b % n ≡ b + n = omega (arith, split) in
    ap (λ k. pos (k * n + b % n) -ℤ pos n) number ∙ ap (λ z. pos z -ℤ pos n) end ∙ back b n

-- what holds of each native size holds of a native size
pub at_native : (P : ℕ → Type 0) → P 32 → P 64 → P 128 → P 256 → (n : ℕ) → is_native_size n ≡ true
    → P n
at_native P a b c d n h =
    elim (or_cases (eqb n 32) (list_any (eqb n) (64 ∷ (128 ∷ (256 ∷ [])))) h) [
      | inl e ↦ subst P (sym (eqb-true n 32 e)) a
      | inr g ↦ elim (or_cases (eqb n 64) (list_any (eqb n) (128 ∷ (256 ∷ []))) g) [
        | inl e ↦ subst P (sym (eqb-true n 64 e)) b
        | inr f ↦ elim (or_cases (eqb n 128) (list_any (eqb n) (256 ∷ [])) f) [
          | inl e ↦ subst P (sym (eqb-true n 128 e)) c
          | inr i ↦ elim (or_cases (eqb n 256) (list_any (eqb n) []) i) [
            | inl e ↦ subst P (sym (eqb-true n 256 e)) d
            | inr none ↦ absurd (false≢true none)
          ]
        ]
      ]
    ]

-- The best pair is one of words, near enough.
pub record IsNearPair (n m within : ℕ) (p : ℕ × ℕ) : Type 0 where
  pub lower : p.0 < n
  pub upper : p.1 < m
  pub near : 4 * (n + p.1) + 4 ≤ within + 4 * p.0

get-Member : (ps : List (ℕ × ℕ)) (i : ℕ) (p : ℕ × ℕ) → slice_get ps i ≡ Some p → Member p ps
get-Member [] i p e = absurd (none-some p e)
get-Member (q ∷ ps) zero p e = inl (sym (same_Some q p e))
get-Member (q ∷ ps) (suc i) p e = inr (get-Member ps i p e)

within_list : (ws : List Word) (i : ℕ) (w : Word) → slice_get ws i ≡ Some w → i < length ws
within_list [] i w e = absurd (none-some w e)
within_list (x ∷ ws) zero w e = omega arith
within_list (x ∷ ws) (suc i) w e = let k = within_list ws i w e in omega (arith, k)

pub hot_within : (lower upper : List Word) (p : ℕ × ℕ) → is_hot_at lower upper p ≡ true
    → (p.0 < length lower) × (p.1 < length upper)
hot_within lower upper p e =
    elim (slice_cases (slice_get lower p.0)) [
      | inl none ↦ let z : false ≡ true = rw none at e in absurd (false≢true z)
      | inr x ↦ elim (slice_cases (slice_get upper p.1)) [
        | inl none ↦ let z : false ≡ true = rw (x.1, none) at e in absurd (false≢true z)
        | inr y ↦ (within_list lower p.0 x.0 x.1, within_list upper p.1 y.0 y.1)
      ]
    ]

pub best_pair-near : (lower upper : List Word) (within : ℕ) (p : ℕ × ℕ)
    → best_pair_of lower upper within ≡ Some p → IsNearPair (length lower) (length upper) within p
unfolding best_pair_of
best_pair-near lower upper within p e =
    let best = first_best-is (score lower upper) (hot_pairs lower upper within) p e in
    let passes =
    (Member-filter (λ q. is_hot_at lower upper q && is_near (length lower) within q)
    (all_pairs (length lower) (length upper)) p
    (get-Member (hot_pairs lower upper within) best.0 p best.1.there)).1 in
    let parts = and_parts (is_hot_at lower upper p) (is_near (length lower) within p) passes in
    let places = hot_within lower upper p parts.0 in
    record { lower = places.0; upper = places.1; near = leb-true _ _ parts.1 }

pub best_between-near : (n T within k : ℕ) (t : List Touch) (p : ℕ × ℕ)
    → best_between n T within k t ≡ Some p → IsNearPair (n / 4) (n / 4) within p
best_between-near n T within k t p e =
    elim (slice_cases (observed_start T (is_inside (native_line n k)) t)) [
      | inl none ↦ let z : None ≡ Some p = rw none at e in absurd (none-some p z)
      | inr s ↦ elim (slice_cases (observed_start T (is_inside (native_line n (k + 1))) t)) [
        | inl none ↦ let z : None ≡ Some p = rw (s.1, none) at e in absurd (none-some p z)
        | inr u ↦
            let z : best_pair_of (words_since (native_line n k) s.0 t)
            (words_since (native_line n (k + 1)) u.0 t) within ≡ Some p = rw (s.1, u.1) at e in
            let w = best_pair-near _ _ within p z in
            let one = length-words_since (native_line n k) s.0 t in
            let two = length-words_since (native_line n (k + 1)) u.0 t in
            record {
              lower = omega (arith, w.lower, one);
              upper = omega (arith, w.upper, two);
              near = omega (arith, w.near, one);
            }
      ]
    ]

-- A shifted line begins strictly between the lines of its pair.
pub record IsBetween (n k b : ℕ) : Type 0 where
  pub above : n * (k - 1) < b
  pub below : b < n * (k - 1) + n

base_between : (m n p q : ℕ) → n % 4 ≡ 0 → 4 * (n / 4 + q) + 4 ≤ n + 4 * p → p < n / 4
    → (m < shifted_base n (m + 4 * p) (m + n + 4 * q))
    × (shifted_base n (m + 4 * p) (m + n + 4 * q) < m + n)
base_between m n p q even near less =
    (omega (arith, even, near, less), omega (arith, even, near, less))

pub one_more : (n m : ℕ) → n * (m + 1) ≡ n * m + n
one_more n m = omega arith

pub next_line : (n k : ℕ) → 0 < k → n * (k + 1 - 1) ≡ n * (k - 1) + n
next_line n k some = let e : k + 1 - 1 ≡ k - 1 + 1 = omega (arith, some) in ap (λ z. n * z) e
    ∙ one_more n (k - 1)

pub shifted_base-between : (n k : ℕ) (p : ℕ × ℕ) → 0 < k → n % 4 ≡ 0
    → IsNearPair (n / 4) (n / 4) n p
    → IsBetween n k (shifted_base n (word_address n k p.0) (word_address n (k + 1) p.1))
shifted_base-between n k p some even w =
    let b = base_between (n * (k - 1)) n p.0 p.1 even w.near w.lower in
    let there : shifted_base n (word_address n k p.0) (word_address n (k + 1) p.1) ≡ shifted_base n
    (n * (k - 1) + 4 * p.0) (n * (k - 1) + n + 4 * p.1) =
    ap (λ z. shifted_base n (n * (k - 1) + 4 * p.0) (z + 4 * p.1)) (next_line n k some) in
    record {
      above = subst (λ z. n * (k - 1) < z) (sym there) b.0;
      below =
          subst (λ z. z < n * (k - 1) + n) (sym there) b.1;
    }

-- The lines are those of allowed layouts.
sized : (n b : ℕ) → is_line_size n ≡ true → n % 4 ≡ 0 → 0 < n → b % n % 4 ≡ 0
    → is_layout n (b % n) ≡ true
sized n b size even some words = and_from _ _ (and_from _ _ size (lt-ltb _ _ (mod-lt b some)))
    (eq-eqb _ _ words)

-- facts of a native size: lines of it and of twice it are of words, and their words begin at
-- multiples of 4
pub record IsGoodSize (n : ℕ) : Type 0 where
  pub some : 0 < n
  pub even : n % 4 ≡ 0
  pub size : is_line_size n ≡ true
  pub twice : is_line_size (2 * n) ≡ true
  pub words : (b : ℕ) → b % 4 ≡ 0 → b % n % 4 ≡ 0
  pub pairs : (b : ℕ) → b % 4 ≡ 0 → b % (2 * n) % 4 ≡ 0
  pub begins : (k : ℕ) → n * k % 4 ≡ 0
  pub lower : (k : ℕ) → k % 2 ≡ 1 → n * (k - 1) % (2 * n) ≡ 0

pub quarter : (n : ℕ) → n % 4 ≡ 0 → n ≡ 4 * (n / 4)
quarter n even = omega (arith, even)

words_cut : (q m r b : ℕ) → q * (4 * m) + r ≡ b → b % 4 ≡ 0 → r % 4 ≡ 0
words_cut q m r b split words = omega (arith, split, words)

words_within : (n b : ℕ) → n % 4 ≡ 0 → b % 4 ≡ 0 → b % n % 4 ≡ 0
words_within n b even words = words_cut (b / n) (n / 4) (b % n) b
    (ap (λ z. b / n * z + b % n) (sym (quarter n even)) ∙ div-add-mod' b n) words

words_begin : (m k : ℕ) → 4 * m * k % 4 ≡ 0
words_begin m k = omega arith

halved : (k : ℕ) → k % 2 ≡ 1 → k - 1 ≡ 2 * (k / 2)
halved k odd = omega (arith, odd)

twice_over : (n j : ℕ) → n * (2 * j) ≡ j * (2 * n)
twice_over n j = omega arith

-- the size of a line of words, where a line of twice its size may be too
good_size : (n : ℕ) → 0 < n → n % 4 ≡ 0 → is_line_size n ≡ true → is_line_size (2 * n) ≡ true
    → IsGoodSize n
good_size n some even size twice =
    let even_twice : 2 * n % 4 ≡ 0 = omega (arith, even) in
    record {
      some = some;
      even = even;
      size = size;
      twice = twice;
      words = λ b. words_within n b even;
      pairs = λ b. words_within (2 * n) b even_twice;
      begins = λ k. subst (λ z. z * k % 4 ≡ 0) (sym (quarter n even)) (words_begin (n / 4) k);
      lower = λ k odd. ap (λ z. n * z % (2 * n)) (halved k odd)
          ∙ ap (λ z. z % (2 * n)) (twice_over n (k / 2)) ∙ mul-mod_left (k / 2) (2 * n);
    }

pub native-good : (n : ℕ) → is_native_size n ≡ true → IsGoodSize n
native-good = at_native IsGoodSize (good_size 32 (omega arith) refl refl refl)
    (good_size 64 (omega arith) refl refl refl) (good_size 128 (omega arith) refl refl refl)
    (good_size 256 (omega arith) refl refl refl)

shifted_words : (m p q : ℕ) → m % 4 ≡ 0 → (m + 4 * p - 4 * q) % 4 ≡ 0
shifted_words m p q even = omega arith

pub shifted_around-layout : (n k : ℕ) (p : ℕ × ℕ) → is_native_size n ≡ true
    → is_layout (shifted_around n k p).size (shifted_around n k p).offset ≡ true
shifted_around-layout n k p native =
    let g = native-good n native in
    let y = word_address n (k + 1) p.1 in
    sized n (shifted_base n (word_address n k p.0) y) g.size g.even g.some
    (g.words _ (shifted_words (n * (k - 1)) p.0 ((n - (y + 4 - word_address n k p.0)) / 8)
    (g.begins (k - 1))))

pub doubled_line-layout : (n k : ℕ) → is_native_size n ≡ true
    → is_layout (doubled_line n k).size (doubled_line n k).offset ≡ true
doubled_line-layout n k native =
    let g = native-good n native in
    let some : 0 < 2 * n = omega (arith, g.some) in
    let even : 2 * n % 4 ≡ 0 = omega (arith, g.even) in
    let words : (n * (k - 1) + 4 * 0) % 4 ≡ 0 = omega (arith, g.begins (k - 1)) in
    sized (2 * n) (word_address n k 0) g.twice even some (g.pairs _ words)

-- line numbers of the pair's lines are positive
pub any_some : (p : Touch → Bool) (t : List Touch) → list_any p t ≡ true → (b : Touch)
    × (p b ≡ true)
any_some p [] e = absurd (false≢true e)
any_some p (b ∷ t) e = elim (or_cases (p b) (list_any p t) e) [
  | inl here ↦ (b, here)
  | inr later ↦
      any_some p t later
]

-- A base determines the line in which it lies.
pub split_base : (n k b : ℕ) → 0 < k → n * (k - 1) ≤ b → b + n ≡ k * n + (b - n * (k - 1))
split_base n k b some above = let e : k ≡ k - 1 + 1 = omega (arith, some) in let m : (k - 1 + 1) * n
    ≡ n * (k - 1) + n = omega arith in omega (arith, ap (λ z. z * n) e, m, above)

pub base_number : (n k b : ℕ) → 0 < k → n * (k - 1) ≤ b → b < n * (k - 1) + n → (b + n) / n ≡ k
base_number n k b some above below = ap (λ z. z / n) (split_base n k b some above)
    ∙ div-mul-add k n (b - n * (k - 1)) (omega (arith, above, below))

-- where the base of a line lies, less the offset and by one line more
pub base_is : (m n o d : ℕ) → nat_abs (pos (m + o + d) -ℤ pos n +ℤ pos n -ℤ pos o) ≡ m + d
base_is m n o d = omega (arith, ints)

-- lines of one base have one number
pub same_number : (n o j k : ℕ) → 0 < n → (pos (j * n + o) -ℤ pos n) ≡ (pos (k * n + o) -ℤ pos n)
    → j ≡ k
same_number n o j k some e =
    let same : j * n ≡ k * n = omega (arith, ints) in
    sym (div-mul-add j n 0 some) ∙ ap (λ x. (x + 0) / n) same ∙ div-mul-add k n 0 some
