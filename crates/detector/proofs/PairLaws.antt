-- The best pair of two native lines, and the lines around it.
use Rattle.std.proofs.Common.{◌≡◌, ℕ, zero, suc, ◌+◌, ◌-◌, ◌*◌, ◌/◌, ◌%◌, ◌<◌, ◌≤◌, ◌^◌, Bool, true}
use Rattle.std.proofs.Common.{ltb, ◌&&◌, pos, ◌-ℤ◌, List, [], ◌∷◌, Option, Some, None, length, refl}
use Rattle.std.proofs.Common.{sym, ap, ◌∙◌, subst, arith, inl, inr}
use Rattle.std.proofs.lemmas.Bool.{cases_Bool, and_parts, leb-true}
use Rattle.std.proofs.lemmas.Int.{ints}
use Rattle.std.proofs.lemmas.Nat.{div-mul-add}
use Rattle.std.proofs.lemmas.Option.{same_Some, none-some}
use Rattle.std.proofs.Math.Nat.{mul_comm}
use Rattle.std.specs.Prelude.{nat_abs, if◌then◌else◌, filter}
use Rattle.std.specs.Option.{option_map_or}
use Rattle.base.specs.Lines.{Grid}
use Rattle.sharing_rules.specs.Lines.{native_line, range_of}
use Rattle.sharing_rules.specs.Pairs.{all_pairs, best_pair_of, first_best, is_hot_at, is_near}
use Rattle.sharing_rules.specs.Pairs.{score}
use Rattle.sharing_rules.specs.Predicted.{doubled_line, is_native_size, shifted_around}
use Rattle.sharing_rules.specs.Predicted.{shifted_base, word_address}
use Rattle.sharing_rules.specs.declared.word.Word.{Word}
use Rattle.line_tracks.specs.Neighbours.{AreNeighbours}
use Rattle.detector.specs.Index.{IsReached}
use Rattle.detector.specs.Pairs.{IsNativeLine}
use Rattle.sharing_rules.specs.Laws.Bases.{hot_within, line_from-base, at_native}

first_best-cons : (f : ℕ × ℕ → ℕ) (t : ℕ × ℕ → Bool) (x : ℕ × ℕ) (o : Option (ℕ × ℕ)) (p : ℕ × ℕ)
    → t x ≡ true
    → ((q : ℕ × ℕ) → o ≡ Some q → t q ≡ true)
    → option_map_or (λ q. if ltb (f x) (f q) then Some q else Some x) o (Some x) ≡ Some p → t p
    ≡ true
first_best-cons f t x None p first rest e = ap t (sym (same_Some x p e)) ∙ first
first_best-cons f t x (Some q) p first rest e =
    elim (cases_Bool (ltb (f x) (f q))) [
      | inl less ↦ let at = rw less at e in ap t (sym (same_Some q p at)) ∙ rest q refl
      | inr more ↦ let at = rw more at e in ap t (sym (same_Some x p at)) ∙ first
    ]

-- the best of those that pass a test passes it
first_best-passes : (f : ℕ × ℕ → ℕ) (t : ℕ × ℕ → Bool) (ps : List (ℕ × ℕ)) (p : ℕ × ℕ)
    → first_best f (filter t ps) ≡ Some p → t p ≡ true
first_best-passes f t [] p e = absurd (none-some p e)
first_best-passes f t (x ∷ ps) p e =
    elim (cases_Bool (t x)) [
      | inl hit ↦ first_best-cons f t x (first_best f (filter t ps)) p hit
          (λ q. first_best-passes f t ps q) (rw hit at e)
      | inr miss ↦ first_best-passes f t ps p (rw miss at e)
    ]

-- a pair of words of the two lines, near enough
pub record IsPair (lower upper : List Word) (within : ℕ) (p : ℕ × ℕ) : Type 0 where
  pub lower_in : p.0 < length lower
  pub upper_in : p.1 < length upper
  pub near : 4 * (length lower + p.1) + 4 ≤ within + 4 * p.0

pub best-is_pair : (lower upper : List Word) (within : ℕ) (p : ℕ × ℕ)
    → best_pair_of lower upper within ≡ Some p
    → IsPair lower upper within p
unfolding best_pair_of
best-is_pair lower upper within p e =
    let t : is_hot_at lower upper p && is_near (length lower) within p ≡ true =
    first_best-passes (score lower upper) (λ q. is_hot_at lower upper q && is_near
    (length lower) within q)
    (all_pairs (length lower) (length upper)) p e in
    let parts = and_parts (is_hot_at lower upper p) (is_near (length lower) within p) t in
    let ins = hot_within lower upper p parts.0 in
    record { lower_in = ins.0; upper_in = ins.1; near = leb-true _ _ parts.1 }

-- native sizes, in quarters
pub record IsNative (n : ℕ) : Type 0 where
  pub some : 32 ≤ n
  pub small : n ≤ 256
  pub words : n % 4 ≡ 0

pub native-is : (n : ℕ) → is_native_size n ≡ true → IsNative n
native-is n h =
    at_native IsNative
    (record { some = omega arith; small = omega arith; words = refl })
    (record { some = omega arith; small = omega arith; words = refl })
    (record { some = omega arith; small = omega arith; words = refl })
    (record { some = omega arith; small = omega arith; words = refl }) n h

abbrev EndsInTime : ℕ → ℕ → Type 0
EndsInTime a n = ((a + n - 0) / n * n ≤ 2 ^ 32) × (1 ≤ (a + n - 0) / n)
    × ((a + n - 0) / n + 1 ≤ 2 ^ 30)

ends_at : (n a : ℕ) → is_native_size n ≡ true → a < 2 ^ 32 → EndsInTime a n
ends_at n a h less =
    at_native (EndsInTime a) (omega arith, omega arith, omega arith)
    (omega arith, omega arith, omega arith) (omega arith, omega arith, omega arith)
    (omega arith, omega arith, omega arith) n h

pub reached-native : (g : Grid) (k : ℕ) → is_native_size g.size ≡ true → g.offset ≡ 0
    → IsReached g k → IsNativeLine g.size k
reached-native g k native none w =
    let it = ends_at g.size w.0 native w.1 in
    let is : (w.0 + g.size - 0) / g.size ≡ k = ap (λ o. (w.0 + g.size - o) / g.size) (sym none)
    ∙ w.2 in
    record {
      ends = subst (λ q. q * g.size ≤ 2 ^ 32) is it.0;
      some = subst (λ q. 1 ≤ q) is it.1;
      small = subst (λ q. q + 1 ≤ 2 ^ 30) is it.2;
    }

-- line k begins at n * (k - 1)
pub native-begins : (n k : ℕ) → 1 ≤ k → n * (k - 1) + n ≡ k * n
native-begins n zero h = absurd (omega (arith, h))
native-begins n (suc m) h =
    let less : suc m - 1 ≡ m = omega arith in
    let swap : n * m ≡ m * n = mul_comm n m in
    let more : suc m * n ≡ m * n + n = omega arith in
    rw less (omega arith)

pub native-base : (n k : ℕ) → 1 ≤ k → (pos (k * n + 0) -ℤ pos n) ≡ pos (n * (k - 1))
native-base n k h = let e = native-begins n k h in omega (arith, ints)

pub native-abs : (n k : ℕ) → 1 ≤ k → nat_abs (pos (k * n + 0) -ℤ pos n) ≡ n * (k - 1)
native-abs n k h = let e = native-begins n k h in omega (arith, ints)

-- two native lines side by side
pub native-neighbours : (n k : ℕ) → is_native_size n ≡ true → IsNativeLine n k
    → IsNativeLine n (k + 1)
    → AreNeighbours (range_of (native_line n k)) (range_of (native_line n (k + 1)))
native-neighbours n k native lower upper =
    let next : (k + 1) * n ≡ k * n + n = omega arith in
    let begins = native-begins n k lower.some in
    let ends = upper.ends in
    record {
      native = native;
      alike = refl;
      joined = omega (arith, ints);
      begins =
          omega (arith, ints);
      ends = omega (arith, ints);
    }

-- the words of a pair of two native lines
pub record AreWordsOf (n k : ℕ) (p : ℕ × ℕ) : Type 0 where
  pub lower_words : word_address n k p.0 % 4 ≡ 0
  pub upper_words : word_address n (k + 1) p.1 % 4 ≡ 0
  pub lower_in : word_address n k p.0 / n + 1 ≡ k
  pub upper_in : word_address n (k + 1) p.1 / n + 1 ≡ k + 1
  pub lower_small : word_address n k p.0 + 4 ≤ k * n
  pub begins : n * (k - 1) + n ≡ k * n
  pub upper_is : word_address n (k + 1) p.1 ≡ k * n + 4 * p.1

address_in : (n m i : ℕ) → 4 * i < n → (n * m + 4 * i) / n ≡ m
address_in n m i less = let swap : n * m + 4 * i ≡ m * n + 4 * i =
    ap (λ z. z + 4 * i) (mul_comm n m) in ap (λ z. z / n) swap
    ∙ div-mul-add m n (4 * i) less

word_in : (n m i : ℕ) → n % 4 ≡ 0 → (n * m + 4 * i) % 4 ≡ 0
word_in n m i words =
    let is : n ≡ n / 4 * 4 = omega arith in
    let all : n * m ≡ n / 4 * m * 4 = ap (λ z. z * m) is ∙ four (n / 4) m in
    omega arith
  where
    four : (x m : ℕ) → x * 4 * m ≡ x * m * 4
    four x m = grind arith

pub pair-words : (n k : ℕ) (p : ℕ × ℕ) → IsNative n → 1 ≤ k → 4 * p.0 < n → 4 * p.1 < n
    → AreWordsOf n k p
pair-words n k p native some lower upper =
    let begins = native-begins n k some in
    let less : k + 1 - 1 ≡ k = omega arith in
    let words = native.words in
    let swap : n * k ≡ k * n = mul_comm n k in
    let quarter : 4 * p.0 + 4 ≤ n = omega arith in
    let upper_at : word_address n (k + 1) p.1 ≡ n * k + 4 * p.1 = ap (λ z. n * z + 4 * p.1) less in
    record {
      lower_words = word_in n (k - 1) p.0 words;
      upper_words = ap (λ z. z % 4) upper_at ∙ word_in n k p.1 words;
      lower_in = let in_line = address_in n (k - 1) p.0 lower in omega arith;
      upper_in = let in_line = address_in n k p.1 upper in ap (λ z. z / n + 1) upper_at
          ∙ ap (λ z. z + 1) in_line;
      lower_small = omega arith;
      begins = begins;
      upper_is = upper_at ∙ ap (λ z. z + 4 * p.1) swap;
    }

-- what a shifted line around a pair of native lines k and k+1 is: it begins in line k
pub shifted-begins : (n k : ℕ) (p : ℕ × ℕ) → IsNative n → 1 ≤ k → 4 * p.0 < n → 4 * p.1 < n
    → 4 * (n / 4 + p.1) + 4 ≤ n + 4 * p.0
    → (d : ℕ) × (d < n) × ((range_of (shifted_around n k p)).base ≡ (pos (k * n + 0 + d) -ℤ pos n))
shifted-begins n k p native some lower upper near =
    let words = pair-words n k p native some lower upper in
    let begins = words.begins in
    let upper_is = words.upper_is in
    let size = native.some in
    let quarters = native.words in
    let base = line_from-base n (shifted_base n (word_address n k p.0) (word_address n (k + 1) p.1))
    (omega arith) in
    let low : n * (k - 1) ≤ shifted_base n (word_address n k p.0) (word_address n (k + 1) p.1) =
    omega arith in
    let high : shifted_base n (word_address n k p.0) (word_address n (k + 1) p.1) + 4 ≤ k * n =
    omega arith in (
      shifted_base n (word_address n k p.0) (word_address n (k + 1) p.1) - n
          * (k - 1),
      omega arith,
      base ∙ omega (arith, ints),
    )

-- a doubled line begins with the lower line of its pair
pub doubled-begins : (n k : ℕ) → 0 < n → 1 ≤ k → (range_of (doubled_line n k)).base
    ≡ (pos (k * n + 0) -ℤ pos n)
doubled-begins n k some low =
    let plain : word_address n k 0 ≡ n * (k - 1) = omega arith in
    line_from-base (2 * n) (word_address n k 0) (omega arith) ∙ ap pos plain
    ∙ sym (native-base n k low)
