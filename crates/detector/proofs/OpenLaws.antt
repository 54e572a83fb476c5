-- What opens for two lines, by their best pair.
use Rattle.std.proofs.Common.{◌≡◌, ℕ, ◌+◌, ◌-◌, ◌*◌, ◌/◌, ◌%◌, ◌<◌, ◌≤◌, true, false, eqb, ◌||◌}
use Rattle.std.proofs.Common.{List, Option, Some, None, length, get_or, refl, sym, ap, ◌∙◌, subst}
use Rattle.std.proofs.Common.{arith, inl, inr}
use Rattle.std.proofs.lemmas.Bool.{or_left, eq-eqb, eqb-false}
use Rattle.std.proofs.lemmas.Nat.{div-mul-add}
use Rattle.std.proofs.lemmas.Option.{same_Some, none-some, slice_get-get_or}
use Rattle.std.specs.Prelude.{if◌then◌else◌, nat_abs, is_some, option_map, MatchOption}
use Rattle.std.specs.Option.{SomeIff}
use Rattle.base.specs.declared.layout.Range.{Range}
use Rattle.detector.specs.declared.line_entry.LineEntry.{LineEntry}
use Rattle.sharing_rules.specs.Lines.{is_inside, line_from, native_line, range_of, native_grid}
use Rattle.sharing_rules.specs.Opened.{even_lower}
use Rattle.sharing_rules.specs.Pairs.{best_pair_of}
use Rattle.sharing_rules.specs.Predicted.{doubled_line, is_native_size, shifted_around}
use Rattle.sharing_rules.specs.Predicted.{shifted_base}
use Rattle.sharing_rules.specs.declared.line_kind.LineKind.TheVariants.{Shifted, Doubled}
use Rattle.line_tracks.specs.Neighbours.{AreNeighbours, pair_at, reach}
use Rattle.line_tracks.specs.declared.pair.Pair.{Pair}
use Rattle.line_tracks.specs.TrackValue.{TrackValue}
use Rattle.detector.specs.Index.{IsShaped}
use Rattle.detector.specs.Openings.{best_of_two, doubled_opens, shifted_opens}
use Rattle.detector.specs.Pairs.{AreNamedPair, ArePair, IsPairOf, doubled_between, kept_at}
use Rattle.detector.specs.Pairs.{shifted_between}
use Rattle.detector.proofs.PairLaws.{best-is_pair, doubled-begins, native-abs, native-begins}
use Rattle.detector.proofs.PairLaws.{native-is, native-neighbours, pair-words, shifted-begins}
use Rattle.sharing_rules.specs.Laws.Lists.{slice_cases}

-- what is read at a place that is named
pub read_at : (xs ys : List TrackValue) (o : Option ℕ) (i : ℕ) (x : TrackValue) → o ≡ Some i → ys ≡ xs
    → ((j : ℕ) → o ≡ Some j → j < length xs) → x ≡ get_or ys i x
    → kept_at xs o ≡ Some x
read_at xs ys o i x is same within read =
    ap (kept_at xs) is ∙ slice_get-get_or xs i x (within i is)
    ∙ ap (λ zs. Some (get_or zs i x)) (sym same) ∙ ap Some (sym read)

pub pair-neighbours : (n k : ℕ) (xs : List TrackValue) (lower upper : Option ℕ) (x y : TrackValue)
    → ArePair n k xs lower upper
    → kept_at xs lower ≡ Some x → kept_at xs upper ≡ Some y → AreNeighbours x.range y.range
pair-neighbours n k xs lower upper x y pair at up =
    rw (pair.below.range x at, pair.above.range y up)
    (native-neighbours n k pair.native (pair.below.reached x at) (pair.above.reached y up))

-- the search of two tracks gives their best pair
pub pair-found : (n k : ℕ) (xs : List TrackValue) (lower upper within : Option ℕ) (x y : TrackValue)
    (r : Option Pair) → ArePair n k xs lower upper
    → kept_at xs lower ≡ Some x → kept_at xs upper ≡ Some y
    → 4 * length x.words ≡ x.range.size → 4 * length y.words ≡ y.range.size → r
    ≡ option_map (pair_at x.range y.range)
    (best_pair_of x.words y.words (reach x.range.size within))
    → MatchOption r (best_of_two (kept_at xs lower) (kept_at xs upper) (reach n within) ≡ None)
    (IsPairOf n k xs lower upper (reach n within))
pair-found n k xs lower upper within x y r pair at up sized sized_up is =
    let size : x.range.size ≡ n = ap (λ (q : Range). q.size) (pair.below.range x at) in
    let size_up : y.range.size ≡ n = ap (λ (q : Range). q.size) (pair.above.range y up) in
    let best : best_of_two (kept_at xs lower) (kept_at xs upper) (reach n within)
    ≡ best_pair_of x.words y.words (reach n within) = rw (at, up) in
    let now : r ≡ option_map (pair_at x.range y.range)
    (best_pair_of x.words y.words (reach n within)) = is
    ∙ ap (λ z. option_map (pair_at x.range y.range) (best_pair_of x.words y.words (reach z within)))
    size in
    elim (slice_cases (best_pair_of x.words y.words (reach n within))) [
      | inl none ↦
          rw (now, none) (best ∙ none)
      | inr some ↦
          let pairs = best-is_pair x.words y.words (reach n within) some.0 some.1 in
          let lower_in = pairs.lower_in in
          let upper_in = pairs.upper_in in
          let near = pairs.near in
          let low : 1 ≤ k = (pair.below.reached x at).some in
          let next : k + 1 - 1 ≡ k = omega arith in
          let quarter : length x.words ≡ n / 4 = omega arith in
          let base : nat_abs x.range.base ≡ n * (k - 1) =
          ap (λ (q : Range). nat_abs q.base) (pair.below.range x at) ∙ native-abs n k low in
          let base_up : nat_abs y.range.base ≡ n * (k + 1 - 1) =
          ap (λ (q : Range). nat_abs q.base) (pair.above.range y up)
          ∙ native-abs n (k + 1) (omega arith) in
          let found : IsPairOf n k xs lower upper (reach n within)
          (pair_at x.range y.range some.0) = record {
            places = some.0;
            best = best ∙ some.1;
            lower_at = ap (λ z. z + 4 * some.0.0) base;
            upper_at = ap (λ z. z + 4 * some.0.1) base_up;
            lower_in = omega arith;
            upper_in = omega arith;
            near = subst (λ z. 4 * (z + some.0.1) + 4 ≤ reach n within + 4 * some.0.0) quarter near;
            some = low;
          } in
          rw (now, some.1) found
    ]

some_value : {X : Type 0} (o : Option X) (P : Type 0) (v r : X) → SomeIff o P v → o ≡ Some r → r ≡ v
some_value None P v r h e = absurd (none-some r e)
some_value (Some x) P v r h e = sym (same_Some x r e) ∙ h.1

-- a shifted line that opens begins in the lower line of its pair
pub shifted-shaped : (n k : ℕ) (xs : List TrackValue) (lower upper : Option ℕ) (pair : Pair)
    (o : Option Range) (r : Range) (P : Type 0)
    → is_native_size n ≡ true → IsPairOf n k xs lower upper n pair
    → SomeIff o P (range_of (line_from n (shifted_base n pair.x pair.y))) → o ≡ Some r
    → IsShaped (native_grid n) k Shifted r
shifted-shaped n k xs lower upper pair o r P native found value e =
    let is : r ≡ range_of (shifted_around n k found.places) =
    some_value o P (range_of (line_from n (shifted_base n pair.x pair.y))) r value e
    ∙ rw (found.lower_at, found.upper_at) in
    subst (IsShaped (native_grid n) k Shifted) (sym is) (
      found.some,
      refl,
      shifted-begins n k found.places
          (native-is n native) found.some found.lower_in found.upper_in found.near,
    )

some_where : {X : Type 0} (o : Option X) (P : Type 0) (v : X) → SomeIff o P v → P → o ≡ Some v
some_where None P v h p = absurd (h p)
some_where (Some x) P v h p = ap Some h.1

-- the words of a pair of neighbours
pub record AreBeside (n x y : ℕ) : Type 0 where
  pub words : (x % 4 ≡ 0) × (y % 4 ≡ 0)
  pub neighbours : x / n + 1 ≡ y / n

pub pair-beside : (n k : ℕ) (xs : List TrackValue) (lower upper : Option ℕ) (within : ℕ) (pair : Pair)
    → is_native_size n ≡ true
    → IsPairOf n k xs lower upper within pair → AreBeside n pair.x pair.y
pair-beside n k xs lower upper within pair native found =
    let words = pair-words n k found.places (native-is n native) found.some found.lower_in
    found.upper_in in
    let low : pair.x / n + 1 ≡ k = ap (λ z. z / n + 1) found.lower_at ∙ words.lower_in in
    let high : pair.y / n + 1 ≡ k + 1 = ap (λ z. z / n + 1) found.upper_at ∙ words.upper_in in
    record {
      words = (
        ap (λ z. z % 4) found.lower_at ∙ words.lower_words,
        ap (λ z. z % 4) found.upper_at
            ∙ words.upper_words,
      );
      neighbours = omega (arith, low, high);
    }

-- one line can hold the words of such a pair
pair-near : (n k : ℕ) (xs : List TrackValue) (lower upper : Option ℕ) (pair : Pair) → is_native_size n
    ≡ true
    → IsPairOf n k xs lower upper n pair → pair.y + 4 ≤ pair.x + n
pair-near n k xs lower upper pair native found =
    let size = native-is n native in
    let words = pair-words n k found.places size found.some found.lower_in found.upper_in in
    omega (
      arith,
      size.words,
      found.near,
      found.lower_at,
      found.upper_at,
      words.begins,
      words.upper_is,
    )

-- the shifted line that opens for two lines with a pair
pub shifted-value : (n k : ℕ) (xs : List TrackValue) (lower upper : LineEntry) (pair : Pair)
    (o : Option Range) → is_native_size n ≡ true
    → is_some lower.shifted ≡ false → IsPairOf n k xs lower.track upper.track n pair
    → SomeIff o (pair.y + 4 ≤ pair.x + n) (range_of (line_from n (shifted_base n pair.x pair.y)))
    → o ≡ shifted_between n k xs lower upper
shifted-value n k xs lower upper pair o native none found value =
    some_where o (pair.y + 4 ≤ pair.x + n) (range_of (line_from n (shifted_base n pair.x pair.y)))
    value (pair-near n k xs lower.track upper.track pair native found)
    ∙ rw (none, found.best, found.lower_at, found.upper_at)

-- the lower word of a pair is in the lower line
pub pair-inside : (n k : ℕ) (xs : List TrackValue) (lower upper : Option ℕ) (within : ℕ) (pair : Pair)
    → IsPairOf n k xs lower upper within pair
    → (is_inside (native_line n k) pair.x || is_inside (native_line n (k + 1)) pair.x) ≡ true
pair-inside n k xs lower upper within pair found =
    let begins = native-begins n k found.some in
    let at = found.lower_at in
    let less = found.lower_in in
    let is : pair.x + n - 0 ≡ k * n + 4 * found.places.0 = omega arith in
    or_left (is_inside (native_line n k) pair.x) (is_inside (native_line n (k + 1)) pair.x)
    (eq-eqb ((pair.x + n - 0) / n) k (ap (λ z. z / n) is
    ∙ div-mul-add k n (4 * found.places.0) less))

-- the doubled line that opens for two lines with a pair
pub doubled-value : (n k : ℕ) (xs : List TrackValue) (lower upper : LineEntry) (pair : Pair) (r : Range)
    → is_some lower.doubled ≡ false
    → IsPairOf n k xs lower.track upper.track (2 * n) pair → r ≡ range_of (doubled_line n k)
    → Some r ≡ doubled_between n k xs lower upper
doubled-value n k xs lower upper pair r none found is = rw (is, none, found.best)

pub doubled-shaped : (n k : ℕ) (r : Range) → is_native_size n ≡ true → 1 ≤ k → k % 2 ≡ 1 → r
    ≡ range_of (doubled_line n k)
    → IsShaped (native_grid n) k Doubled r
doubled-shaped n k r native low odd is =
    let some = (native-is n native).some in
    subst (IsShaped (native_grid n) k Doubled) (sym is)
    (odd, refl, doubled-begins n k (omega arith) low)

-- what opens for two lines, by their entries
pub shifted-is : (n k : ℕ) (xs : List TrackValue) (lower upper : LineEntry)
    → AreNamedPair (native_grid n) k xs lower upper
    → shifted_between n k xs lower upper ≡ shifted_opens (native_grid n) k xs
shifted-is n k xs lower upper h = sym (rw (h.shifted, h.lower_own, h.upper_own))

pub doubled-is : (n k : ℕ) (xs : List TrackValue) (lower upper : LineEntry)
    → AreNamedPair (native_grid n) k xs lower upper
    → doubled_between n k xs lower upper ≡ doubled_opens (native_grid n) k xs
doubled-is n k xs lower upper h = sym (rw (h.doubled, h.lower_own, h.upper_own))

pub even-odd : (k : ℕ) → k % 2 ≡ 1 → even_lower k ≡ k
even-odd k odd = ap (λ b. if b then k else k - 1) (eq-eqb (k % 2) 1 odd)

pub even-even : (k : ℕ) → eqb (k % 2) 1 ≡ false → even_lower k ≡ k - 1
even-even k even = ap (λ b. if b then k else k - 1) even

pub odd-below : (k : ℕ) → 1 ≤ k → eqb (k % 2) 1 ≡ false → (k - 1) % 2 ≡ 1
odd-below k some even = let not_one = eqb-false (k % 2) 1 even in omega arith
