-- The predicted tracks of a list stand as a state wants it: of a due pair, where their kind may
-- begin, and one shifted track a line.
use Rattle.std.proofs.Common.{◌≡◌, ℕ, ◌+◌, ◌-◌, ◌*◌, ◌/◌, ◌%◌, ◌<◌, ◌≤◌, true, false, not, ◌&&◌}
use Rattle.std.proofs.Common.{eqb, ltb, ℤ, pos, ◌+ℤ◌, ◌-ℤ◌, List, ◌∷◌, ◌++◌, length, map, refl, sym}
use Rattle.std.proofs.Common.{ap, ◌∙◌, subst, arith, inl, inr}
use Rattle.std.proofs.lemmas.Bool.{and_from, and_parts, cases_Bool, cases_lt, eq-eqb, eqb-true}
use Rattle.std.proofs.lemmas.Bool.{le-leb}
use Rattle.std.proofs.lemmas.Bool.Decides.{nat_tests}
use Rattle.std.proofs.lemmas.Int.{ints}
use Rattle.std.proofs.lemmas.List.{length-append, length-map}
use Rattle.std.proofs.lemmas.Nat.{div-add-mod'}
use Rattle.std.proofs.lemmas.Option.{same_Some}
use Rattle.std.proofs.Math.Nat.{mul-le-mul_right}
use Rattle.std.specs.Prelude.{int_le, is_some, nat_abs, nat_le, Some, IsTrue}
use Rattle.std.specs.List.{list_any}
use Rattle.base.specs.Levels.{Levels}
use Rattle.base.specs.Lines.{Grid, is_layout, is_line_size}
use Rattle.sharing_rules.specs.AccessLists.{AccessList}
use Rattle.sharing_rules.specs.Lines.{Line, grid_line, is_inside, native_line, range_of}
use Rattle.sharing_rules.specs.Lines.{number_of_base}
use Rattle.sharing_rules.specs.Listed.{may_predict, rank}
use Rattle.sharing_rules.specs.Members.{Member}
use Rattle.sharing_rules.specs.Observed.{observed_start}
use Rattle.sharing_rules.specs.Opened.{Opened, opened_doubled, opened_shifted}
use Rattle.sharing_rules.specs.declared.line_kind.LineKind.{LineKind}
use Rattle.sharing_rules.specs.declared.line_kind.LineKind.TheVariants.{Doubled, Shifted}
use Rattle.sharing_rules.specs.Laws.Bases.{base_number, native-good, quarter}
use Rattle.sharing_rules.specs.Laws.Kinds.{Member-append, opened_doubled-is, opened_shifted-is}
use Rattle.sharing_rules.specs.Laws.OpenedDoubled.{doubled-some}
use Rattle.sharing_rules.specs.Laws.OpenedObserved.{AreObserved, doubled_opening-observed}
use Rattle.sharing_rules.specs.Laws.OpenedObserved.{shifted_opening-observed}
use Rattle.sharing_rules.specs.Laws.OpenedShifted.{opened_shifted-has}
use Rattle.sharing_rules.specs.Laws.Orders.{lt_irreflexive}
use Rattle.line_tracks.specs.Laws.WordLines.{layout-sized}
use Rattle.line_tracks.specs.TrackValue.{TrackValue}
use Rattle.line_tracks.specs.KeptIn.{kept_in}
use Rattle.line_tracks.specs.Placed.{is_placed_before}
use Rattle.line_tracks.specs.Laws.Placed.{is_placed_before-ranks}
use Rattle.saved_state.specs.Counted.{counted_line}
use Rattle.saved_state.specs.Laws.DueTracks.{IsPredictedIn, due_in, due_track, predicted-is}
use Rattle.saved_state.specs.Laws.DueTracks.{predicted-pair, predicted-rises, predicted_tracks}
use Rattle.saved_state.specs.Laws.DueTracks.{start-due}
use Rattle.saved_state.specs.Laws.Lists.{Member-map, cut-Member_front, cut-rises, none_passes}
use Rattle.saved_state.specs.Laws.Lists.{one_passes}
use Rattle.saved_state.specs.OfLists.{counted_in, sorted_state_in, writes_of}
use Rattle.saved_state.specs.Spelling.{Header, header_of}
use Rattle.saved_state.specs.Units.{both_due, due, is_kind_placed, is_multiple, is_predicted}
use Rattle.saved_state.specs.Units.{is_shifted_at}
use Rattle.saved_state.specs.declared.state_parts.CountedLine.{CountedLine}

abbrev pub header_in_list : Grid → Levels → ℕ → AccessList → Header
header_in_list g v harts t = header_of (sorted_state_in g v harts t)

-- ---- both lines of a pair are due

-- the lines of a pair that opened are observed
pub pair-observed : (g : Grid) (v : Levels) (t : AccessList) (o : Opened)
    → (is : IsPredictedIn g v t o) → AreObserved g.size v.tracking is.of_pair.number t
pair-observed g v t o is =
    let n = g.size in
    let P = is.threshold in
    let k = is.of_pair.number in
    elim is.of_pair.one [
      | inl shifted ↦ shifted_opening-observed n v.tracking P k t
          (ap is_some (opened_shifted-has n v.tracking P k t o shifted).opened)
      | inr doubled ↦ doubled_opening-observed n v.tracking P k t
          (ap is_some (doubled-some n v.tracking P k t o doubled).1)
    ]

same_line : (g : Grid) (k : ℕ) → g.offset ≡ 0 → native_line g.size k ≡ grid_line g k
same_line g k none = λ i. record { size = g.size; offset = sym none i; number = k }

pub line-observed : (g : Grid) (v : Levels) (t : AccessList) (k : ℕ) → g.offset ≡ 0
    → is_some (observed_start v.tracking (is_inside (native_line g.size k)) t) ≡ true
    → is_some (observed_start v.tracking (is_inside (grid_line g k)) t) ≡ true
line-observed g v t k none there =
    subst (λ (l : Line). is_some (observed_start v.tracking (is_inside l) t) ≡ true)
    (same_line g k none) there

one_due : (g : Grid) (v : Levels) (t : AccessList) (k : ℕ) → 0 < v.tracking → g.offset ≡ 0
    → is_some (observed_start v.tracking (is_inside (native_line g.size k)) t) ≡ true
    → list_any (λ l. eqb l.number k) (due_in g v t) ≡ true
one_due g v t k some none there =
    one_passes (λ (l : CountedLine). eqb l.number k) (due_in g v t)
    (counted_line (writes_of g t) k)
    (start-due g v t k some (line-observed g v t k none there)) (eq-eqb k k refl)

pair-due : (g : Grid) (v : Levels) (harts : ℕ) (t : AccessList) (k : ℕ) → 0 < v.tracking
    → g.offset ≡ 0 → AreObserved g.size v.tracking k t
    → both_due (header_in_list g v harts t) (counted_in g t) k ≡ true
pair-due g v harts t k some none are =
    and_from (list_any (λ l. eqb l.number k) (due_in g v t))
    (list_any (λ l. eqb l.number (k + 1)) (due_in g v t))
    (one_due g v t k some none are.lower) (one_due g v t (k + 1) some none are.upper)

-- ---- the number of the pair

number_is : (b n o : ℕ) → o ≡ 0 → nat_abs (pos b +ℤ pos n -ℤ pos o) ≡ b + n
number_is b n o none = grind (arith, ints)

pub number-of_base : (g : Grid) (k b : ℕ) (base : ℤ) → g.offset ≡ 0 → base ≡ pos b → 0 < k
    → g.size * (k - 1) ≤ b → b < g.size * (k - 1) + g.size → number_of_base g base ≡ k
number-of_base g k b base none is some above below =
    ap (λ (z : ℤ). number_of_base g z) is
    ∙ ap (λ m. m / g.size) (number_is b g.size g.offset none)
    ∙ base_number g.size k b some above below

-- where a predicted line of a list begins
pub record Begins (g : Grid) (v : Levels) (t : AccessList) (o : Opened)
    (is : IsPredictedIn g v t o) : Type 0 where
  pub place : ℕ
  pub positive : 0 < is.of_pair.number
  pub base : (range_of o.line).base ≡ pos place
  pub below : place < g.size * (is.of_pair.number - 1) + g.size
  pub number : number_of_base g (range_of o.line).base ≡ is.of_pair.number

pub begins : (g : Grid) (v : Levels) (t : AccessList) (o : Opened) (is : IsPredictedIn g v t o)
    → Begins g v t o is
begins g v t o is =
    let n = g.size in
    let k = is.of_pair.number in
    elim is.of_pair.one [
      | inl shifted ↦
          let w = opened_shifted-is n v.tracking is.threshold t k o is.size shifted in
          record {
            place = w.base.0;
            positive = w.number;
            base = w.base.1;
            below = w.base.2.below;
            number = number-of_base g k w.base.0 (range_of o.line).base is.offset w.base.1 w.number
                (omega (arith, w.base.2.above)) w.base.2.below;
          }
      | inr doubled ↦
          let w = opened_doubled-is n v.tracking is.threshold t k o is.size doubled in
          let some = (native-good n is.size).some in
          record {
            place = n * (k - 1);
            positive = w.number;
            base = w.base;
            below = omega (arith, some);
            number = number-of_base g k (n * (k - 1)) (range_of o.line).base is.offset w.base
                w.number (omega arith) (omega (arith, some));
          }
    ]

at_least_0 : (b : ℕ) (base : ℤ) → base ≡ pos b → int_le (pos 0) base ≡ true
at_least_0 b base is = ap (λ (z : ℤ). int_le (pos 0) z) is ∙ none_below b
  where
    none_below : (b : ℕ) → int_le (pos 0) (pos b) ≡ true
    none_below b = grind (arith, ints)

-- what a predicted track needs of those before it
predicted-needs : (g : Grid) (v : Levels) (harts : ℕ) (t : AccessList) (front : List TrackValue)
    (o : Opened) → 0 < v.tracking → IsPredictedIn g v t o
    → is_predicted (header_in_list g v harts t) (counted_in g t)
    (map (due_track g v t) (due_in g v t) ++ front) (kept_in t o) ≡ true
predicted-needs g v harts t front o some is =
    let lines = due_in g v t in
    let before = map (due_track g v t) lines ++ front in
    let from = begins g v t o is in
    let many : length lines ≤ length before = omega (
      arith,
      length-append (map (due_track g v t) lines) front,
      length-map lines (due_track g v t),
    ) in
    and_from (is_some v.prediction && nat_le (length lines) (length before)
    && int_le (pos 0) (range_of o.line).base) _
    (and_from (is_some v.prediction && nat_le (length lines) (length before))
    (int_le (pos 0) (range_of o.line).base)
    (and_from (is_some v.prediction) (nat_le (length lines) (length before))
    (ap is_some is.predicts) (le-leb (length lines) (length before) many))
    (at_least_0 from.place (range_of o.line).base from.base))
    (ap (both_due (header_in_list g v harts t) (counted_in g t)) from.number
    ∙ pair-due g v harts t is.of_pair.number some is.offset (pair-observed g v t o is))

-- ---- where a shifted line begins

base_split : (m n b : ℕ) → (pos m -ℤ pos n) ≡ pos b → m ≡ b + n
base_split m n b is = grind (arith, ints)

words_split : (k q o b : ℕ) → k * (4 * q) + o ≡ b + 4 * q → o % 4 ≡ 0 → b % 4 ≡ 0
words_split k q o b split even = omega (arith, split, even)

begins_with_word : (l : Line) (b : ℕ) → is_layout l.size l.offset ≡ true
    → (range_of l).base ≡ pos b → b % 4 ≡ 0
begins_with_word l b allowed is =
    let even = (layout-sized l.size l.offset allowed).1 in
    let split = base_split (l.number * l.size + l.offset) l.size b is in
    words_split l.number (l.size / 4) l.offset b
    (subst (λ n. l.number * n + l.offset ≡ b + n) (quarter l.size even) split)
    (eqb-true (l.offset % 4) 0
    (and_parts (is_line_size l.size && ltb l.offset l.size) (eqb (l.offset % 4) 0) allowed).1)

between_multiples : (n a q : ℕ) → n * a < q * n → q * n < n * a + n → ⊥
between_multiples n a q above below =
    elim (cases_lt q (a + 1)) [
      | inl low ↦
          let le : q * n ≤ a * n = mul-le-mul_right n (let e : q ≤ a = omega (arith, low) in e) in
          let same : a * n ≡ n * a = omega arith in omega (arith, le, same, above)
      | inr high ↦
          let le : (a + 1) * n ≤ q * n = mul-le-mul_right n high in
          let same : (a + 1) * n ≡ n * a + n = omega arith in omega (arith, le, same, below)
    ]

no_multiple : (n a b : ℕ) → n * a < b → b < n * a + n → b % n ≡ 0 → ⊥
no_multiple n a b above below none =
    let split = div-add-mod' b n in
    between_multiples n a (b / n) (omega (arith, split, none, above))
    (omega (arith, split, none, below))

not_zero : (m : ℕ) → (m ≡ 0 → ⊥) → not (eqb m 0) ≡ true
not_zero m never = elim (cases_Bool (eqb m 0)) [
  | inl same ↦ absurd (never (eqb-true m 0 same))
  | inr other ↦ ap not other
]

-- ---- one shifted track a line

rank_one : (n : ℕ) → n ≡ 2 → eqb n 1 ≡ true → ⊥
rank_one n is e = grind (arith, nat_tests)

-- shifted lines of one number are one
same_shifted : (g : Grid) (v : Levels) (t : AccessList) (o p : Opened)
    → (is : IsPredictedIn g v t o) → (other : IsPredictedIn g v t p)
    → opened_shifted g.size v.tracking is.threshold t is.of_pair.number ≡ Some o
    → is_shifted_at g is.of_pair.number (kept_in t p) ≡ true → p ≡ o
same_shifted g v t o p is other shifted at =
    let n = g.size in
    let parts = and_parts (eqb (rank p.kind) 1)
    (eqb (number_of_base g (range_of p.line).base) is.of_pair.number) at in
    let number : other.of_pair.number ≡ is.of_pair.number =
    sym (begins g v t p other).number
    ∙ eqb-true (number_of_base g (range_of p.line).base) is.of_pair.number parts.1 in
    let threshold : other.threshold ≡ is.threshold =
    same_Some other.threshold is.threshold (sym other.predicts ∙ is.predicts) in
    elim other.of_pair.one [
      | inl too ↦
          same_Some p o (sym too
          ∙ ap (λ P. opened_shifted n v.tracking P t other.of_pair.number) threshold
          ∙ ap (opened_shifted n v.tracking is.threshold t) number ∙ shifted)
      | inr doubled ↦
          absurd (rank_one (rank p.kind) (ap rank
          (opened_doubled-is n v.tracking other.threshold t other.of_pair.number p other.size
          doubled).kind) parts.0)
    ]

-- none of those before is of the same number
alone : (g : Grid) (v : Levels) (t : AccessList) (front back : List TrackValue) (o : Opened) (y : TrackValue)
    → is_layout g.size g.offset ≡ true → IsTrue (may_predict g v)
    → (is : IsPredictedIn g v t o)
    → opened_shifted g.size v.tracking is.threshold t is.of_pair.number ≡ Some o
    → predicted_tracks g v t ≡ front ++ kept_in t o ∷ back
    → Member y (map (due_track g v t) (due_in g v t) ++ front)
    → is_shifted_at g is.of_pair.number y ≡ false
alone g v t front back o y allowed native is shifted cut m =
    elim (Member-append (map (due_track g v t) (due_in g v t)) front y m) [
      | inl due ↦
          let w = Member-map (due_track g v t) (due_in g v t) y due in
          ap (is_shifted_at g is.of_pair.number) w.2
      | inr earlier ↦ elim (cases_Bool (is_shifted_at g is.of_pair.number y)) [
        | inr other ↦ other
        | inl at ↦
            let w = predicted-is g v t y
            (cut-Member_front (predicted_tracks g v t) front back (kept_in t o) y cut earlier) in
            let same : w.0 ≡ o = same_shifted g v t o w.0 is (predicted-pair g v t w.0 native w.1)
            shifted (subst (λ (z : TrackValue). is_shifted_at g is.of_pair.number z ≡ true) w.2 at) in
            let before = cut-rises is_placed_before (predicted_tracks g v t) front back
            (kept_in t o) y cut (predicted-rises g v t allowed native) earlier in
            absurd (lt_irreflexive is_placed_before is_placed_before-ranks (kept_in t o)
            (subst (λ (z : TrackValue). is_placed_before z (kept_in t o) ≡ true)
            (w.2 ∙ ap (kept_in t) same) before))
      ]
    ]

-- ---- each kind

shifted-placed : (g : Grid) (v : Levels) (harts : ℕ) (t : AccessList) (front back : List TrackValue)
    (o : Opened) → is_layout g.size g.offset ≡ true → IsTrue (may_predict g v) → 0 < v.tracking
    → (is : IsPredictedIn g v t o)
    → opened_shifted g.size v.tracking is.threshold t is.of_pair.number ≡ Some o
    → predicted_tracks g v t ≡ front ++ kept_in t o ∷ back
    → is_kind_placed (header_in_list g v harts t) (counted_in g t)
    (map (due_track g v t) (due_in g v t) ++ front) (kept_in t o) Shifted ≡ true
shifted-placed g v harts t front back o allowed native some is shifted cut =
    let n = g.size in
    let k = is.of_pair.number in
    let x = kept_in t o in
    let before = map (due_track g v t) (due_in g v t) ++ front in
    let w = opened_shifted-is n v.tracking is.threshold t k o is.size shifted in
    let b = w.base.0 in
    let there : nat_abs (range_of o.line).base ≡ b = ap nat_abs w.base.1 in
    let needs = is_predicted (header_in_list g v harts t) (counted_in g t) before x in
    let apart : list_any (is_shifted_at g k) before ≡ false =
    none_passes (is_shifted_at g k) before
    (λ y m. alone g v t front back o y allowed native is shifted cut m) in
    and_from (needs && is_multiple 4 x && not (is_multiple n x))
    (not (list_any (is_shifted_at g (number_of_base g (range_of o.line).base)) before))
    (and_from (needs && is_multiple 4 x) (not (is_multiple n x))
    (and_from needs (is_multiple 4 x) (predicted-needs g v harts t front o some is)
    (ap (λ m. eqb (m % 4) 0) there
    ∙ eq-eqb (b % 4) 0 (begins_with_word o.line b w.layout w.base.1)))
    (ap (λ m. not (eqb (m % n) 0)) there
    ∙ not_zero (b % n) (no_multiple n (k - 1) b w.base.2.above w.base.2.below)))
    (ap (λ j. not (list_any (is_shifted_at g j) before)) (begins g v t o is).number
    ∙ ap not apart)

doubled-placed : (g : Grid) (v : Levels) (harts : ℕ) (t : AccessList) (front : List TrackValue)
    (o : Opened) → 0 < v.tracking → (is : IsPredictedIn g v t o)
    → opened_doubled g.size v.tracking is.threshold t is.of_pair.number ≡ Some o
    → is_kind_placed (header_in_list g v harts t) (counted_in g t)
    (map (due_track g v t) (due_in g v t) ++ front) (kept_in t o) Doubled ≡ true
doubled-placed g v harts t front o some is doubled =
    let n = g.size in
    let k = is.of_pair.number in
    let w = opened_doubled-is n v.tracking is.threshold t k o is.size doubled in
    and_from (is_predicted (header_in_list g v harts t) (counted_in g t)
    (map (due_track g v t) (due_in g v t) ++ front) (kept_in t o)) _
    (predicted-needs g v harts t front o some is)
    (ap (λ (z : ℤ). eqb (nat_abs z % (2 * n)) 0) w.base
    ∙ eq-eqb (n * (k - 1) % (2 * n)) 0 ((native-good n is.size).lower k w.odd))

-- a predicted line's track where it stands
pub predicted-placed : (g : Grid) (v : Levels) (harts : ℕ) (t : AccessList)
    (front back : List TrackValue) (o : Opened) → is_layout g.size g.offset ≡ true
    → IsTrue (may_predict g v) → 0 < v.tracking → IsPredictedIn g v t o
    → predicted_tracks g v t ≡ front ++ kept_in t o ∷ back
    → is_kind_placed (header_in_list g v harts t) (counted_in g t)
    (map (due_track g v t) (due_in g v t) ++ front) (kept_in t o) o.kind ≡ true
predicted-placed g v harts t front back o allowed native some is cut =
    let n = g.size in
    let k = is.of_pair.number in
    let placed : LineKind → Type 0 = λ kind. is_kind_placed (header_in_list g v harts t)
    (counted_in g t) (map (due_track g v t) (due_in g v t) ++ front) (kept_in t o) kind ≡ true in
    elim is.of_pair.one [
      | inl shifted ↦ subst placed
          (sym (opened_shifted-is n v.tracking is.threshold t k o is.size shifted).kind)
          (shifted-placed g v harts t front back o allowed native some is shifted cut)
      | inr doubled ↦ subst placed
          (sym (opened_doubled-is n v.tracking is.threshold t k o is.size doubled).kind)
          (doubled-placed g v harts t front o some is doubled)
    ]
