-- A track of a list is such as a state may hold, and so are the list's written lines.
use Rattle.std.proofs.Common.{◌≡◌, ℕ, zero, suc, ◌+◌, ◌-◌, ◌*◌, ◌/◌, ◌%◌, ◌^◌, ◌<◌, ◌≤◌, Bool, true}
use Rattle.std.proofs.Common.{◌&&◌, eqb, ltb, [], ◌∷◌, length, take, refl, sym, ap, ◌∙◌, subst}
use Rattle.std.proofs.Common.{arith, inl, inr}
use Rattle.std.proofs.lemmas.Bool.{and_from, and_parts, eq-eqb, eqb-true, le-leb, lt-ltb}
use Rattle.std.proofs.lemmas.Bool.{false≢true, or_cases}
use Rattle.std.proofs.lemmas.Bool.Decides.{nat_tests}
use Rattle.std.proofs.lemmas.List.{length-map}
use Rattle.std.proofs.lemmas.List.Elements.{recursion_from_All}
use Rattle.std.proofs.lemmas.List.Sums.{count_by-le-length}
use Rattle.std.proofs.lemmas.Nat.{div-add-mod', le-div}
use Rattle.std.proofs.Math.Nat.{div-mul-le_self, mod-lt}
use Rattle.std.specs.Prelude.{Option, None, Some, nat_le, nat_lt, sum_by}
use Rattle.std.specs.List.{list_all, list_any}
use Rattle.base.specs.Levels.{is_from_to}
use Rattle.base.specs.Lines.{Grid, is_layout, is_line_size, line_number}
use Rattle.base.specs.Touch.{Touch}
use Rattle.base.specs.declared.layout.Range.{Range}
use Rattle.sharing_rules.specs.AccessLists.{AccessList, writes_to}
use Rattle.sharing_rules.specs.Arrivals.{arrivals}
use Rattle.sharing_rules.specs.Holders.{line_count_since}
use Rattle.sharing_rules.specs.Lines.{Line, grid_line, is_inside}
use Rattle.sharing_rules.specs.Members.{Member}
use Rattle.sharing_rules.specs.Observed.{first_write_from}
use Rattle.sharing_rules.specs.Places.{below}
use Rattle.sharing_rules.specs.Tracks.{blank_words, track_of, track_since}
use Rattle.sharing_rules.specs.Words.{accesses, tally, words_since}
use Rattle.sharing_rules.specs.declared.line_kind.LineKind.{LineKind}
use Rattle.sharing_rules.specs.Laws.Lists.{all_at, length-below, slice_cases}
use Rattle.sharing_rules.specs.Laws.Places.{first_place-within}
use Rattle.sharing_rules.specs.Laws.Tracks.{written_from}
use Rattle.sharing_rules.specs.Laws.Words.{length-words_since}
use Rattle.line_tracks.specs.Laws.Words.{blank-sum}
use Rattle.line_tracks.specs.Laws.WordLines.{layout-sized}
use Rattle.line_tracks.specs.KeptIn.{kept_as}
use Rattle.saved_state.specs.Counted.{has_lower_number}
use Rattle.saved_state.specs.Laws.Again.{size_some}
use Rattle.saved_state.specs.Laws.GoodWords.{arrivals-entries, blank_words-good, count-few}
use Rattle.saved_state.specs.Laws.GoodWords.{words_since-few, words_since-good}
use Rattle.saved_state.specs.Laws.OfLists.{any_from_some, counted_in-counted}
use Rattle.saved_state.specs.Laws.Lists.{all_pass, cut-Member, cut-rises, in_turn-from_cuts}
use Rattle.saved_state.specs.OfLists.{AreOf, counted_in}
use Rattle.saved_state.specs.Reading.{AllInTurn}
use Rattle.saved_state.specs.Spelling.{Header}
use Rattle.saved_state.specs.Units.{are_entries, is_good_line, is_good_track, is_good_word, is_line}

-- ---- accesses of a list

pub hart-few : (harts : ℕ) (t : AccessList) → AreOf harts t → (a : Touch) → Member a t
    → a.hart < harts
hart-few harts t all a m = (all_at (λ (b : Touch). (b.hart < harts) × (b.addr < 2 ^ 32)) t a
    (recursion_from_All (λ (b : Touch). (b.hart < harts) × (b.addr < 2 ^ 32)) t all) m).0

pub addr-few : (harts : ℕ) (t : AccessList) → AreOf harts t → (a : Touch) → Member a t
    → a.addr < 2 ^ 32
addr-few harts t all a m = (all_at (λ (b : Touch). (b.hart < harts) × (b.addr < 2 ^ 32)) t a
    (recursion_from_All (λ (b : Touch). (b.hart < harts) × (b.addr < 2 ^ 32)) t all) m).1

-- an access that passes a test that one of the list passes
pub passing : (p : Touch → Bool) (t : AccessList) → list_any p t ≡ true
    → (a : Touch) × Member a t × (p a ≡ true)
passing p [] e = absurd (false≢true e)
passing p (a ∷ t) e = elim (or_cases (p a) (list_any p t) e) [
  | inl here ↦ (a, inl refl, here)
  | inr later ↦ let w = passing p t later in (w.0, inr w.1, w.2)
]

-- ---- tracks

track_blank : (h : Header) (kind : LineKind) (r : Range) (l : Line) (t : AccessList)
    → is_good_track h (kept_as kind r (track_since l t None)) ≡ true
track_blank h kind r l t =
    and_from (list_all (is_good_word h.harts) (blank_words l)) _
    (blank_words-good h.harts l)
    (eq-eqb (sum_by accesses (blank_words l)) 0 (sym (blank-sum (l.size / 4))))

-- since its start
track_started : (h : Header) (kind : LineKind) (r : Range) (l : Line) (t : AccessList) (s : ℕ)
    → h.position ≡ length t → AreOf h.harts t → s < length t
    → list_any (writes_to (is_inside l)) t ≡ true
    → is_good_track h (kept_as kind r (track_since l t (Some s))) ≡ true
track_started h kind r l t s at all within written =
    let few = words_since-few l s t (omega arith) in
    let counted = count-few l s t within in
    and_from (list_all (is_good_word h.harts) (words_since l s t)) _
    (words_since-good h.harts l s t (hart-few h.harts t all))
    (and_from (are_entries h.harts (take 2 (arrivals (is_inside l) t))
    && nat_lt (line_count_since l s t + s) h.position)
    (nat_le (sum_by accesses (words_since l s t) + s) h.position)
    (and_from (are_entries h.harts (take 2 (arrivals (is_inside l) t)))
    (nat_lt (line_count_since l s t + s) h.position)
    (arrivals-entries h.harts (is_inside l) t written (hart-few h.harts t all))
    (lt-ltb (line_count_since l s t + s) h.position (omega (arith, counted, at))))
    (le-leb (sum_by accesses (words_since l s t) + s) h.position (omega (arith, few, at))))

-- a track of a list
pub track-good : (h : Header) (kind : LineKind) (r : Range) (l : Line) (from : ℕ) (t : AccessList)
    → h.position ≡ length t → AreOf h.harts t
    → is_good_track h (kept_as kind r (track_of l from t)) ≡ true
track-good h kind r l from t at all =
    elim (slice_cases (first_write_from from (is_inside l) t)) [
      | inl none ↦
          subst (λ (o : Option ℕ). is_good_track h (kept_as kind r (track_since l t o)) ≡ true)
          (sym none) (track_blank h kind r l t)
      | inr there ↦
          subst (λ (o : Option ℕ). is_good_track h (kept_as kind r (track_since l t o)) ≡ true)
          (sym there.1)
          (track_started h kind r l t there.0 at all
          (first_place-within _ t there.0 there.1)
          (written_from from (is_inside l) t there.0 there.1))
    ]

-- it has a word for each 4 bytes
pub track-words : (l : Line) (from : ℕ) (t : AccessList)
    → length (track_of l from t).words ≡ l.size / 4
track-words l from t =
    elim (slice_cases (first_write_from from (is_inside l) t)) [
      | inl none ↦ ap (λ (o : Option ℕ). length (track_since l t o).words) none
          ∙ length-map (below (l.size / 4)) (λ i. tally []) ∙ length-below (l.size / 4)
      | inr there ↦ ap (λ (o : Option ℕ). length (track_since l t o).words) there.1
          ∙ length-words_since l there.0 t
    ]

-- ---- written lines

-- a size of a layout, and its offset
pub layout-few : (n o : ℕ) → is_layout n o ≡ true → (0 < n) × (n ≤ 1024) × (o < n)
layout-few n o allowed =
    let size = size_some n (and_parts (is_line_size n) (ltb o n)
    (and_parts (is_line_size n && ltb o n) (eqb (o % 4) 0) allowed).0).0 in
    (size.0, size.1, (layout-sized n o allowed).0)

number-up : (n a b : ℕ) → 0 < n → a ≤ b → a / n ≤ b / n
number-up n a b some le = le-div (a / n) b n some (omega (arith, div-mul-le_self a n, le))

no_number : (m n : ℕ) → 0 < n → m / n ≡ 0 → m < n
no_number m n some none = omega (
  arith,
  none,
  div-add-mod' m n,
  mod-lt m some,
  ap (λ q. q * n) none,
)

some_product : (k n o : ℕ) → 0 < n → (k ≡ 0 → 0 < o) → 0 < k * n + o
some_product zero n o some first = omega (arith, first refl)
some_product (suc k) n o some first = omega (arith, some)

-- the line of an address has an address
line-of_address : (g : Grid) (a : ℕ) → is_layout g.size g.offset ≡ true → a < 2 ^ 32
    → is_line g (line_number g.size g.offset a) ≡ true
line-of_address g a allowed low =
    let fit = layout-few g.size g.offset allowed in
    let k = line_number g.size g.offset a in
    and_from (nat_lt 0 (k * g.size + g.offset)) _
    (lt-ltb 0 (k * g.size + g.offset) (some_product k g.size g.offset fit.0 (λ none.
    omega (arith, fit.2, no_number (a + g.size - g.offset) g.size fit.0 none))))
    (le-leb k (line_number g.size g.offset (2 ^ 32 - 1))
    (number-up g.size (a + g.size - g.offset) (2 ^ 32 - 1 + g.size - g.offset) fit.0
    (omega (arith, fit.2, low))))

-- a written line is the line of an address
pub written-is_line : (g : Grid) (harts : ℕ) (t : AccessList) (k : ℕ)
    → is_layout g.size g.offset ≡ true → AreOf harts t
    → list_any (writes_to (is_inside (grid_line g k))) t ≡ true → is_line g k ≡ true
written-is_line g harts t k allowed all written =
    let w = passing (writes_to (is_inside (grid_line g k))) t written in
    let here : line_number g.size g.offset w.0.addr ≡ k =
    eqb-true (line_number g.size g.offset w.0.addr) k (and_parts _ _ w.2).1 in
    subst (λ j. is_line g j ≡ true) here
    (line-of_address g w.0.addr allowed (addr-few harts t all w.0 w.1))

from_to : (low high n : ℕ) → low ≤ n → n ≤ high → is_from_to low high n ≡ true
from_to low high n h k = grind (arith, nat_tests)

-- the written lines of a list, each behind those before it
pub lines-good : (h : Header) (t : AccessList) → is_layout h.grid.size h.grid.offset ≡ true
    → h.position ≡ length t → AreOf h.harts t
    → AllInTurn (λ before l. is_good_line h before l ≡ true) [] (counted_in h.grid t)
lines-good h t allowed at all =
    let lines = counted_in h.grid t in
    let are = counted_in-counted h.grid t in
    in_turn-from_cuts (λ before l. is_good_line h before l ≡ true) lines [] (λ front back l cut.
    let is = are.counted l (cut-Member lines front back l cut) in
    let inside = is_inside (grid_line h.grid l.number) in
    let few = count_by-le-length (writes_to inside) t in
    and_from (is_line h.grid l.number && list_all (λ x. nat_lt x.number l.number) front)
    (is_from_to 1 h.position l.writes)
    (and_from (is_line h.grid l.number) (list_all (λ x. nat_lt x.number l.number) front)
    (written-is_line h.grid h.harts t l.number allowed all
    (any_from_some (writes_to inside) t (subst (λ n. 0 < n) is.1 is.0)))
    (all_pass (λ x. nat_lt x.number l.number) front
    (λ x m. cut-rises has_lower_number lines front back l x cut are.rising m)))
    (from_to 1 h.position l.writes is.0 (omega (arith, few, is.1, at))))
