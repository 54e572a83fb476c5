-- A good state is read as it was spelled, whatever follows.
use Rattle.std.proofs.Common.{◌≡◌, ℕ, suc, ◌+◌, ◌-◌, ◌*◌, ◌/◌, ◌%◌, ◌^◌, ◌<◌, ◌≤◌, Bool, true}
use Rattle.std.proofs.Common.{false, ◌&&◌, eqb, ltb, leb, ℤ, pos, negsuc, ◌+ℤ◌, ◌-ℤ◌, List, [], ◌∷◌}
use Rattle.std.proofs.Common.{◌++◌, length, refl, sym, ap, ◌∙◌, subst, arith, take, drop}
use Rattle.std.proofs.Common.{append_assoc, append-nil, get_or}
use Rattle.std.proofs.Math.Nat.{div-mul-le_self, mul-div_left}
use Rattle.std.proofs.Math.Seq.{drop-append_seam}
use Rattle.std.proofs.lemmas.Bool.{and_parts, and_from, eqb-true, leb-true, ltb-true}
use Rattle.std.proofs.lemmas.Bool.Decides.{Decides-eqb, nat_tests}
use Rattle.std.proofs.lemmas.Int.{ints, to_z-of_z}
use Rattle.std.proofs.lemmas.List.{length-append}
use Rattle.std.proofs.lemmas.Nat.{from_le_bytes-to_le_bytes_2, from_le_bytes-to_le_bytes_4}
use Rattle.std.proofs.lemmas.Nat.{from_le_bytes-to_le_bytes_8}
use Rattle.std.proofs.lemmas.List.Sums.{sum_by-cons}
use Rattle.std.proofs.lemmas.Slice.Eq.{starts_is}
use Rattle.std.specs.Prelude.{FitsSigned, flat_map, nat_abs, nat_eq, nat_lt, nat_le, Option, None}
use Rattle.std.specs.Prelude.{Some, Ok, Err, if◌then◌else◌, sum_by, unwrap_or}
use Rattle.std.specs.Int.{w16, w64, cast_signed, cast_unsigned, from_le_bytes, to_le_bytes}
use Rattle.std.specs.List.{list_all, starts_with}
use Rattle.std.specs.Option.{option_map_or}
use Rattle.base.specs.Levels.{is_from_to}
use Rattle.base.specs.Lines.{Grid, is_layout, is_line_size, line_number}
use Rattle.base.specs.Ranges.{line_range}
use Rattle.base.specs.declared.faults.ResumeFault.TheVariants.{BadState}
use Rattle.sharing_rules.specs.Arrivals.{each_once}
use Rattle.sharing_rules.specs.Members.{IsRising}
use Rattle.sharing_rules.specs.Laws.Orders.{in_order-same}
use Rattle.sharing_rules.specs.Listed.{in_order, rank}
use Rattle.sharing_rules.specs.Words.{accesses}
use Rattle.sharing_rules.specs.declared.line_kind.LineKind.{LineKind}
use Rattle.sharing_rules.specs.declared.line_kind.LineKind.TheVariants.{Observed, Shifted, Doubled}
use Rattle.sharing_rules.specs.declared.word.Owner.{Owner}
use Rattle.sharing_rules.specs.declared.word.Owner.TheVariants as owner
use Rattle.sharing_rules.specs.declared.word.Word.{Word}
use Rattle.line_tracks.specs.RangeWords.{is_possible}
use Rattle.line_tracks.specs.TrackValue.{TrackValue}
use Rattle.line_tracks.specs.Placed.{is_placed_before}
use Rattle.line_tracks.specs.Laws.Placed.{is_placed_before-ranks}
use Rattle.saved_state.specs.Laws.Counted.{rising-push}
use Rattle.saved_state.specs.Laws.Lengths.{length-header, length-word}
use Rattle.saved_state.specs.Laws.Reading.{each_passes}
use Rattle.saved_state.specs.Reading.{AllInTurn, IsGood, IsGoodTrack, lines_then, read_state}
use Rattle.saved_state.specs.Reading.{read_units, state_with, tracks_then}
use Rattle.saved_state.specs.declared.state_parts.CountedLine.{CountedLine}
use Rattle.saved_state.specs.Spelling.{Header, many_harts, no_hart, no_start, owner_number}
use Rattle.saved_state.specs.Spelling.{spell_head, spell_header, spell_line, spell_track, State}
use Rattle.saved_state.specs.Spelling.{header_of, spell_state, spell_word}
use Rattle.saved_state.specs.Units.{IsSized, are_entries, is_good_track, is_good_word}
use Rattle.saved_state.specs.Units.{is_kind_placed, is_owner, is_placed, is_since, kind_of}
use Rattle.saved_state.specs.Units.{owner_of, size_of, track_as, track_at, track_in, word_at}
use Rattle.saved_state.specs.Units.{words_at, words_from, header_at, header_in, if_spelled}
use Rattle.saved_state.specs.Units.{is_good_header}
use Rattle.saved_state.specs.Units.{is_good_line, is_line, is_prediction, line_at, line_in}
use Rattle.saved_state.specs.Units.{some_unless}
use Rattle.sharing_rules.specs.Lines.{number_of_base}

-- what is good and spelled is read
pub spelled_again : {X : Type 0} (spell : X → List ℕ) (good : X → Bool) (x y : X) (more : List ℕ)
    → x ≡ y → good y ≡ true → if_spelled spell (good x) x (spell y ++ more) ≡ Some y
spelled_again spell good x y more same is_good =
    let begins : starts_with nat_eq (spell y ++ more) (spell y) ≡ true =
    (starts_is Decides-eqb (spell y ++ more) (spell y)
    (starts_with nat_eq (spell y ++ more) (spell y)) refl).1 more refl in
    ap (λ z. if_spelled spell (good z) z (spell y ++ more)) same
    ∙ ap (λ b. if b then Some y else None) (and_from (good y)
    (starts_with nat_eq (spell y ++ more) (spell y)) is_good begins)

size_small : (n : ℕ) → is_line_size n ≡ true → n < 2 ^ 32
size_small n h = grind (arith, nat_tests)

layout_small : (n o : ℕ) → is_layout n o ≡ true → (n < 2 ^ 32) × (o < 2 ^ 32)
layout_small n o h =
    let parts = and_parts (is_line_size n) (ltb o n)
    (and_parts (is_line_size n && ltb o n) (eqb (o % 4) 0) h).0 in
    let small = size_small n parts.0 in
    (small, below_size o n parts.1 small)
  where
    below_size : (o n : ℕ) → ltb o n ≡ true → n < 2 ^ 32 → o < 2 ^ 32
    below_size o n h small = grind (arith, nat_tests)

pub in_range : (low high n : ℕ) → is_from_to low high n ≡ true → (low ≤ n) × (n ≤ high)
in_range low high n h = (grind (arith, nat_tests), grind (arith, nat_tests))

-- a prediction threshold isn't 0
prediction_again : (tracking : ℕ) (o : Option ℕ) → 1 ≤ tracking
    → ((P : ℕ) → o ≡ Some P → (tracking ≤ P) × (P ≤ 2 ^ 32))
    → (unwrap_or o 0 < 2 ^ 64) × (some_unless 0 (unwrap_or o 0) ≡ o)
prediction_again tracking None some bounds = (omega arith, refl)
prediction_again tracking (Some P) some bounds =
    let low = (bounds P refl).0 in
    let high = (bounds P refl).1 in
    let there : eqb P 0 ≡ false = above tracking P some low in
    (omega arith, ap (λ b. if b then None else Some P) there)
  where
    above : (t P : ℕ) → 1 ≤ t → t ≤ P → eqb P 0 ≡ false
    above t P some low = grind (arith, nat_tests)

-- the rules of a header, one by one
pub record KeepsRules (h : Header) : Type 0 where
  pub layout : is_layout h.grid.size h.grid.offset ≡ true
  pub tracking : is_from_to 1 (2 ^ 32) h.tracking ≡ true
  pub prediction : option_map_or (is_prediction h) h.prediction true ≡ true
  pub harts : is_from_to 1 256 h.harts ≡ true
  pub position : h.position ≤ 2 ^ 40

pub rules_of : (h : Header) → is_good_header h ≡ true → KeepsRules h
rules_of h good =
    let p4 = and_parts _ (leb h.position (2 ^ 40)) good in
    let p3 = and_parts _ (is_from_to 1 256 h.harts) p4.0 in
    let p2 = and_parts _ (option_map_or (is_prediction h) h.prediction true) p3.0 in
    let p1 = and_parts (is_layout h.grid.size h.grid.offset) (is_from_to 1 (2 ^ 32) h.tracking)
    p2.0 in
    record {
      layout = p1.0;
      tracking = p1.1;
      prediction = p2.1;
      harts = p3.1;
      position = leb-true h.position (2 ^ 40) p4.1;
    }

-- the numbers of a good header fit their fields
record FitFields (h : Header) : Type 0 where
  pub size : h.grid.size < 2 ^ 32
  pub offset : h.grid.offset < 2 ^ 32
  pub tracking : h.tracking < 2 ^ 64
  pub prediction_fits : unwrap_or h.prediction 0 < 2 ^ 64
  pub prediction : some_unless 0 (unwrap_or h.prediction 0) ≡ h.prediction
  pub harts : h.harts < 2 ^ 16
  pub position : h.position < 2 ^ 64

fit_fields : (h : Header) → is_good_header h ≡ true → FitFields h
fit_fields h good =
    let rules = rules_of h good in
    let layout = layout_small h.grid.size h.grid.offset rules.layout in
    let tracking = in_range 1 (2 ^ 32) h.tracking rules.tracking in
    let harts = in_range 1 256 h.harts rules.harts in
    let prediction = prediction_again h.tracking h.prediction tracking.0 (λ P is.
    let predicts : is_prediction h P ≡ true =
    subst (λ (o : Option ℕ). option_map_or (is_prediction h) o true ≡ true) is rules.prediction in
    in_range h.tracking (2 ^ 32) P (and_parts (is_from_to h.tracking (2 ^ 32) P) _
    (and_parts _ _ predicts).0).0) in
    record {
      size = layout.0;
      offset = layout.1;
      tracking = omega (arith, tracking.1);
      prediction_fits = prediction.0;
      prediction = prediction.1;
      harts = omega (arith, harts.1);
      position = omega (arith, rules.position);
    }

fields_again : (h : Header) (more : List ℕ) → FitFields h → h.lines < 2 ^ 64 → h.tracks < 2 ^ 64
    → header_at (spell_header h ++ more) ≡ h
unfolding spell_header
fields_again h more fit lines tracks =
    let size = from_le_bytes-to_le_bytes_4 h.grid.size fit.size in
    let offset = from_le_bytes-to_le_bytes_4 h.grid.offset fit.offset in
    let tracking = from_le_bytes-to_le_bytes_8 h.tracking fit.tracking in
    let prediction = ap (some_unless 0)
    (from_le_bytes-to_le_bytes_8 (unwrap_or h.prediction 0) fit.prediction_fits) ∙ fit.prediction in
    let harts = from_le_bytes-to_le_bytes_2 h.harts fit.harts in
    let position = from_le_bytes-to_le_bytes_8 h.position fit.position in
    let line_count = from_le_bytes-to_le_bytes_8 h.lines lines in
    let track_count = from_le_bytes-to_le_bytes_8 h.tracks tracks in
    λ i. record {
      grid = record { size = size i; offset = offset i };
      tracking = tracking i;
      prediction = prediction i;
      harts = harts i;
      position = position i;
      lines = line_count i;
      tracks = track_count i;
    }

-- a good header
pub header_again : (h : Header) (more : List ℕ) → is_good_header h ≡ true → h.lines < 2 ^ 64
    → h.tracks < 2 ^ 64 → header_in (spell_header h ++ more) ≡ Some h
unfolding header_in
header_again h more good lines tracks =
    spelled_again spell_header is_good_header (header_at (spell_header h ++ more)) h more
    (fields_again h more (fit_fields h good) lines tracks) good

-- ---- a written line

base_is : (m n o : ℕ) → nat_abs (pos (m + o) -ℤ pos n +ℤ pos n -ℤ pos o) ≡ m
base_is m n o = grind (arith, ints)

number_again : (g : Grid) (k : ℕ) → 0 < g.size
    → number_of_base g (line_range g.size g.offset k).base ≡ k
number_again g k some = ap (λ m. m / g.size) (base_is (k * g.size) g.size g.offset)
    ∙ mul-div_left k some

difference_fits : (m n : ℕ) → m < 2 ^ 40 → n < 2 ^ 40 → FitsSigned w64 (pos m -ℤ pos n)
difference_fits m n few_m few_n = search (arith, ints)

below_word : (b : ℤ) → FitsSigned w64 b → cast_unsigned w64 b < 2 ^ 64
below_word (pos n) fits = omega (arith, fits.sfits)
below_word (negsuc n) fits = omega arith

-- an integer that was spelled
pub integer_again : (b : ℤ) → FitsSigned w64 b
    → cast_signed w64 (from_le_bytes w64 (to_le_bytes w64 (cast_unsigned w64 b))) ≡ b
integer_again b fits =
    ap (cast_signed w64) (from_le_bytes-to_le_bytes_8 (cast_unsigned w64 b) (below_word b fits))
    ∙ to_z-of_z w64 b fits

pub size_some : (n : ℕ) → is_line_size n ≡ true → (0 < n) × (n ≤ 1024)
size_some n h = (grind (arith, nat_tests), grind (arith, nat_tests))

pub times_up : (k q n a : ℕ) → k ≤ q → q * n ≤ a → k * n ≤ a
times_up k q n a h e = grind arith

pub line_fits : (n o k : ℕ) → is_layout n o ≡ true → k ≤ line_number n o (2 ^ 32 - 1)
    → (0 < n) × FitsSigned w64 (line_range n o k).base
line_fits n o k allowed low =
    let parts = and_parts (is_line_size n) (ltb o n)
    (and_parts (is_line_size n && ltb o n) (eqb (o % 4) 0) allowed).0 in
    let some = size_some n parts.0 in
    let under = ltb-true o n parts.1 in
    let within = times_up k (line_number n o (2 ^ 32 - 1)) n (2 ^ 32 - 1 + n - o) low
    (div-mul-le_self (2 ^ 32 - 1 + n - o) n) in (
      some.0,
      difference_fits (k * n + o) n (omega (arith, within, some.1, under)) (omega (arith, some.1)),
    )

-- a good line under a good header
pub line_again : (h : Header) (before : List CountedLine) (l : CountedLine) (more : List ℕ)
    → is_good_header h ≡ true → is_good_line h before l ≡ true
    → line_in h before (spell_line h.grid l ++ more) ≡ Some l
unfolding line_in spell_line
line_again h before l more header good =
    let fit = fit_fields h header in
    let outer = and_parts _ (is_from_to 1 h.position l.writes) good in
    let inner = and_parts (is_line h.grid l.number) _ outer.0 in
    let writes = in_range 1 h.position l.writes outer.1 in
    let last = leb-true l.number (line_number h.grid.size h.grid.offset (2 ^ 32 - 1))
    (and_parts _ _ inner.0).1 in
    let base = line_fits h.grid.size h.grid.offset l.number (rules_of h header).layout last in
    let number = ap (number_of_base h.grid) (integer_again (line_range h.grid.size h.grid.offset
    l.number).base base.1) ∙ number_again h.grid l.number base.0 in
    let count = from_le_bytes-to_le_bytes_8 l.writes (omega (arith, writes.1, fit.position)) in
    spelled_again (spell_line h.grid) (is_good_line h before)
    (line_at h.grid (spell_line h.grid l ++ more)) l more
    (λ i. record { number = number i; writes = count i }) good

-- ---- a track

header_bounds : (h : Header) → is_good_header h ≡ true → (h.harts ≤ 256) × (h.position ≤ 2 ^ 40)
header_bounds h good =
    let rules = rules_of h good in ((in_range 1 256 h.harts rules.harts).1, rules.position)

kind_again : (kind : LineKind) → kind_of (rank kind) ≡ kind
kind_again Observed = refl
kind_again Shifted = refl
kind_again Doubled = refl

not_this : (h n : ℕ) → h < n → eqb h n ≡ false
not_this h n less = grind (arith, nat_tests)

owner_again : (harts : ℕ) (o : Owner) → harts ≤ 256 → is_owner harts o ≡ true
    → (owner_number o < 2 ^ 16) × (owner_of (owner_number o) ≡ o)
owner_again harts owner.None few is = (omega arith, refl)
owner_again harts owner.Many few is = (omega arith, refl)
owner_again harts (owner.One h) few is =
    let less : h < harts = ltb-true h harts is in (
      omega arith,
      rw (not_this h no_hart (omega arith), not_this h many_harts (omega arith)) refl,
    )

word_again : (harts : ℕ) (w : Word) (more : List ℕ) → harts ≤ 256 → is_good_word harts w ≡ true
    → accesses w < 2 ^ 64 → word_at (spell_word w ++ more) ≡ w
unfolding spell_word
word_again harts w more few good small =
    let o = owner_again harts w.owner few (and_parts (is_possible w) (is_owner harts w.owner)
    good).1 in
    let reads = from_le_bytes-to_le_bytes_8 w.reads (omega (arith, small)) in
    let writes = from_le_bytes-to_le_bytes_8 w.writes (omega (arith, small)) in
    let mine = ap owner_of (from_le_bytes-to_le_bytes_2 (owner_number w.owner) o.0) ∙ o.1 in
    λ i. record { reads = reads i; writes = writes i; owner = mine i }

words_again : (harts : ℕ) (ws : List Word) (more : List ℕ) → harts ≤ 256
    → list_all (is_good_word harts) ws ≡ true → sum_by accesses ws < 2 ^ 64
    → words_from (length ws) (flat_map spell_word ws ++ more) ≡ ws
words_again harts [] more few all small = refl
words_again harts (w ∷ ws) more few all small =
    let rest = flat_map spell_word ws ++ more in
    let parts = and_parts (is_good_word harts w) (list_all (is_good_word harts) ws) all in
    let sum = sum_by-cons accesses w ws in
    let joined = append_assoc (spell_word w) (flat_map spell_word ws) more in
    let first = ap word_at joined
    ∙ word_again harts w rest few parts.0 (omega (arith, sum, small)) in
    let behind : drop 20 (flat_map spell_word (w ∷ ws) ++ more) ≡ rest =
    ap (drop 20) joined ∙ ap (λ n. drop n (spell_word w ++ rest)) (sym (length-word w))
    ∙ drop-append_seam (spell_word w) rest in
    let others = ap (words_from (length ws)) behind
    ∙ words_again harts ws more few parts.1 (omega (arith, sum, small)) in
    λ i. first i ∷ others i

-- what fits the fields of a track, with a start
record FitTrack (x : TrackValue) (start : Option ℕ) : Type 0 where
  pub entries : (harts : ℕ) × (harts ≤ 256) × (list_all (λ h. nat_lt h harts) x.entries ≡ true)
  pub few : length x.entries ≤ 2
  pub start_fits : unwrap_or start no_start < 2 ^ 64
  pub start_again : some_unless no_start (unwrap_or start no_start) ≡ start
  pub count : x.count < 2 ^ 64
  pub accessed : sum_by accesses x.words < 2 ^ 64

hart_small : (h harts : ℕ) → harts ≤ 256 → nat_lt h harts ≡ true → h < 2 ^ 16
hart_small h harts few less = let low = ltb-true h harts less in omega arith

entries_again : (hs : List ℕ) (harts : ℕ) → harts ≤ 256 → list_all (λ h. nat_lt h harts) hs ≡ true
    → length hs ≤ 2
    → take (length hs) (from_le_bytes w16 (to_le_bytes w16 (get_or hs 0 no_hart))
    ∷ from_le_bytes w16 (to_le_bytes w16 (get_or hs 1 no_hart)) ∷ []) ≡ hs
entries_again [] harts few all two = refl
entries_again (a ∷ []) harts few all two =
    let first = from_le_bytes-to_le_bytes_2 a (hart_small a harts few
    (and_parts (nat_lt a harts) true all).0) in
    ap (λ n. n ∷ []) first
entries_again (a ∷ b ∷ []) harts few all two =
    let parts = and_parts (nat_lt a harts) (list_all (λ h. nat_lt h harts) (b ∷ [])) all in
    let first = from_le_bytes-to_le_bytes_2 a (hart_small a harts few parts.0) in
    let second = from_le_bytes-to_le_bytes_2 b (hart_small b harts few
    (and_parts (nat_lt b harts) true parts.1).0) in
    λ i. first i ∷ second i ∷ []
entries_again (a ∷ b ∷ c ∷ hs) harts few all two = absurd (omega arith)

no_entries_at : (hs : List ℕ) → eqb (length hs) 0 ≡ true → hs ≡ []
no_entries_at [] none = refl
no_entries_at (h ∷ hs) none = absurd (above_none (length hs) none)
  where
    above_none : (n : ℕ) → eqb (suc n) 0 ≡ true → ⊥
    above_none n e = grind (arith, nat_tests)

fit_track : (h : Header) (x : TrackValue) (start : Option ℕ) → is_good_header h ≡ true
    → is_since h x start ≡ true → FitTrack x start
fit_track h x None header since =
    let parts = and_parts _ (eqb (sum_by accesses x.words) 0) since in
    let inner = and_parts (eqb (length x.entries) 0) (eqb x.count 0) parts.0 in
    let empty = no_entries_at x.entries inner.0 in
    record {
      entries = (0, omega arith, ap (λ hs. list_all (λ k. nat_lt k 0) hs) empty);
      few = let n : length x.entries ≡ 0 = ap length empty in omega (arith, n);
      start_fits = omega arith;
      start_again = refl;
      count = omega (arith, eqb-true x.count 0 inner.1);
      accessed = omega (arith, eqb-true (sum_by accesses x.words) 0 parts.1);
    }
fit_track h x (Some s) header since =
    let parts = and_parts _ (nat_le (sum_by accesses x.words + s) h.position) since in
    let inner = and_parts (are_entries h.harts x.entries) (nat_lt (x.count + s) h.position)
    parts.0 in
    let hs = and_parts _ (eqb (length (each_once x.entries)) (length x.entries)) inner.0 in
    let each = and_parts (is_from_to 1 2 (length x.entries))
    (list_all (λ k. nat_lt k h.harts) x.entries) hs.0 in
    let counted = ltb-true (x.count + s) h.position inner.1 in
    let accessed = leb-true (sum_by accesses x.words + s) h.position parts.1 in
    let bounds = header_bounds h header in
    record {
      entries = (h.harts, bounds.0, each.1);
      few = (in_range 1 2 (length x.entries) each.0).1;
      start_fits = omega (arith, counted, bounds.1);
      start_again = ap (λ b. if b then None else Some s)
          (not_this s no_start (omega (arith, counted, bounds.1)));
      count = omega (arith, counted, bounds.1);
      accessed = omega (arith, accessed, bounds.1);
    }

track_fields : (h : Header) (x : TrackValue) (more : List ℕ) → is_good_header h ≡ true
    → is_good_track h x ≡ true → IsSized h.grid x → track_at h.grid (spell_track x ++ more) ≡ x
unfolding spell_head
track_fields h x more header good sized =
    let parts = and_parts (list_all (is_good_word h.harts) x.words) (is_since h x x.start) good in
    let fit = fit_track h x x.start header parts.1 in
    let bytes = spell_track x ++ more in
    let kind = kind_again x.kind in
    let base = integer_again x.range.base sized.base in
    let start = ap (some_unless no_start)
    (from_le_bytes-to_le_bytes_8 (unwrap_or x.start no_start) fit.start_fits) ∙ fit.start_again in
    let entries = entries_again x.entries fit.entries.0 fit.entries.1 fit.entries.2 fit.few in
    let count = from_le_bytes-to_le_bytes_8 x.count fit.count in
    let joined : bytes ≡ spell_head x ++ (flat_map spell_word x.words ++ more) =
    append_assoc (spell_head x) (flat_map spell_word x.words) more in
    let words : words_at (size_of h.grid x.kind / 4) bytes ≡ x.words =
    ap (λ n. words_at n bytes) (sym sized.words)
    ∙ ap (λ (t : List ℕ). words_from (length x.words) (drop 32 t)) joined
    ∙ words_again h.harts x.words more (header_bounds h header).0 parts.0 fit.accessed in
    ap (λ k. track_as h.grid k bytes) kind
    ∙ (λ i. record {
      kind = x.kind;
      range = record { base = base i; size = sym sized.size i };
      start = start i;
      entries = entries i;
      count = count i;
      words = words i;
    })

-- a good track among the lines and the tracks before it
pub track_again : (h : Header) (lines : List CountedLine) (before : List TrackValue) (x : TrackValue)
    (more : List ℕ) → is_good_header h ≡ true → is_good_track h x ≡ true
    → is_placed h lines before x ≡ true → IsSized h.grid x
    → track_in h lines before (spell_track x ++ more) ≡ Some x
unfolding track_in
track_again h lines before x more header good placed sized =
    spelled_again spell_track (λ y. is_good_track h y && is_placed h lines before y)
    (track_at h.grid (spell_track x ++ more)) x more (track_fields h x more header good sized)
    (and_from (is_good_track h x) (is_placed h lines before x) good placed)

-- ---- the whole

-- units that are each read beside those before them
pub units_again : {X : Type 0} (unit : List X → List ℕ → Option X) (spell : X → List ℕ)
    (P : List X → X → Type 0)
    → ((before : List X) (x : X) (more : List ℕ) → P before x
    → unit before (spell x ++ more) ≡ Some x)
    → (xs before : List X) (place : ℕ) (more : List ℕ) → AllInTurn P before xs
    → read_units unit spell (length xs) (record {
      read = before;
      place = place;
      left = flat_map spell xs ++ more;
    }) ≡ Ok (record {
      read = before ++ xs;
      place = place + length (flat_map spell xs);
      left = more;
    })
units_again unit spell P law [] before place more all = λ i. Ok (record {
  read = sym (append-nil before) i;
  place = (let e : place ≡ place + 0 = omega arith in e) i;
  left = more;
})
units_again {X = X} unit spell P law (x ∷ xs) before place more all =
    let rest = flat_map spell xs ++ more in
    let joined : flat_map spell (x ∷ xs) ++ more ≡ spell x ++ rest =
    append_assoc (spell x) (flat_map spell xs) more in
    let found : unit before (flat_map spell (x ∷ xs) ++ more) ≡ Some x =
    ap (unit before) joined ∙ law before x rest all.0 in
    let left : drop (length (spell x)) (flat_map spell (x ∷ xs) ++ more) ≡ rest =
    ap (drop (length (spell x))) joined ∙ drop-append_seam (spell x) rest in
    let past : place + length (spell x) + length (flat_map spell xs)
    ≡ place + length (flat_map spell (x ∷ xs)) =
    omega (arith, length-append (spell x) (flat_map spell xs)) in
    ap (λ o. option_map_or (λ y. read_units unit spell (length xs) (record {
      read = before ++ y ∷ [];
      place = place + length (spell y);
      left = drop (length (spell y)) (flat_map spell (x ∷ xs) ++ more);
    })) o (Err (BadState place))) found
    ∙ ap (λ (t : List ℕ). read_units unit spell (length xs) (record {
      read = before ++ x ∷ [];
      place = place + length (spell x);
      left = t;
    })) left
    ∙ units_again unit spell P law xs (before ++ x ∷ []) (place + length (spell x)) more all.1
    ∙ (λ i. Ok (record {
      read = append_assoc before (x ∷ []) xs i;
      place = past i;
      left = more;
    }))

tracks_rise : (h : Header) (lines : List CountedLine) (xs before : List TrackValue)
    → IsRising is_placed_before before → AllInTurn (IsGoodTrack h lines) before xs
    → IsRising is_placed_before (before ++ xs)
tracks_rise h lines [] before rising all =
    subst (IsRising is_placed_before) (sym (append-nil before)) rising
tracks_rise h lines (x ∷ xs) before rising all =
    let behind = (and_parts (list_all (λ y. is_placed_before y x) before)
    (is_kind_placed h lines before x x.kind) all.0.placed).0 in
    subst (IsRising is_placed_before) (append_assoc before (x ∷ []) xs)
    (tracks_rise h lines xs (before ++ x ∷ [])
    (rising-push is_placed_before before x rising
    (each_passes (λ y. is_placed_before y x) before behind)) all.1)

-- A good state is read as it was spelled.
pub read_again : (s : State) (more : List ℕ) → IsGood s
    → read_state (spell_state s ++ more) ≡ Ok (s, length (spell_state s))
read_again s more good =
    let h = header_of s in
    let ls = flat_map (spell_line h.grid) s.lines in
    let ts = flat_map spell_track s.tracks in
    let rest = ls ++ (ts ++ more) in
    let ordered : in_order is_placed_before s.tracks ≡ s.tracks =
    in_order-same is_placed_before is_placed_before-ranks s.tracks
    (tracks_rise h s.lines s.tracks [] tt good.tracks) in
    let joined : spell_state s ++ more ≡ spell_header h ++ rest =
    ap (λ (ys : List TrackValue). (spell_header h ++ (ls ++ flat_map spell_track ys)) ++ more) ordered
    ∙ append_assoc (spell_header h) (ls ++ ts) more
    ∙ ap (λ (t : List ℕ). spell_header h ++ t) (append_assoc ls ts more) in
    let dropped : drop 64 (spell_header h ++ rest) ≡ rest =
    ap (λ n. drop n (spell_header h ++ rest)) (sym (length-header h))
    ∙ drop-append_seam (spell_header h) rest in
    let lines_read = ap (λ (t : List ℕ). read_units (line_in h) (spell_line h.grid) (length s.lines)
    (record { read = []; place = 64; left = t })) dropped
    ∙ units_again (line_in h) (spell_line h.grid) (λ before l. is_good_line h before l ≡ true)
    (λ before l t is. line_again h before l t good.header is) s.lines [] 64 (ts ++ more)
    good.lines in
    let tracks_read = units_again (track_in h s.lines) spell_track (IsGoodTrack h s.lines)
    (λ before x t is. track_again h s.lines before x t good.header is.good is.placed is.sized)
    s.tracks [] (64 + length ls) more good.tracks in
    let place : 64 + length ls + length ts ≡ length (spell_state s) = omega (
      arith,
      ap (λ (ys : List TrackValue). length (spell_header h ++ (ls ++ flat_map spell_track ys))) ordered,
      length-append (spell_header h) (ls ++ ts),
      length-append ls ts,
      length-header h,
    ) in
    ap read_state joined
    ∙ ap (λ o. option_map_or (λ k. lines_then k (read_units (line_in k) (spell_line k.grid) k.lines
    (record { read = []; place = 64; left = drop 64 (spell_header h ++ rest) }))) o
    (Err (BadState 0))) (header_again h rest good.header good.few_lines good.few_tracks)
    ∙ ap (lines_then h) lines_read
    ∙ ap (tracks_then h s.lines) tracks_read
    ∙ ap (λ (b : Bool). if b then Ok (state_with h s.lines s.tracks, 64 + length ls + length ts)
    else Err (BadState (64 + length ls + length ts))) good.whole
    ∙ ap (λ (p : ℕ). Ok (s, p)) place
