-- The state of an access list is good, and so it is read again.
use Rattle.std.proofs.Common.{◌≡◌, ℕ, zero, suc, ◌+◌, ◌-◌, ◌*◌, ◌/◌, ◌^◌, ◌<◌, ◌≤◌, Bool, true}
use Rattle.std.proofs.Common.{false, ◌&&◌, eqb, ℤ, pos, List, [], ◌∷◌, ◌++◌, length, map, refl, sym}
use Rattle.std.proofs.Common.{ap, ◌∙◌, subst, arith, inl, inr}
use Rattle.std.proofs.lemmas.Bool.{and_from, and_parts, le-leb, leb-true}
use Rattle.std.proofs.lemmas.Bool.Decides.{nat_tests}
use Rattle.std.proofs.lemmas.Cmp.{int_eq_equiv}
use Rattle.std.proofs.lemmas.Int.{ints}
use Rattle.std.proofs.lemmas.List.{length-append, length-map}
use Rattle.std.proofs.lemmas.List.Sorted.{IsPermutation-sym, length_permutation}
use Rattle.std.proofs.lemmas.List.Sums.{count_by-le-length, length-filter}
use Rattle.std.proofs.lemmas.Option.{none-some, same_Some, slice_get-map}
use Rattle.std.proofs.Math.Nat.{div-mul-le_self, mul-le-mul_right}
use Rattle.std.specs.Prelude.{FitsSigned, filter, filter_map, is_some, nat_le, nat_lt, None, Ok}
use Rattle.std.specs.Prelude.{Option, Some, slice_get, unwrap_or, IsTrue}
use Rattle.std.specs.Int.{w64}
use Rattle.std.specs.List.{list_all}
use Rattle.std.specs.Option.{option_map, option_map_or}
use Rattle.base.specs.Levels.{Levels, are_levels, is_from_to}
use Rattle.base.specs.Lines.{Grid, is_layout, line_number}
use Rattle.base.specs.Ranges.{line_range}
use Rattle.base.specs.Touch.{Touch, is_write}
use Rattle.sharing_rules.specs.AccessLists.{AccessList}
use Rattle.sharing_rules.specs.Lines.{grid_line, is_inside, native_grid, range_of}
use Rattle.sharing_rules.specs.Listed.{in_order, may_predict}
use Rattle.sharing_rules.specs.Members.{Member}
use Rattle.sharing_rules.specs.Observed.{first_write_from, observed_start, written_lines}
use Rattle.sharing_rules.specs.Opened.{Opened, doubled_ones, observed_ones, opened, opened_doubled}
use Rattle.sharing_rules.specs.Opened.{opened_observed, opened_shifted, predicted_ones}
use Rattle.sharing_rules.specs.Opened.{shifted_ones}
use Rattle.sharing_rules.specs.Predicted.{is_native_size}
use Rattle.sharing_rules.specs.declared.line_kind.LineKind.{LineKind}
use Rattle.sharing_rules.specs.declared.line_kind.LineKind.TheVariants.{Observed}
use Rattle.sharing_rules.specs.Laws.Kinds.{Member-append, opened_doubled-is, opened_shifted-is}
use Rattle.sharing_rules.specs.Laws.Lists.{slice_cases}
use Rattle.sharing_rules.specs.Laws.Observed.{observed_written}
use Rattle.sharing_rules.specs.Laws.OpenedObserved.{some_is}
use Rattle.sharing_rules.specs.Laws.Orders.{in_order-permutes}
use Rattle.sharing_rules.specs.Laws.Starts.{observed_start-first_write}
use Rattle.sharing_rules.specs.Tracks.{track_since}
use Rattle.line_tracks.specs.TrackValue.{TrackValue}
use Rattle.line_tracks.specs.KeptIn.{kept_in}
use Rattle.line_tracks.specs.Placed.{is_placed_before}
use Rattle.saved_state.specs.Counted.{counted_line}
use Rattle.saved_state.specs.Laws.Again.{line_fits, read_again}
use Rattle.saved_state.specs.Laws.DueTracks.{IsPredictedIn, due-start, due_in, due_track}
use Rattle.saved_state.specs.Laws.DueTracks.{observed_at, predicted-is, predicted-pair, due-before}
use Rattle.saved_state.specs.Laws.DueTracks.{due-rises, predicted-rises, predicted_in}
use Rattle.saved_state.specs.Laws.DueTracks.{predicted_tracks, tracks-order}
use Rattle.saved_state.specs.Laws.GoodTracks.{layout-few, lines-good, track-good, track-words}
use Rattle.saved_state.specs.Laws.GoodTracks.{written-is_line}
use Rattle.saved_state.specs.Laws.GoodWords.{each_once-few}
use Rattle.saved_state.specs.Laws.OfLists.{counted_in-counted, spell_state-of_list}
use Rattle.saved_state.specs.Laws.Predicted.{begins, header_in_list, line-observed, pair-observed}
use Rattle.saved_state.specs.Laws.Predicted.{predicted-placed}
use Rattle.saved_state.specs.Laws.Lists.{all_pass, cut-Member, cut-get, cut-rises, in_turn-append}
use Rattle.saved_state.specs.Laws.Lists.{in_turn-from_cuts, Member-map}
use Rattle.saved_state.specs.OfLists.{AreOf, MayKeep, counted_in, sorted_state_in, state_of_list}
use Rattle.saved_state.specs.OfLists.{writes_of}
use Rattle.saved_state.specs.Reading.{AllInTurn, IsGood, IsGoodTrack, read_state}
use Rattle.saved_state.specs.Spelling.{spell_state}
use Rattle.saved_state.specs.Units.{IsSized, is_base, is_good_header, is_good_track, is_kind_placed}
use Rattle.saved_state.specs.Units.{is_prediction, size_of}
use Rattle.saved_state.specs.declared.state_parts.CountedLine.{CountedLine}

-- ---- the header

abbrev levels_of : Levels → Bool
levels_of v = is_from_to 1 (2 ^ 32) v.tracking
    && option_map_or (is_from_to v.tracking (2 ^ 32)) v.prediction true

-- the tracking threshold is allowed, and so is a prediction threshold
level_parts : (v : Levels) → are_levels v.tracking v.prediction v.report ≡ true
    → (is_from_to 1 (2 ^ 32) v.tracking ≡ true)
    × (option_map_or (is_from_to v.tracking (2 ^ 32)) v.prediction true ≡ true)
level_parts v are = and_parts (is_from_to 1 (2 ^ 32) v.tracking)
    (option_map_or (is_from_to v.tracking (2 ^ 32)) v.prediction true)
    (and_parts (levels_of v) (is_from_to 1 (2 ^ 40) v.report) are).0

tracking-some : (v : Levels) → are_levels v.tracking v.prediction v.report ≡ true → 0 < v.tracking
tracking-some v are = from v.tracking (level_parts v are).0
  where
    from : (n : ℕ) → is_from_to 1 (2 ^ 32) n ≡ true → 0 < n
    from n h = grind (arith, nat_tests)

-- lines are predicted where they may be
predicts : (g : Grid) (v : Levels) (harts : ℕ) (t : AccessList) → (o : Option ℕ)
    → option_map_or (is_from_to v.tracking (2 ^ 32)) o true ≡ true
    → option_map_or (λ P. is_native_size g.size && eqb g.offset 0) o true ≡ true
    → option_map_or (is_prediction (header_in_list g v harts t)) o true ≡ true
predicts g v harts t None level native = refl
predicts g v harts t (Some P) level native =
    let both = and_parts (is_native_size g.size) (eqb g.offset 0) native in
    and_from (is_from_to v.tracking (2 ^ 32) P && is_native_size g.size) (eqb g.offset 0)
    (and_from (is_from_to v.tracking (2 ^ 32) P) (is_native_size g.size) level both.0) both.1

-- the header of a state of a list
header-good : (g : Grid) (v : Levels) (harts : ℕ) (t : AccessList) → MayKeep g v harts t
    → is_good_header (header_in_list g v harts t) ≡ true
header-good g v harts t are =
    let levels = level_parts v are.levels in
    let h = header_in_list g v harts t in
    let prediction = option_map_or (is_prediction h) v.prediction true in
    let layout = is_layout g.size g.offset in
    let tracking = is_from_to 1 (2 ^ 32) v.tracking in
    and_from (layout && tracking && prediction && is_from_to 1 256 harts)
    (nat_le (length t) (2 ^ 40))
    (and_from (layout && tracking && prediction) (is_from_to 1 256 harts)
    (and_from (layout && tracking) prediction (and_from layout tracking are.layout levels.0)
    (predicts g v harts t v.prediction levels.1 are.predictable)) are.few_harts)
    (le-leb (length t) (2 ^ 40) are.short)

-- ---- how many lines and tracks there are

-- a list has no more written lines than accesses
few_written : (g : Grid) (t : AccessList) → length (written_lines g t) ≤ length t
few_written g t =
    let writes = filter (λ (a : Touch). is_write a.kind) t in
    let numbers = map (λ (a : Touch). line_number g.size g.offset a.addr) writes in
    omega (
      arith,
      each_once-few numbers,
      length-map writes (λ (a : Touch). line_number g.size g.offset a.addr),
      length-filter (λ (a : Touch). is_write a.kind) t,
      count_by-le-length (λ (a : Touch). is_write a.kind) t,
    )

few_lines : (g : Grid) (t : AccessList) → length (counted_in g t) ≤ length t
few_lines g t =
    let ks = written_lines g t in
    omega (
      arith,
      few_written g t,
      length-map (in_order nat_lt ks)
          (counted_line (writes_of g t)),
      length_permutation ks (in_order nat_lt ks) (in_order-permutes nat_lt ks),
    )

few_chosen : (h : ℕ → Option Opened) (ks : List ℕ) → length (filter_map h ks) ≤ length ks
few_chosen h [] = omega arith
few_chosen h (k ∷ ks) = elim (slice_cases (h k)) [
  | inl none ↦ rw none (omega (arith, few_chosen h ks))
  | inr there ↦ rw there.1 (omega (arith, few_chosen h ks))
]

few_predicted : (g : Grid) (v : Levels) (t : AccessList) (o : Option ℕ)
    → length (option_map_or (λ P. predicted_ones g.size v.tracking P t) o []) ≤ 2 * length t
few_predicted g v t None = omega arith
few_predicted g v t (Some P) =
    let ks = written_lines (native_grid g.size) t in
    omega (
      arith,
      few_written (native_grid g.size) t,
      few_chosen (opened_shifted g.size v.tracking P t) ks,
      few_chosen (opened_doubled g.size v.tracking P t) ks,
      length-append (shifted_ones g.size v.tracking P t) (doubled_ones g.size v.tracking P t),
    )

few_tracks : (g : Grid) (v : Levels) (harts : ℕ) (t : AccessList)
    → length (sorted_state_in g v harts t).tracks ≤ 3 * length t
few_tracks g v harts t =
    let all = map (kept_in t) (opened g v t) in
    omega (
      arith,
      few_written g t,
      few_chosen (opened_observed g v.tracking t) (written_lines g t),
      few_predicted g v t v.prediction,
      length-append (observed_ones g v.tracking t) (predicted_in g v t),
      length-map (opened g v t) (kept_in t),
      length_permutation all (in_order is_placed_before all)
          (in_order-permutes is_placed_before all),
    )

-- ---- the sizes of tracks

-- a line no higher than that of the last address
abbrev IsLowLine : Grid → ℕ → Type 0
IsLowLine g k = k ≤ line_number g.size g.offset (2 ^ 32 - 1)

-- an observed line holds an address
observed-low : (g : Grid) (v : Levels) (harts : ℕ) (t : AccessList) (k : ℕ)
    → MayKeep g v harts t
    → is_some (observed_start v.tracking (is_inside (grid_line g k)) t) ≡ true → IsLowLine g k
observed-low g v harts t k are there =
    let s = some_is (observed_start v.tracking (is_inside (grid_line g k)) t) there in
    leb-true k (line_number g.size g.offset (2 ^ 32 - 1))
    (and_parts (nat_lt 0 (k * g.size + g.offset)) _
    (written-is_line g harts t k are.layout are.all
    (observed_written v.tracking (is_inside (grid_line g k)) t s.0 s.1))).1

due-sized : (g : Grid) (v : Levels) (harts : ℕ) (t : AccessList) (l : CountedLine)
    → MayKeep g v harts t → Member l (due_in g v t) → IsSized g (due_track g v t l)
due-sized g v harts t l are m =
    let o = observed_at g v.tracking t l.number in
    let s = due-start g v t l (tracking-some v are.levels) m in
    record {
      size = refl;
      words = track-words o.line o.from t;
      base = (line_fits g.size g.offset l.number are.layout
          (observed-low g v harts t l.number are (ap is_some s.1))).1;
    }

at_place : (b : ℕ) (base : ℤ) → base ≡ pos b → b < 2 ^ 40 → FitsSigned w64 base
at_place b base is few = subst (λ (z : ℤ). FitsSigned w64 z) (sym is) (fits b few)
  where
    fits : (b : ℕ) → b < 2 ^ 40 → FitsSigned w64 (pos b)
    fits b few = search (arith, ints)

-- a place in a line that holds an address
low_place : (n k b : ℕ) → n ≤ 1024 → 0 < k → k ≤ (2 ^ 32 - 1 + n - 0) / n
    → b < n * (k - 1) + n → b < 2 ^ 40
low_place n k b size some low below =
    let top = div-mul-le_self (2 ^ 32 - 1 + n - 0) n in
    let up : k * n ≤ (2 ^ 32 - 1 + n - 0) / n * n = mul-le-mul_right n low in
    let step : n * (k - 1) + n ≡ k * n = whole n k some in
    omega (arith, size, top, up, step, below)
  where
    whole : (n k : ℕ) → 0 < k → n * (k - 1) + n ≡ k * n
    whole n zero some = absurd (omega (arith, some))
    whole n (suc k) some = let e : suc k - 1 ≡ k = omega arith in ap (λ z. n * z + n) e ∙ more n k
      where
        more : (n k : ℕ) → n * k + n ≡ suc k * n
        more n k = omega arith

predicted-sized : (g : Grid) (v : Levels) (harts : ℕ) (t : AccessList) (o : Opened)
    → MayKeep g v harts t → IsPredictedIn g v t o → IsSized g (kept_in t o)
predicted-sized g v harts t o are is =
    let n = g.size in
    let k = is.of_pair.number in
    let from = begins g v t o is in
    let low : k ≤ (2 ^ 32 - 1 + n - 0) / n =
    subst (λ z. k ≤ (2 ^ 32 - 1 + n - z) / n) is.offset
    (observed-low g v harts t k are
    (line-observed g v t k is.offset (pair-observed g v t o is).lower)) in
    let base = at_place from.place (range_of o.line).base from.base
    (low_place n k from.place (layout-few n g.offset are.layout).1 from.positive low from.below) in
    elim is.of_pair.one [
      | inl shifted ↦
          let w = opened_shifted-is n v.tracking is.threshold t k o is.size shifted in
          let size : o.line.size ≡ size_of g o.kind = w.size ∙ ap (size_of g) (sym w.kind) in
          record {
            size = size;
            words = track-words o.line o.from t ∙ ap (λ m. m / 4) size;
            base = base;
          }
      | inr doubled ↦
          let w = opened_doubled-is n v.tracking is.threshold t k o is.size doubled in
          let size : o.line.size ≡ size_of g o.kind =
          ap (λ l. l.size) w.line ∙ ap (size_of g) (sym w.kind) in
          record {
            size = size;
            words = track-words o.line o.from t ∙ ap (λ m. m / 4) size;
            base = base;
          }
    ]

-- ---- the tracks one by one

kept-good : (g : Grid) (v : Levels) (harts : ℕ) (t : AccessList) (o : Opened)
    → MayKeep g v harts t → is_good_track (header_in_list g v harts t) (kept_in t o) ≡ true
kept-good g v harts t o are = track-good (header_in_list g v harts t) o.kind (range_of o.line)
    o.line o.from t refl are.all

due-started : (g : Grid) (v : Levels) (t : AccessList) (l : CountedLine) → 0 < v.tracking
    → Member l (due_in g v t) → is_some (due_track g v t l).start ≡ true
due-started g v t l some m =
    let line = grid_line g l.number in
    let s = due-start g v t l some m in
    let first : first_write_from (observed_at g v.tracking t l.number).from (is_inside line) t
    ≡ Some s.0 =
    ap (λ (o : Option ℕ). first_write_from (unwrap_or o 0) (is_inside line) t) s.1
    ∙ observed_start-first_write v.tracking (is_inside line) t s.0 s.1 in
    ap (λ (o : Option ℕ). is_some (track_since line t o).start) first

-- the due line at the place of its track
due-base : (g : Grid) (v : Levels) (t : AccessList) (front back : List TrackValue) (x : TrackValue)
    → map (due_track g v t) (due_in g v t) ≡ front ++ x ∷ back
    → option_map_or (λ l. is_base g l.number x) (slice_get (due_in g v t) (length front)) false
    ≡ true
due-base g v t front back x cut =
    let there : option_map (due_track g v t) (slice_get (due_in g v t) (length front)) ≡ Some x =
    sym (slice_get-map (due_track g v t) (due_in g v t) (length front))
    ∙ ap (λ (xs : List TrackValue). slice_get xs (length front)) cut ∙ cut-get front back x in
    elim (slice_cases (slice_get (due_in g v t) (length front))) [
      | inl none ↦ absurd (none-some x (sym (ap (option_map (due_track g v t)) none) ∙ there))
      | inr line ↦
          let same : due_track g v t line.0 ≡ x = same_Some (due_track g v t line.0) x
          (sym (ap (option_map (due_track g v t)) line.1) ∙ there) in
          ap (λ (o : Option CountedLine). option_map_or (λ l. is_base g l.number x) o false) line.1
          ∙ ap (λ (y : TrackValue). is_base g line.0.number y) (sym same)
          ∙ int_eq_equiv.refl (line_range g.size g.offset line.0.number).base
    ]

due-stands : (g : Grid) (v : Levels) (harts : ℕ) (t : AccessList) (front back : List TrackValue)
    (x : TrackValue) → MayKeep g v harts t → map (due_track g v t) (due_in g v t) ≡ front ++ x ∷ back
    → IsGoodTrack (header_in_list g v harts t) (counted_in g t) front x
due-stands g v harts t front back x are cut =
    let h = header_in_list g v harts t in
    let due = map (due_track g v t) (due_in g v t) in
    let some = tracking-some v are.levels in
    let w = Member-map (due_track g v t) (due_in g v t) x (cut-Member due front back x cut) in
    let kind : x.kind ≡ Observed = ap (λ (y : TrackValue). y.kind) w.2 in
    let base = due-base g v t front back x cut in
    let started : is_some x.start ≡ true =
    subst (λ (y : TrackValue). is_some y.start ≡ true) (sym w.2) (due-started g v t w.0 some w.1) in
    record {
      good = subst (λ (y : TrackValue). is_good_track h y ≡ true) (sym w.2)
          (kept-good g v harts t (observed_at g v.tracking t w.0.number) are);
      placed = and_from (list_all (λ y. is_placed_before y x) front)
          (is_kind_placed h (counted_in g t) front x x.kind)
          (all_pass (λ y. is_placed_before y x) front (λ y m.
          cut-rises is_placed_before due front back x y cut
          (due-rises g v t (layout-few g.size g.offset are.layout).0) m))
          (subst (λ (k : LineKind). is_kind_placed h (counted_in g t) front x k ≡ true) (sym kind)
          (and_from (option_map_or (λ l. is_base g l.number x)
          (slice_get (due_in g v t) (length front)) false) (is_some x.start) base started));
      sized = subst (IsSized g) (sym w.2) (due-sized g v harts t w.0 are w.1);
    }

predicted-stands : (g : Grid) (v : Levels) (harts : ℕ) (t : AccessList) (front back : List TrackValue)
    (x : TrackValue) → MayKeep g v harts t → predicted_tracks g v t ≡ front ++ x ∷ back
    → IsGoodTrack (header_in_list g v harts t) (counted_in g t)
    (map (due_track g v t) (due_in g v t) ++ front) x
predicted-stands g v harts t front back x are cut =
    let h = header_in_list g v harts t in
    let due = map (due_track g v t) (due_in g v t) in
    let before = due ++ front in
    let m = cut-Member (predicted_tracks g v t) front back x cut in
    let w = predicted-is g v t x m in
    let o = w.0 in
    let is = predicted-pair g v t o are.predictable w.1 in
    let here : predicted_tracks g v t ≡ front ++ kept_in t o ∷ back =
    cut ∙ ap (λ (y : TrackValue). front ++ y ∷ back) w.2 in
    record {
      good = subst (λ (y : TrackValue). is_good_track h y ≡ true) (sym w.2) (kept-good g v harts t o are);
      placed = and_from (list_all (λ y. is_placed_before y x) before)
          (is_kind_placed h (counted_in g t) before x x.kind)
          (all_pass (λ y. is_placed_before y x) before (λ y n.
          elim (Member-append due front y n) [
            | inl earlier ↦ due-before g v t are.predictable y x earlier m
            | inr later ↦ cut-rises is_placed_before (predicted_tracks g v t) front back x y cut
                (predicted-rises g v t are.layout are.predictable) later
          ]))
          (subst (λ (y : TrackValue). is_kind_placed h (counted_in g t) before y y.kind ≡ true) (sym w.2)
          (predicted-placed g v harts t front back o are.layout are.predictable
          (tracking-some v are.levels) is here));
      sized = subst (IsSized g) (sym w.2) (predicted-sized g v harts t o are is);
    }

tracks-stand : (g : Grid) (v : Levels) (harts : ℕ) (t : AccessList) → MayKeep g v harts t
    → AllInTurn (IsGoodTrack (header_in_list g v harts t) (counted_in g t)) []
    (map (due_track g v t) (due_in g v t) ++ predicted_tracks g v t)
tracks-stand g v harts t are =
    let h = header_in_list g v harts t in
    let due = map (due_track g v t) (due_in g v t) in
    in_turn-append (IsGoodTrack h (counted_in g t)) due (predicted_tracks g v t) []
    (in_turn-from_cuts (IsGoodTrack h (counted_in g t)) due []
    (λ front back x cut. due-stands g v harts t front back x are cut))
    (in_turn-from_cuts (IsGoodTrack h (counted_in g t)) (predicted_tracks g v t) due
    (λ front back x cut. predicted-stands g v harts t front back x are cut))

-- ---- the state

pub good-kept : (g : Grid) (v : Levels) (harts : ℕ) (t : AccessList) → MayKeep g v harts t
    → IsGood (sorted_state_in g v harts t)
good-kept g v harts t are =
    let h = header_in_list g v harts t in
    let s = sorted_state_in g v harts t in
    let due = map (due_track g v t) (due_in g v t) in
    let order = tracks-order g v t are.layout are.predictable (tracking-some v are.levels)
    (layout-few g.size g.offset are.layout).0 in
    record {
      header = header-good g v harts t are;
      few_lines = omega (arith, few_lines g t, are.short);
      few_tracks = omega (arith, few_tracks g v harts t, are.short);
      lines = lines-good h t are.layout refl are.all;
      tracks = subst (λ (xs : List TrackValue). AllInTurn (IsGoodTrack h (counted_in g t)) [] xs) order
          (tracks-stand g v harts t are);
      whole = le-leb (length (due_in g v t)) (length s.tracks)
          (let all : length (due ++ predicted_tracks g v t) ≡ length s.tracks = ap length order in
          omega (
            arith,
            all,
            length-append due (predicted_tracks g v t),
            length-map (due_in g v t) (due_track g v t),
          ));
    }

-- The state of a list is good.
pub the_state_of_a_list_is_good : (g : Grid) (v : Levels) (harts : ℕ) (t : AccessList)
    → IsTrue (is_layout g.size g.offset) → IsTrue (may_predict g v)
    → IsTrue (are_levels v.tracking v.prediction v.report) → IsTrue (is_from_to 1 256 harts)
    → AreOf harts t → length t ≤ 2 ^ 40 → IsGood (sorted_state_in g v harts t)
the_state_of_a_list_is_good g v harts t layout predictable levels few_harts all short =
    good-kept g v harts t (record {
      layout = layout;
      predictable = predictable;
      levels = levels;
      few_harts = few_harts;
      all = all;
      short = short;
    })

-- in order it is spelled as in any order
sorted-spelled : (g : Grid) (v : Levels) (harts : ℕ) (t : AccessList) → MayKeep g v harts t
    → spell_state (sorted_state_in g v harts t) ≡ state_of_list g v harts t
sorted-spelled g v harts t are =
    let all = map (kept_in t) (opened g v t) in
    spell_state-of_list g v harts t (counted_in g t) (in_order is_placed_before all) are.layout
    are.predictable (counted_in-counted g t)
    (IsPermutation-sym all (in_order is_placed_before all) (in_order-permutes is_placed_before all))

pub read-kept : (g : Grid) (v : Levels) (harts : ℕ) (t : AccessList) (more : List ℕ)
    → MayKeep g v harts t → read_state (state_of_list g v harts t ++ more)
    ≡ Ok (sorted_state_in g v harts t, length (state_of_list g v harts t))
read-kept g v harts t more are =
    let s = sorted_state_in g v harts t in
    let spelled = sorted-spelled g v harts t are in
    ap (λ (bytes : List ℕ). read_state (bytes ++ more)) (sym spelled)
    ∙ read_again s more (good-kept g v harts t are)
    ∙ ap (λ (bytes : List ℕ). Ok (s, length bytes)) spelled
