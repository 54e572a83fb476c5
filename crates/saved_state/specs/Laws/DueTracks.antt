-- The tracks of a list in order: first those of the lines that were written often enough, line by
-- line, and then the predicted ones.
use Rattle.std.proofs.Common.{◌≡◌, ℕ, ◌+◌, ◌*◌, ◌<◌, ◌≤◌, true, ◌&&◌, eqb, ltb, leb, pos, ◌-ℤ◌}
use Rattle.std.proofs.Common.{List, [], ◌++◌, map, sym, ap, ◌∙◌, subst, arith, inl, inr}
use Rattle.std.proofs.lemmas.Bool.{and_parts, eqb-true, le-leb, leb-true, ltb-true, or_left}
use Rattle.std.proofs.lemmas.Int.{ints}
use Rattle.std.proofs.lemmas.List.{map-append}
use Rattle.std.proofs.lemmas.List.Sorted.{IsPermutation-sym}
use Rattle.std.specs.Prelude.{filter, int_lt, is_some, nat_le, Option, Some, unwrap_or, IsTrue}
use Rattle.std.specs.List.{IsDistinct}
use Rattle.std.specs.Option.{option_map, option_map_or}
use Rattle.base.specs.Levels.{Levels}
use Rattle.base.specs.Lines.{Grid, is_layout}
use Rattle.sharing_rules.specs.AccessLists.{AccessList}
use Rattle.sharing_rules.specs.Lines.{grid_line, is_inside}
use Rattle.sharing_rules.specs.Listed.{in_order, may_predict, rank}
use Rattle.sharing_rules.specs.Members.{IsRising, Member, ties}
use Rattle.sharing_rules.specs.Observed.{observed_start, write_count}
use Rattle.sharing_rules.specs.Opened.{Opened, observed_from, observed_ones, opened}
use Rattle.sharing_rules.specs.Opened.{opened_observed, predicted_ones}
use Rattle.sharing_rules.specs.Predicted.{is_native_size}
use Rattle.sharing_rules.specs.Laws.Kinds.{Member-append, append-Member_left, append-Member_right}
use Rattle.sharing_rules.specs.Laws.Kinds.{member-opened_observed, observed_ones-member}
use Rattle.sharing_rules.specs.Laws.Kinds.{IsPredictedOf, opened_doubled-is, opened_shifted-is}
use Rattle.sharing_rules.specs.Laws.Kinds.{predicted_ones-member}
use Rattle.sharing_rules.specs.Laws.Lists.{Member-filter, Member-permutation, filter-Member}
use Rattle.sharing_rules.specs.Laws.Lists.{slice_cases}
use Rattle.sharing_rules.specs.Laws.OpenedObserved.{observed-some, some_is}
use Rattle.sharing_rules.specs.Laws.Orders.{in_order-from_members, in_order-permutes}
use Rattle.sharing_rules.specs.Laws.Orders.{in_order-rises}
use Rattle.sharing_rules.specs.Laws.Starts.{observed_start-is_some}
use Rattle.line_tracks.specs.TrackValue.{TrackValue}
use Rattle.line_tracks.specs.KeptIn.{kept_in}
use Rattle.line_tracks.specs.Placed.{is_placed_before}
use Rattle.line_tracks.specs.Laws.Placed.{is_placed_before-ranks, kept-apart}
use Rattle.saved_state.specs.Counted.{counted_line, has_lower_number}
use Rattle.saved_state.specs.Laws.Counted.{is_line as counted_is}
use Rattle.saved_state.specs.Laws.OfLists.{counted_in-counted}
use Rattle.saved_state.specs.Laws.Lists.{Member-map, distinct-right, map-Member, rising-append}
use Rattle.saved_state.specs.Laws.Lists.{rising-filter, rising-map}
use Rattle.saved_state.specs.OfLists.{counted_in, writes_of}
use Rattle.saved_state.specs.declared.state_parts.CountedLine.{CountedLine}

-- the lines of a list that were written often enough
abbrev pub due_in : Grid → Levels → AccessList → List CountedLine
due_in g v t = filter (λ l. nat_le v.tracking l.writes) (counted_in g t)

-- what opens of line k where it is observed, and what is kept of it
abbrev pub observed_at : Grid → ℕ → AccessList → ℕ → Opened
observed_at g T t k =
    observed_from (grid_line g k) (unwrap_or (observed_start T (is_inside (grid_line g k)) t) 0)

abbrev pub due_track : Grid → Levels → AccessList → CountedLine → TrackValue
due_track g v t l = kept_in t (observed_at g v.tracking t l.number)

-- the predicted lines of a list, and their tracks in order
abbrev pub predicted_in : Grid → Levels → AccessList → List Opened
predicted_in g v t =
    option_map_or (λ P. predicted_ones g.size v.tracking P t) v.prediction []

abbrev pub predicted_tracks : Grid → Levels → AccessList → List TrackValue
predicted_tracks g v t = in_order is_placed_before (map (kept_in t) (predicted_in g v t))

-- ---- due lines are observed, and the other way round

started-at : (g : Grid) (T : ℕ) (t : AccessList) (k s : ℕ)
    → observed_start T (is_inside (grid_line g k)) t ≡ Some s
    → observed_from (grid_line g k) s ≡ observed_at g T t k
started-at g T t k s is =
    ap (λ (o : Option ℕ). observed_from (grid_line g k) (unwrap_or o 0)) (sym is)

pub due-writes : (g : Grid) (v : Levels) (t : AccessList) (l : CountedLine)
    → Member l (due_in g v t) → (v.tracking ≤ writes_of g t l.number)
    × (l ≡ counted_line (writes_of g t) l.number)
due-writes g v t l m =
    let w = Member-filter (λ (x : CountedLine). nat_le v.tracking x.writes) (counted_in g t) l m in
    let is = (counted_in-counted g t).counted l w.0 in (
      omega (arith, leb-true v.tracking l.writes w.1, is.1),
      counted_is (writes_of g t) l is.1,
    )

pub due-start : (g : Grid) (v : Levels) (t : AccessList) (l : CountedLine) → 0 < v.tracking
    → Member l (due_in g v t)
    → (s : ℕ) × (observed_start v.tracking (is_inside (grid_line g l.number)) t ≡ Some s)
due-start g v t l some m =
    let inside = is_inside (grid_line g l.number) in
    some_is (observed_start v.tracking inside t)
    (observed_start-is_some v.tracking inside t some
    ∙ le-leb v.tracking (write_count inside t) (due-writes g v t l m).0)

pub start-due : (g : Grid) (v : Levels) (t : AccessList) (k : ℕ) → 0 < v.tracking
    → is_some (observed_start v.tracking (is_inside (grid_line g k)) t) ≡ true
    → Member (counted_line (writes_of g t) k) (due_in g v t)
start-due g v t k some there =
    let inside = is_inside (grid_line g k) in
    let enough : leb v.tracking (write_count inside t) ≡ true =
    sym (observed_start-is_some v.tracking inside t some) ∙ there in
    filter-Member (λ (x : CountedLine). nat_le v.tracking x.writes) (counted_in g t)
    (counted_line (writes_of g t) k)
    ((counted_in-counted g t).all k
    (omega (arith, some, leb-true v.tracking (write_count inside t) enough))) enough

due-opened : (g : Grid) (v : Levels) (t : AccessList) (l : CountedLine) → 0 < v.tracking
    → Member l (due_in g v t)
    → opened_observed g v.tracking t l.number ≡ Some (observed_at g v.tracking t l.number)
due-opened g v t l some m =
    let s = due-start g v t l some m in
    ap (option_map (observed_from (grid_line g l.number))) s.1
    ∙ ap Some (started-at g v.tracking t l.number s.0 s.1)

-- ---- all tracks in order

base_rises : (j k n o : ℕ) → j < k → 0 < n
    → int_lt (pos (j * n + o) -ℤ pos n) (pos (k * n + o) -ℤ pos n) ≡ true
base_rises j k n o less some = lower (j * n) (k * n) n o (times_up j k n less some)
  where
    times_up : (j k n : ℕ) → j < k → 0 < n → j * n < k * n
    times_up j k n less some = grind arith

    lower : (a b n o : ℕ) → a < b → int_lt (pos (a + o) -ℤ pos n) (pos (b + o) -ℤ pos n) ≡ true
    lower a b n o less = grind (arith, ints)

pub due-rises : (g : Grid) (v : Levels) (t : AccessList) → 0 < g.size
    → IsRising is_placed_before (map (due_track g v t) (due_in g v t))
due-rises g v t some =
    rising-map (due_track g v t) has_lower_number is_placed_before
    (λ x y less. base_rises x.number y.number g.size g.offset (ltb-true x.number y.number less)
    some)
    (due_in g v t)
    (rising-filter has_lower_number (λ l. nat_le v.tracking l.writes) (counted_in g t)
    (counted_in-counted g t).rising)

pub predicted-rises : (g : Grid) (v : Levels) (t : AccessList)
    → is_layout g.size g.offset ≡ true → IsTrue (may_predict g v)
    → IsRising is_placed_before (predicted_tracks g v t)
predicted-rises g v t allowed native =
    in_order-rises is_placed_before is_placed_before-ranks (map (kept_in t) (predicted_in g v t))
    (distinct-right (ties is_placed_before) (map (kept_in t) (observed_ones g v.tracking t))
    (map (kept_in t) (predicted_in g v t))
    (subst (λ (xs : List TrackValue). IsDistinct (ties is_placed_before) xs)
    (map-append (kept_in t) (observed_ones g v.tracking t) (predicted_in g v t))
    (kept-apart g v t allowed native)))

-- a predicted track is what is kept of a predicted line
pub predicted-is : (g : Grid) (v : Levels) (t : AccessList) (x : TrackValue)
    → Member x (predicted_tracks g v t)
    → (o : Opened) × Member o (predicted_in g v t) × (x ≡ kept_in t o)
predicted-is g v t x m =
    let all = map (kept_in t) (predicted_in g v t) in
    Member-map (kept_in t) (predicted_in g v t) x
    (Member-permutation all (in_order is_placed_before all) x
    (in_order-permutes is_placed_before all) m)

is-predicted : (g : Grid) (v : Levels) (t : AccessList) (o : Opened)
    → Member o (predicted_in g v t) → Member (kept_in t o) (predicted_tracks g v t)
is-predicted g v t o m =
    let all = map (kept_in t) (predicted_in g v t) in
    Member-permutation (in_order is_placed_before all) all (kept_in t o)
    (IsPermutation-sym all (in_order is_placed_before all) (in_order-permutes is_placed_before all))
    (map-Member (kept_in t) (predicted_in g v t) o m)

-- a predicted line of a list: what is needed for it, and the number of its pair
pub record IsPredictedIn (g : Grid) (v : Levels) (t : AccessList) (o : Opened) : Type 0 where
  pub threshold : ℕ
  pub predicts : v.prediction ≡ Some threshold
  pub size : is_native_size g.size ≡ true
  pub offset : g.offset ≡ 0
  pub of_pair : IsPredictedOf g.size v.tracking threshold t o

pub predicted-pair : (g : Grid) (v : Levels) (t : AccessList) (o : Opened)
    → IsTrue (may_predict g v) → Member o (predicted_in g v t) → IsPredictedIn g v t o
predicted-pair g v t o native m =
    elim (slice_cases v.prediction) [
      | inl none ↦
          absurd (subst (λ (p : Option ℕ). Member o
          (option_map_or (λ P. predicted_ones g.size v.tracking P t) p [])) none m)
      | inr there ↦
          let both = and_parts (is_native_size g.size) (eqb g.offset 0)
          (subst (λ (p : Option ℕ). option_map_or
          (λ P. is_native_size g.size && eqb g.offset 0) p true ≡ true) there.1 native) in
          record {
            threshold = there.0;
            predicts = there.1;
            size = both.0;
            offset = eqb-true g.offset 0 both.1;
            of_pair = predicted_ones-member g.size v.tracking there.0 t o
                (subst (λ (p : Option ℕ). Member o
                (option_map_or (λ P. predicted_ones g.size v.tracking P t) p [])) there.1 m);
          }
    ]

pub predicted-rank : (g : Grid) (v : Levels) (t : AccessList) (o : Opened) → IsPredictedIn g v t o
    → ltb 0 (rank o.kind) ≡ true
predicted-rank g v t o is =
    let k = is.of_pair.number in
    elim is.of_pair.one [
      | inl shifted ↦ ap (λ z. ltb 0 (rank z))
          (opened_shifted-is g.size v.tracking is.threshold t k o is.size shifted).kind
      | inr doubled ↦ ap (λ z. ltb 0 (rank z))
          (opened_doubled-is g.size v.tracking is.threshold t k o is.size doubled).kind
    ]

-- a due track comes before each predicted one
pub due-before : (g : Grid) (v : Levels) (t : AccessList) → IsTrue (may_predict g v) → (x y : TrackValue)
    → Member x (map (due_track g v t) (due_in g v t)) → Member y (predicted_tracks g v t)
    → is_placed_before x y ≡ true
due-before g v t native x y m n =
    let a = Member-map (due_track g v t) (due_in g v t) x m in
    let b = predicted-is g v t y n in
    let higher = predicted-rank g v t b.0 (predicted-pair g v t b.0 native b.1) in
    subst (λ (z : TrackValue). is_placed_before z y ≡ true) (sym a.2)
    (subst (λ (z : TrackValue). is_placed_before (due_track g v t a.0) z ≡ true) (sym b.2)
    (or_left (ltb 0 (rank b.0.kind)) _ higher))

tracks-into : (g : Grid) (v : Levels) (t : AccessList) → 0 < v.tracking → (x : TrackValue)
    → Member x (map (due_track g v t) (due_in g v t) ++ predicted_tracks g v t)
    → Member x (map (kept_in t) (opened g v t))
tracks-into g v t some x m =
    elim (Member-append (map (due_track g v t) (due_in g v t)) (predicted_tracks g v t) x m) [
      | inl due ↦
          let w = Member-map (due_track g v t) (due_in g v t) x due in
          subst (λ (z : TrackValue). Member z (map (kept_in t) (opened g v t))) (sym w.2)
          (map-Member (kept_in t) (opened g v t) (observed_at g v.tracking t w.0.number)
          (member-opened_observed g v t w.0.number (observed_at g v.tracking t w.0.number)
          (due-opened g v t w.0 some w.1)))
      | inr predicted ↦
          let w = predicted-is g v t x predicted in
          subst (λ (z : TrackValue). Member z (map (kept_in t) (opened g v t))) (sym w.2)
          (map-Member (kept_in t) (opened g v t) w.0
          (append-Member_right (observed_ones g v.tracking t) (predicted_in g v t) w.0 w.1))
    ]

tracks-back : (g : Grid) (v : Levels) (t : AccessList) → 0 < v.tracking → (x : TrackValue)
    → Member x (map (kept_in t) (opened g v t))
    → Member x (map (due_track g v t) (due_in g v t) ++ predicted_tracks g v t)
tracks-back g v t some x m =
    let due = map (due_track g v t) (due_in g v t) in
    let w = Member-map (kept_in t) (opened g v t) x m in
    subst (λ (z : TrackValue). Member z (due ++ predicted_tracks g v t)) (sym w.2)
    (elim (Member-append (observed_ones g v.tracking t) (predicted_in g v t) w.0 w.1) [
      | inl observed ↦
          let k = observed_ones-member g v.tracking t w.0 observed in
          let s = observed-some g v.tracking t k.0 w.0 k.1 in
          let is : w.0 ≡ observed_at g v.tracking t k.0 =
          s.2 ∙ started-at g v.tracking t k.0 s.0 s.1 in
          append-Member_left due (predicted_tracks g v t) (kept_in t w.0)
          (subst (λ (o : Opened). Member (kept_in t o) due) (sym is)
          (map-Member (due_track g v t) (due_in g v t) (counted_line (writes_of g t) k.0)
          (start-due g v t k.0 some (ap is_some s.1))))
      | inr predicted ↦ append-Member_right due (predicted_tracks g v t) (kept_in t w.0)
          (is-predicted g v t w.0 predicted)
    ])

-- the tracks of a list in order
pub tracks-order : (g : Grid) (v : Levels) (t : AccessList) → is_layout g.size g.offset ≡ true
    → IsTrue (may_predict g v) → 0 < v.tracking → 0 < g.size
    → map (due_track g v t) (due_in g v t) ++ predicted_tracks g v t
    ≡ in_order is_placed_before (map (kept_in t) (opened g v t))
tracks-order g v t allowed native some sized =
    let due = map (due_track g v t) (due_in g v t) in
    in_order-from_members is_placed_before is_placed_before-ranks (map (kept_in t) (opened g v t))
    (due ++ predicted_tracks g v t) (kept-apart g v t allowed native)
    (rising-append is_placed_before due (predicted_tracks g v t) (due-rises g v t sized)
    (predicted-rises g v t allowed native) (due-before g v t native))
    (tracks-into g v t some) (tracks-back g v t some)
