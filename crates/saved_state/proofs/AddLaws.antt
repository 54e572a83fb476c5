-- What a detector on its way may be given next, and what was read then.
use Rattle.std.proofs.Common.{◌≡◌, ℕ, zero, suc, ◌+◌, ◌-◌, ◌*◌, ◌/◌, ◌%◌, ◌<◌, ◌≤◌, ◌^◌, Bool, true}
use Rattle.std.proofs.Common.{false, eqb, List, [], ◌∷◌, ◌++◌, map, pos, refl, sym, ap, ◌∙◌, subst}
use Rattle.std.proofs.Common.{arith, inl, inr, length, drop, ◌&&◌}
use Rattle.std.proofs.lemmas.Bool.{and_parts, cases_Bool, cases_lt, eqb-true, false≢true, ltb-true}
use Rattle.std.proofs.lemmas.Bool.{le-leb, leb-true}
use Rattle.std.proofs.lemmas.Bool.Decides.{nat_tests}
use Rattle.std.proofs.lemmas.List.Elements.{filter-append}
use Rattle.std.proofs.lemmas.List.Folds.{list_all-append}
use Rattle.std.proofs.lemmas.List.{length-map, map-append}
use Rattle.std.proofs.lemmas.Option.{none-some, same_Some, slice_get-map}
use Rattle.std.proofs.Math.Nat.{div-mul-le_self}
use Rattle.std.specs.Prelude.{if◌then◌else◌, int_le, is_some, nat_le, nat_lt, not, None, Option}
use Rattle.std.specs.Prelude.{Some, option_and_then, option_map, slice_get}
use Rattle.std.specs.List.{list_all, list_any}
use Rattle.std.specs.Option.{option_map_or}
use Rattle.base.specs.Levels.{is_from_to}
use Rattle.base.specs.Lines.{Grid, is_layout, is_line_size, line_number}
use Rattle.sharing_rules.specs.Listed.{rank}
use Rattle.sharing_rules.specs.Members.{IsRising, Member}
use Rattle.sharing_rules.specs.Laws.Orders.{lt_transitive}
use Rattle.sharing_rules.specs.Laws.Lists.{Member-filter, all_at, slice_cases}
use Rattle.sharing_rules.specs.Predicted.{is_native_size}
use Rattle.sharing_rules.specs.declared.line_kind.LineKind.{LineKind}
use Rattle.sharing_rules.specs.declared.line_kind.LineKind.TheVariants.{Observed, Shifted, Doubled}
use Rattle.line_tracks.specs.TrackValue.{IsBlank, IsInTime, TrackValue}
use Rattle.line_tracks.specs.Placed.{is_placed_before}
use Rattle.line_tracks.specs.Laws.Placed.{is_placed_before-ranks}
use Rattle.saved_state.specs.declared.state_parts.CountedLine.{CountedLine}
use Rattle.saved_state.specs.Counted.{counted_line}
use Rattle.saved_state.specs.Laws.Counted.{rising-push}
use Rattle.saved_state.specs.Laws.Lengths.{length-line, length-track}
use Rattle.saved_state.specs.Laws.Reading.{each_passes, line_is}
use Rattle.saved_state.specs.Laws.Parts.{track_in-alone}
use Rattle.saved_state.specs.Reading.{read_units}
use Rattle.saved_state.specs.Spelling.{Header, spell_line, spell_track}
use Rattle.saved_state.specs.Units.{IsSized, both_due, due, is_base, is_good_line, is_kind_placed}
use Rattle.saved_state.specs.Units.{is_line, is_multiple, is_placed, is_predicted, is_shifted_at}
use Rattle.saved_state.specs.Units.{size_of, line_in, track_alone, track_in}
use Rattle.detector.specs.Adding.{CanAddLine, CanAddTrack, with_track, with_written}
use Rattle.detector.specs.Counts.{count_at}
use Rattle.detector.specs.Index.{IsShaped}
use Rattle.detector.specs.Named.{line_of_base, track_named}
use Rattle.detector.specs.Watch.{Watch}
use Rattle.saved_state.specs.Ready.{AreShaped, IsReady, due_numbers, lines_at, tracks_at}
use Rattle.saved_state.specs.Saving.{counted_lines}
use Rattle.saved_state.proofs.LineLaws.{any_due, counted-insert, counts-insert, fresh_above}
use Rattle.saved_state.proofs.LineLaws.{some_due}
use Rattle.saved_state.proofs.PlaceLaws.{fresh_doubled, fresh_own, fresh_shifted, own_line}
use Rattle.saved_state.proofs.PlaceLaws.{shaped_doubled, shaped_own, shaped_shifted}
use Rattle.saved_state.proofs.LoopLaws.{next_unit}
use Rattle.saved_state.proofs.SaveLaws.{counted_lines-counted}
use Rattle.saved_state.specs.Laws.Again.{times_up, in_range}
use Rattle.sharing_rules.specs.Lines.{number_of_base}

-- ---- lines

size_from_4 : (n : ℕ) → is_line_size n ≡ true → 4 ≤ n
size_from_4 n h = grind (arith, nat_tests)

few_lines : (n o k : ℕ) → 4 ≤ n → k ≤ (2 ^ 32 - 1 + n - o) / n → k ≤ 2 ^ 30
few_lines n o k some low = elim (cases_lt (2 ^ 30) k) [
  | inl many ↦
      let up = times_up (2 ^ 30 + 1) ((2 ^ 32 - 1 + n - o) / n) n (2 ^ 32 - 1 + n - o)
      (omega (arith, many, low)) (div-mul-le_self (2 ^ 32 - 1 + n - o) n) in
      absurd (omega (arith, up, some))
  | inr few ↦ few
]

record IsGrid (g : Grid) : Type 0 where
  pub small : g.offset < g.size
  pub some : 4 ≤ g.size

grid_of : (g : Grid) → is_layout g.size g.offset ≡ true → IsGrid g
grid_of g h =
    let parts = and_parts (is_line_size g.size) (nat_lt g.offset g.size)
    (and_parts (is_line_size g.size && nat_lt g.offset g.size) (eqb (g.offset % 4) 0) h).0 in
    record { small = ltb-true g.offset g.size parts.1; some = size_from_4 g.size parts.0 }

pub line_small : (g : Grid) (k : ℕ) → is_layout g.size g.offset ≡ true → is_line g k ≡ true
    → k ≤ 2 ^ 30
line_small g k layout h =
    let parts = and_parts (nat_lt 0 (k * g.size + g.offset))
    (nat_le k (line_number g.size g.offset (2 ^ 32 - 1))) h in
    few_lines g.size g.offset k (grid_of g layout).some
    (leb-true k (line_number g.size g.offset (2 ^ 32 - 1)) parts.1)

record IsGoodLine (h : Header) (lines : List CountedLine) (l : CountedLine) : Type 0 where
  pub line : is_line h.grid l.number ≡ true
  pub below : list_all (λ x. nat_lt x.number l.number) lines ≡ true
  pub some : 1 ≤ l.writes
  pub few : l.writes ≤ h.position

good_line : (h : Header) (lines : List CountedLine) (l : CountedLine)
    → is_good_line h lines l ≡ true → IsGoodLine h lines l
good_line h lines l good =
    let outer = and_parts _ (is_from_to 1 h.position l.writes) good in
    let inner = and_parts (is_line h.grid l.number) (list_all (λ x. nat_lt x.number l.number) lines)
    outer.0 in
    let writes = in_range 1 h.position l.writes outer.1 in
    record { line = inner.0; below = inner.1; some = writes.0; few = writes.1 }

same_layout : (h : Header) (w : Watch) → IsReady h w → is_layout h.grid.size h.grid.offset ≡ true
same_layout h w ready = subst (λ (g : Grid). is_layout g.size g.offset ≡ true) ready.grid
    ready.layout

pub can_add_line : (h : Header) (w : Watch) (l : CountedLine) → IsReady h w
    → is_good_line h (counted_lines w.writes) l ≡ true → CanAddLine w l.number l.writes
can_add_line h w l ready good =
    let line = good_line h (counted_lines w.writes) l good in
    record {
      small = line_small h.grid l.number (same_layout h w ready) line.line;
      some = line.some;
      few = omega (arith, line.few, ready.position);
      fresh = fresh_above w.writes l.number line.below ready.counts;
    }

both : (a b : Bool) → a ≡ true → b ≡ true → (a && (b && true)) ≡ true
both true true e f = refl
both true false e f = absurd (false≢true f)
both false b e f = absurd (false≢true e)

pub ready_line : (h : Header) (w : Watch) (l : CountedLine) → IsReady h w
    → is_good_line h (counted_lines w.writes) l ≡ true
    → IsReady h (with_written w l.number l.writes)
ready_line h w l ready good =
    let line = good_line h (counted_lines w.writes) l good in
    record {
      grid = ready.grid;
      tracking = ready.tracking;
      prediction = ready.prediction;
      position = ready.position;
      layout = ready.layout;
      native = ready.native;
      some = ready.some;
      rising = ready.rising;
      counts = counts-insert w.writes l line.below line.some ready.counts;
      lines = ap (list_all (λ z. is_line h.grid z.number))
          (counted-insert w.writes l line.below line.some)
          ∙ list_all-append (λ (z : CountedLine). is_line h.grid z.number) (counted_lines w.writes)
          (l ∷ [])
          ∙ both (list_all (λ z. is_line h.grid z.number) (counted_lines w.writes))
          (is_line h.grid l.number) ready.lines line.line;
    }

pub due_line : (h : Header) (w : Watch) (l : CountedLine) → IsReady h w
    → is_good_line h (counted_lines w.writes) l ≡ true
    → due_numbers h (with_written w l.number l.writes)
    ≡ due_numbers h w ++ (if nat_le h.tracking l.writes then l.number ∷ [] else [])
due_line h w l ready good =
    let line = good_line h (counted_lines w.writes) l good in
    let often : CountedLine → Bool = λ z. nat_le h.tracking z.writes in
    let number : CountedLine → ℕ = λ z. z.number in
    ap (λ ls. map number (due h ls)) (counted-insert w.writes l line.below line.some)
    ∙ ap (map number) (filter-append often (counted_lines w.writes) (l ∷ []))
    ∙ map-append number (due h (counted_lines w.writes)) (due h (l ∷ []))
    ∙ ap (λ ns. due_numbers h w ++ ns) (one l)
  where
    one : (z : CountedLine) → map (λ (y : CountedLine). y.number) (due h (z ∷ []))
        ≡ (if nat_le h.tracking z.writes then z.number ∷ [] else [])
    one z = elim (cases_Bool (nat_le h.tracking z.writes)) [
      | inl enough ↦ rw enough refl
      | inr few ↦ rw few refl
    ]

-- a line that is read is good, and comes behind the others
pub good_of : (h : Header) (w : Watch) (l : CountedLine) (bytes : List ℕ)
    → line_in h (counted_lines w.writes) bytes ≡ Some l
    → is_good_line h (counted_lines w.writes) l ≡ true
good_of h w l bytes is = (line_is h (counted_lines w.writes) bytes l is).is_good

pub added_behind : (h : Header) (w : Watch) (l : CountedLine) (bytes : List ℕ)
    → line_in h (counted_lines w.writes) bytes ≡ Some l
    → counted_lines (with_written w l.number l.writes).writes ≡ counted_lines w.writes ++ l ∷ []
added_behind h w l bytes is =
    let line = good_line h (counted_lines w.writes) l (good_of h w l bytes is) in
    counted-insert w.writes l line.below line.some

-- a line more was read
pub next_line : (h : Header) (w : Watch) (l : CountedLine) (place : ℕ) (bytes : List ℕ) (more : ℕ)
    → line_in h (counted_lines w.writes) bytes ≡ Some l
    → read_units (line_in h) (spell_line h.grid) (suc more) (lines_at w place bytes)
    ≡ read_units (line_in h) (spell_line h.grid) more
    (lines_at (with_written w l.number l.writes) (place + 16) (drop 16 bytes))
next_line h w l place bytes more is =
    let unit = line_is h (counted_lines w.writes) bytes l is in
    let line = good_line h (counted_lines w.writes) l unit.is_good in
    next_unit (line_in h) (spell_line h.grid) (lines_at w place bytes) l 16 more is
    (length-line h.grid l)
    ∙ ap (λ (ls : List CountedLine). read_units (line_in h) (spell_line h.grid) more (record {
      read = ls;
      place = place + 16;
      left = drop 16 bytes;
    })) (sym (counted-insert w.writes l line.below line.some))

member_at : {X : Type 0} (xs : List X) (i : ℕ) (x : X) → slice_get xs i ≡ Some x → Member x xs
member_at [] i x at = absurd (none-some x at)
member_at (y ∷ ys) zero x at = inl (sym (same_Some y x at))
member_at (y ∷ ys) (suc i) x at = inr (member_at ys i x at)

-- a line past all numbers was never written
pub none_past : (h : Header) (w : Watch) (k : ℕ) → IsReady h w → 2 ^ 30 < k
    → count_at w.writes k ≡ 0
none_past h w k ready past =
    let c = counted_lines-counted w.writes in
    elim (cases_lt 0 (count_at w.writes k)) [
      | inl some ↦
          let line = each_passes (λ (z : CountedLine). is_line h.grid z.number)
          (counted_lines w.writes) ready.lines (counted_line (count_at w.writes) k)
          (c.all k some) in
          absurd (let small = line_small h.grid k (same_layout h w ready) line in omega arith)
      | inr none ↦ omega (arith, none)
    ]

pub never_due : (h : Header) (w : Watch) (k : ℕ) → IsReady h w → 2 ^ 30 < k
    → nat_le h.tracking (count_at w.writes k) ≡ false
never_due h w k ready past = under h.tracking (count_at w.writes k) ready.some
    (none_past h w k ready past)
  where
    under : (T n : ℕ) → 1 ≤ T → n ≡ 0 → nat_le T n ≡ false
    under T n some is = grind (arith, nat_tests)

-- ---- tracks

-- behind the last is behind all
pub behind_last : (x : TrackValue) (tracks : List TrackValue) (y : TrackValue)
    → IsRising is_placed_before tracks → Some y ≡ slice_get tracks (length tracks - 1)
    → is_placed_before y x ≡ list_all (λ z. is_placed_before z x) tracks
behind_last x [] y rising is = absurd (none-some y (sym is))
behind_last x (z ∷ []) y rising is =
    ap (λ v. is_placed_before v x) (same_Some y z is) ∙ sym (alone (is_placed_before z x))
  where
    alone : (b : Bool) → (b && true) ≡ b
    alone true = refl
    alone false = refl
behind_last x (z ∷ v ∷ tracks) y rising is =
    let one : length (z ∷ v ∷ tracks) - 1 ≡ suc (length (v ∷ tracks) - 1) = omega arith in
    let rest = behind_last x (v ∷ tracks) y rising.1
    (is ∙ ap (slice_get (z ∷ v ∷ tracks)) one) in
    let last = member_at (v ∷ tracks) (length (v ∷ tracks) - 1) y
    (sym (is ∙ ap (slice_get (z ∷ v ∷ tracks)) one)) in
    let before = all_at (λ u. is_placed_before z u ≡ true) (v ∷ tracks) y rising.0 last in
    rest ∙ joined (is_placed_before z x) (list_all (λ u. is_placed_before u x) (v ∷ tracks))
    (λ all. lt_transitive is_placed_before is_placed_before-ranks z y x before (rest ∙ all))
  where
    joined : (a b : Bool) → (b ≡ true → a ≡ true) → b ≡ (a && b)
    joined true b law = refl
    joined false true law = sym (law refl)
    joined false false law = refl

-- whether both lines of a pair are due
pub pair_due : (h : Header) (w : Watch) (k : ℕ) → IsReady h w
    → both_due h (counted_lines w.writes) k
    ≡ (nat_le h.tracking (count_at w.writes k) && nat_le h.tracking (count_at w.writes (k + 1)))
pair_due h w k ready = λ i. any_due h w.writes k ready.some i
    && any_due h w.writes (k + 1) ready.some i

-- the due line of a number
pub due_at : (h : Header) (w : Watch) (i n : ℕ) → slice_get (due_numbers h w) i ≡ Some n
    → (l : CountedLine) × (slice_get (due h (counted_lines w.writes)) i ≡ Some l) × (l.number ≡ n)
due_at h w i n is = elim (slice_cases (slice_get (due h (counted_lines w.writes)) i)) [
  | inl none ↦ absurd (none-some n (sym (ap (option_map (λ (l : CountedLine). l.number)) none)
      ∙ sym (slice_get-map (λ (l : CountedLine). l.number) (due h (counted_lines w.writes)) i)
      ∙ is))
  | inr there ↦ (
    there.0,
    there.1,
    same_Some there.0.number n
        (sym (ap (option_map (λ (l : CountedLine). l.number)) there.1)
        ∙ sym (slice_get-map (λ (l : CountedLine). l.number) (due h (counted_lines w.writes)) i)
        ∙ is),
  )
]

pub no_due_at : (h : Header) (w : Watch) (i : ℕ) → slice_get (due_numbers h w) i ≡ None
    → slice_get (due h (counted_lines w.writes)) i ≡ None
no_due_at h w i is = elim (slice_cases (slice_get (due h (counted_lines w.writes)) i)) [
  | inl none ↦ none
  | inr there ↦ absurd (none-some there.0.number (sym is
      ∙ slice_get-map (λ (l : CountedLine). l.number) (due h (counted_lines w.writes)) i
      ∙ ap (option_map (λ (l : CountedLine). l.number)) there.1))
]

pub due_small : (h : Header) (w : Watch) (l : CountedLine) (i : ℕ) → IsReady h w
    → slice_get (due h (counted_lines w.writes)) i ≡ Some l → l.number ≤ 2 ^ 30
due_small h w l i ready is =
    let there = Member-filter (λ (z : CountedLine). nat_le h.tracking z.writes)
    (counted_lines w.writes) l (member_at (due h (counted_lines w.writes)) i l is) in
    line_small h.grid l.number (same_layout h w ready)
    (each_passes (λ (z : CountedLine). is_line h.grid z.number) (counted_lines w.writes) ready.lines
    l there.0)

-- the own track of the next due line
pub own_placed : (h : Header) (w : Watch) (x : TrackValue) (n : ℕ)
    → slice_get (due_numbers h w) (length w.tracks) ≡ Some n
    → is_kind_placed h (counted_lines w.writes) w.tracks x Observed
    ≡ (is_base h.grid n x && is_some x.start)
own_placed h w x n is =
    let d = due_at h w (length w.tracks) n is in
    ap (λ o. option_map_or (λ (l : CountedLine). is_base h.grid l.number x) o false
    && is_some x.start) d.1
    ∙ ap (λ k. is_base h.grid k x && is_some x.start) d.2

pub no_own : (h : Header) (w : Watch) (x : TrackValue)
    → slice_get (due_numbers h w) (length w.tracks) ≡ None
    → is_kind_placed h (counted_lines w.writes) w.tracks x Observed ≡ false
no_own h w x is = ap (λ o. option_map_or (λ (l : CountedLine). is_base h.grid l.number x) o false
    && is_some x.start) (no_due_at h w (length w.tracks) is)

pub own_small : (h : Header) (w : Watch) (n i : ℕ) → IsReady h w
    → slice_get (due_numbers h w) i ≡ Some n → n ≤ 2 ^ 30
own_small h w n i ready is =
    let d = due_at h w i n is in
    subst (λ k. k ≤ 2 ^ 30) d.2 (due_small h w d.0 i ready d.1)

-- a predicted track, but for its lines
pub predicted_is : (h : Header) (w : Watch) (x : TrackValue) → IsReady h w → is_some h.prediction ≡ true
    → length (due_numbers h w) ≤ length w.tracks → int_le (pos 0) x.range.base ≡ true
    → is_predicted h (counted_lines w.writes) w.tracks x
    ≡ (nat_le h.tracking (count_at w.writes (number_of_base h.grid x.range.base))
    && nat_le h.tracking (count_at w.writes (number_of_base h.grid x.range.base + 1)))
predicted_is h w x ready predicts few high =
    let lines = counted_lines w.writes in
    let k = number_of_base h.grid x.range.base in
    let all : nat_le (length (due h lines)) (length w.tracks) ≡ true =
    le-leb (length (due h lines)) (length w.tracks)
    (omega (arith, few, length-map (due h lines) (λ (l : CountedLine). l.number))) in
    ap (λ b. b && nat_le (length (due h lines)) (length w.tracks) && int_le (pos 0) x.range.base
    && both_due h lines k) predicts
    ∙ ap (λ b. true && b && int_le (pos 0) x.range.base && both_due h lines k) all
    ∙ ap (λ b. true && true && b && both_due h lines k) high
    ∙ pair_due h w k ready

-- the fields of a rule on predicted tracks
record IsPredicted (h : Header) (w : Watch) (x : TrackValue) : Type 0 where
  pub predicts : is_some h.prediction ≡ true
  pub high : int_le (pos 0) x.range.base ≡ true
  pub due : both_due h (counted_lines w.writes) (number_of_base h.grid x.range.base) ≡ true

predicted_by : (h : Header) (w : Watch) (x : TrackValue)
    → is_predicted h (counted_lines w.writes) w.tracks x ≡ true → IsPredicted h w x
predicted_by h w x good =
    let lines = counted_lines w.writes in
    let outer = and_parts _ (both_due h lines (number_of_base h.grid x.range.base)) good in
    let middle = and_parts _ (int_le (pos 0) x.range.base) outer.0 in
    let inner = and_parts (is_some h.prediction) (nat_le (length (due h lines)) (length w.tracks))
    middle.0 in
    record { predicts = inner.0; high = middle.1; due = outer.1 }

-- where lines are predicted the offset is 0
native_offset : (h : Header) (w : Watch) → IsReady h w → is_some h.prediction ≡ true
    → h.grid.offset ≡ 0
native_offset h w ready predicts = elim (slice_cases h.prediction) [
  | inl none ↦ absurd (false≢true (sym (ap is_some none) ∙ predicts))
  | inr there ↦
      let is : w.levels.prediction ≡ Some there.0 = ready.prediction ∙ there.1 in
      let native : option_map_or (λ P. is_native_size w.grid.size && eqb w.grid.offset 0)
      w.levels.prediction true ≡ true = ready.native in
      let both : (is_native_size w.grid.size && eqb w.grid.offset 0) ≡ true =
      subst (λ (o : Option ℕ). option_map_or (λ P. is_native_size w.grid.size
      && eqb w.grid.offset 0) o true ≡ true) is native in
      ap (λ (g : Grid). g.offset) (sym ready.grid)
      ∙ eqb-true w.grid.offset 0 (and_parts (is_native_size w.grid.size) (eqb w.grid.offset 0)
      both).1
]

-- the lower line of a predicted track was written
lower_written : (h : Header) (w : Watch) (x : TrackValue) → IsReady h w → IsPredicted h w x
    → 0 < count_at w.writes (number_of_base h.grid x.range.base)
lower_written h w x ready predicted =
    let k = number_of_base h.grid x.range.base in
    let lower = (and_parts (list_any (λ l. eqb l.number k) (due h (counted_lines w.writes))) _
    predicted.due).0 in
    some_due h.tracking (count_at w.writes k) ready.some
    (sym (any_due h w.writes k ready.some) ∙ lower)

-- what is asked of a track under the header's own layout
record CanStand (h : Header) (w : Watch) (x : TrackValue) : Type 0 where
  pub fresh : track_named h.grid x.kind (line_of_base h.grid x.range) w.tracks ≡ None
  pub shaped : IsShaped h.grid (line_of_base h.grid x.range) x.kind x.range
  pub written : 0 < count_at w.writes (line_of_base h.grid x.range)
  pub due : x.kind ≡ Observed → h.tracking ≤ count_at w.writes (line_of_base h.grid x.range)

stands_own : (h : Header) (w : Watch) (x : TrackValue) → IsReady h w → AreShaped h.grid w.tracks
    → IsSized h.grid x → x.kind ≡ Observed
    → list_all (λ y. is_placed_before y x) w.tracks ≡ true
    → is_kind_placed h (counted_lines w.writes) w.tracks x Observed ≡ true → CanStand h w x
stands_own h w x ready shaped sized of_kind behind placed =
    let g = h.grid in
    let lines = counted_lines w.writes in
    let parts = and_parts (option_map_or (λ l. is_base g l.number x)
    (slice_get (due h lines) (length w.tracks)) false) (is_some x.start) placed in
    let grid = grid_of g (same_layout h w ready) in
    elim (slice_cases (slice_get (due h lines) (length w.tracks))) [
      | inl none ↦ absurd (false≢true (sym (ap (λ o. option_map_or (λ (l : CountedLine).
          is_base g l.number x) o false) none) ∙ parts.0))
      | inr there ↦
          let l = there.0 in
          let base : is_base g l.number x ≡ true =
          subst (λ o. option_map_or (λ (z : CountedLine). is_base g z.number x) o false ≡ true)
          there.1 parts.0 in
          let in_due = Member-filter (λ (z : CountedLine). nat_le h.tracking z.writes) lines l
          (member_at (due h lines) (length w.tracks) l there.1) in
          let count = ((counted_lines-counted w.writes).counted l in_due.0).1 in
          let line = own_line g l.number x (omega (arith, grid.some)) base in
          let size : x.range.size ≡ g.size = sized.size ∙ ap (size_of g) of_kind in
          let shape = shaped_own g l.number x grid.small (each_passes
          (λ (z : CountedLine). is_line g z.number) lines ready.lines l in_due.0) base size in
          let often = leb-true h.tracking l.writes in_due.1 in
          let at : count_at w.writes (line_of_base g x.range) ≡ l.writes =
          ap (count_at w.writes) line ∙ sym count in
          record {
            fresh = subst (λ c. track_named g c (line_of_base g x.range) w.tracks ≡ None)
                (sym of_kind) (subst (λ k. track_named g Observed k w.tracks ≡ None) (sym line)
                (fresh_own g l.number x w.tracks of_kind shape shaped behind));
            shaped = subst (λ c. IsShaped g (line_of_base g x.range) c x.range) (sym of_kind)
                (subst (λ k. IsShaped g k Observed x.range) (sym line) shape);
            written = omega (arith, at, often, ready.some);
            due = λ own. omega (arith, at, often);
          }
    ]

stands_shifted : (h : Header) (w : Watch) (x : TrackValue) → IsReady h w → IsSized h.grid x
    → x.kind ≡ Shifted → is_kind_placed h (counted_lines w.writes) w.tracks x Shifted ≡ true
    → CanStand h w x
stands_shifted h w x ready sized of_kind placed =
    let g = h.grid in
    let k = number_of_base g x.range.base in
    let any : Bool = list_any (is_shifted_at g k) w.tracks in
    let outer = and_parts _ (not any) placed in
    let middle = and_parts _ (not (is_multiple g.size x)) outer.0 in
    let inner = and_parts (is_predicted h (counted_lines w.writes) w.tracks x) (is_multiple 4 x)
    middle.0 in
    let predicted = predicted_by h w x inner.0 in
    let grid = grid_of g (same_layout h w ready) in
    let size : x.range.size ≡ g.size = sized.size ∙ ap (size_of g) of_kind in
    record {
      fresh = subst (λ c. track_named g c k w.tracks ≡ None) (sym of_kind)
          (fresh_shifted g k w.tracks (is_false any outer.1));
      shaped = subst (λ c. IsShaped g k c x.range) (sym of_kind)
          (shaped_shifted g x (omega (arith, grid.some)) (native_offset h w ready
          predicted.predicts) predicted.high size);
      written = lower_written h w x ready predicted;
      due = λ own. absurd (not_both (sym own ∙ of_kind));
    }
  where
    is_false : (b : Bool) → not b ≡ true → b ≡ false
    is_false true e = absurd (false≢true e)
    is_false false e = refl

    not_both : Observed ≡ Shifted → ⊥
    not_both e = absurd (let same : 0 ≡ 1 = ap rank e in omega (arith, same))

stands_doubled : (h : Header) (w : Watch) (x : TrackValue) → IsReady h w → AreShaped h.grid w.tracks
    → IsSized h.grid x → x.kind ≡ Doubled
    → list_all (λ y. is_placed_before y x) w.tracks ≡ true
    → is_kind_placed h (counted_lines w.writes) w.tracks x Doubled ≡ true → CanStand h w x
stands_doubled h w x ready shaped sized of_kind behind placed =
    let g = h.grid in
    let k = number_of_base g x.range.base in
    let parts = and_parts (is_predicted h (counted_lines w.writes) w.tracks x)
    (is_multiple (2 * g.size) x) placed in
    let predicted = predicted_by h w x parts.0 in
    let grid = grid_of g (same_layout h w ready) in
    let size : x.range.size ≡ 2 * g.size = sized.size ∙ ap (size_of g) of_kind in
    let shape = shaped_doubled g x (omega (arith, grid.some)) (native_offset h w ready
    predicted.predicts) predicted.high size parts.1 in
    record {
      fresh = subst (λ c. track_named g c k w.tracks ≡ None) (sym of_kind)
          (fresh_doubled g k x w.tracks of_kind shape shaped behind);
      shaped = subst (λ c. IsShaped g k c x.range) (sym of_kind) shape;
      written = lower_written h w x ready predicted;
      due = λ own. absurd (not_both (sym own ∙ of_kind));
    }
  where
    not_both : Observed ≡ Doubled → ⊥
    not_both e = absurd (let same : 0 ≡ 2 = ap rank e in omega (arith, same))

can_stand : (h : Header) (w : Watch) (x : TrackValue) (kind : LineKind) → IsReady h w
    → AreShaped h.grid w.tracks → IsSized h.grid x → x.kind ≡ kind
    → list_all (λ y. is_placed_before y x) w.tracks ≡ true
    → is_kind_placed h (counted_lines w.writes) w.tracks x kind ≡ true → CanStand h w x
can_stand h w x Observed ready shaped sized of_kind behind placed =
    stands_own h w x ready shaped sized of_kind behind placed
can_stand h w x Shifted ready shaped sized of_kind behind placed =
    stands_shifted h w x ready sized of_kind placed
can_stand h w x Doubled ready shaped sized of_kind behind placed =
    stands_doubled h w x ready shaped sized of_kind behind placed

-- a track that may stand here may be added
pub can_add_track : (h : Header) (w : Watch) (x : TrackValue) → IsReady h w → AreShaped w.grid w.tracks
    → IsSized h.grid x → IsInTime x h.position → (x.start ≡ None → IsBlank x)
    → is_placed h (counted_lines w.writes) w.tracks x ≡ true → CanAddTrack w x
can_add_track h w x ready shaped sized in_time blank placed =
    let parts = and_parts (list_all (λ y. is_placed_before y x) w.tracks)
    (is_kind_placed h (counted_lines w.writes) w.tracks x x.kind) placed in
    let stands = can_stand h w x x.kind ready
    (subst (λ g. AreShaped g w.tracks) ready.grid shaped) sized refl parts.0 parts.1 in
    let same = sym ready.grid in
    record {
      fresh = subst (λ g. track_named g x.kind (line_of_base g x.range) w.tracks ≡ None) same
          stands.fresh;
      shaped = subst (λ g. IsShaped g (line_of_base g x.range) x.kind x.range) same stands.shaped;
      written = subst (λ g. 0 < count_at w.writes (line_of_base g x.range)) same stands.written;
      due = λ own. subst (λ T. T ≤ count_at w.writes (line_of_base w.grid x.range))
          (sym ready.tracking)
          (subst (λ g. h.tracking ≤ count_at w.writes (line_of_base g x.range)) same
          (stands.due own));
      in_time = subst (IsInTime x) (sym ready.position) in_time;
      blank = blank;
    }

pub ready_track : (h : Header) (w : Watch) (x : TrackValue) → IsReady h w
    → is_placed h (counted_lines w.writes) w.tracks x ≡ true → IsReady h (with_track w x)
ready_track h w x ready placed =
    let behind = (and_parts (list_all (λ y. is_placed_before y x) w.tracks)
    (is_kind_placed h (counted_lines w.writes) w.tracks x x.kind) placed).0 in
    record {
      grid = ready.grid;
      tracking = ready.tracking;
      prediction = ready.prediction;
      position = ready.position;
      layout = ready.layout;
      native = ready.native;
      some = ready.some;
      counts = ready.counts;
      lines = ready.lines;
      rising = rising-push is_placed_before w.tracks x ready.rising
          (each_passes (λ y. is_placed_before y x) w.tracks behind);
    }

-- a track more was read
pub next_track : (h : Header) (w : Watch) (x : TrackValue) (place : ℕ) (bytes : List ℕ) (more : ℕ)
    → track_in h (counted_lines w.writes) w.tracks bytes ≡ Some x
    → read_units (track_in h (counted_lines w.writes)) spell_track (suc more)
    (tracks_at w place bytes)
    ≡ read_units (track_in h (counted_lines w.writes)) spell_track more
    (tracks_at (with_track w x) (place + (32 + 20 * length x.words))
    (drop (32 + 20 * length x.words) bytes))
next_track h w x place bytes more is =
    next_unit (track_in h (counted_lines w.writes)) spell_track (tracks_at w place bytes) x
    (32 + 20 * length x.words) more is (length-track x)

-- a track that is good by itself is read where it may stand
pub placed_track : (h : Header) (w : Watch) (x : TrackValue) (bytes : List ℕ)
    → track_alone h bytes ≡ Some x → is_placed h (counted_lines w.writes) w.tracks x ≡ true
    → track_in h (counted_lines w.writes) w.tracks bytes ≡ Some x
placed_track h w x bytes alone placed =
    track_in-alone h (counted_lines w.writes) w.tracks bytes
    ∙ ap (option_and_then (λ y. if is_placed h (counted_lines w.writes) w.tracks y then Some y
    else None)) alone
    ∙ ap (λ b. if b then Some x else None) placed

pub unplaced_track : (h : Header) (w : Watch) (x : TrackValue) (bytes : List ℕ)
    → track_alone h bytes ≡ Some x → is_placed h (counted_lines w.writes) w.tracks x ≡ false
    → track_in h (counted_lines w.writes) w.tracks bytes ≡ None
unplaced_track h w x bytes alone misplaced =
    track_in-alone h (counted_lines w.writes) w.tracks bytes
    ∙ ap (option_and_then (λ y. if is_placed h (counted_lines w.writes) w.tracks y then Some y
    else None)) alone
    ∙ ap (λ b. if b then Some x else None) misplaced

pub bad_track : (h : Header) (w : Watch) (bytes : List ℕ) → track_alone h bytes ≡ None
    → track_in h (counted_lines w.writes) w.tracks bytes ≡ None
bad_track h w bytes none =
    track_in-alone h (counted_lines w.writes) w.tracks bytes
    ∙ ap (option_and_then (λ y. if is_placed h (counted_lines w.writes) w.tracks y then Some y
    else None)) none
