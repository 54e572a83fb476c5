-- How many tracks stand for a list, and how much they keep.
use Rattle.std.proofs.Common.{◌≡◌, ℕ, suc, ◌+◌, ◌*◌, ◌/◌, ◌%◌, ◌<◌, ◌≤◌, true, List, [], ◌∷◌, ◌++◌}
use Rattle.std.proofs.Common.{Option, Some, None, map, length, length-append, refl, sym, ap, ◌∙◌}
use Rattle.std.proofs.Common.{subst, arith, inl, inr, take}
use Rattle.std.proofs.lemmas.Bool.{cases_lt}
use Rattle.std.proofs.lemmas.List.{length-map}
use Rattle.std.proofs.lemmas.List.Sorted.{sum_by-IsPermutation, length_permutation}
use Rattle.std.proofs.lemmas.List.Sums.{sum_by-append, sum_by-cons, length-filter}
use Rattle.std.proofs.lemmas.Nat.{mul-le}
use Rattle.std.proofs.lemmas.Option.{none-some}
use Rattle.std.specs.Prelude.{cond, is_some, filter, IsTrue, ◌==◌}
use Rattle.std.specs.List.{count_by, sum_by}
use Rattle.std.specs.Option.{option_map_or}
use Rattle.base.specs.Levels.{Levels}
use Rattle.base.specs.Lines.{Grid, is_layout}
use Rattle.base.specs.Ranges.{holds_address}
use Rattle.sharing_rules.specs.AccessLists.{AccessList}
use Rattle.sharing_rules.specs.Arrivals.{arrivals}
use Rattle.sharing_rules.specs.Lines.{Line, is_inside, native_grid, native_line}
use Rattle.sharing_rules.specs.Listed.{may_predict, rank}
use Rattle.sharing_rules.specs.Members.{Member}
use Rattle.sharing_rules.specs.Observed.{first_write_from, observed_start}
use Rattle.sharing_rules.specs.Opened.{Opened, doubled_ones, observed_ones, opened, opened_observed}
use Rattle.sharing_rules.specs.Opened.{predicted_ones, shifted_ones}
use Rattle.sharing_rules.specs.Places.{below}
use Rattle.sharing_rules.specs.Predicted.{is_native_size, shifted_opening}
use Rattle.sharing_rules.specs.Tracks.{track_since}
use Rattle.sharing_rules.specs.Words.{tally}
use Rattle.sharing_rules.specs.declared.line_kind.LineKind.{LineKind}
use Rattle.sharing_rules.specs.declared.line_kind.LineKind.TheVariants as kind
use Rattle.sharing_rules.specs.Laws.Amounts.{fewer_shifted, half_doubled}
use Rattle.sharing_rules.specs.Laws.Kinds.{doubled_ones-member, member-observed_ones}
use Rattle.sharing_rules.specs.Laws.Kinds.{observed_ones-member, opened_doubled-is}
use Rattle.sharing_rules.specs.Laws.Kinds.{opened_observed-is, opened_shifted-is}
use Rattle.sharing_rules.specs.Laws.Kinds.{shifted_ones-member}
use Rattle.sharing_rules.specs.Laws.Lists.{length-below, slice_cases}
use Rattle.sharing_rules.specs.Laws.Opened.{opened_shifted-is_some}
use Rattle.sharing_rules.specs.Laws.OpenedObserved.{shifted_opening-observed}
use Rattle.sharing_rules.specs.Laws.OpenedObserved.{some_is}
use Rattle.sharing_rules.specs.Laws.Words.{length-words_since}
use Rattle.line_tracks.specs.Laws.WordLines.{layout-sized}
use Rattle.line_tracks.specs.Laws.Few.{at_most_four, holds}
use Rattle.line_tracks.specs.TrackValue.{TrackValue}
use Rattle.line_tracks.specs.KeptIn.{kept_in}
use Rattle.detector.specs.Amounts.{HasFewAtEach, HasFewEntries, HasFewWords, HasFewerShifted}
use Rattle.detector.specs.Amounts.{HasHalfDoubled, IsSmallUnpredicted, doubled_count, entry_count}
use Rattle.detector.specs.Amounts.{is_of, kind_count, observed_count, shifted_count, word_count}
use Rattle.detector.specs.Standing.{StandsFor}
use Rattle.detector.specs.Watch.{Watch}
use Rattle.detector.proofs.StatedLaws.{under}

sum_mapped : {X Y : Type 0} (f : Y → ℕ) (g : X → Y) (xs : List X) → sum_by f (map g xs)
    ≡ sum_by (λ x. f (g x)) xs
sum_mapped f g [] = refl
sum_mapped f g (x ∷ xs) = sum_by-cons f (g x) (map g xs) ∙ ap (λ n. f (g x) + n) (sum_mapped f g xs)
    ∙ sym (sum_by-cons (λ z. f (g z)) x xs)

once_more : (c n : ℕ) → c * suc n ≡ c + c * n
once_more c n = omega arith

each_is : (f : Opened → ℕ) (c : ℕ) (os : List Opened) → ((o : Opened) → Member o os → f o ≡ c)
    → sum_by f os ≡ c * length os
each_is f c [] same = omega arith
each_is f c (o ∷ os) same =
    let here : f o ≡ c = same o (inl refl) in
    let rest = each_is f c os (λ z m. same z (inr m)) in
    omega (arith, here, rest, sum_by-cons f o os, once_more c (length os))

each_within : (f : Opened → ℕ) (c : ℕ) (os : List Opened) → ((o : Opened) → Member o os → f o ≤ c)
    → sum_by f os ≤ c * length os
each_within f c [] small = omega arith
each_within f c (o ∷ os) small =
    let here : f o ≤ c = small o (inl refl) in
    let rest = each_within f c os (λ z m. small z (inr m)) in
    omega (arith, here, rest, sum_by-cons f o os, once_more c (length os))

-- what is kept of a line: at most two entries, and its words
at_most_two : (hs : List ℕ) → length (take 2 hs) ≤ 2
at_most_two [] = omega arith
at_most_two (h ∷ []) = omega arith
at_most_two (h ∷ (g ∷ hs)) = omega arith

two_entries : (l : Line) (t : AccessList) (s : Option ℕ) → length (track_since l t s).entries ≤ 2
two_entries l t None = omega arith
two_entries l t (Some s) = at_most_two (arrivals (is_inside l) t)

its_words : (l : Line) (t : AccessList) (s : Option ℕ) → length (track_since l t s).words
    ≡ l.size / 4
its_words l t None = length-map (below (l.size / 4)) (λ i. tally []) ∙ length-below (l.size / 4)
its_words l t (Some s) = length-words_since l s t

-- The kept lines of a list by their kinds.
record Made (g : Grid) (v : Levels) (t : AccessList) : Type 0 where
  observed : List Opened
  shifted : List Opened
  doubled : List Opened
  all : opened g v t ≡ observed ++ (shifted ++ doubled)
  observed_are : (o : Opened) → Member o observed → (o.kind ≡ kind.Observed)
      × (o.line.size ≡ g.size)
  shifted_are : (o : Opened) → Member o shifted → (o.kind ≡ kind.Shifted) × (o.line.size ≡ g.size)
  doubled_are : (o : Opened) → Member o doubled → (o.kind ≡ kind.Doubled)
      × (o.line.size ≡ 2 * g.size)
  fewer : 0 < length observed → length shifted < length observed
  no_more : length shifted ≤ length observed
  half : 2 * length doubled ≤ length observed
  unpredicted : v.prediction ≡ None → length shifted + length doubled ≡ 0

no_members : (os : List Opened) → ((o : Opened) → Member o os → ⊥) → length os ≡ 0
no_members [] none = refl
no_members (o ∷ os) none = absurd (none o (inl refl))

member_some : (o : Opened) (os : List Opened) → Member o os → 0 < length os
member_some o [] m = absurd m
member_some o (x ∷ os) m = omega arith

-- a shifted line has an observed one
shifted_some : (n T P : ℕ) (t : AccessList) (o : Opened) → Member o (shifted_ones n T P t)
    → 0 < length (observed_ones (native_grid n) T t)
shifted_some n T P t o m =
    let w = shifted_ones-member n T P t o m in
    let opens : is_some (shifted_opening n T P w.0 t) ≡ true =
    sym (opened_shifted-is_some n T P w.0 t) ∙ ap is_some w.1 in
    let lower = some_is (observed_start T (is_inside (native_line n w.0)) t)
    (shifted_opening-observed n T P w.0 t opens).lower in
    let there : is_some (opened_observed (native_grid n) T t w.0) ≡ true = rw lower.1 refl in
    let x = some_is (opened_observed (native_grid n) T t w.0) there in
    member_some x.0 (observed_ones (native_grid n) T t)
    (member-observed_ones (native_grid n) T t w.0 x.0 x.1)

no_more_shifted : (n T P : ℕ) (t : AccessList)
    → length (shifted_ones n T P t) ≤ length (observed_ones (native_grid n) T t)
no_more_shifted n T P t =
    elim (cases_lt 0 (length (observed_ones (native_grid n) T t))) [
      | inl some ↦ let less = fewer_shifted n T P t some in omega (arith, less)
      | inr none ↦
          let nothing = no_members (shifted_ones n T P t)
          (λ o m. let some = shifted_some n T P t o m in absurd (omega (arith, some, none)))
          in
          omega (arith, nothing)
    ]

observed_sort : (g : Grid) (T : ℕ) (t : AccessList) (o : Opened) → Member o (observed_ones g T t)
    → (o.kind ≡ kind.Observed)
    × (o.line.size ≡ g.size)
observed_sort g T t o m =
    let w = observed_ones-member g T t o m in
    let is = opened_observed-is g T t w.0 o w.1 in
    (is.kind, ap (λ (l : Line). l.size) is.line)

made_unpredicted : (g : Grid) (v : Levels) (t : AccessList) → v.prediction ≡ None → Made g v t
made_unpredicted g v t none = record {
  observed = observed_ones g v.tracking t;
  shifted = [];
  doubled = [];
  all = ap (λ p. observed_ones g v.tracking t ++ option_map_or
      (λ P. predicted_ones g.size v.tracking P t) p []) none;
  observed_are = observed_sort g v.tracking t;
  shifted_are = λ o m. absurd m;
  doubled_are = λ o m. absurd m;
  fewer = λ some. some;
  no_more = omega arith;
  half = omega arith;
  unpredicted = λ _. refl;
}

native_of : (g : Grid) → g.offset ≡ 0 → g ≡ native_grid g.size
native_of g e = λ i. record { size = g.size; offset = e i }

made_predicted : (g : Grid) (v : Levels) (t : AccessList) (P : ℕ) → v.prediction ≡ Some P
    → is_native_size g.size ≡ true → g.offset ≡ 0
    → Made g v t
made_predicted g v t P some native start =
    let grid : g ≡ native_grid g.size = native_of g start in
    record {
      observed = observed_ones g v.tracking t;
      shifted = shifted_ones g.size v.tracking P t;
      doubled = doubled_ones g.size v.tracking P t;
      all = ap (λ p. observed_ones g v.tracking t
          ++ option_map_or (λ Q. predicted_ones g.size v.tracking Q t) p []) some;
      observed_are = observed_sort g v.tracking t;
      shifted_are = λ o m.
          (let w = shifted_ones-member g.size v.tracking P t o m in
          let is = opened_shifted-is g.size v.tracking P t w.0 o native w.1 in
          (is.kind, is.size));
      doubled_are = λ o m.
          (let w = doubled_ones-member g.size v.tracking P t o m in
          let is = opened_doubled-is g.size v.tracking P t w.0 o native w.1 in
          (is.kind, ap (λ (l : Line). l.size) is.line));
      fewer = subst (λ (h : Grid). 0 < length (observed_ones h v.tracking t)
          → length (shifted_ones g.size v.tracking P t) < length (observed_ones h v.tracking t))
          (sym grid)
          (fewer_shifted g.size v.tracking P t);
      no_more = subst (λ (h : Grid). length (shifted_ones g.size v.tracking P t) ≤ length
          (observed_ones h v.tracking t)) (sym grid)
          (no_more_shifted g.size v.tracking P t);
      half = subst (λ (h : Grid). 2 * length (doubled_ones g.size v.tracking P t) ≤ length
          (observed_ones h v.tracking t)) (sym grid)
          (half_doubled g.size v.tracking P t native);
      unpredicted = λ none. absurd (none-some P (sym none ∙ some));
    }

made : (g : Grid) (v : Levels) (t : AccessList) → IsTrue (may_predict g v) → Made g v t
made g v t may =
    elim (slice_cases v.prediction) [
      | inl none ↦ made_unpredicted g v t none
      | inr some ↦
          let u = under g v some.0 may some.1 in
          made_predicted g v t some.0 some.1 u.native u.offset
    ]

-- A sum over the tracks, kind by kind.
total : (f : TrackValue → ℕ) (t : AccessList) (w : Watch) (m : Made w.grid w.levels t) → StandsFor t w
    → sum_by f w.tracks ≡ sum_by (λ o. f (kept_in t o)) m.observed
    + (sum_by (λ o. f (kept_in t o)) m.shifted + sum_by (λ o. f (kept_in t o)) m.doubled)
total f t w m stands =
    sym (sum_by-IsPermutation f w.tracks (map (kept_in t) (opened w.grid w.levels t)) stands.tracks)
    ∙ sum_mapped f (kept_in t) (opened w.grid w.levels t)
    ∙ ap (λ os. sum_by (λ o. f (kept_in t o)) os) m.all
    ∙ sum_by-append (λ o. f (kept_in t o)) m.observed (m.shifted ++ m.doubled)
    ∙ ap (λ z. sum_by (λ o. f (kept_in t o)) m.observed + z)
    (sum_by-append (λ o. f (kept_in t o)) m.shifted m.doubled)

abbrev one_of : LineKind → LineKind → ℕ
one_of k j = cond (rank j == rank k) 1 0

-- how many there are of each kind
kind_total : (k : LineKind) (t : AccessList) (w : Watch) (m : Made w.grid w.levels t)
    → StandsFor t w
    → kind_count k w.tracks ≡ one_of k kind.Observed * length m.observed
    + (one_of k kind.Shifted * length m.shifted + one_of k kind.Doubled * length m.doubled)
kind_total k t w m stands =
    let a = each_is (λ o. one_of k o.kind) (one_of k kind.Observed) m.observed
    (λ o e. ap (one_of k) (m.observed_are o e).0) in
    let b = each_is (λ o. one_of k o.kind) (one_of k kind.Shifted) m.shifted
    (λ o e. ap (one_of k) (m.shifted_are o e).0) in
    let c = each_is (λ o. one_of k o.kind) (one_of k kind.Doubled) m.doubled
    (λ o e. ap (one_of k) (m.doubled_are o e).0) in
    let e = total (λ x. cond (is_of k x) 1 0) t w m stands in
    omega (arith, e, a, b, c)

observed_total : (t : AccessList) (w : Watch) (m : Made w.grid w.levels t) → StandsFor t w
    → observed_count w ≡ length m.observed
observed_total t w m stands = let e : observed_count w
    ≡ 1 * length m.observed + (0 * length m.shifted + 0 * length m.doubled) =
    kind_total kind.Observed t w m stands in omega (arith, e)

shifted_total : (t : AccessList) (w : Watch) (m : Made w.grid w.levels t) → StandsFor t w
    → shifted_count w ≡ length m.shifted
shifted_total t w m stands = let e : shifted_count w
    ≡ 0 * length m.observed + (1 * length m.shifted + 0 * length m.doubled) =
    kind_total kind.Shifted t w m stands in omega (arith, e)

doubled_total : (t : AccessList) (w : Watch) (m : Made w.grid w.levels t) → StandsFor t w
    → doubled_count w ≡ length m.doubled
doubled_total t w m stands = let e : doubled_count w
    ≡ 0 * length m.observed + (0 * length m.shifted + 1 * length m.doubled) =
    kind_total kind.Doubled t w m stands in omega (arith, e)

pub fewer_shifted_tracks : (t : AccessList) (w : Watch) → IsTrue (may_predict w.grid w.levels)
    → StandsFor t w → HasFewerShifted w
fewer_shifted_tracks t w may stands = λ some.
    let m = made w.grid w.levels t may in
    let o = observed_total t w m stands in
    let s = shifted_total t w m stands in
    let less = m.fewer (omega (arith, some, o)) in
    omega (arith, o, s, less)

pub half_doubled_tracks : (t : AccessList) (w : Watch) → IsTrue (may_predict w.grid w.levels)
    → StandsFor t w → HasHalfDoubled w
half_doubled_tracks t w may stands =
    let m = made w.grid w.levels t may in
    let o = observed_total t w m stands in
    let d = doubled_total t w m stands in
    omega (arith, o, d, m.half)

entries_total : (t : AccessList) (w : Watch) (m : Made w.grid w.levels t) → StandsFor t w
    → entry_count w ≤ 2 * length m.observed + (2 * length m.shifted + 2 * length m.doubled)
entries_total t w m stands =
    let two : (o : Opened) → length (kept_in t o).entries ≤ 2 =
    λ o. two_entries o.line t (first_write_from o.from (is_inside o.line) t) in
    let e = total (λ x. length x.entries) t w m stands in
    let a = each_within (λ o. length (kept_in t o).entries) 2 m.observed (λ o _. two o) in
    let b = each_within (λ o. length (kept_in t o).entries) 2 m.shifted (λ o _. two o) in
    let c = each_within (λ o. length (kept_in t o).entries) 2 m.doubled (λ o _. two o) in
    omega (arith, e, a, b, c)

pub few_entries : (t : AccessList) (w : Watch) → IsTrue (may_predict w.grid w.levels)
    → StandsFor t w → HasFewEntries w
few_entries t w may stands =
    let m = made w.grid w.levels t may in
    let o = observed_total t w m stands in
    let e = entries_total t w m stands in
    omega (arith, o, e, m.no_more, m.half)

words_of_size : (t : AccessList) (o : Opened) (n : ℕ) → o.line.size ≡ n → length (kept_in t o).words
    ≡ n / 4
words_of_size t o n e = its_words o.line t (first_write_from o.from (is_inside o.line) t)
    ∙ ap (λ z. z / 4) e

words_total : (t : AccessList) (w : Watch) (m : Made w.grid w.levels t) → StandsFor t w
    → word_count w ≡ w.grid.size / 4 * length m.observed
    + (w.grid.size / 4 * length m.shifted + 2 * w.grid.size / 4 * length m.doubled)
words_total t w m stands =
    let a = each_is (λ o. length (kept_in t o).words) (w.grid.size / 4) m.observed
    (λ o e. words_of_size t o w.grid.size (m.observed_are o e).1) in
    let b = each_is (λ o. length (kept_in t o).words) (w.grid.size / 4) m.shifted
    (λ o e. words_of_size t o w.grid.size (m.shifted_are o e).1) in
    let c = each_is (λ o. length (kept_in t o).words) (2 * w.grid.size / 4) m.doubled
    (λ o e. words_of_size t o (2 * w.grid.size) (m.doubled_are o e).1) in
    let e = total (λ x. length x.words) t w m stands in
    omega (arith, e, a, b, c)

twice_size : (n : ℕ) → n % 4 ≡ 0 → 2 * n / 4 ≡ 2 * (n / 4)
twice_size n even = omega (arith, even)

swapped : (q d : ℕ) → 2 * q * d ≡ q * (2 * d)
swapped q d = omega arith

changed : (q d : ℕ) → q * d ≡ d * q
changed q d = omega arith

pub few_words : (t : AccessList) (w : Watch) → is_layout w.grid.size w.grid.offset ≡ true
    → IsTrue (may_predict w.grid w.levels)
    → StandsFor t w → HasFewWords w
few_words t w allowed may stands =
    let m = made w.grid w.levels t may in
    let o = observed_total t w m stands in
    let e = words_total t w m stands in
    let twice : 2 * w.grid.size / 4 * length m.doubled ≡ w.grid.size / 4 * (2 * length m.doubled) =
    ap (λ z. z * length m.doubled) (twice_size w.grid.size
    (layout-sized w.grid.size w.grid.offset allowed).1)
    ∙ swapped (w.grid.size / 4) (length m.doubled) in
    let b = mul-le (w.grid.size / 4) (length m.shifted) (w.grid.size / 4) (length m.observed)
    (omega arith) m.no_more in
    let c = mul-le (w.grid.size / 4) (2 * length m.doubled) (w.grid.size / 4) (length m.observed)
    (omega arith) m.half in
    let all : observed_count w * (w.grid.size / 4) ≡ w.grid.size / 4 * length m.observed =
    ap (λ z. z * (w.grid.size / 4)) o
    ∙ changed (length m.observed) (w.grid.size / 4) in
    omega (arith, e, twice, b, c, all)

track_total : (t : AccessList) (w : Watch) → StandsFor t w → length w.tracks
    ≡ length (opened w.grid w.levels t)
track_total t w stands = sym (length_permutation w.tracks
    (map (kept_in t) (opened w.grid w.levels t)) stands.tracks)
    ∙ length-map (opened w.grid w.levels t) (kept_in t)

pub small_unpredicted : (t : AccessList) (w : Watch) → IsTrue (may_predict w.grid w.levels)
    → StandsFor t w → IsSmallUnpredicted w
small_unpredicted t w may stands = λ none.
    let m = made w.grid w.levels t may in
    let o = observed_total t w m stands in
    let nothing = m.unpredicted none in
    let s : length m.shifted ≡ 0 = omega (arith, nothing) in
    let d : length m.doubled ≡ 0 = omega (arith, nothing) in
    let e = entries_total t w m stands in
    let words = words_total t w m stands in
    record {
      all =
          track_total t w stands ∙ ap length m.all ∙ length-append m.observed
          (m.shifted ++ m.doubled)
          ∙ (let j = length-append m.shifted m.doubled in omega (arith, j, nothing, o));
      entries = omega (arith, e, o, s, d);
      words = let back = changed (w.grid.size / 4) (length m.observed) in
          let z = ap (λ z. z * (w.grid.size / 4)) o in
          words ∙ rw (s, d) (omega (arith, back, z));
    }

holding_mapped : (a : ℕ) (t : AccessList) (os : List Opened)
    → count_by (λ x. holds_address x.range a) (map (kept_in t) os) ≡ length
    (filter (holds a) os)
holding_mapped a t os = sum_mapped (λ x. cond (holds_address x.range a) 1 0) (kept_in t) os
    ∙ sym (length-filter (holds a) os)

pub few_at_each : (t : AccessList) (w : Watch) → is_layout w.grid.size w.grid.offset ≡ true
    → IsTrue (may_predict w.grid w.levels)
    → StandsFor t w → HasFewAtEach w
few_at_each t w allowed may stands = λ a.
    let same = sum_by-IsPermutation (λ x. cond (holds_address x.range a) 1 0) w.tracks
    (map (kept_in t) (opened w.grid w.levels t))
    stands.tracks in
    subst (λ z. z ≤ 4) (sym (holding_mapped a t (opened w.grid w.levels t)) ∙ same)
    (at_most_four w.grid w.levels t a allowed may)
