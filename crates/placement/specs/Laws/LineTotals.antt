-- The totals of a list as sums over the numbers of its lines.
use Rattle.std.proofs.Common.{◌≡◌, ℕ, zero, suc, ◌+◌, ◌<◌, ◌≤◌, max, Bool, true, false, eqb}
use Rattle.std.proofs.Common.{List, [], ◌∷◌, Option, None, Some, refl, sym, ap, ◌∙◌, arith, inl, inr}
use Rattle.std.proofs.lemmas.Bool.{cases_Bool, cases_eq, eq-eqb, false≢true, ne_eqb, or_parts}
use Rattle.std.proofs.lemmas.List.Folds.{list_any-append}
use Rattle.std.proofs.lemmas.List.Sums.{sum_by-cons, sum_by_push}
use Rattle.std.specs.Cmp.{nat_eq_equiv}
use Rattle.std.specs.List.{IsDistinct, cons_option, list_any}
use Rattle.std.specs.Prelude.{if◌then◌else◌, filter, filter_map, option_map, sum_by}
use Rattle.base.specs.Touch.{Touch}
use Rattle.sharing_rules.specs.Laws.Arrivals.{each_once-distinct}
use Rattle.sharing_rules.specs.Laws.Lists.{slice_cases}
use Rattle.sharing_rules.specs.Laws.Observed.{observed_written, written_lines-any}
use Rattle.sharing_rules.specs.Laws.Starts.{observed_start-one}
use Rattle.sharing_rules.specs.Laws.Sums.{none-of}
use Rattle.sharing_rules.specs.Lines.{Line, is_inside, native_grid, native_line}
use Rattle.sharing_rules.specs.Listed.{Finding, found, observed_line}
use Rattle.sharing_rules.specs.Observed.{first_write_from, observed_start, written_lines}
use Rattle.sharing_rules.specs.Places.{below}
use Rattle.sharing_rules.specs.Tracks.{Traced, track_since}
use Rattle.sharing_rules.specs.declared.line_kind.LineKind.TheVariants.{Observed}
use Rattle.layout_sweep.specs.Totals.{counted, total_of}
use Rattle.placement.specs.Laws.LineCounts.{line_count}

-- ---- sums

pub sum_none : (f : ℕ → ℕ) (ks : List ℕ) → ((k : ℕ) → f k ≡ 0) → sum_by f ks ≡ 0
sum_none f [] none = refl
sum_none f (k ∷ ks) none =
    let rest = sum_none f ks none in
    let here = none k in
    omega (arith, rest, here, sum_by-cons f k ks)

pub sum_alike : (f g : ℕ → ℕ) (ks : List ℕ) → ((k : ℕ) → f k ≡ g k) → sum_by f ks ≡ sum_by g ks
sum_alike f g [] alike = refl
sum_alike f g (k ∷ ks) alike =
    let here = alike k in
    let rest = sum_alike f g ks alike in
    omega (arith, here, rest, sum_by-cons f k ks, sum_by-cons g k ks)

-- two sums that add up alike
pub sums_add : (f g h i : ℕ → ℕ) (ks : List ℕ) → ((k : ℕ) → f k + g k ≡ h k + i k)
    → sum_by f ks + sum_by g ks ≡ sum_by h ks + sum_by i ks
sums_add f g h i [] alike = refl
sums_add f g h i (k ∷ ks) alike =
    let here = alike k in
    let rest = sums_add f g h i ks alike in
    omega (
      arith,
      here,
      rest,
      sum_by-cons f k ks,
      sum_by-cons g k ks,
      sum_by-cons h k ks,
      sum_by-cons i k ks,
    )

-- the same function, 0 at k
abbrev without : (ℕ → ℕ) → ℕ → ℕ → ℕ
without f k j = if eqb k j then 0 else f j

sum_without : (f : ℕ → ℕ) (k : ℕ) (ks : List ℕ) → list_any (eqb k) ks ≡ false
    → sum_by (without f k) ks ≡ sum_by f ks
sum_without f k [] none = refl
sum_without f k (j ∷ ks) none =
    let parts = or_parts (eqb k j) (list_any (eqb k) ks) none in
    let here : without f k j ≡ f j = rw parts.0 refl in
    let rest = sum_without f k ks parts.1 in
    omega (arith, here, rest, sum_by-cons f j ks, sum_by-cons (without f k) j ks)

not_below : (m k : ℕ) → m ≤ k → list_any (eqb k) (below m) ≡ false
not_below zero k le = refl
not_below (suc m) k le =
    rw (
      list_any-append (eqb k) (below m) (m ∷ []),
      not_below m k (omega (arith, le)),
      ne_eqb k m (λ same. absurd (omega (arith, same, le))),
    ) refl

sum_split : (f : ℕ → ℕ) (k m : ℕ) → k < m
    → sum_by f (below m) ≡ f k + sum_by (without f k) (below m)
sum_split f k zero less = absurd (omega (arith, less))
sum_split f k (suc m) less =
    let whole = sum_by_push f (below m) m in
    let part = sum_by_push (without f k) (below m) m in
    elim (cases_eq k m) [
      | inl same ↦
          let rest = sum_without f k (below m) (not_below m k (omega (arith, same))) in
          let last : without f k m ≡ 0 = rw (eq-eqb k m same) refl in
          let here : f m ≡ f k = ap f (sym same) in
          omega (arith, rest, last, here, whole, part)
      | inr other ↦
          let rest = sum_split f k m (omega (arith, less, other)) in
          let last : without f k m ≡ f m = rw (ne_eqb k m other) refl in
          omega (arith, rest, last, whole, part)
    ]

-- above all numbers of a list
abbrev pub bound_of : List ℕ → ℕ
bound_of [] = 0
bound_of (k ∷ ks) = max (k + 1) (bound_of ks)

-- a sum over some numbers is one over all, where the others add nothing
sum_spread : (ks : List ℕ) (f : ℕ → ℕ) (m : ℕ) → IsDistinct eqb ks → bound_of ks ≤ m
    → ((k : ℕ) → list_any (eqb k) ks ≡ false → f k ≡ 0) → sum_by f ks ≡ sum_by f (below m)
unfolding IsDistinct
sum_spread [] f m distinct le nothing = sym (sum_none f (below m) (λ k. nothing k refl))
sum_spread (k ∷ ks) f m distinct le nothing =
    let less : k < m = omega (arith, le) in
    let others : (j : ℕ) → list_any (eqb j) ks ≡ false → without f k j ≡ 0 = λ j none.
    elim (cases_Bool (eqb k j)) [
      | inl same ↦ rw same refl
      | inr other ↦
          let swapped : eqb j k ≡ false = nat_eq_equiv.symm j k ∙ other in
          rw other (nothing j (rw (swapped, none) refl))
    ] in
    let rest = sum_spread ks (without f k) m distinct.1 (omega (arith, le)) others in
    let same = sum_without f k ks (none-of k ks distinct.0) in
    let split = sum_split f k m less in
    omega (arith, rest, same, split, sum_by-cons f k ks)

-- ---- totals

-- the counts of those lines whose numbers pass
abbrev pub total_where : ℕ → (ℕ → Bool) → List Touch → ℕ
total_where n p t = sum_by (λ (f : Finding). f.count)
    (filter (λ (f : Finding). p f.line.number) (counted (native_grid n) t))

-- the count of line k, where it passes
abbrev pub count_where : ℕ → (ℕ → Bool) → List Touch → ℕ → ℕ
count_where n p t k = if p k then line_count (native_line n k) t else 0

-- whether a finding's line passes
abbrev is_on : (ℕ → Bool) → Finding → Bool
is_on p f = p f.line.number

pub nothing_if : (b : Bool) (c : ℕ) → c ≡ 0 → (if b then c else 0) ≡ 0
nothing_if true c nothing = nothing
nothing_if false c nothing = refl

-- one finding more
with_one : (p : ℕ → Bool) (f : Finding) (fs : List Finding)
    → sum_by (λ (g : Finding). g.count) (filter (is_on p) (f ∷ fs))
    ≡ (if p f.line.number then f.count else 0)
    + sum_by (λ (g : Finding). g.count) (filter (is_on p) fs)
with_one p f fs =
    elim (cases_Bool (p f.line.number)) [
      | inl passes ↦ rw passes (sum_by-cons (λ (g : Finding). g.count) f (filter (is_on p) fs))
      | inr fails ↦ rw fails (omega arith)
    ]

by_line : (n : ℕ) (p : ℕ → Bool) (t : List Touch) (ks : List ℕ)
    → sum_by (λ (f : Finding). f.count)
    (filter (is_on p) (filter_map (observed_line (native_grid n) 1 t) ks))
    ≡ sum_by (count_where n p t) ks
by_line n p t [] = refl
by_line n p t (k ∷ ks) =
    let l : Line = native_line n k in
    let one : observed_start 1 (is_inside l) t ≡ first_write_from 0 (is_inside l) t =
    observed_start-one (is_inside l) t in
    let later : List Finding = filter_map (observed_line (native_grid n) 1 t) ks in
    let chosen : Option ℕ → List Finding = λ o.
    filter (is_on p) (cons_option (option_map (found t Observed l) o) later) in
    let rest = by_line n p t ks in
    let whole = sum_by-cons (count_where n p t) k ks in
    elim (slice_cases (first_write_from 0 (is_inside l) t)) [
      | inl none ↦
          let start : observed_start 1 (is_inside l) t ≡ None = one ∙ none in
          let nothing : line_count l t ≡ 0 =
          ap (λ (x : Traced). x.count) (ap (track_since l t) none) in
          let here = nothing_if (p k) (line_count l t) nothing in
          ap (λ (o : Option ℕ). sum_by (λ (f : Finding). f.count) (chosen o)) start
          ∙ omega (arith, rest, whole, here)
      | inr some ↦
          let start : observed_start 1 (is_inside l) t ≡ Some some.0 = one ∙ some.1 in
          let f : Finding = found t Observed l some.0 in
          let count : line_count l t ≡ f.count =
          ap (λ (x : Traced). x.count) (ap (track_since l t) some.1) in
          let added = with_one p f later in
          let here : count_where n p t k ≡ (if p k then f.count else 0) =
          ap (λ (c : ℕ). if p k then c else 0) count in
          ap (λ (o : Option ℕ). sum_by (λ (g : Finding). g.count) (chosen o)) start
          ∙ added ∙ omega (arith, rest, whole, here)
    ]

pub total_by_line : (n : ℕ) (p : ℕ → Bool) (t : List Touch)
    → total_where n p t ≡ sum_by (count_where n p t) (written_lines (native_grid n) t)
total_by_line n p t = by_line n p t (written_lines (native_grid n) t)

unwritten : (n : ℕ) (t : List Touch) (k : ℕ)
    → list_any (eqb k) (written_lines (native_grid n) t) ≡ false
    → line_count (native_line n k) t ≡ 0
unwritten n t k none =
    let l : Line = native_line n k in
    elim (slice_cases (first_write_from 0 (is_inside l) t)) [
      | inl never ↦ ap (λ (x : Traced). x.count) (ap (track_since l t) never)
      | inr some ↦
          let written = observed_written 1 (is_inside l) t some.0
          (observed_start-one (is_inside l) t ∙ some.1) in
          absurd (false≢true (sym none ∙ written_lines-any (native_grid n) t k ∙ written))
    ]

-- from this number on there is no written line
abbrev pub line_bound : ℕ → List Touch → ℕ
line_bound n t = bound_of (written_lines (native_grid n) t)

pub total_spread : (n : ℕ) (p : ℕ → Bool) (t : List Touch) (m : ℕ) → line_bound n t ≤ m
    → total_where n p t ≡ sum_by (count_where n p t) (below m)
total_spread n p t m le =
    total_by_line n p t
    ∙ sum_spread (written_lines (native_grid n) t) (count_where n p t) m (each_once-distinct _) le
    (λ k none. elim (cases_Bool (p k)) [
      | inl passes ↦ rw passes (unwritten n t k none)
      | inr fails ↦ rw fails refl
    ])

all_pass : (fs : List Finding) → filter (λ (f : Finding). true) fs ≡ fs
all_pass [] = refl
all_pass (f ∷ fs) = ap (λ (gs : List Finding). f ∷ gs) (all_pass fs)

pub whole_total : (n : ℕ) (t : List Touch)
    → total_of (native_grid n) t ≡ total_where n (λ k. true) t
whole_total n t = ap (sum_by (λ (f : Finding). f.count)) (sym (all_pass (counted (native_grid n) t)))
