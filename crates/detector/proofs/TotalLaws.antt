-- The tracks that a list keeps come to what the list's lines come to.
use Rattle.std.proofs.Common.{◌≡◌, ℕ, suc, ◌+◌, leb, List, [], ◌∷◌, ◌++◌, Option, None, Some}
use Rattle.std.proofs.Common.{length, map, filter}
use Rattle.std.proofs.Common.{refl, sym, ap, ◌∙◌, inl, inr, arith}
use Rattle.std.proofs.lemmas.List.Sorted.{length_permutation, sum_by-IsPermutation}
use Rattle.std.proofs.lemmas.List.Sums.{length-filter, sum_by-append, sum_by-cons}
use Rattle.std.proofs.lemmas.Option.{none-some, same_Some}
use Rattle.std.specs.Prelude.{filter_map, sum_by}
use Rattle.std.specs.List.Sorted.{IsPermutation}
use Rattle.std.specs.Option.{option_and_then, option_map, option_map_or}
use Rattle.base.specs.Levels.{Levels}
use Rattle.base.specs.Lines.{Grid}
use Rattle.sharing_rules.specs.AccessLists.{AccessList}
use Rattle.sharing_rules.specs.Lines.{Line, grid_line, is_inside, native_grid}
use Rattle.sharing_rules.specs.Listed.{Finding, comes_before, doubled_lines, found, in_order}
use Rattle.sharing_rules.specs.Listed.{listed, observed_line, observed_lines}
use Rattle.sharing_rules.specs.Listed.{opened_line, predicted_lines, shifted_lines}
use Rattle.sharing_rules.specs.Listed.{tracked, tracked_doubled, tracked_shifted}
use Rattle.sharing_rules.specs.Observed.{first_write_from, observed_start, written_lines}
use Rattle.sharing_rules.specs.Opened.{Opened, finding_of, opened}
use Rattle.sharing_rules.specs.Predicted.{doubled_line, doubled_opening, predicted_start}
use Rattle.sharing_rules.specs.Predicted.{shifted_line, shifted_opening}
use Rattle.sharing_rules.specs.Laws.Kept.{tracked-opened}
use Rattle.sharing_rules.specs.Laws.Lists.{slice_cases}
use Rattle.sharing_rules.specs.Laws.Orders.{in_order-permutes}
use Rattle.sharing_rules.specs.declared.line_kind.LineKind.{LineKind}
use Rattle.sharing_rules.specs.declared.line_kind.LineKind.TheVariants.{Observed, Shifted, Doubled}
use Rattle.line_tracks.specs.TrackValue.{TrackValue}
use Rattle.line_tracks.specs.KeptIn.{kept_in}
use Rattle.detector.specs.TotalsCounted.{observed_count, one, one_if_listed, totals_in, weight}
use Rattle.detector.specs.TotalsOf.{totals_of}

nothing_first : (n : ℕ) → 0 + n ≡ n
nothing_first n = omega arith

nothing_last : (n : ℕ) → n + 0 ≡ n
nothing_last n = omega arith

one_and : (n : ℕ) → 1 + n ≡ suc n
one_and n = omega arith

-- ---- from tracks to what is found

-- what a found line counts
abbrev by_finding : (LineKind → ℕ → ℕ) → Finding → ℕ
by_finding w f = w f.kind f.count

weight-kept : (w : LineKind → ℕ → ℕ) (t : AccessList) (o : Opened)
    → weight w (kept_in t o) ≡ option_map_or (by_finding w) (finding_of t o) 0
weight-kept w t o = elim (slice_cases (first_write_from o.from (is_inside o.line) t)) [
  | inl none ↦ rw none
  | inr s ↦ rw s.1
]

sum-kept : (w : LineKind → ℕ → ℕ) (t : AccessList) (os : List Opened)
    → sum_by (weight w) (map (kept_in t) os) ≡ sum_by (by_finding w) (filter_map (finding_of t) os)
sum-kept w t [] = refl
sum-kept w t (o ∷ os) =
    sum_by-cons (weight w) (kept_in t o) (map (kept_in t) os)
    ∙ ap (λ n. n + sum_by (weight w) (map (kept_in t) os)) (weight-kept w t o)
    ∙ ap (λ n. option_map_or (by_finding w) (finding_of t o) 0 + n) (sum-kept w t os)
    ∙ elim (slice_cases (finding_of t o)) [
      | inl none ↦ rw none (nothing_first (sum_by (by_finding w) (filter_map (finding_of t) os)))
      | inr s ↦ rw s.1 (sym (sum_by-cons (by_finding w) s.0 (filter_map (finding_of t) os)))
    ]

-- tracks in any order
sum-tracked : (w : LineKind → ℕ → ℕ) (g : Grid) (v : Levels) (t : AccessList) (tracks : List TrackValue)
    → IsPermutation tracks (map (kept_in t) (opened g v t))
    → sum_by (weight w) tracks ≡ sum_by (by_finding w) (tracked g v t)
sum-tracked w g v t tracks perm =
    sym (sum_by-IsPermutation (weight w) tracks (map (kept_in t) (opened g v t)) perm)
    ∙ sum-kept w t (opened g v t) ∙ ap (sum_by (by_finding w)) (sym (tracked-opened g v t))

-- ---- how many there are

count_all : {X : Type 0} (xs : List X) → sum_by (λ x. 1) xs ≡ length xs
count_all [] = refl
count_all (x ∷ xs) = sum_by-cons (λ y. 1) x xs ∙ ap (λ n. 1 + n) (count_all xs)
    ∙ one_and (length xs)

count_listed : (g : Grid) (v : Levels) (t : AccessList)
    → sum_by (by_finding (one_if_listed v.report)) (tracked g v t) ≡ length (listed g v t)
count_listed g v t =
    let reached : List Finding = filter (λ f. leb v.report f.count) (tracked g v t) in
    sym (length-filter (λ f. leb v.report f.count) (tracked g v t))
    ∙ sym (length_permutation reached (in_order comes_before reached)
    (in_order-permutes comes_before reached))

-- ---- the invalidations of the observed ones

sum-alike : {X : Type 0} (f h : X → ℕ) (found : ℕ → Option X)
    (alike : (k : ℕ) (x : X) → found k ≡ Some x → f x ≡ h x)
    (ks : List ℕ) → sum_by f (filter_map found ks) ≡ sum_by h (filter_map found ks)
sum-alike f h found alike [] = refl
sum-alike f h found alike (k ∷ ks) =
    elim (slice_cases (found k)) [
      | inl none ↦ rw none (sum-alike f h found alike ks)
      | inr s ↦ rw s.1
          (sum_by-cons f s.0 (filter_map found ks)
          ∙ ap (λ n. n + sum_by f (filter_map found ks)) (alike k s.0 s.1)
          ∙ ap (λ n. h s.0 + n) (sum-alike f h found alike ks)
          ∙ sym (sum_by-cons h s.0 (filter_map found ks)))
    ]

sum-zeros : {X : Type 0} (xs : List X) → sum_by (λ x. 0) xs ≡ 0
sum-zeros [] = refl
sum-zeros (x ∷ xs) = sum_by-cons (λ y. 0) x xs ∙ nothing_first (sum_by (λ y. 0) xs) ∙ sum-zeros xs

-- what is found has its kind
kind_counts : (kind : LineKind) (f : Finding) → f.kind ≡ kind → by_finding observed_count f
    ≡ observed_count kind f.count
kind_counts kind f is = ap (λ k. observed_count k f.count) is

found_kind : (t : AccessList) (kind : LineKind) (l : Line) (start : Option ℕ) (f : Finding)
    → option_map (found t kind l) start ≡ Some f → f.kind ≡ kind
found_kind t kind l None f e = absurd (none-some f e)
found_kind t kind l (Some s) f e = sym (ap (λ (x : Finding). x.kind) (same_Some _ f e))

kind_through : {A : Type 0} (kind : LineKind) (h : A → Option Finding) (o : Option A)
    → ((x : A) (f : Finding) → h x ≡ Some f → f.kind ≡ kind) → (f : Finding) → option_and_then h o
    ≡ Some f → f.kind ≡ kind
kind_through kind h None so f e = absurd (none-some f e)
kind_through kind h (Some x) so f e = so x f e

observed_kind : (g : Grid) (T : ℕ) (t : AccessList) (k : ℕ) (f : Finding) → observed_line g T t k
    ≡ Some f → f.kind ≡ Observed
observed_kind g T t k f e = found_kind t Observed (grid_line g k)
    (observed_start T (is_inside (grid_line g k)) t) f e

shifted_kind : (n T P : ℕ) (t : AccessList) (k : ℕ) (f : Finding) → tracked_shifted n T P t k
    ≡ Some f → f.kind ≡ Shifted
shifted_kind n T P t k f e =
    kind_through Shifted (λ o. option_and_then (λ l. opened_line t Shifted l o)
    (shifted_line n T P k t)) (shifted_opening n T P k t)
    (λ o x i. kind_through Shifted (λ l. opened_line t Shifted l o) (shifted_line n T P k t)
    (λ l y j. found_kind t Shifted l (predicted_start o l t) y j) x i) f e

doubled_kind : (n T P : ℕ) (t : AccessList) (k : ℕ) (f : Finding) → tracked_doubled n T P t k
    ≡ Some f → f.kind ≡ Doubled
doubled_kind n T P t k f e =
    kind_through Doubled (opened_line t Doubled (doubled_line n k)) (doubled_opening n T P k t)
    (λ o x i. found_kind t Doubled (doubled_line n k) (predicted_start o (doubled_line n k) t) x i)
    f e

none_observed : (g : Grid) (v : Levels) (t : AccessList)
    → sum_by (by_finding observed_count) (predicted_lines g v t) ≡ 0
none_observed g v t =
    elim v.prediction
    as (λ p. sum_by (by_finding observed_count)
    (option_map_or (λ P. shifted_lines g.size v.tracking P t
    ++ doubled_lines g.size v.tracking P t) p []) ≡ 0) [
      | None ↦ refl
      | Some P ↦
          sum_by-append (by_finding observed_count) (shifted_lines g.size v.tracking P t)
          (doubled_lines g.size v.tracking P t)
          ∙ ap (λ n. n + sum_by (by_finding observed_count) (doubled_lines g.size v.tracking P t))
          (sum-alike (by_finding observed_count) (λ f. 0) (tracked_shifted g.size v.tracking P t)
          (λ k f e. kind_counts Shifted f (shifted_kind g.size v.tracking P t k f e))
          (written_lines (native_grid g.size) t)
          ∙ sum-zeros (shifted_lines g.size v.tracking P t))
          ∙ nothing_first (sum_by (by_finding observed_count) (doubled_lines g.size v.tracking P t))
          ∙ sum-alike (by_finding observed_count) (λ f. 0) (tracked_doubled g.size v.tracking P t)
          (λ k f e. kind_counts Doubled f (doubled_kind g.size v.tracking P t k f e))
          (written_lines (native_grid g.size) t)
          ∙ sum-zeros (doubled_lines g.size v.tracking P t)
    ]

sum_observed : (g : Grid) (v : Levels) (t : AccessList)
    → sum_by (by_finding observed_count) (tracked g v t)
    ≡ sum_by (λ f. f.count) (observed_lines g v.tracking t)
sum_observed g v t =
    let ours : List Finding = observed_lines g v.tracking t in
    sum_by-append (by_finding observed_count) ours (predicted_lines g v t)
    ∙ ap (λ n. sum_by (by_finding observed_count) ours + n) (none_observed g v t)
    ∙ nothing_last (sum_by (by_finding observed_count) ours)
    ∙ sum-alike (by_finding observed_count) (λ f. f.count) (observed_line g v.tracking t)
    (λ k f e. kind_counts Observed f (observed_kind g v.tracking t k f e)) (written_lines g t)

-- ---- all of it

pub totals-kept : (g : Grid) (v : Levels) (t : AccessList) (report : ℕ) (tracks : List TrackValue)
    → v.report ≡ report
    → IsPermutation tracks (map (kept_in t) (opened g v t)) → totals_in report tracks
    ≡ totals_of g v t
unfolding totals_of
totals-kept g v t report tracks is perm =
    let all : sum_by (weight one) tracks ≡ length (tracked g v t) =
    sum-tracked one g v t tracks perm ∙ count_all (tracked g v t) in
    let some : sum_by (weight (one_if_listed report)) tracks ≡ length (listed g v t) =
    ap (λ r. sum_by (weight (one_if_listed r)) tracks) (sym is)
    ∙ sum-tracked (one_if_listed v.report) g v t tracks perm ∙ count_listed g v t in
    let sum : sum_by (weight observed_count) tracks
    ≡ sum_by (λ f. f.count) (observed_lines g v.tracking t) =
    sum-tracked observed_count g v t tracks perm ∙ sum_observed g v t in
    rw (all, some, sum) refl
