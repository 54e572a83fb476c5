-- A list without redundant accesses has the counts of the whole one.
use Rattle.std.proofs.Common.{◌≡◌, ℕ, zero, suc, ◌*◌, ◌/◌, ◌%◌, ◌<◌, ◌≤◌, Bool, true, false}
use Rattle.std.proofs.Common.{cond, eqb, leb, ltb, ◌&&◌, ◌||◌, List, [], ◌∷◌, Option, Some, None, map}
use Rattle.std.proofs.Common.{refl, sym, ap, ◌∙◌, arith, inl, inr}
use Rattle.std.proofs.lemmas.Bool.{cases_Bool, false≢true, and_from, and_parts, eq-eqb, eqb-true, lt-ltb, ltb-true}
use Rattle.std.proofs.lemmas.Bool.{or_left}
use Rattle.std.proofs.lemmas.List.{map-append}
use Rattle.std.proofs.lemmas.List.Folds.{list_any-append}
use Rattle.std.proofs.lemmas.List.Sums.{sum_by-cons}
use Rattle.std.specs.Prelude.{filter, filter_map, nat_lt, option_map, sum_by}
use Rattle.std.specs.List.{list_any}
use Rattle.base.specs.Lines.{Grid, is_layout, is_line_size}
use Rattle.base.specs.Touch.{Touch, is_write}
use Rattle.sharing_rules.specs.AccessLists.{AccessList}
use Rattle.sharing_rules.specs.Arrivals.{note_arrival}
use Rattle.sharing_rules.specs.Holders.{count_since}
use Rattle.sharing_rules.specs.Lines.{grid_line, is_inside}
use Rattle.sharing_rules.specs.Listed.{Finding, comes_before, in_order, listed, observed_line}
use Rattle.sharing_rules.specs.Listed.{observed_lines, put_in_order, tracked}
use Rattle.sharing_rules.specs.Observed.{first_write_from, written_lines}
use Rattle.sharing_rules.specs.Places.{below}
use Rattle.sharing_rules.specs.Recounts.{plain_levels, recounted}
use Rattle.sharing_rules.specs.declared.line_kind.LineKind.TheVariants.{Observed}
use Rattle.sharing_rules.specs.Laws.Listed.{tracked-observed}
use Rattle.sharing_rules.specs.Laws.Lists.{by_push, map_same, slice_cases}
use Rattle.sharing_rules.specs.Laws.Observed.{written_lines-any, written_lines-push}
use Rattle.sharing_rules.specs.Laws.Starts.{observed_start-one}
use Rattle.layout_sweep.specs.Counts.{swept_of}
use Rattle.layout_sweep.specs.Windows.{is_swept_size, shifted_grid}
use Rattle.misses.specs.MissCounts.{accessed_lines, all_counted, lines_of}
use Rattle.misses.specs.Misses.{is_by_in, is_cold, is_miss, is_needed}
use Rattle.misses.specs.Rows.{line_costs, rows_of}
use Rattle.misses.specs.WordLines.{KeepsWords}
use Rattle.misses.specs.Laws.KeptLines.{note_arrival-any}
use Rattle.misses.specs.Laws.KeptOf.{lines-push}
use Rattle.misses.specs.Laws.WordLines.{layout-keeps, layout-sized}
use Rattle.sharing_rules.specs.Filtered.{IsWithoutRedundant}
use Rattle.filtered_counts.specs.SameCounts.{IsWithin, SameCounts, SameLine, SameSweep}
use Rattle.filtered_counts.specs.SameCounts.{without_start}
use Rattle.filtered_counts.specs.Laws.Alike.{walk-alike}
use Rattle.filtered_counts.specs.Laws.Counts.{cold-alike, cold-silent, miss-alike, miss-silent}
use Rattle.filtered_counts.specs.Laws.Counts.{needed-alike, needed-silent, same-count, same-first}
use Rattle.filtered_counts.specs.Laws.Counts.{same-invalidations}
use Rattle.filtered_counts.specs.Laws.Near.{line-near}
use Rattle.filtered_counts.specs.Laws.Settled.{LiesNear}

-- ---- the lines of a layout

layout-below : (n o : ℕ) → is_layout n o ≡ true → o < n
layout-below n o h =
    let outer = and_parts (is_line_size n && nat_lt o n) (eqb (o % 4) 0) h in
    ltb-true o n (and_parts (is_line_size n) (nat_lt o n) outer.0).1

pub within-keeps : (k : ℕ) (g : Grid) → IsWithin k g → KeepsWords (lines_of g)
within-keeps k g w = layout-keeps g.size g.offset w.layout

pub within-near : (k : ℕ) (g : Grid) → IsWithin k g → LiesNear k (lines_of g)
within-near k g w x y same =
    let some = (layout-sized g.size g.offset w.layout).0 in
    let le : g.offset ≤ g.size = omega (arith, layout-below g.size g.offset w.layout) in
    line-near k g.size g.offset x y some le w.size same

-- ---- which lines are accessed, and which are written

nowhere : (x y z : Bool) → (x || ((y && z) || false)) ≡ true → (x ≡ true → ⊥) → (z ≡ true → ⊥) → ⊥
nowhere true y z e f g = f refl
nowhere false true true e f g = g refl
nowhere false true false e f g = false≢true e
nowhere false false z e f g = false≢true e

accessed-line : (g : Grid) (h r : ℕ) (t : List Touch)
    → list_any (is_by_in (lines_of g) h r) t ≡ true
    → list_any (eqb r) (accessed_lines g t) ≡ true
accessed-line g h r t =
    by_push (λ (t : List Touch). list_any (is_by_in (lines_of g) h r) t ≡ true
    → list_any (eqb r) (accessed_lines g t) ≡ true)
    (λ e. absurd (false≢true e))
    (λ t a ih e.
    ap (list_any (eqb r)) (lines-push g t a)
    ∙ elim (cases_Bool (list_any (eqb r) (note_arrival (accessed_lines g t) (lines_of g a.addr)))) [
      | inl there ↦ there
      | inr never ↦
          let parts = note_arrival-any r (lines_of g a.addr) (accessed_lines g t) never in
          absurd (nowhere (list_any (is_by_in (lines_of g) h r) t) (eqb h a.hart)
          (eqb (lines_of g a.addr) r)
          (sym (list_any-append (is_by_in (lines_of g) h r) t (a ∷ [])) ∙ e)
          (λ b. false≢true (sym parts.1 ∙ ih b))
          (λ b. false≢true (sym parts.0 ∙ eq-eqb _ _ (sym (eqb-true (lines_of g a.addr) r b)))))
    ])
    t

arrival-again : (ks : List ℕ) (x : ℕ) → list_any (eqb x) ks ≡ true → note_arrival ks x ≡ ks
arrival-again ks x e = rw e refl

pub same-accessed : (k : ℕ) (g : Grid) → IsWithin k g → (t v : AccessList)
    → IsWithoutRedundant k t v → accessed_lines g v ≡ accessed_lines g t
same-accessed k g within =
    walk-alike k (lines_of g) (λ t v. accessed_lines g v ≡ accessed_lines g t)
    (within-keeps k g within) (within-near k g within) refl
    (λ t v a s ih. rw (lines-push g t a, lines-push g v a, ih) refl)
    (λ t v a s settled ih. ih ∙ sym (lines-push g t a
    ∙ arrival-again (accessed_lines g t) (lines_of g a.addr)
    (accessed-line g a.hart (lines_of g a.addr) t settled.come)))

pub same-written : (k : ℕ) (g : Grid) → IsWithin k g → (t v : AccessList)
    → IsWithoutRedundant k t v → written_lines g v ≡ written_lines g t
same-written k g within =
    walk-alike k (lines_of g) (λ t v. written_lines g v ≡ written_lines g t)
    (within-keeps k g within) (within-near k g within) refl
    (λ t v a s ih. rw (written_lines-push g t a, written_lines-push g v a, ih) refl)
    (λ t v a s settled ih. ih ∙ sym (written_lines-push g t a
    ∙ elim (cases_Bool (is_write a.kind)) [
      | inl w ↦ rw w (arrival-again (written_lines g t) (lines_of g a.addr)
          (written_lines-any g t (lines_of g a.addr) ∙ settled.written w))
      | inr w ↦ rw w refl
    ]))

-- ---- what is counted of a line

-- a line's observed finding with threshold 1, but for the start
observed-first : (g : Grid) (t : AccessList) (r : ℕ)
    → option_map without_start (observed_line g 1 t r)
    ≡ option_map (λ c. record { kind = Observed; line = grid_line g r; start = 0; count = c })
    (option_map (λ s. count_since (lines_of g) r s t)
    (first_write_from 0 (λ b. eqb (lines_of g b) r) t))
observed-first g t r =
    rw (observed_start-one (is_inside (grid_line g r)) t)
    (elim (slice_cases (first_write_from 0 (λ b. eqb (lines_of g b) r) t)) [
      | inl none ↦ rw none refl
      | inr some ↦ rw some.1 refl
    ])

pub same-observed : (k : ℕ) (g : Grid) → IsWithin k g → (t v : AccessList)
    → IsWithoutRedundant k t v → (r : ℕ)
    → option_map without_start (observed_line g 1 v r)
    ≡ option_map without_start (observed_line g 1 t r)
same-observed k g within t v w r =
    let same = same-first k (lines_of g) r (within-keeps k g within) (within-near k g within) t v w
    in observed-first g v r ∙ rw same refl ∙ sym (observed-first g t r)

count-alone : (o : Option Finding)
    → option_map (λ f. f.count) o ≡ option_map (λ f. f.count) (option_map without_start o)
count-alone None = refl
count-alone (Some f) = refl

pub same-line : (k : ℕ) (g : Grid) → IsWithin k g → (t v : AccessList)
    → IsWithoutRedundant k t v → (r : ℕ) → SameLine g r t v
same-line k g within t v w r =
    let L = lines_of g in
    let keeps = within-keeps k g within in
    let near = within-near k g within in
    let c = same-count k L (is_cold L r) keeps near (cold-alike L r) (cold-silent L r) t v w in
    let m = same-count k L (is_miss L r) keeps near (miss-alike L r) (miss-silent L r) t v w in
    let n = same-count k L (is_needed L r) keeps near (needed-alike L r) (needed-silent L r) t v w in
    let first = same-observed k g within t v w r in
    record {
      cold = c;
      useful = rw (c, n) refl;
      useless = rw (m, n) refl;
      misses = m;
      needed = n;
      invalidations = same-invalidations k L r keeps near t v w;
      later_invalidations = count-alone (recounted (grid_line g r) v)
          ∙ ap (option_map (λ f. f.count)) first ∙ sym (count-alone (recounted (grid_line g r) t));
    }

-- ---- all lines

pub same-misses : (k : ℕ) (g : Grid) → IsWithin k g → (t v : AccessList)
    → IsWithoutRedundant k t v → all_counted g v ≡ all_counted g t
same-misses k g within t v w =
    let L = lines_of g in
    let keeps = within-keeps k g within in
    let near = within-near k g within in
    let c = same-count k L (λ before a. is_cold L (L a.addr) before a) keeps near
    (λ t v a s. cold-alike L (L a.addr) t v a s) (λ t a s. cold-silent L (L a.addr) t a s) t v w in
    let m = same-count k L (λ before a. is_miss L (L a.addr) before a) keeps near
    (λ t v a s. miss-alike L (L a.addr) t v a s) (λ t a s. miss-silent L (L a.addr) t a s) t v w in
    let n = same-count k L (λ before a. is_needed L (L a.addr) before a) keeps near
    (λ t v a s. needed-alike L (L a.addr) t v a s) (λ t a s. needed-silent L (L a.addr) t a s)
    t v w in
    rw (c, m, n) refl

pub same-rows : (k : ℕ) (g : Grid) → IsWithin k g → (t v : AccessList)
    → IsWithoutRedundant k t v → rows_of g v ≡ rows_of g t
same-rows k g within t v w =
    ap (λ ks. map (λ r. record { line = grid_line g r; costs = line_costs g v r }) ks)
    (same-accessed k g within t v w)
    ∙ map_same (λ r. record { line = grid_line g r; costs = line_costs g v r })
    (λ r. record { line = grid_line g r; costs = line_costs g t r })
    (λ r. let s = same-line k g within t v w r in rw (s.cold, s.needed, s.misses) refl)
    (accessed_lines g t)

mapped-chosen : {X Y : Type 0} (w : X → Y) (h : ℕ → Option X) (ks : List ℕ)
    → map w (filter_map h ks) ≡ filter_map (λ k. option_map w (h k)) ks
mapped-chosen w h [] = refl
mapped-chosen w h (k ∷ ks) = elim (slice_cases (h k)) [
  | inl none ↦ rw none (mapped-chosen w h ks)
  | inr some ↦ rw some.1 (ap (λ ys. w some.0 ∷ ys) (mapped-chosen w h ks))
]

chosen-alike : {X : Type 0} (f g : ℕ → Option X) → ((k : ℕ) → f k ≡ g k) → (ks : List ℕ)
    → filter_map f ks ≡ filter_map g ks
chosen-alike f g same [] = refl
chosen-alike f g same (k ∷ ks) = rw (same k, chosen-alike f g same ks) refl

pub same-observed_lines : (k : ℕ) (g : Grid) → IsWithin k g → (t v : AccessList)
    → IsWithoutRedundant k t v
    → map without_start (observed_lines g 1 v) ≡ map without_start (observed_lines g 1 t)
same-observed_lines k g within t v w =
    mapped-chosen without_start (observed_line g 1 v) (written_lines g v)
    ∙ chosen-alike (λ r. option_map without_start (observed_line g 1 v r))
    (λ r. option_map without_start (observed_line g 1 t r)) (same-observed k g within t v w)
    (written_lines g v)
    ∙ ap (filter_map (λ r. option_map without_start (observed_line g 1 t r)))
    (same-written k g within t v w)
    ∙ sym (mapped-chosen without_start (observed_line g 1 t) (written_lines g t))

-- ---- sums, and what is listed

sum-without : (f : Finding → ℕ) → ((x : Finding) → f (without_start x) ≡ f x)
    → (xs : List Finding) → sum_by f xs ≡ sum_by f (map without_start xs)
sum-without f same [] = refl
sum-without f same (x ∷ xs) =
    let rest = sum-without f same xs in
    let here = same x in
    omega (
      arith,
      rest,
      here,
      sum_by-cons f x xs,
      sum_by-cons f (without_start x) (map without_start xs),
    )

filter-without : (report : ℕ) (xs : List Finding)
    → map without_start (filter (λ f. leb report f.count) xs)
    ≡ filter (λ f. leb report f.count) (map without_start xs)
filter-without report [] = refl
filter-without report (x ∷ xs) = elim (cases_Bool (leb report x.count)) [
  | inl e ↦ rw e (ap (λ ys. without_start x ∷ ys) (filter-without report xs))
  | inr e ↦ rw e (filter-without report xs)
]

put-without : (x : Finding) (ys : List Finding)
    → map without_start (put_in_order comes_before x ys)
    ≡ put_in_order comes_before (without_start x) (map without_start ys)
put-without x [] = refl
put-without x (y ∷ ys) = elim (cases_Bool (comes_before y x)) [
  | inl e ↦ rw e (ap (λ zs. without_start y ∷ zs) (put-without x ys))
  | inr e ↦ rw e refl
]

order-without : (xs : List Finding)
    → map without_start (in_order comes_before xs) ≡ in_order comes_before (map without_start xs)
order-without [] = refl
order-without (x ∷ xs) = put-without x (in_order comes_before xs)
    ∙ ap (put_in_order comes_before (without_start x)) (order-without xs)

listed-without : (g : Grid) (report : ℕ) (t : AccessList)
    → map without_start (listed g (plain_levels report) t)
    ≡ in_order comes_before (filter (λ f. leb report f.count)
    (map without_start (observed_lines g 1 t)))
listed-without g report t =
    order-without (filter (λ f. leb report f.count) (tracked g (plain_levels report) t))
    ∙ ap (in_order comes_before) (filter-without report (tracked g (plain_levels report) t)
    ∙ ap (λ xs. filter (λ f. leb report f.count) (map without_start xs))
    (tracked-observed g (plain_levels report) t refl))

-- ---- the theorem

pub same-counts : (k : ℕ) (g : Grid) → IsWithin k g → (t v : AccessList)
    → IsWithoutRedundant k t v → SameCounts g t v
same-counts k g within t v w =
    let findings = same-observed_lines k g within t v w in
    let summed : (f : Finding → ℕ) → ((x : Finding) → f (without_start x) ≡ f x)
    → sum_by f (observed_lines g 1 v) ≡ sum_by f (observed_lines g 1 t) =
    λ f same. sum-without f same (observed_lines g 1 v) ∙ ap (sum_by f) findings
    ∙ sym (sum-without f same (observed_lines g 1 t)) in
    record {
      lines = same-line k g within t v w;
      misses = same-misses k g within t v w;
      rows = same-rows k g within t v w;
      listed = λ report. listed-without g report v
          ∙ ap (λ xs. in_order comes_before (filter (λ f. leb report f.count) xs)) findings
          ∙ sym (listed-without g report t);
      total = summed (λ f. f.count) (λ x. refl);
      counted = summed (λ f. cond (ltb 0 f.count) 1 0) (λ x. refl);
    }

-- ---- sweeps

swept-layout : (n i : ℕ) → is_swept_size n ≡ true → i < n / 4 → is_layout n (4 * i) ≡ true
swept-layout n i swept l =
    let size : is_line_size n ≡ true =
    list_any-append (eqb n) (4 ∷ 8 ∷ 16 ∷ 32 ∷ 64 ∷ 128 ∷ 256 ∷ []) (512 ∷ 1024 ∷ [])
    ∙ or_left _ _ swept in
    let low : nat_lt (4 * i) n ≡ true = lt-ltb (4 * i) n (omega (arith, l)) in
    let even : eqb (4 * i % 4) 0 ≡ true = eq-eqb (4 * i % 4) 0 (omega arith) in
    and_from (is_line_size n && nat_lt (4 * i) n) (eqb (4 * i % 4) 0)
    (and_from (is_line_size n) (nat_lt (4 * i) n) size low) even

mapped-below : {X : Type 0} (f g : ℕ → X) (n : ℕ) → ((i : ℕ) → i < n → f i ≡ g i)
    → map f (below n) ≡ map g (below n)
mapped-below f g zero same = refl
mapped-below f g (suc n) same =
    map-append f (below n) (n ∷ [])
    ∙ rw (mapped-below f g n (λ i l. same i (omega arith)), same n (omega arith)) refl
    ∙ sym (map-append g (below n) (n ∷ []))

pub same-sweep : (k : ℕ) (t v : AccessList) → IsWithoutRedundant k t v → SameSweep k t v
same-sweep k t v w n swept le =
    mapped-below (swept_of n v) (swept_of n t) (n / 4) (λ i l.
    let within : IsWithin k (shifted_grid n i) =
    record { layout = swept-layout n i swept l; size = le } in
    let s = same-counts k (shifted_grid n i) within t v w in
    rw (s.total, s.counted) refl)
