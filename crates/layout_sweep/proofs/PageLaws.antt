-- How a write to one page changes what is read at all places.
use Rattle.std.proofs.Common.{◌≡◌, ℕ, ◌+◌, ◌/◌, ◌%◌, ◌<◌, ◌≤◌, ◌⊎◌, true, false, List}
use Rattle.std.proofs.Common.{[], length, Option, Some, None, slice_get, refl, sym, ◌∙◌, ap}
use Rattle.std.proofs.Common.{subst, arith, inl, inr, nat_lt, get_or}
use Rattle.std.specs.Prelude.{option_map, slice_index_or, slice_set, unwrap_or}
use Rattle.std.proofs.lemmas.Bool.{cases_Bool, cases_eq, cases_lt, ltb-true}
use Rattle.std.proofs.lemmas.Option.{slice_get-get_or, slice_get_past}
use Rattle.std.specs.declared.vec.Vec.{Vec}
use Rattle.std.specs.declared.alloc.Global.{Global}
use Rattle.std.specs.Option.{option_map_or}
use Rattle.base.specs.Touch.{Touch, is_write}
use Rattle.sharing_rules.specs.Laws.Lists.{get-set_other, get-set_same}
use Rattle.layout_sweep.specs.Counts.{swept_after}
use Rattle.layout_sweep.specs.Pages.{has_window, page_at, window_at, window_in}
use Rattle.layout_sweep.specs.Windows.{blank_window, takes, window_after}
use Rattle.layout_sweep.specs.declared.counts.Swept.{Swept}
use Rattle.layout_sweep.specs.declared.window.Window.{Window}

-- the page that stands at a place
pub page_at-held : (pages : List (Vec Window Global)) (i : ℕ) (v : Vec Window Global)
    → i < length pages → v ≡ slice_index_or pages i v → page_at pages i ≡ v.items
page_at-held pages i v h is = ap (λ o. option_map_or (λ w. w.items) o [])
    (slice_get-get_or pages i v h) ∙ ap (λ w. w.items) (sym is)

-- a page was put there
pub page_at-same : (pages : List (Vec Window Global)) (i : ℕ) (v : Vec Window Global)
    → i < length pages → page_at (slice_set pages i v) i ≡ v.items
page_at-same pages i v h = ap (λ o. option_map_or (λ w. w.items) o []) (get-set_same pages i v h)

pub page_at-other : (pages : List (Vec Window Global)) (i k : ℕ) (v : Vec Window Global)
    → (k ≡ i → ⊥) → page_at (slice_set pages i v) k ≡ page_at pages k
page_at-other pages i k v other = ap (λ o. option_map_or (λ w. w.items) o [])
    (get-set_other pages i k v other)

-- a page was replaced by a related one
pub page_at-related : (R : List Window → List Window → Type 0) → ((xs : List Window) → R xs xs)
    → (pages : List (Vec Window Global)) (i : ℕ) (v : Vec Window Global) → i < length pages
    → R (page_at pages i) v.items → (k : ℕ) → R (page_at pages k) (page_at (slice_set pages i v) k)
page_at-related R alike pages i v within h k =
    elim (cases_eq k i) [
      | inl here ↦ subst (λ j. R (page_at pages j) (page_at (slice_set pages i v) j)) (sym here)
          (subst (R (page_at pages i)) (sym (page_at-same pages i v within)) h)
      | inr other ↦ subst (R (page_at pages k)) (sym (page_at-other pages i k v other))
          (alike (page_at pages k))
    ]

-- past the last page there are no windows
pub page_at-past : (pages : List (Vec Window Global)) (i : ℕ) → length pages ≤ i
    → page_at pages i ≡ []
page_at-past pages i h = ap (λ o. option_map_or (λ w. w.items) o []) (slice_get_past pages i h)

-- place b + i of pages, in the page of b
pub at_place : (pages : List (Vec Window Global)) (b i : ℕ) (page : List Window)
    → ((b + i) / 4096 ≡ b / 4096) × ((b + i) % 4096 ≡ b % 4096 + i)
    → page_at pages (b / 4096) ≡ page → window_at pages (b + i) ≡ window_in page (b % 4096 + i)
at_place pages b i page there is =
    ap (λ k. window_in (page_at pages k) ((b + i) % 4096)) there.0
    ∙ ap (λ p. window_in (page_at pages (b / 4096)) p) there.1
    ∙ ap (λ xs. window_in xs (b % 4096 + i)) is

-- a place of the page of b that is not among so many from b on
outside_place : (b q n : ℕ) → q / 4096 ≡ b / 4096 → (q < b) ⊎ (b + n ≤ q)
    → (q % 4096 < b % 4096) ⊎ (b % 4096 + n ≤ q % 4096)
outside_place b q n same (inl low) = inl (omega (arith, same, low))
outside_place b q n same (inr high) = inr (omega (arith, same, high))

-- a page was replaced by one that differs only there
pub kept_outside : (pages : List (Vec Window Global)) (b q n : ℕ) (v : Vec Window Global)
    → b / 4096 < length pages
    → ((k : ℕ) → (k < b % 4096) ⊎ (b % 4096 + n ≤ k)
    → window_in v.items k ≡ window_in (page_at pages (b / 4096)) k)
    → (q < b) ⊎ (b + n ≤ q) → window_at (slice_set pages (b / 4096) v) q ≡ window_at pages q
kept_outside pages b q n v within kept away =
    elim (cases_eq (q / 4096) (b / 4096)) [
      | inl same ↦
          ap (λ k. window_in (page_at (slice_set pages (b / 4096) v) k) (q % 4096)) same
          ∙ ap (λ xs. window_in xs (q % 4096)) (page_at-same pages (b / 4096) v within)
          ∙ kept (q % 4096) (outside_place b q n same away)
          ∙ sym (ap (λ k. window_in (page_at pages k) (q % 4096)) same)
      | inr other ↦
          ap (λ xs. window_in xs (q % 4096)) (page_at-other pages (b / 4096) (q / 4096) v other)
    ]

-- it has as many windows
pub kept_pages : (pages : List (Vec Window Global)) (i q : ℕ) (v : Vec Window Global)
    → i < length pages → length v.items ≡ length (page_at pages i)
    → has_window pages q ≡ true → has_window (slice_set pages i v) q ≡ true
kept_pages pages i q v within long had =
    subst (λ n. nat_lt (q % 4096) n ≡ true)
    (page_at-related (λ es fs. length es ≡ length fs) (λ es. refl) pages i v within (sym long)
    (q / 4096)) had

-- the numbers of shifts by windows that are read elsewhere
pub counted_as : (xs ys : List Swept) (a : Touch) (f g : ℕ → Window)
    → ((i : ℕ) → slice_get ys i ≡ option_map (λ x. swept_after x (f i) a) (slice_get xs i))
    → ((i : ℕ) → i < length xs → f i ≡ g i) → (i : ℕ)
    → slice_get ys i ≡ option_map (λ x. swept_after x (g i) a) (slice_get xs i)
counted_as xs ys a f g counted same i =
    elim (cases_lt i (length xs)) [
      | inl within ↦ counted i
          ∙ ap (λ w. option_map (λ x. swept_after x w a) (slice_get xs i)) (same i within)
      | inr past ↦ counted i
          ∙ ap (option_map (λ x. swept_after x (f i) a)) (slice_get_past xs i past)
          ∙ sym (ap (option_map (λ x. swept_after x (g i) a)) (slice_get_past xs i past))
    ]

-- A window of a page that isn't there: a read leaves it blank, and counts nothing.
pub record IsUnmoved (w : Window) (a : Touch) : Type 0 where
  pub same : w ≡ window_after w a
  pub untaken : takes w a ≡ false

pub unmoved_at : (pages : List (Vec Window Global)) (q : ℕ) (a : Touch)
    → length pages ≤ q / 4096 → (is_write a.kind ≡ true → has_window pages q ≡ true)
    → IsUnmoved (window_at pages q) a
unmoved_at pages q a past made =
    let none : page_at pages (q / 4096) ≡ [] = page_at-past pages (q / 4096) past in
    let blank : window_at pages q ≡ blank_window = ap (λ xs. window_in xs (q % 4096)) none in
    elim (cases_Bool (is_write a.kind)) [
      | inl writes ↦
          let had : nat_lt (q % 4096) (length (page_at pages (q / 4096))) ≡ true = made writes in
          let less : q % 4096 < length (page_at pages (q / 4096)) = ltb-true _ _ had in
          let empty : length (page_at pages (q / 4096)) ≡ 0 = ap length none in
          absurd (omega (arith, less, empty))
      | inr reads ↦ subst (λ w. IsUnmoved w a) (sym blank)
          (record { same = rw reads refl; untaken = refl })
    ]

pub unmoved : (pages : List (Vec Window Global)) (b i : ℕ) (a : Touch)
    → (b + i) / 4096 ≡ b / 4096 → length pages ≤ b / 4096
    → (is_write a.kind ≡ true → has_window pages (b + i) ≡ true)
    → IsUnmoved (window_at pages (b + i)) a
unmoved pages b i a there past made =
    unmoved_at pages (b + i) a (subst (λ k. length pages ≤ k) (sym there) past) made

pub uncounted : (xs : List Swept) (a : Touch) (f : ℕ → Window)
    → ((i : ℕ) → i < length xs → takes (f i) a ≡ false) → (i : ℕ)
    → slice_get xs i ≡ option_map (λ x. swept_after x (f i) a) (slice_get xs i)
uncounted xs a f untaken i =
    elim (cases_lt i (length xs)) [
      | inl within ↦ kept (slice_get xs i) (f i) (untaken i within)
      | inr past ↦ slice_get_past xs i past
          ∙ sym (ap (option_map (λ x. swept_after x (f i) a)) (slice_get_past xs i past))
    ]
  where
    kept : (o : Option Swept) (w : Window) → takes w a ≡ false
        → o ≡ option_map (λ x. swept_after x w a) o
    kept None w e = refl
    kept (Some x) w e = rw e refl

-- one window more is noted and counted
pub counted_here : (xs ys : List Swept) (i : ℕ) (y d : Swept) (w v : Window) (a : Touch)
    → i < length xs → slice_get xs i ≡ slice_get ys i → y ≡ swept_after (get_or xs i d) w a
    → w ≡ v → slice_get (slice_set xs i y) i ≡ option_map (λ x. swept_after x v a) (slice_get ys i)
counted_here xs ys i y d w v a within same is at =
    get-set_same xs i y within
    ∙ ap Some (is ∙ ap (λ (u : Window). swept_after (get_or xs i d) u a) at)
    ∙ ap (option_map (λ x. swept_after x v a)) (sym (slice_get-get_or xs i d within) ∙ same)

-- a window that isn't there is blank
pub missing_blank : (pages : List (Vec Window Global)) (q : ℕ) (page : List Window)
    → page_at pages (q / 4096) ≡ page → length page ≤ q % 4096 → window_at pages q ≡ blank_window
missing_blank pages q page is past =
    ap (λ xs. window_in xs (q % 4096)) is
    ∙ ap (λ o. unwrap_or o blank_window) (slice_get_past page (q % 4096) past)
