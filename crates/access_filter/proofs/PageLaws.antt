-- How a write to one page changes what is read at all places.
use Rattle.std.proofs.Common.{◌≡◌, ℕ, ◌+◌, ◌/◌, ◌%◌, ◌<◌, ◌≤◌, ◌⊎◌, true, List}
use Rattle.std.proofs.Common.{[], length, refl, sym, ◌∙◌, ap}
use Rattle.std.proofs.Common.{subst, arith, inl, inr, nat_lt}
use Rattle.std.specs.Prelude.{slice_index_or, slice_set, unwrap_or}
use Rattle.std.proofs.lemmas.Bool.{cases_eq}
use Rattle.std.proofs.lemmas.Option.{slice_get-get_or, slice_get_past}
use Rattle.std.specs.declared.vec.Vec.{Vec}
use Rattle.std.specs.declared.alloc.Global.{Global}
use Rattle.std.specs.Option.{option_map_or}
use Rattle.sharing_rules.specs.Laws.Lists.{get-set_other, get-set_same}
use Rattle.access_filter.specs.Pages.{has_stamp, page_at, stamp_at, stamp_in}
use Rattle.access_filter.specs.Stamps.{blank_stamp}
use Rattle.access_filter.specs.declared.stamp.Stamp.{Stamp}

-- the page that stands at a place
pub page_at-held : (pages : List (Vec Stamp Global)) (i : ℕ) (v : Vec Stamp Global)
    → i < length pages → v ≡ slice_index_or pages i v → page_at pages i ≡ v.items
page_at-held pages i v h is = ap (λ o. option_map_or (λ w. w.items) o [])
    (slice_get-get_or pages i v h) ∙ ap (λ w. w.items) (sym is)

-- a page was put there
pub page_at-same : (pages : List (Vec Stamp Global)) (i : ℕ) (v : Vec Stamp Global)
    → i < length pages → page_at (slice_set pages i v) i ≡ v.items
page_at-same pages i v h = ap (λ o. option_map_or (λ w. w.items) o []) (get-set_same pages i v h)

pub page_at-other : (pages : List (Vec Stamp Global)) (i k : ℕ) (v : Vec Stamp Global)
    → (k ≡ i → ⊥) → page_at (slice_set pages i v) k ≡ page_at pages k
page_at-other pages i k v other = ap (λ o. option_map_or (λ w. w.items) o [])
    (get-set_other pages i k v other)

-- a page was replaced by a related one
pub page_at-related : (R : List Stamp → List Stamp → Type 0) → ((xs : List Stamp) → R xs xs)
    → (pages : List (Vec Stamp Global)) (i : ℕ) (v : Vec Stamp Global) → i < length pages
    → R (page_at pages i) v.items → (k : ℕ) → R (page_at pages k) (page_at (slice_set pages i v) k)
page_at-related R alike pages i v within h k =
    elim (cases_eq k i) [
      | inl here ↦ subst (λ j. R (page_at pages j) (page_at (slice_set pages i v) j)) (sym here)
          (subst (R (page_at pages i)) (sym (page_at-same pages i v within)) h)
      | inr other ↦ subst (R (page_at pages k)) (sym (page_at-other pages i k v other))
          (alike (page_at pages k))
    ]

-- past the last page there are no stamps
pub page_at-past : (pages : List (Vec Stamp Global)) (i : ℕ) → length pages ≤ i
    → page_at pages i ≡ []
page_at-past pages i h = ap (λ o. option_map_or (λ w. w.items) o []) (slice_get_past pages i h)

-- place b + i of pages, in the page of b
pub at_place : (pages : List (Vec Stamp Global)) (b i : ℕ) (page : List Stamp)
    → ((b + i) / 4096 ≡ b / 4096) × ((b + i) % 4096 ≡ b % 4096 + i)
    → page_at pages (b / 4096) ≡ page → stamp_at pages (b + i) ≡ stamp_in page (b % 4096 + i)
at_place pages b i page there is =
    ap (λ k. stamp_in (page_at pages k) ((b + i) % 4096)) there.0
    ∙ ap (λ p. stamp_in (page_at pages (b / 4096)) p) there.1
    ∙ ap (λ xs. stamp_in xs (b % 4096 + i)) is

-- a place of the page of b that is not among so many from b on
outside_place : (b q n : ℕ) → q / 4096 ≡ b / 4096 → (q < b) ⊎ (b + n ≤ q)
    → (q % 4096 < b % 4096) ⊎ (b % 4096 + n ≤ q % 4096)
outside_place b q n same (inl low) = inl (omega (arith, same, low))
outside_place b q n same (inr high) = inr (omega (arith, same, high))

-- a page was replaced by one that differs only there
pub kept_outside : (pages : List (Vec Stamp Global)) (b q n : ℕ) (v : Vec Stamp Global)
    → b / 4096 < length pages
    → ((k : ℕ) → (k < b % 4096) ⊎ (b % 4096 + n ≤ k)
    → stamp_in v.items k ≡ stamp_in (page_at pages (b / 4096)) k)
    → (q < b) ⊎ (b + n ≤ q) → stamp_at (slice_set pages (b / 4096) v) q ≡ stamp_at pages q
kept_outside pages b q n v within kept away =
    elim (cases_eq (q / 4096) (b / 4096)) [
      | inl same ↦
          ap (λ k. stamp_in (page_at (slice_set pages (b / 4096) v) k) (q % 4096)) same
          ∙ ap (λ xs. stamp_in xs (q % 4096)) (page_at-same pages (b / 4096) v within)
          ∙ kept (q % 4096) (outside_place b q n same away)
          ∙ sym (ap (λ k. stamp_in (page_at pages k) (q % 4096)) same)
      | inr other ↦
          ap (λ xs. stamp_in xs (q % 4096)) (page_at-other pages (b / 4096) (q / 4096) v other)
    ]

-- it has as many stamps
pub kept_pages : (pages : List (Vec Stamp Global)) (i q : ℕ) (v : Vec Stamp Global)
    → i < length pages → length v.items ≡ length (page_at pages i)
    → has_stamp pages q ≡ true → has_stamp (slice_set pages i v) q ≡ true
kept_pages pages i q v within long had =
    subst (λ n. nat_lt (q % 4096) n ≡ true)
    (page_at-related (λ es fs. length es ≡ length fs) (λ es. refl) pages i v within (sym long)
    (q / 4096)) had

-- a stamp that isn't there is blank
pub missing_blank : (pages : List (Vec Stamp Global)) (q : ℕ) (page : List Stamp)
    → page_at pages (q / 4096) ≡ page → length page ≤ q % 4096 → stamp_at pages q ≡ blank_stamp
missing_blank pages q page is past =
    ap (λ xs. stamp_in xs (q % 4096)) is
    ∙ ap (λ o. unwrap_or o blank_stamp) (slice_get_past page (q % 4096) past)
