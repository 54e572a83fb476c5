-- Carrying what stands for a list along.
use Rattle.std.proofs.Common.{◌≡◌, ℕ, ◌+◌, ◌<◌, eqb, List, [], ◌∷◌, ◌++◌, length}
use Rattle.std.proofs.Common.{refl, sym, ap, ◌∙◌, subst, length-append}
use Rattle.std.proofs.Common.{zero, suc, map}
use Rattle.std.proofs.lemmas.List.Sums.{sum_by-cons}
use Rattle.std.specs.Prelude.{option_map, slice_get, sum_by}
use Rattle.sharing_rules.specs.Observed.{written_lines}
use Rattle.base.specs.Touch.{Touch}
use Rattle.sharing_rules.specs.Laws.Places.{count_places-empty}
use Rattle.std.specs.List.{list_any}
use Rattle.finite_cache.specs.Bounded.{is_any_eviction, is_eviction}
use Rattle.finite_cache.specs.Fits.{AreNoted}
use Rattle.finite_cache.specs.CacheState.{ArePartsOf, HasNoted, IsStep, CacheState, MeansTheSame}
use Rattle.finite_cache.specs.CacheState.{StandsFor, harts_of, lists_of, no_parts}
use Rattle.finite_cache.specs.CacheState.{LineUse, WaySet, row_kept, tally_in, totals_kept}
use Rattle.finite_cache.specs.CacheState.{use_of}
use Rattle.finite_cache.specs.Laws.Standing.{any-evicted, next-parts}
use Rattle.finite_cache.specs.Rows.{all_evicted, bounded_count, evicted_count, row_in, rows_of}
use Rattle.finite_cache.specs.Rows.{totals_of, unbounded_count}
use Rattle.base.specs.Shapes.{CacheShape, grid_of}
use Rattle.finite_cache.specs.declared.rows.Tally.{Tally}
use Rattle.finite_cache.specs.declared.rows.Totals.{Totals}

-- an access was noted
pub stands-noted : (t : List Touch) (a : Touch) (old new : CacheState) → 0 < old.shape.sets
    → AreNoted old.shape (lists_of old.shape old.parts.sets) (harts_of old.parts.lines)
    → HasNoted a old new → StandsFor t old → StandsFor (t ++ a ∷ []) new
stands-noted t a old new some noted step stands =
    let k = old.shape in
    let parts : IsStep k (length t) a old.parts new.parts =
    subst (λ n. IsStep k n a old.parts new.parts) stands.position step.parts in
    let len : length (t ++ a ∷ []) ≡ length t + 1 = length-append t (a ∷ []) in
    let position : new.position ≡ length (t ++ a ∷ []) =
    step.position ∙ ap (λ n. n + 1) stands.position ∙ sym len in record {
      position = position;
      evicted = step.evicted
          ∙ any-evicted k t old.parts stands.parts a new.parts some noted parts old.evicted
          stands.evicted
          ∙ ap (λ s. all_evicted s (t ++ a ∷ [])) (sym step.shape);
      parts = subst (λ s. ArePartsOf s (t ++ a ∷ []) new.parts) (sym step.shape)
          (next-parts k t old.parts stands.parts a new.parts some noted parts);
    }

-- what means the same stands for the same lists
pub stands-same : (t : List Touch) (old new : CacheState) → MeansTheSame old new → StandsFor t old
    → StandsFor t new
stands-same t old new same stands =
    let k = old.shape in
    let parts : ArePartsOf k t new.parts = record {
      lists = λ h s s_in. same.parts.lists h s s_in ∙ stands.parts.lists h s s_in;
      harts = λ h r. ap (λ (l : LineUse). list_any (eqb h) l.harts) (same.parts.lines r)
          ∙ stands.parts.harts h r;
      evicted = λ r. ap (λ (l : LineUse). l.evicted) (same.parts.lines r)
          ∙ stands.parts.evicted r;
      rows = same.parts.rows ∙ stands.parts.rows;
    } in record {
      position = same.position ∙ stands.position;
      evicted = same.evicted ∙ stands.evicted ∙ ap (λ s. all_evicted s t) (sym same.shape);
      parts = subst (λ s. ArePartsOf s t new.parts) (sym same.shape) parts;
    }

-- nothing stands for the empty list
pub stands-none : (k : CacheShape) → StandsFor []
    (record { shape = k; position = 0; evicted = 0; parts = no_parts })
stands-none k = record {
  position = refl;
  evicted = sym (count_places-empty (is_any_eviction k));
  parts = record {
    lists = λ h s s_in. refl;
    harts = λ h r. refl;
    evicted = λ r. sym (count_places-empty (is_eviction k r));
    rows = refl;
  };
}

pub stands-empty : (k : CacheShape) (sets : List (ℕ × WaySet)) (lines : List (ℕ × LineUse))
    (rows : List (ℕ × Tally)) → sets ≡ [] → lines ≡ [] → rows ≡ []
    → StandsFor [] (record {
      shape = k;
      position = 0;
      evicted = 0;
      parts = record { sets = sets; lines = lines; rows = rows };
    })
stands-empty k sets lines rows e f g =
    let kept : List (ℕ × WaySet) → List (ℕ × LineUse) → List (ℕ × Tally) → CacheState =
    λ x y z. record {
      shape = k;
      position = 0;
      evicted = 0;
      parts = record { sets = x; lines = y; rows = z };
    } in
    subst (λ x. StandsFor [] (kept x lines rows)) (sym e)
    (subst (λ y. StandsFor [] (kept [] y rows)) (sym f)
    (subst (λ z. StandsFor [] (kept [] [] z)) (sym g) (stands-none k)))

-- ---- what is reported

mapped-at : {X Y : Type 0} (f : X → Y) (xs : List X) (i : ℕ)
    → option_map f (slice_get xs i) ≡ slice_get (map f xs) i
mapped-at f [] i = refl
mapped-at f (x ∷ xs) zero = refl
mapped-at f (x ∷ xs) (suc i) = mapped-at f xs i

rows-mapped : (k : CacheShape) (t : List Touch) (lines : List (ℕ × LineUse))
    → ((r : ℕ) → (use_of lines r).evicted ≡ evicted_count k t r) → (rs : List ℕ)
    → map (row_kept k lines) (map (λ r. (r, tally_in k t r)) rs) ≡ map (row_in k t) rs
rows-mapped k t lines same [] = refl
rows-mapped k t lines same (r ∷ rs) =
    ap (λ n. record (row_in k t r) { evicted = n }
    ∷ map (row_kept k lines) (map (λ q. (q, tally_in k t q)) rs)) (same r)
    ∙ ap (λ xs. row_in k t r ∷ xs) (rows-mapped k t lines same rs)

-- the rows that are kept are those of the list
pub rows-stand : (v : CacheState) (t : List Touch) → StandsFor t v
    → map (row_kept v.shape v.parts.lines) v.parts.rows ≡ rows_of v.shape t
rows-stand v t stands =
    ap (map (row_kept v.shape v.parts.lines)) stands.parts.rows
    ∙ rows-mapped v.shape t v.parts.lines stands.parts.evicted
    (written_lines (grid_of v.shape) t)

pub row-stands : (v : CacheState) (t : List Touch) (i : ℕ) → StandsFor t v
    → option_map (row_kept v.shape v.parts.lines) (slice_get v.parts.rows i)
    ≡ slice_get (rows_of v.shape t) i
row-stands v t i stands =
    mapped-at (row_kept v.shape v.parts.lines) v.parts.rows i
    ∙ ap (λ rs. slice_get rs i) (rows-stand v t stands)

sum-mapped : (f : Tally → ℕ) (g : ℕ → Tally) (rs : List ℕ)
    → sum_by (λ (e : ℕ × Tally). f e.1) (map (λ r. (r, g r)) rs) ≡ sum_by (λ r. f (g r)) rs
sum-mapped f g [] = refl
sum-mapped f g (r ∷ rs) =
    sum_by-cons (λ (e : ℕ × Tally). f e.1) (r, g r) (map (λ q. (q, g q)) rs)
    ∙ ap (λ n. f (g r) + n) (sum-mapped f g rs)
    ∙ sym (sum_by-cons (λ q. f (g q)) r rs)

pub totals-stand : (v : CacheState) (t : List Touch) → StandsFor t v
    → totals_kept v ≡ totals_of v.shape t
totals-stand v t stands =
    let rs = written_lines (grid_of v.shape) t in
    let total : ℕ → ℕ → ℕ → Totals =
    λ x y z. record { bounded = x; unbounded = y; evicted = z } in
    ap (λ n. total n (sum_by (λ e. e.1.unbounded) v.parts.rows) v.evicted)
    (ap (sum_by (λ e. e.1.bounded)) stands.parts.rows
    ∙ sum-mapped (λ w. w.bounded) (tally_in v.shape t) rs)
    ∙ ap (λ n. total (sum_by (bounded_count v.shape t) rs) n v.evicted)
    (ap (sum_by (λ e. e.1.unbounded)) stands.parts.rows
    ∙ sum-mapped (λ w. w.unbounded) (tally_in v.shape t) rs)
    ∙ ap (total (sum_by (bounded_count v.shape t) rs) (sum_by (unbounded_count v.shape t) rs))
    stands.evicted
