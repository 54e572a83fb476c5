-- What is kept of a list of accesses, and what one access more makes of it.
use Rattle.std.specs.Prelude.{◌≡◌, ℕ, ◌+◌, ◌*◌, ◌<◌, Bool, false, ◌&&◌, ◌||◌, ◌==◌, eqb, nat_eq}
use Rattle.std.specs.Prelude.{List, [], ◌∷◌}
use Rattle.std.specs.Prelude.{if◌then◌else◌, is_some, length, map, not, sum_by, Option, None, Some}
use Rattle.std.specs.List.{list_any}
use Rattle.std.specs.Map.{lookup}
use Rattle.std.specs.Option.{option_map_or}
use Rattle.indexmap.specs.IndexMap.{insert_entry}
use Rattle.base.specs.Touch.{Touch, is_write}
use Rattle.sharing_rules.specs.AccessLists.{AccessList}
use Rattle.sharing_rules.specs.Arrivals.{note_arrival}
use Rattle.sharing_rules.specs.Holders.{holders}
use Rattle.sharing_rules.specs.Lines.{grid_line, range_of}
use Rattle.sharing_rules.specs.Observed.{written_lines}
use Rattle.finite_cache.specs.Bounded.{bounded, bounded_step, has, left, line_in, set_of}
use Rattle.finite_cache.specs.Counts.{one_if}
use Rattle.finite_cache.specs.Rows.{all_evicted, bounded_count, evicted_count, start_of}
use Rattle.finite_cache.specs.Rows.{unbounded_count}
use Rattle.base.specs.Shapes.{CacheShape, grid_of}
use Rattle.finite_cache.specs.declared.rows.CacheRow.{CacheRow}
use Rattle.finite_cache.specs.declared.rows.Tally.{Tally}
use Rattle.finite_cache.specs.declared.rows.Totals.{Totals}

-- a hart's cache of one set: its lines, the most recently used first, and how many it has room for
pub record WaySet : Type 0 where
  pub lines : List ℕ
  pub ways : ℕ

-- of a line the harts that came since its last write, or since the beginning, and how often it was
-- evicted
pub record LineUse : Type 0 where
  pub harts : List ℕ
  pub evicted : ℕ

abbrev pub unused : LineUse
unused = record { harts = []; evicted = 0 }

-- the lists of the harts and sets in use, the lines that were accessed, and what is counted of
-- those that were written
pub record Parts : Type 0 where
  pub sets : List (ℕ × WaySet)
  pub lines : List (ℕ × LineUse)
  pub rows : List (ℕ × Tally)

abbrev pub no_parts : Parts
no_parts = record { sets = []; lines = []; rows = [] }

-- all that is kept: the shape, the position, how often any line was evicted, and the parts
pub record CacheState : Type 0 where
  pub shape : CacheShape
  pub position : ℕ
  pub evicted : ℕ
  pub parts : Parts

-- under which number the list of a hart and a set is kept, and that list, empty where there is none
abbrev pub cell_of : CacheShape → ℕ → ℕ → ℕ
cell_of k h s = h * k.sets + s

abbrev pub lines_at : List (ℕ × WaySet) → ℕ → List ℕ
lines_at sets c = option_map_or (λ w. w.lines) (lookup (eqb c) sets) []

abbrev pub lists_of : CacheShape → List (ℕ × WaySet) → ℕ → ℕ → List ℕ
lists_of k sets h s = lines_at sets (cell_of k h s)

-- what is kept of a line
abbrev pub use_of : List (ℕ × LineUse) → ℕ → LineUse
use_of lines r = option_map_or (λ l. l) (lookup (eqb r) lines) unused

abbrev pub harts_of : List (ℕ × LineUse) → ℕ → List ℕ
harts_of lines r = (use_of lines r).harts

-- the harts of line r after an access
abbrev pub harts_after : CacheShape → Touch → ℕ → List ℕ → List ℕ
harts_after k a r harts =
    if line_in k a.addr == r
    then (if is_write a.kind then a.hart ∷ [] else note_arrival harts a.hart) else harts

-- the line that an access evicts by what is kept
abbrev pub evicted_now : CacheShape → Parts → Touch → Option ℕ
evicted_now k p a =
    let r = line_in k a.addr in left k r (lists_of k p.sets a.hart (set_of k r))

-- whether an access may want memory: its line isn't in its hart's cache, or it is a line's first
-- write
abbrev pub wants_memory : CacheShape → Parts → Touch → Bool
wants_memory k p a =
    let r = line_in k a.addr in
    not (has r (lists_of k p.sets a.hart (set_of k r)))
    || (is_write a.kind && not (is_some (lookup (eqb r) p.rows)))

-- what is counted of a line after a write of it at a position
abbrev pub tally_after : Option Tally → ℕ → Bool → Bool → Tally
tally_after None position cached held =
    record { start = position; bounded = 0; unbounded = 0 }
tally_after (Some w) position cached held = record {
  start = w.start;
  bounded = w.bounded + one_if cached;
  unbounded = w.unbounded + one_if held;
}

-- whether another hart has a line in its cache, and whether one came since its last write
abbrev pub is_cached_now : CacheShape → Parts → ℕ → ℕ → Bool
is_cached_now k p h r =
    list_any (λ g. not (g == h) && has r (lists_of k p.sets g (set_of k r))) (harts_of p.lines r)

abbrev pub is_held_now : Parts → ℕ → ℕ → Bool
is_held_now p h r = list_any (λ g. not (g == h)) (harts_of p.lines r)

abbrev pub rows_after : CacheShape → Parts → ℕ → Touch → List (ℕ × Tally)
rows_after k p position a =
    let r = line_in k a.addr in
    if is_write a.kind
    then insert_entry nat_eq p.rows r (tally_after (lookup (eqb r) p.rows) position
    (is_cached_now k p a.hart r) (is_held_now p a.hart r))
    else p.rows

-- The parts after the access at a position: each list, the harts and the evictions of each line,
-- and the rows.
pub record IsStep (k : CacheShape) (position : ℕ) (a : Touch) (old new : Parts) : Type 0 where
  pub lists : (h s : ℕ) → s < k.sets
      → lists_of k new.sets h s ≡ bounded_step k (lists_of k old.sets) a h s
  pub harts : (r : ℕ) → harts_of new.lines r ≡ harts_after k a r (harts_of old.lines r)
  pub evicted : (r : ℕ) → (use_of new.lines r).evicted
      ≡ (use_of old.lines r).evicted + one_if (option_map_or (eqb r) (evicted_now k old a) false)
  pub rows : new.rows ≡ rows_after k old position a

-- one access more
pub record HasNoted (a : Touch) (old new : CacheState) : Type 0 where
  pub shape : new.shape ≡ old.shape
  pub position : new.position ≡ old.position + 1
  pub evicted : new.evicted ≡ old.evicted + one_if (is_some (evicted_now old.shape old.parts a))
  pub parts : IsStep old.shape old.position a old.parts new.parts

-- parts that mean the same, whatever is kept of lines that nobody used
pub record MeanTheSame (k : CacheShape) (old new : Parts) : Type 0 where
  pub lists : (h s : ℕ) → s < k.sets → lists_of k new.sets h s ≡ lists_of k old.sets h s
  pub lines : (r : ℕ) → use_of new.lines r ≡ use_of old.lines r
  pub rows : new.rows ≡ old.rows

pub record MeansTheSame (old new : CacheState) : Type 0 where
  pub shape : new.shape ≡ old.shape
  pub position : new.position ≡ old.position
  pub evicted : new.evicted ≡ old.evicted
  pub parts : MeanTheSame old.shape old.parts new.parts

-- what a list makes of a written line
abbrev pub tally_in : CacheShape → AccessList → ℕ → Tally
tally_in k t r = record {
  start = start_of k t r;
  bounded = bounded_count k t r;
  unbounded = unbounded_count k t r;
}

-- the parts are those of a list: each list, of each line the harts that hold it in unbounded caches
-- and its evictions, and the rows in the order of first writes
pub record ArePartsOf (k : CacheShape) (t : AccessList) (p : Parts) : Type 0 where
  pub lists : (h s : ℕ) → s < k.sets → lists_of k p.sets h s ≡ bounded k t h s
  pub harts : (h r : ℕ) → list_any (eqb h) (harts_of p.lines r) ≡ holders (line_in k) t h r
  pub evicted : (r : ℕ) → (use_of p.lines r).evicted ≡ evicted_count k t r
  pub rows : p.rows ≡ map (λ r. (r, tally_in k t r)) (written_lines (grid_of k) t)

-- the accesses so far are those of a list
pub record StandsFor (t : AccessList) (v : CacheState) : Type 0 where
  pub position : v.position ≡ length t
  pub evicted : v.evicted ≡ all_evicted v.shape t
  pub parts : ArePartsOf v.shape t v.parts

-- no access so far
abbrev pub nothing_kept : CacheShape → CacheState
nothing_kept k = record { shape = k; position = 0; evicted = 0; parts = no_parts }

-- what is kept says of a line, and of all
abbrev pub row_kept : CacheShape → List (ℕ × LineUse) → ℕ × Tally → CacheRow
row_kept k lines e = record {
  range = range_of (grid_line (grid_of k) e.0);
  start = e.1.start;
  bounded = e.1.bounded;
  unbounded = e.1.unbounded;
  evicted = (use_of lines e.0).evicted;
}

abbrev pub totals_kept : CacheState → Totals
totals_kept v = record {
  bounded = sum_by (λ e. e.1.bounded) v.parts.rows;
  unbounded = sum_by (λ e. e.1.unbounded) v.parts.rows;
  evicted = v.evicted;
}
