-- What is reported of each written line, and of all.
use Rattle.std.specs.Prelude.{ℕ, ◌&&◌, nat_lt, List, Option, length, map, sum_by}
use Rattle.std.specs.Option.{option_map_or}
use Rattle.sharing_rules.specs.AccessLists.{AccessList}
use Rattle.sharing_rules.specs.Holders.{count_since}
use Rattle.sharing_rules.specs.Lines.{grid_line, is_inside, range_of}
use Rattle.sharing_rules.specs.Observed.{observed_start, written_lines}
use Rattle.sharing_rules.specs.Places.{count_places}
use Rattle.finite_cache.specs.Bounded.{is_any_eviction, is_bounded_invalidation, is_eviction}
use Rattle.finite_cache.specs.Bounded.{line_in}
use Rattle.base.specs.Shapes.{CacheShape, grid_of}
use Rattle.finite_cache.specs.declared.rows.CacheRow.{CacheRow}
use Rattle.finite_cache.specs.declared.rows.Totals.{Totals}

-- the position of a line's first write, where it has one: it is observed from there on, at
-- threshold 1
abbrev pub first_write : CacheShape → AccessList → ℕ → Option ℕ
first_write k t r = observed_start 1 (is_inside (grid_line (grid_of k) r)) t

-- that of a written line; a line with no write has no row
abbrev pub start_of : CacheShape → AccessList → ℕ → ℕ
start_of k t r = option_map_or (λ s. s) (first_write k t r) 0

-- its invalidations after that, in bounded caches and in unbounded ones
abbrev pub bounded_since : CacheShape → ℕ → ℕ → AccessList → ℕ
bounded_since k r s t =
    count_places (λ before a. nat_lt s (length before) && is_bounded_invalidation k r before a) t

abbrev pub bounded_count : CacheShape → AccessList → ℕ → ℕ
bounded_count k t r = bounded_since k r (start_of k t r) t

abbrev pub unbounded_count : CacheShape → AccessList → ℕ → ℕ
unbounded_count k t r = count_since (line_in k) r (start_of k t r) t

-- how often a line was evicted, from the beginning of the list on, and how often any was
abbrev pub evicted_count : CacheShape → AccessList → ℕ → ℕ
evicted_count k t r = count_places (is_eviction k r) t

abbrev pub all_evicted : CacheShape → AccessList → ℕ
all_evicted k t = count_places (is_any_eviction k) t

-- the row of a written line
abbrev pub row_in : CacheShape → AccessList → ℕ → CacheRow
row_in k t r = record {
  range = range_of (grid_line (grid_of k) r);
  start = start_of k t r;
  bounded = bounded_count k t r;
  unbounded = unbounded_count k t r;
  evicted = evicted_count k t r;
}

-- the rows of a list, in the order of the lines' first writes
abbrev pub rows_of : CacheShape → AccessList → List CacheRow
rows_of k t = map (row_in k t) (written_lines (grid_of k) t)

-- what they sum to, and the evictions of all lines
abbrev pub totals_of : CacheShape → AccessList → Totals
totals_of k t = record {
  bounded = sum_by (bounded_count k t) (written_lines (grid_of k) t);
  unbounded = sum_by (unbounded_count k t) (written_lines (grid_of k) t);
  evicted = all_evicted k t;
}
