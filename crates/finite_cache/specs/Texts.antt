-- The text of caches: of each line that is taken from a hart in unbounded caches, how often, how
-- often in bounded ones, and how often it was evicted; and the sums.
use Rattle.std.specs.Prelude.{ℕ, Bool, ◌&&◌, ◌||◌, ◌==◌, nat_lt, int_lt, codes, List, [], ◌∷◌, ◌++◌}
use Rattle.std.specs.Prelude.{filter, length, map}
use Rattle.std.specs.Fmt.{decimal}
use Rattle.base.specs.Addresses.{address_text}
use Rattle.base.specs.TextLines.{text_of}
use Rattle.sharing_rules.specs.AccessLists.{AccessList}
use Rattle.sharing_rules.specs.Listed.{in_order}
use Rattle.finite_cache.specs.Rows.{rows_of, totals_of}
use Rattle.base.specs.Shapes.{CacheShape}
use Rattle.finite_cache.specs.declared.rows.CacheRow.{CacheRow}
use Rattle.finite_cache.specs.declared.rows.Totals.{Totals}

-- a line that is taken from a hart in unbounded caches
abbrev pub is_reported : CacheRow → Bool
is_reported x = nat_lt 0 x.unbounded

-- unbounded falling, then base rising
abbrev pub comes_first : CacheRow → CacheRow → Bool
comes_first x y =
    nat_lt y.unbounded x.unbounded
    || ((x.unbounded == y.unbounded) && int_lt x.range.base y.range.base)

-- the reported rows, in order
abbrev pub reported_rows : List CacheRow → List CacheRow
reported_rows rows = in_order comes_first (filter is_reported rows)

abbrev pub count_words : ℕ → ℕ → ℕ → List (List ℕ)
count_words bounded unbounded evicted =
    codes "bounded" ∷ decimal bounded ∷ codes "unbounded" ∷ decimal unbounded
    ∷ codes "evicted" ∷ decimal evicted ∷ []

abbrev pub row_line : CacheRow → List (List ℕ)
row_line x =
    codes "line" ∷ address_text x.range.base ∷ count_words x.bounded x.unbounded x.evicted

-- the shape, and how many accesses and reported lines there are
abbrev pub head_lines : CacheShape → ℕ → ℕ → List (List (List ℕ))
head_lines k accesses lines =
    (codes "caches" ∷ decimal k.size ∷ decimal k.sets ∷ decimal k.ways ∷ [])
    ∷ (codes "accesses" ∷ decimal accesses ∷ [])
    ∷ (codes "lines" ∷ decimal lines ∷ []) ∷ []

-- the sums over all rows, those that aren't reported with the others, and the evictions of all
-- lines
abbrev pub total_line : Totals → List (List ℕ)
total_line x = codes "total" ∷ count_words x.bounded x.unbounded x.evicted

abbrev pub end_lines : Totals → List (List (List ℕ))
end_lines total = total_line total ∷ (codes "end" ∷ []) ∷ []

abbrev pub lines_of_caches : CacheShape → ℕ → List CacheRow → Totals → List (List (List ℕ))
lines_of_caches k accesses rows total =
    head_lines k accesses (length rows) ++ map row_line rows ++ end_lines total

-- the text of a list of accesses, under a shape
unfoldable pub caches_text : CacheShape → AccessList → List ℕ
caches_text k t =
    text_of (lines_of_caches k (length t) (reported_rows (rows_of k t)) (totals_of k t))
