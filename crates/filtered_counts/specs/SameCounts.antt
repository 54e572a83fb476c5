-- What a list and a second one have in common: the counts of their lines, and all that sums up
-- these. Positions aren't among it, since the second list lacks accesses.
use Rattle.std.specs.Prelude.{◌≡◌, ℕ, ◌≤◌, ◌^◌, IsTrue, map, Option, option_map}
use Rattle.base.specs.Lines.{Grid, is_layout}
use Rattle.sharing_rules.specs.AccessLists.{AccessList}
use Rattle.sharing_rules.specs.Holders.{line_count_since}
use Rattle.sharing_rules.specs.Lines.{Line, grid_line}
use Rattle.sharing_rules.specs.Listed.{Finding, listed}
use Rattle.sharing_rules.specs.Places.{count_places}
use Rattle.sharing_rules.specs.Recounts.{plain_levels, recounted}
use Rattle.layout_sweep.specs.Counts.{sweep_of}
use Rattle.layout_sweep.specs.Totals.{counted_lines, total_of}
use Rattle.layout_sweep.specs.Windows.{is_swept_size}
use Rattle.misses.specs.MissCounts.{all_counted, lines_of}
use Rattle.misses.specs.Misses.{cold, is_miss, is_needed, useful, useless}
use Rattle.misses.specs.Rows.{rows_of}

-- a layout whose lines have at most 2^k bytes
pub record IsWithin (k : ℕ) (g : Grid) : Type 0 where
  pub layout : IsTrue (is_layout g.size g.offset)
  pub size : g.size ≤ 2 ^ k

-- the invalidations of a line behind its first write, none where nothing writes it
abbrev pub count_after_first_write : Line → AccessList → Option ℕ
count_after_first_write l t = option_map (λ f. f.count) (recounted l t)

-- Of line r of a layout: the cold, useful and useless misses, the misses and needed loads from which
-- these follow, and the invalidations, all of them and those behind the first write.
pub record SameLine (g : Grid) (r : ℕ) (t v : AccessList) : Type 0 where
  pub cold : cold (lines_of g) r v ≡ cold (lines_of g) r t
  pub useful : useful (lines_of g) r v ≡ useful (lines_of g) r t
  pub useless : useless (lines_of g) r v ≡ useless (lines_of g) r t
  pub misses : count_places (is_miss (lines_of g) r) v ≡ count_places (is_miss (lines_of g) r) t
  pub needed : count_places (is_needed (lines_of g) r) v ≡ count_places (is_needed (lines_of g) r) t
  pub invalidations : line_count_since (grid_line g r) 0 v ≡ line_count_since (grid_line g r) 0 t
  pub later_invalidations : count_after_first_write (grid_line g r) v
      ≡ count_after_first_write (grid_line g r) t

-- a finding but for its start
abbrev pub without_start : Finding → Finding
without_start f = record { kind = f.kind; line = f.line; start = 0; count = f.count }

-- Of a layout: each line, the misses of all lines, the rows of the lines that are accessed, in
-- their order, and what a detector lists that tracks each line from its first write on and predicts
-- nothing, with the total of its counts and the number of lines that have one.
pub record SameCounts (g : Grid) (t v : AccessList) : Type 0 where
  pub lines : (r : ℕ) → SameLine g r t v
  pub misses : all_counted g v ≡ all_counted g t
  pub rows : rows_of g v ≡ rows_of g t
  pub listed : (report : ℕ) → map without_start (listed g (plain_levels report) v)
      ≡ map without_start (listed g (plain_levels report) t)
  pub total : total_of g v ≡ total_of g t
  pub counted : counted_lines g v ≡ counted_lines g t

-- each row of a sweep under lines of at most 2^k bytes
abbrev pub SameSweep : ℕ → AccessList → AccessList → Type 0
SameSweep k t v = (n : ℕ) → IsTrue (is_swept_size n) → n ≤ 2 ^ k → sweep_of n v ≡ sweep_of n t
