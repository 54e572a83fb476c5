-- How often each line was written, for the lines that were.
use Rattle.std.specs.Prelude.{ℕ, ◌+◌, map, unwrap_or}
use Rattle.std.specs.Ordering.{nat_cmp}
use Rattle.std.specs.FinMap as finite
use Rattle.detector.specs.Entries.{Entries}

abbrev pub Counts : Type 0
Counts = finite.FinMap nat_cmp ℕ

abbrev pub no_writes : Counts
no_writes = finite.empty

-- how often line k was written
abbrev pub count_at : Counts → ℕ → ℕ
count_at writes k = unwrap_or (finite.get writes k) 0

-- one write of line k more
abbrev pub with_write : Counts → ℕ → Counts
with_write writes k = finite.insert writes k (count_at writes k + 1)

-- the counts that an index means
abbrev pub counts_of : Entries → Counts
counts_of m = finite.from_entries (map (λ e. (e.0, e.1.writes)) (finite.entries m))
