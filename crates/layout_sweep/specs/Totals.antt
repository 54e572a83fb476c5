-- The total of a layout: the counts of its written lines, each from its first write on.
use Rattle.std.specs.Prelude.{ℕ, Bool, nat_lt, List, count_by, filter, sum_by}
use Rattle.base.specs.Lines.{Grid}
use Rattle.sharing_rules.specs.AccessLists.{AccessList}
use Rattle.sharing_rules.specs.Listed.{Finding, observed_lines}

-- Each line of a layout that a list writes, with the position of its first write and the
-- invalidations after it.
abbrev pub counted : Grid → AccessList → List Finding
counted g t = observed_lines g 1 t

-- their sum
abbrev pub total_of : Grid → AccessList → ℕ
total_of g t = sum_by (λ f. f.count) (counted g t)

-- how many of these lines have an invalidation at all
abbrev pub counted_lines : Grid → AccessList → ℕ
counted_lines g t = count_by (λ f. nat_lt 0 f.count) (counted g t)

-- the part of the sum on the lines whose numbers pass a test
abbrev pub part_of : (ℕ → Bool) → Grid → AccessList → ℕ
part_of p g t = sum_by (λ f. f.count) (filter (λ f. p f.line.number) (counted g t))
