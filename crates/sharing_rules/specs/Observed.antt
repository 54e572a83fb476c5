-- Observed lines: those with at least T writes. Their start is the position of the T-th.
use Rattle.std.specs.Prelude.{ℕ, ◌+◌, Bool, ◌&&◌, ◌==◌, nat_le, List, Option, length, count_by}
use Rattle.std.specs.Prelude.{filter, map}
use Rattle.base.specs.Touch.{is_write}
use Rattle.base.specs.Lines.{Grid, line_number}
use Rattle.sharing_rules.specs.AccessLists.{AccessList, writes_to}
use Rattle.sharing_rules.specs.Places.{first_place}
use Rattle.sharing_rules.specs.Arrivals.{each_once}

abbrev pub write_count : (ℕ → Bool) → AccessList → ℕ
write_count inside t = count_by (writes_to inside) t

-- the position of the T-th write, where there are so many
abbrev pub observed_start : ℕ → (ℕ → Bool) → AccessList → Option ℕ
observed_start T inside t =
    first_place (λ before a. writes_to inside a && (write_count inside before + 1 == T)) t

-- the first write at or after a position
abbrev pub first_write_from : ℕ → (ℕ → Bool) → AccessList → Option ℕ
first_write_from s inside t =
    first_place (λ before a. nat_le s (length before) && writes_to inside a) t

-- the numbers of the written lines of a layout, each once, in the order of their first writes
abbrev pub written_lines : Grid → AccessList → List ℕ
written_lines g t =
    each_once (map (λ a. line_number g.size g.offset a.addr) (filter (λ a. is_write a.kind) t))
