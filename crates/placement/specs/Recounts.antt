-- What is counted on the lines of a range of addresses.
use Rattle.std.specs.Prelude.{ℕ, Bool, ◌&&◌, false, int_le, ◌+ℤ◌, pos}
use Rattle.std.specs.Prelude.{filter, sum_by}
use Rattle.std.specs.Option.{option_map_or}
use Rattle.base.specs.Lines.{line_number}
use Rattle.base.specs.declared.layout.Range.{Range}
use Rattle.sharing_rules.specs.AccessLists.{AccessList}
use Rattle.sharing_rules.specs.Lines.{native_grid, native_line, range_of}
use Rattle.layout_sweep.specs.Totals.{counted, total_of}
use Rattle.placement.specs.Plans.{Planned, moved_list}

-- whether a range lies in another one: it begins no lower and ends no higher
abbrev pub lies_in : Range → Range → Bool
lies_in outer r =
    int_le outer.base r.base && int_le (r.base +ℤ pos r.size) (outer.base +ℤ pos outer.size)

-- whether line k of n bytes lies in a range
abbrev pub is_line_in : ℕ → Range → ℕ → Bool
is_line_in n r k = lies_in r (range_of (native_line n k))

-- the counts of the lines of n bytes that lie there, each from its first write on
abbrev pub total_in : ℕ → Range → AccessList → ℕ
total_in n r t = sum_by (λ f. f.count)
    (filter (λ f. is_line_in n r f.line.number) (counted (native_grid n) t))

-- the total of a list under lines of n bytes
abbrev pub total_before : ℕ → AccessList → ℕ
total_before n t = total_of (native_grid n) t

-- that of the same list moved
abbrev pub total_after : ℕ → Planned → AccessList → ℕ
total_after n p t = total_of (native_grid n) (moved_list p t)

-- its part on the lines of the words of many harts
abbrev pub many_count : ℕ → Planned → AccessList → ℕ
many_count n p t = option_map_or (λ r. total_in n r (moved_list p t)) p.many 0

-- whether the line of an address is one of theirs
abbrev pub is_of_many : ℕ → Planned → ℕ → Bool
is_of_many n p addr = option_map_or (λ r. is_line_in n r (line_number n 0 addr)) p.many false

-- and its part in the area
abbrev pub area_range : Planned → Range
area_range p = record { base = pos p.start; size = p.size }

abbrev pub area_count : ℕ → Planned → AccessList → ℕ
area_count n p t = total_in n (area_range p) (moved_list p t)
