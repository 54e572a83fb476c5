-- The text of misses: of each line that has useful or useless ones, what its sharing costs and what
-- stands on it, and the sums over all lines.
use Rattle.std.specs.Prelude.{Option}
use Rattle.trace_passes.specs.Whole.{whole_lines}
use Rattle.std.specs.Prelude.{ℕ, Bool, ◌&&◌, ◌||◌, ◌==◌, nat_lt, int_lt, codes, List, [], ◌∷◌, ◌++◌}
use Rattle.std.specs.Prelude.{filter, flat_map, length}
use Rattle.std.specs.Fmt.{decimal}
use Rattle.base.specs.Addresses.{address_text}
use Rattle.base.specs.Lines.{Grid}
use Rattle.base.specs.TextLines.{text_of}
use Rattle.misses.specs.Rows.{all_costs, rows_of}
use Rattle.misses.specs.declared.all_lines.Row.{Row}
use Rattle.misses.specs.declared.line_misses.Costs.{Costs}
use Rattle.objects.specs.Objects.{Objects}
use Rattle.report.specs.Lines.{TextLine, lines_on}
use Rattle.sharing_rules.specs.Lines.{range_of}
use Rattle.sharing_rules.specs.Listed.{in_order}
use Rattle.trace_format.specs.Rules.{touches_in}
use Rattle.trace_format.specs.declared.record.TraceRecord.{TraceRecord}
use Rattle.trace_passes.specs.Lives.{objects_of}

-- a line that misses beyond its cold ones
abbrev pub is_reported : Row → Bool
is_reported x = nat_lt 0 x.costs.useful || nat_lt 0 x.costs.useless

-- useless falling, then useful falling, then base rising
abbrev pub wastes_more : Row → Row → Bool
wastes_more x y =
    nat_lt y.costs.useless x.costs.useless
    || ((x.costs.useless == y.costs.useless)
    && (nat_lt y.costs.useful x.costs.useful
    || ((x.costs.useful == y.costs.useful)
    && int_lt (range_of x.line).base (range_of y.line).base)))

-- the reported lines, in order
abbrev pub reported_rows : List Row → List Row
reported_rows rows = in_order wastes_more (filter is_reported rows)

abbrev pub cost_words : Costs → TextLine
cost_words c =
    codes "cold" ∷ decimal c.cold ∷ codes "useful" ∷ decimal c.useful
    ∷ codes "useless" ∷ decimal c.useless ∷ []

-- a line, and what stood on it at any time; `end` is where the accesses end
abbrev pub miss_line : Row → TextLine
miss_line x = codes "line" ∷ address_text (range_of x.line).base ∷ cost_words x.costs

abbrev pub miss_lines : Objects → ℕ → Row → List TextLine
miss_lines objects end x = miss_line x ∷ lines_on objects (range_of x.line) 0 end

-- the layout, how many accesses there are, how many there were before a filtered trace was
-- filtered, and how many lines are reported
abbrev pub miss_heads : Grid → ℕ → Option ℕ → ℕ → List TextLine
miss_heads g accesses whole lines =
    (codes "misses" ∷ decimal g.size ∷ decimal g.offset ∷ [])
    ∷ (codes "accesses" ∷ decimal accesses ∷ [])
    ∷ (whole_lines whole ++ (codes "lines" ∷ decimal lines ∷ []) ∷ [])

-- the sums over all lines, those that aren't reported with the others
abbrev pub total_line : Costs → TextLine
total_line total = codes "total" ∷ cost_words total

abbrev pub miss_ends : Costs → List TextLine
miss_ends total = total_line total ∷ (codes "end" ∷ []) ∷ []

abbrev pub misses_lines : Grid → ℕ → Option ℕ → Objects → List Row → Costs → List TextLine
misses_lines g accesses whole objects rows total =
    miss_heads g accesses whole (length rows)
    ++ flat_map (miss_lines objects accesses) rows
    ++ miss_ends total

-- the misses of a list of records under a layout
unfoldable pub misses_of_records : Grid → Option ℕ → List TraceRecord → List ℕ
misses_of_records g whole items =
    let t = touches_in items in
    text_of (misses_lines g (length t) whole (objects_of items) (reported_rows (rows_of g t))
    (all_costs g t))
