-- What is reported of each line, and of all.
use Rattle.std.specs.Prelude.{ℕ, ◌-◌, List, map, sum_by}
use Rattle.base.specs.Lines.{Grid}
use Rattle.sharing_rules.specs.AccessLists.{AccessList}
use Rattle.sharing_rules.specs.Lines.{grid_line}
use Rattle.misses.specs.declared.line_misses.Costs.{Costs}
use Rattle.misses.specs.declared.line_misses.Counts.{Counts}
use Rattle.misses.specs.declared.all_lines.Row.{Row}
use Rattle.misses.specs.MissCounts.{LineEntry, accessed_lines, lines_of}
use Rattle.misses.specs.Misses.{cold, useful, useless}

abbrev pub costs_of : Counts → Costs
costs_of c = record { cold = c.cold; useful = c.needed - c.cold; useless = c.misses - c.needed }

abbrev pub row_of : Grid → ℕ × LineEntry → Row
row_of g e = record { line = grid_line g e.0; costs = costs_of e.1.counts }

-- of line r of a list, by the definitions
abbrev pub line_costs : Grid → AccessList → ℕ → Costs
line_costs g t r = record {
  cold = cold (lines_of g) r t;
  useful = useful (lines_of g) r t;
  useless = useless (lines_of g) r t;
}

-- of each line that was accessed, in the order of first accesses
abbrev pub rows_of : Grid → AccessList → List Row
rows_of g t =
    map (λ r. record { line = grid_line g r; costs = line_costs g t r }) (accessed_lines g t)

-- of all of them together
abbrev pub all_costs : Grid → AccessList → Costs
all_costs g t = record {
  cold = sum_by (λ r. cold (lines_of g) r t) (accessed_lines g t);
  useful = sum_by (λ r. useful (lines_of g) r t) (accessed_lines g t);
  useless = sum_by (λ r. useless (lines_of g) r t) (accessed_lines g t);
}
