-- The lines of a layout that are taken, each with its invalidations above position 0.
use Rattle.std.specs.Prelude.{ℕ, Bool, ◌&&◌, ◌||◌, ◌==◌, nat_lt, int_lt, List, filter, map, sum_by}
use Rattle.base.specs.Lines.{Grid}
use Rattle.misses.specs.MissCounts.{accessed_lines}
use Rattle.sharing_rules.specs.Lines.{Line, grid_line, range_of}
use Rattle.sharing_rules.specs.Listed.{in_order}
use Rattle.invalidations.specs.declared.sited.Sides.{Sides}
use Rattle.invalidations.specs.declared.sited.Sited.{Sited}
use Rattle.invalidations.specs.declared.tables.Taken.{Taken}
use Rattle.invalidations.specs.Latest.{accesses_of}
use Rattle.invalidations.specs.Invalidations.{hart_pairs, pairs, invalidation_count}

-- a line, how often it is taken, and how often by each two instructions and by each two harts
pub record TakenLine : Type 0 where
  pub line : Line
  pub invalidations : ℕ
  pub pairs : List (Sides × Taken)
  pub harts : List (Sides × Taken)

abbrev pub taken_line : List Sited → Line → TakenLine
taken_line u l = record {
  line = l;
  invalidations = invalidation_count l 0 u;
  pairs = pairs l 0 u;
  harts = hart_pairs l 0 u;
}

abbrev pub is_taken : TakenLine → Bool
is_taken x = nat_lt 0 x.invalidations

-- the lines that have an invalidation, each once
abbrev pub taken_lines : Grid → List Sited → List TakenLine
taken_lines g u = filter is_taken
    (map (λ r. taken_line u (grid_line g r)) (accessed_lines g (accesses_of u)))

-- how many invalidations all lines have
abbrev pub all_invalidations : Grid → List Sited → ℕ
all_invalidations g u = sum_by (λ r. invalidation_count (grid_line g r) 0 u) (accessed_lines g (accesses_of u))

-- by invalidations falling, then by base rising
abbrev pub is_taken_more : TakenLine → TakenLine → Bool
is_taken_more x y =
    nat_lt y.invalidations x.invalidations
    || ((x.invalidations == y.invalidations) && int_lt (range_of x.line).base (range_of y.line).base)

abbrev pub most_taken : Grid → List Sited → List TakenLine
most_taken g u = in_order is_taken_more (taken_lines g u)
