-- What is kept of the invalidations of all lines, and what one access makes of it.
use Rattle.std.specs.Prelude.{◌≡◌, ℕ, ◌+◌, Bool, false, not, ◌&&◌, ◌||◌, ◌==◌, eqb, nat_eq, List}
use Rattle.std.specs.Prelude.{[], filter, if◌then◌else◌, is_some, length, map, Option, None, Some}
use Rattle.std.specs.Map.{lookup}
use Rattle.std.specs.Option.{option_map_or}
use Rattle.indexmap.specs.IndexMap.{insert_entry}
use Rattle.base.specs.Lines.{Grid}
use Rattle.misses.specs.MissCounts.{accessed_lines, lines_of}
use Rattle.sharing_rules.specs.Lines.{grid_line}
use Rattle.invalidations.specs.declared.blame_tables.InLine.{InLine}
use Rattle.invalidations.specs.declared.blame_tables.LineTaken.{LineTaken}
use Rattle.invalidations.specs.declared.sited.Sides.{Sides}
use Rattle.invalidations.specs.declared.sited.Sited.{Sited}
use Rattle.invalidations.specs.declared.sited.Invalidation.{Invalidation}
use Rattle.invalidations.specs.declared.tables.Taken.{Taken}
use Rattle.invalidations.specs.Blame.{all_invalidations}
use Rattle.invalidations.specs.LineInvalidations.{none_taken, note_taken, note_two, invalidation_by}
use Rattle.invalidations.specs.LineInvalidations.{two_of}
use Rattle.invalidations.specs.Latest.{accesses_of}
use Rattle.invalidations.specs.Invalidations.{hart_pairs, harts_of, is_of_one_word, pairs, pcs_of}
use Rattle.invalidations.specs.Invalidations.{sides_eq}
use Rattle.invalidations.specs.Invalidations.{invalidation_count}

-- ---- lines

-- a line without an access, and what is kept of a line
abbrev pub untouched : LineTaken
untouched = record { two = record { latest = None; other = None; held = false }; invalidations = 0 }

abbrev pub taken_of : List (ℕ × LineTaken) → ℕ → LineTaken
taken_of es r = option_map_or (λ l. l) (lookup (eqb r) es) untouched

-- an access more of a line, and whether it took it
abbrev pub note_line : LineTaken → Sited → Bool → LineTaken
note_line l s taken = record {
  two = note_two l.two s;
  invalidations = if taken then l.invalidations + 1 else l.invalidations;
}

-- ---- tables, each of all lines

abbrev pub in_line_eq : InLine → InLine → Bool
in_line_eq x y = nat_eq x.line y.line && sides_eq x.sides y.sides

abbrev pub in_line : ℕ → Sides → InLine
in_line r x = record { line = r; sides = x }

abbrev pub taken_in_line : List (InLine × Taken) → InLine → Taken
taken_in_line es x = option_map_or (λ k. k) (lookup (in_line_eq x) es) none_taken

-- the rows of line r
abbrev pub rows_in : ℕ → List (InLine × Taken) → List (Sides × Taken)
rows_in r es = map (λ e. (e.0.sides, e.1)) (filter (λ e. r == e.0.line) es)

-- an invalidation of line r more, where there is one
abbrev pub note_invalidation_in : List (InLine × Taken) → InLine → Bool → List (InLine × Taken)
note_invalidation_in es x same = insert_entry in_line_eq es x (note_taken (taken_in_line es x) same)

abbrev pub note_sides_in : (Invalidation → Sides) → ℕ → List (InLine × Taken) → Option Invalidation
    → List (InLine × Taken)
note_sides_in by r es None = es
note_sides_in by r es (Some k) = note_invalidation_in es (in_line r (by k)) (is_of_one_word k)

-- ---- all of it

-- of each line that was accessed its two accesses and its invalidations, and the tables of the
-- pairs of instructions and of those of harts
pub record Parts : Type 0 where
  pub lines : List (ℕ × LineTaken)
  pub pairs : List (InLine × Taken)
  pub harts : List (InLine × Taken)

-- what the next access takes, by line r that it is in and by its position
abbrev pub invalidation_in : Parts → ℕ → ℕ → Sited → Option Invalidation
invalidation_in p r position s = invalidation_by (taken_of p.lines r).two 0 position s

abbrev pub note_parts : Parts → ℕ → ℕ → Sited → Parts
note_parts p r position s =
    let invalidation = invalidation_in p r position s in record {
      lines = insert_entry nat_eq p.lines r
          (note_line (taken_of p.lines r) s (is_some invalidation));
      pairs = note_sides_in pcs_of r p.pairs invalidation;
      harts = note_sides_in harts_of r p.harts invalidation;
    }

-- two sides that aren't in a table, and an invalidation whose pair of instructions or of harts
-- isn't
abbrev pub is_new : List (InLine × Taken) → InLine → Bool
is_new es x = not (is_some (lookup (in_line_eq x) es))

abbrev pub has_new_sides : Parts → ℕ → Option Invalidation → Bool
has_new_sides p r invalidation =
    option_map_or (λ t. is_new p.pairs (in_line r (pcs_of t))
    || is_new p.harts (in_line r (harts_of t))) invalidation false

-- an access may want memory: its line is new, or the sides of its invalidation are new in its line
abbrev pub wants_memory_in : Parts → ℕ → ℕ → Sited → Bool
wants_memory_in p r position s =
    not (is_some (lookup (eqb r) p.lines)) || has_new_sides p r (invalidation_in p r position s)

-- with the layout, how many accesses there were and how many invalidations
pub record Blamed : Type 0 where
  pub grid : Grid
  pub position : ℕ
  pub total : ℕ
  pub parts : Parts

abbrev pub nothing_blamed : Grid → Blamed
nothing_blamed g = record {
  grid = g;
  position = 0;
  total = 0;
  parts = record { lines = []; pairs = []; harts = [] };
}

-- the line of an access, by its number
abbrev pub line_of : Grid → Sited → ℕ
line_of g s = lines_of g s.access.addr

-- one access more
abbrev pub note_access : Blamed → Sited → Blamed
note_access k s =
    let r = line_of k.grid s in record {
      grid = k.grid;
      position = k.position + 1;
      total = if is_some (invalidation_in k.parts r k.position s) then k.total + 1 else k.total;
      parts = note_parts k.parts r k.position s;
    }

abbrev pub wants_memory : Blamed → Sited → Bool
wants_memory k s = wants_memory_in k.parts (line_of k.grid s) k.position s

-- ---- what a list makes of it

abbrev pub taken_in_list : Grid → List Sited → ℕ → LineTaken
taken_in_list g u r = record {
  two = two_of (grid_line g r) u;
  invalidations = invalidation_count (grid_line g r) 0 u;
}

-- the parts are those of a list: the lines in the order of their first accesses, and of each line
-- its rows
pub record ArePartsOf (g : Grid) (u : List Sited) (p : Parts) : Type 0 where
  pub lines : p.lines ≡ map (λ r. (r, taken_in_list g u r)) (accessed_lines g (accesses_of u))
  pub pairs : (r : ℕ) → rows_in r p.pairs ≡ pairs (grid_line g r) 0 u
  pub harts : (r : ℕ) → rows_in r p.harts ≡ hart_pairs (grid_line g r) 0 u

-- the accesses so far are those of a list
pub record StandsFor (u : List Sited) (k : Blamed) : Type 0 where
  pub position : k.position ≡ length u
  pub total : k.total ≡ all_invalidations k.grid u
  pub parts : ArePartsOf k.grid u k.parts
