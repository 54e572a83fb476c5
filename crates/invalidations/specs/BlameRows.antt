-- The rows of the lines, as they are gathered for the text.
use Rattle.std.specs.Prelude.{Option}
use Rattle.std.specs.Prelude.{ℕ, Bool, ◌&&◌, ◌||◌, ◌==◌, eqb, nat_lt, int_lt, List, [], ◌∷◌, ◌++◌}
use Rattle.std.specs.Prelude.{codes, filter, flat_map, length, map}
use Rattle.std.specs.Map.{lookup}
use Rattle.std.specs.Option.{option_map_or}
use Rattle.std.specs.Fmt.{decimal}
use Rattle.base.specs.Addresses.{address_text}
use Rattle.base.specs.Lines.{Grid}
use Rattle.base.specs.TextLines.{text_of}
use Rattle.report.specs.Lines.{TextLine}
use Rattle.sharing_rules.specs.Lines.{grid_line, range_of}
use Rattle.sharing_rules.specs.Listed.{in_order}
use Rattle.invalidations.specs.declared.blame_rows.TakenHead.{TakenHead}
use Rattle.invalidations.specs.declared.blame_tables.LineTaken.{LineTaken}
use Rattle.invalidations.specs.declared.sited.Sides.{Sides}
use Rattle.invalidations.specs.declared.tables.Taken.{Taken}
use Rattle.invalidations.specs.Blame.{TakenLine}
use Rattle.invalidations.specs.BlameKept.{Blamed, rows_in}
use Rattle.invalidations.specs.BlameText.{blame_ends, blame_heads, blame_lines, lines_of_line}

-- a line with its invalidations alone, and the order of these
abbrev pub head_of : Grid → ℕ × LineTaken → TakenHead
head_of g e = record { line = grid_line g e.0; invalidations = e.1.invalidations }

abbrev pub has_invalidations : TakenHead → Bool
has_invalidations h = nat_lt 0 h.invalidations

abbrev pub is_head_before : TakenHead → TakenHead → Bool
is_head_before x y =
    nat_lt y.invalidations x.invalidations
    || ((x.invalidations == y.invalidations) && int_lt (range_of x.line).base (range_of y.line).base)

abbrev pub heads_of : Grid → List (ℕ × LineTaken) → List TakenHead
heads_of g es = filter has_invalidations (map (head_of g) es)

abbrev pub heads_in_order : Grid → List (ℕ × LineTaken) → List TakenHead
heads_in_order g es = in_order is_head_before (heads_of g es)

-- the rows of a table by their lines, and those of line r
abbrev pub gathered_at : List (ℕ × List (Sides × Taken)) → ℕ → List (Sides × Taken)
gathered_at es r = option_map_or (λ rows. rows) (lookup (eqb r) es) []

-- a line with its rows in both tables
abbrev pub with_rows : (ℕ → List (Sides × Taken)) → (ℕ → List (Sides × Taken)) → TakenHead
    → TakenLine
with_rows pairs harts h = record {
  line = h.line;
  invalidations = h.invalidations;
  pairs = pairs h.line.number;
  harts = harts h.line.number;
}

-- the line of a head, with how many rows it has
abbrev pub numbers : TakenHead → ℕ → ℕ → TextLine
numbers h pairs harts =
    codes "line" ∷ address_text (range_of h.line).base ∷ codes "takings" ∷ decimal h.invalidations
    ∷ codes "pairs" ∷ decimal pairs ∷ codes "harts" ∷ decimal harts ∷ []

-- the lines of the text, whose rows are gathered
abbrev pub gathered_lines : Blamed → Option ℕ → List TakenHead → List (ℕ × List (Sides × Taken))
    → List (ℕ × List (Sides × Taken)) → List TextLine
gathered_lines k whole heads pairs harts =
    blame_heads k.grid k.position whole (length heads)
    ++ flat_map (λ h. lines_of_line (with_rows (gathered_at pairs) (gathered_at harts) h)) heads
    ++ blame_ends k.total

-- the text of what is kept
abbrev pub kept_text : Blamed → Option ℕ → List ℕ
kept_text k whole = text_of (blame_lines k.grid k.position whole
    (map (with_rows (λ r. rows_in r k.parts.pairs) (λ r. rows_in r k.parts.harts))
    (heads_in_order k.grid k.parts.lines)) k.total)
