-- The text of the lines that are taken, as lines of words.
use Rattle.std.specs.Prelude.{Option}
use Rattle.trace_passes.specs.Whole.{whole_lines}
use Rattle.std.specs.Prelude.{ℕ, List, [], ◌∷◌, ◌++◌, codes, flat_map, length}
use Rattle.std.specs.Fmt.{decimal}
use Rattle.base.specs.Addresses.{address_text}
use Rattle.base.specs.Lines.{Grid}
use Rattle.base.specs.TextLines.{text_of}
use Rattle.report.specs.Lines.{TextLine}
use Rattle.sharing_rules.specs.Lines.{range_of}
use Rattle.invalidations.specs.declared.sited.Sited.{Sited}
use Rattle.invalidations.specs.Blame.{TakenLine, all_invalidations, most_taken}
use Rattle.invalidations.specs.Text.{hart_lines, pair_lines}

-- how many accesses there are, how many there were before a filtered trace was filtered, the layout,
-- and how many lines are reported
abbrev pub count_lines : Grid → ℕ → Option ℕ → ℕ → List TextLine
count_lines g accesses whole lines =
    (codes "accesses" ∷ decimal accesses ∷ [])
    ∷ (whole_lines whole
    ++ (codes "layout" ∷ decimal g.size ∷ decimal g.offset ∷ [])
    ∷ (codes "lines" ∷ decimal lines ∷ []) ∷ [])

abbrev pub blame_heads : Grid → ℕ → Option ℕ → ℕ → List TextLine
blame_heads g accesses whole lines =
    (codes "predator" ∷ codes "blame" ∷ codes "1" ∷ []) ∷ count_lines g accesses whole lines

-- a line with its numbers
abbrev pub taken_words : TakenLine → TextLine
taken_words x =
    codes "line" ∷ address_text (range_of x.line).base ∷ codes "takings" ∷ decimal x.invalidations
    ∷ codes "pairs" ∷ decimal (length x.pairs) ∷ codes "harts" ∷ decimal (length x.harts) ∷ []

-- and below it its pairs of instructions and of harts, as `explain` prints them
abbrev pub lines_of_line : TakenLine → List TextLine
lines_of_line x = taken_words x ∷ (pair_lines x.pairs ++ hart_lines x.harts)

abbrev pub blame_ends : ℕ → List TextLine
blame_ends total =
    (codes "total" ∷ codes "takings" ∷ decimal total ∷ []) ∷ (codes "end" ∷ []) ∷ []

abbrev pub blame_lines : Grid → ℕ → Option ℕ → List TakenLine → ℕ → List TextLine
blame_lines g accesses whole rows total =
    blame_heads g accesses whole (length rows) ++ flat_map lines_of_line rows ++ blame_ends total

-- the text of a sited list under a layout
unfoldable pub blame_text : Grid → Option ℕ → List Sited → List ℕ
blame_text g whole u =
    text_of (blame_lines g (length u) whole (most_taken g u) (all_invalidations g u))
