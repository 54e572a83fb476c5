-- The text of what is reported of a line, as lines of words.
use Rattle.std.specs.Prelude.{ℕ, pos, List, [], ◌∷◌, ◌++◌, codes, length, map, Option}
use Rattle.std.specs.Fmt.{decimal}
use Rattle.base.specs.Addresses.{address_text}
use Rattle.base.specs.TextLines.{text_of}
use Rattle.base.specs.declared.ending.Ending.{Ending}
use Rattle.base.specs.declared.layout.Range.{Range}
use Rattle.objects.specs.Symbols.{Symbol, function_at}
use Rattle.report.specs.Lines.{TextLine, function_word, owner_words}
use Rattle.report.specs.Reports.{outcome_lines}
use Rattle.sharing_rules.specs.Lines.{Line, range_of}
use Rattle.sharing_rules.specs.Listed.{in_order}
use Rattle.sharing_rules.specs.declared.word.Owner.{Owner}
use Rattle.sharing_rules.specs.declared.word.Owner.TheVariants as owner
use Rattle.sharing_rules.specs.declared.word.Word.{Word}
use Rattle.invalidations.specs.declared.sited.Sides.{Sides}
use Rattle.invalidations.specs.declared.sited.Sited.{Sited}
use Rattle.invalidations.specs.declared.tables.Taken.{Taken}
use Rattle.invalidations.specs.LineInvalidations.{LineInvalidations, kept_of}
use Rattle.invalidations.specs.Rows.{is_hart_row_before, is_pair_row_before, is_site_row_before}

abbrev pub title_line : TextLine
title_line = codes "predator" ∷ codes "explain" ∷ codes "1" ∷ []

-- the line by its addresses, its start and its count
abbrev pub counted_words : Range → ℕ → ℕ → TextLine
counted_words r start count =
    codes "line" ∷ address_text r.base ∷ decimal r.size
    ∷ codes "start" ∷ decimal start ∷ codes "count" ∷ decimal count ∷ []

abbrev pub counted_line : Line → ℕ → ℕ → TextLine
counted_line l start count = counted_words (range_of l) start count

-- how many lines of a kind, and these
abbrev pub headed : List ℕ → List TextLine → List TextLine
headed word lines = (word ∷ decimal (length lines) ∷ []) ∷ lines

-- a site: its pc, what it did, its harts, and the first function that holds it
abbrev pub site_words : ℕ → Word → Option (List ℕ) → TextLine
site_words pc w function =
    codes "site" ∷ address_text (pos pc) ∷ codes "reads" ∷ decimal w.reads
    ∷ codes "writes" ∷ decimal w.writes ∷ (owner_words w.owner ++ function_word function ∷ [])

abbrev pub site_line : List Symbol → ℕ × Word → TextLine
site_line symbols e = site_words e.0 e.1 (function_at symbols e.0)

-- the harts of a site, as they are printed before its function
abbrev pub owner_text : Owner → List ℕ
owner_text owner.None = []
owner_text (owner.One hart) = codes "hart " ++ decimal hart ++ codes " "
owner_text owner.Many = codes "many "

-- two instructions, and two harts, each time the victim's first
abbrev pub pair_line : Sides × Taken → TextLine
pair_line e =
    codes "pair" ∷ address_text (pos e.0.victim) ∷ address_text (pos e.0.taker)
    ∷ codes "taken" ∷ decimal e.1.taken ∷ codes "same" ∷ decimal e.1.same ∷ []

abbrev pub hart_line : Sides × Taken → TextLine
hart_line e =
    codes "from" ∷ decimal e.0.victim ∷ codes "to" ∷ decimal e.0.taker
    ∷ codes "taken" ∷ decimal e.1.taken ∷ []

-- the lines of each table, in the order of its rows
abbrev pub site_lines : List Symbol → List (ℕ × Word) → List TextLine
site_lines symbols es = map (site_line symbols) (in_order is_site_row_before es)

abbrev pub pair_lines : List (Sides × Taken) → List TextLine
pair_lines es = map pair_line (in_order is_pair_row_before es)

abbrev pub hart_lines : List (Sides × Taken) → List TextLine
hart_lines es = map hart_line (in_order is_hart_row_before es)

-- how the run ended, and the line
abbrev pub head_lines : Ending → LineInvalidations → List TextLine
head_lines ending k =
    (title_line ∷ outcome_lines ending) ++ counted_line k.line k.start k.count ∷ []

-- the tables
abbrev pub table_lines : List Symbol → LineInvalidations → List TextLine
table_lines symbols k =
    headed (codes "sites") (site_lines symbols k.sites)
    ++ headed (codes "pairs") (pair_lines k.pairs)
    ++ headed (codes "harts") (hart_lines k.harts)
    ++ (codes "end" ∷ []) ∷ []

-- the whole text
abbrev pub reported_lines : Ending → List Symbol → LineInvalidations → List TextLine
reported_lines ending symbols k = head_lines ending k ++ table_lines symbols k

abbrev pub reported_text : Ending → List Symbol → LineInvalidations → List ℕ
reported_text ending symbols k = text_of (reported_lines ending symbols k)

-- what is reported of line l from a start on of a sited list that ended so
abbrev pub explain_text : Ending → List Symbol → Line → ℕ → List Sited → List ℕ
explain_text ending symbols l start u = reported_text ending symbols (kept_of l start u)
