-- The lines of a report, each as a list of its words.
use Rattle.std.specs.Prelude.{ℕ, pos, ◌+ℤ◌, ◌*◌, nat_lt, ◌&&◌, List, [], ◌∷◌, ◌++◌, codes, filter}
use Rattle.std.specs.Prelude.{flat_map, map, Option, None, Some}
use Rattle.std.specs.Fmt.{decimal}
use Rattle.std.specs.List.{enumerate_from}
use Rattle.base.specs.Addresses.{address_text}
use Rattle.base.specs.PrintedNames.{name_text}
use Rattle.base.specs.declared.layout.Range.{Range}
use Rattle.base.specs.declared.ending.Cause.{Cause}
use Rattle.base.specs.declared.ending.Cause.TheVariants.{Illegal, Breakpoint}
use Rattle.base.specs.declared.ending.Cause.TheVariants.{FetchMisaligned, FetchOutside}
use Rattle.base.specs.declared.ending.Cause.TheVariants.{LoadMisaligned, LoadOutside}
use Rattle.base.specs.declared.ending.Cause.TheVariants.{StoreMisaligned, StoreOutside}
use Rattle.base.specs.declared.ending.Outcome.{Outcome}
use Rattle.base.specs.declared.ending.Outcome.TheVariants.{Exit, Budget, Deadlock, Trap}
use Rattle.base.specs.declared.ending.Outcome.TheVariants.{Part}
use Rattle.sharing_rules.specs.Words.{accesses}
use Rattle.sharing_rules.specs.Verdicts.{verdict_of}
use Rattle.sharing_rules.specs.declared.word.Word.{Word}
use Rattle.sharing_rules.specs.declared.word.Owner.{Owner}
use Rattle.sharing_rules.specs.declared.word.Owner.TheVariants as owner
use Rattle.sharing_rules.specs.declared.line_kind.LineKind.{LineKind}
use Rattle.sharing_rules.specs.declared.line_kind.LineKind.TheVariants.{Observed, Shifted, Doubled}
use Rattle.sharing_rules.specs.declared.line_kind.Verdict.{Verdict}
use Rattle.sharing_rules.specs.declared.line_kind.Verdict.TheVariants.{FalseSharing, TrueSharing}
use Rattle.sharing_rules.specs.declared.line_kind.Verdict.TheVariants.{Mixed}
use Rattle.objects.specs.Symbols.{Symbol, function_at, is_same_kind}
use Rattle.objects.specs.Objects.{Objects}
use Rattle.objects.specs.declared.symbol.SymbolKind.TheVariants.{Object}
use Rattle.objects.specs.declared.block.Block.{Block}
use Rattle.report.specs.Standing.{symbol_stands, block_stands}
use Rattle.report.specs.Shown.{ShownLine}

-- a line, as its words
abbrev pub TextLine : Type 0
TextLine = List (List ℕ)

abbrev pub cause_word : Cause → List ℕ
cause_word Illegal = codes "illegal"
cause_word Breakpoint = codes "breakpoint"
cause_word FetchMisaligned = codes "fetch-misaligned"
cause_word FetchOutside = codes "fetch-outside"
cause_word LoadMisaligned = codes "load-misaligned"
cause_word LoadOutside = codes "load-outside"
cause_word StoreMisaligned = codes "store-misaligned"
cause_word StoreOutside = codes "store-outside"

abbrev pub outcome_words : Outcome → TextLine
outcome_words (Exit code) = codes "exit" ∷ decimal code ∷ []
outcome_words Budget = codes "budget" ∷ []
outcome_words Deadlock = codes "deadlock" ∷ []
outcome_words (Trap hart pc cause) =
    codes "trap" ∷ codes "hart" ∷ decimal hart
    ∷ codes "pc" ∷ address_text (pos pc) ∷ cause_word cause ∷ []
outcome_words Part = codes "part" ∷ []

-- a threshold, or `none` where there is none
abbrev pub threshold_word : Option ℕ → List ℕ
threshold_word None = codes "none"
threshold_word (Some n) = decimal n

abbrev pub kind_word : LineKind → List ℕ
kind_word Observed = codes "observed"
kind_word Shifted = codes "shifted"
kind_word Doubled = codes "doubled"

abbrev pub verdict_word : Verdict → List ℕ
verdict_word FalseSharing = codes "false"
verdict_word TrueSharing = codes "true"
verdict_word Mixed = codes "mixed"

-- the line of a listed line
abbrev pub head_line : ShownLine → TextLine
head_line l =
    codes "line" ∷ kind_word l.kind ∷ address_text l.range.base ∷ decimal l.range.size
    ∷ codes "start" ∷ decimal l.start ∷ codes "count" ∷ decimal l.count
    ∷ codes "verdict" ∷ verdict_word (verdict_of l.words) ∷ []

-- an object symbol
abbrev pub symbol_line : Symbol → TextLine
symbol_line s =
    codes "object" ∷ codes "symbol" ∷ name_text s.name ∷ address_text (pos s.addr)
    ∷ decimal s.size ∷ []

-- how the life of a block ended
abbrev pub death_words : Option ℕ → TextLine
death_words None = codes "live" ∷ []
death_words (Some position) = codes "died" ∷ decimal position ∷ []

abbrev pub block_line : Block → TextLine
block_line b =
    codes "object" ∷ codes "block" ∷ address_text (pos b.addr) ∷ decimal b.size
    ∷ codes "born" ∷ decimal b.born ∷ death_words b.died

-- the name of a function, or `-`
abbrev pub function_word : Option (List ℕ) → List ℕ
function_word None = codes "-"
function_word (Some name) = name_text name

-- a site, and the first function that holds it
abbrev pub site_line : List Symbol → ℕ → TextLine
site_line symbols site =
    codes "site" ∷ address_text (pos site) ∷ function_word (function_at symbols site) ∷ []

-- sites other than 0
abbrev pub site_lines : List Symbol → List ℕ → List TextLine
site_lines symbols sites = map (site_line symbols) (filter (λ site. nat_lt 0 site) sites)

-- a block, and its sites
abbrev pub block_lines : List Symbol → Block → List TextLine
block_lines symbols b = block_line b ∷ site_lines symbols b.sites

-- the object symbols among symbols that stand on a range
abbrev pub symbol_lines : Range → List Symbol → List TextLine
symbol_lines r symbols =
    map symbol_line
    (filter (λ s. is_same_kind s.kind Object && symbol_stands r s.addr s.size) symbols)

-- the blocks that stand on a range between a start and an end
abbrev pub standing_lines : List Symbol → Range → ℕ → ℕ → List Block → List TextLine
standing_lines symbols r start end blocks =
    flat_map (block_lines symbols) (filter (block_stands r start end) blocks)

-- the object symbols on a range, in table order, and the blocks that stand on it between a start
-- and an end, in order of making
abbrev pub lines_on : Objects → Range → ℕ → ℕ → List TextLine
lines_on objects r start end =
    symbol_lines r objects.symbols ++ standing_lines objects.symbols r start end objects.blocks

-- the same of a line; `end` is where the accesses end
abbrev pub object_lines : Objects → ℕ → ShownLine → List TextLine
object_lines objects end l = lines_on objects l.range l.start end

-- one hart, or many
abbrev pub owner_words : Owner → TextLine
owner_words owner.None = []
owner_words (owner.One hart) = codes "hart" ∷ decimal hart ∷ []
owner_words owner.Many = codes "many" ∷ []

-- word number i of a range, with what is known of it
abbrev pub word_line : Range → ℕ × Word → TextLine
word_line r p =
    codes "word" ∷ address_text (r.base +ℤ pos (4 * p.0))
    ∷ codes "reads" ∷ decimal p.1.reads ∷ codes "writes" ∷ decimal p.1.writes
    ∷ owner_words p.1.owner

-- the words that were accessed, by address
abbrev pub word_lines : Range → List Word → List TextLine
word_lines r words =
    map (word_line r) (filter (λ p. nat_lt 0 (accesses p.1)) (enumerate_from 0 words))

-- what follows the words of a line, up to its end
abbrev pub rest_of_line : TextLine → List ℕ
rest_of_line ws = flat_map (λ w. 32 ∷ w) ws ++ 10 ∷ []
