-- The text of a sweep, as lines of words.
use Rattle.trace_passes.specs.Whole.{whole_lines}
use Rattle.std.specs.Prelude.{ℕ, List, [], ◌∷◌, ◌++◌, codes, length, map, Option, option_to_list}
use Rattle.std.specs.Fmt.{decimal}
use Rattle.base.specs.TextLines.{text_of}
use Rattle.sharing_rules.specs.AccessLists.{AccessList}
use Rattle.layout_sweep.specs.Counts.{least_of, sweep_of}
use Rattle.layout_sweep.specs.declared.counts.Swept.{Swept}

-- a line, as its words
abbrev pub TextLine : Type 0
TextLine = List (List ℕ)

-- the line size, how many accesses there are, and how many there were before a filtered trace was
-- filtered
abbrev pub head_lines : ℕ → ℕ → Option ℕ → List TextLine
head_lines n accesses whole =
    (codes "sweep" ∷ decimal n ∷ []) ∷ (codes "accesses" ∷ decimal accesses ∷ []) ∷ whole_lines whole

abbrev pub shift_line : Swept → TextLine
shift_line x =
    codes "shift" ∷ decimal x.shift ∷ codes "total" ∷ decimal x.total
    ∷ codes "lines" ∷ decimal x.lines ∷ []

abbrev pub least_line : Swept → TextLine
least_line x =
    codes "least" ∷ decimal x.shift ∷ codes "total" ∷ decimal x.total ∷ []

abbrev pub sweep_lines : ℕ → ℕ → Option ℕ → List Swept → Option Swept → List TextLine
sweep_lines n accesses whole all least =
    head_lines n accesses whole ++ map shift_line all ++ map least_line (option_to_list least)
    ++ (codes "end" ∷ []) ∷ []

-- of a list under every shift of a size
abbrev pub sweep_text : ℕ → Option ℕ → AccessList → List ℕ
sweep_text n whole t =
    text_of (sweep_lines n (length t) whole (sweep_of n t) (least_of (sweep_of n t)))
