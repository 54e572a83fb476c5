-- Pieces of the text of a placement, as they are written one after the other.
use Rattle.std.specs.Prelude.{ℕ, List, ◌++◌, codes}
use Rattle.std.specs.Fmt.{decimal}
use Rattle.placement.specs.Texts.{address_word}
use Rattle.placement.specs.declared.sums.Sums.{Sums}

-- an address behind another word
abbrev pub next_address : ℕ → List ℕ
next_address at = codes " " ++ address_word at

-- the first two lines behind the object's address
abbrev pub sizes_end : ℕ → ℕ → ℕ → List ℕ
sizes_end bytes n words =
    codes " " ++ decimal bytes ++ codes " line " ++ decimal n ++ codes "\nwords " ++ decimal words
    ++ codes "\n"

-- the line of a word up to its owner
abbrev pub from_text : ℕ → List ℕ
from_text at = codes "word" ++ next_address at

abbrev pub to_text : ℕ → List ℕ
to_text at = codes " to" ++ next_address at

abbrev pub way_text : ℕ → ℕ → List ℕ
way_text from to = from_text from ++ to_text to

-- its owner
abbrev pub hart_end : ℕ → List ℕ
hart_end hart = codes " hart " ++ decimal hart ++ codes "\n"

-- the last lines behind the area's address
abbrev pub sums_end : ℕ → Sums → List ℕ
sums_end size sums =
    codes " " ++ decimal size ++ codes "\nbefore " ++ decimal sums.before
    ++ codes "\nafter " ++ decimal sums.after ++ codes "\nmany " ++ decimal sums.many
    ++ codes "\nend\n"
