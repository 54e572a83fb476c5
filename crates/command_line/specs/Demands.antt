-- What the words of the code are, and what its faults say.
use Rattle.std.specs.Prelude.{ℕ, List, map, string_bytes, Option, option_map}
use Rattle.std.specs.Borrow.{Bor}
use Rattle.std.specs.declared.string.String.{String}
use Rattle.std.specs.declared.alloc.Global.{Global}
use Rattle.command_line.specs.declared.demand.WordsFault.{WordsFault}
use Rattle.command_line.specs.declared.demand.WordsFault.TheVariants.{Usage, NoMemory}

-- the texts of the words
abbrev pub texts : List (String Global) → List (List ℕ)
texts words = map string_bytes words

-- the texts of names
abbrev pub names_of : List (Bor (List ℕ)) → List (List ℕ)
names_of names = map (λ name. name.now) names

-- the text of a word, if there is one
abbrev pub text_of : Option (Bor (List ℕ)) → Option (List ℕ)
text_of word = option_map (λ w. w.now) word

-- the fact holds unless the fault is want of memory
abbrev pub UnlessMemory : WordsFault → Type 0 → Type 0
UnlessMemory NoMemory P = Unit {0}
UnlessMemory (Usage reason) P = P

-- the words are refused, for whatever reason
abbrev pub IsUsage : WordsFault → Type 0
IsUsage NoMemory = ⊥
IsUsage (Usage reason) = Unit {0}
