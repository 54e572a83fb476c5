-- The line of a text that says how many accesses there were before a trace was filtered.
use Rattle.std.specs.Prelude.{ℕ, List, [], ◌∷◌, codes, Option, Some, None}
use Rattle.std.specs.Fmt.{decimal}

-- one of version 4 alone says it
abbrev pub whole_lines : Option ℕ → List (List (List ℕ))
whole_lines None = []
whole_lines (Some n) = (codes "whole" ∷ decimal n ∷ []) ∷ []
