-- The names of the files that a command reads and writes.
use Rattle.std.specs.Prelude.{ℕ, Bool, true, not, ◌&&◌, List, [], ◌∷◌, ◌++◌, Option, Some, None}
use Rattle.std.specs.List.{list_any}
use Rattle.std.specs.Str.{bytes_eq}

-- a name that may be given, before others
abbrev pub given : Option (List ℕ) → List (List ℕ) → List (List ℕ)
given None others = others
given (Some name) others = name ∷ others

-- a name is one of some, byte for byte
abbrev pub is_named : List ℕ → List (List ℕ) → Bool
is_named name others = list_any (bytes_eq name) others

-- no output has the name of another output or of an input
abbrev pub are_apart : List (List ℕ) → List (List ℕ) → Bool
are_apart [] inputs = true
are_apart (output ∷ outputs) inputs = not (is_named output (outputs ++ inputs)) && are_apart outputs
    inputs
