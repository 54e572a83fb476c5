-- Texts as lines of words.
use Rattle.std.specs.Prelude.{ℕ, List, [], ◌∷◌, ◌++◌, flat_map}
use Rattle.std.specs.List.{join_with_byte}

-- a line: its words with a space (32) between each two, and a line feed (10)
abbrev pub line_text : List (List ℕ) → List ℕ
line_text words = join_with_byte 32 words ++ 10 ∷ []

-- lines, one after another
abbrev pub text_of : List (List (List ℕ)) → List ℕ
text_of lines = flat_map line_text lines
