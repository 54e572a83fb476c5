-- A text of lines, put together piece by piece.
use Rattle.std.proofs.Common.{◌≡◌, ℕ, List, [], ◌∷◌, ◌++◌, append_assoc, ap, codes, sym, ◌∙◌}
use Rattle.std.proofs.lemmas.Grind.{flat_map-append}
use Rattle.base.specs.TextLines.{line_text, text_of}

-- a line and the last one
pub ended_by : (whole : List ℕ) (l : List (List ℕ))
    → whole ++ line_text l ++ codes "end\n" ≡ whole ++ text_of (l ∷ (codes "end" ∷ []) ∷ [])
ended_by whole l = append_assoc whole (line_text l) (codes "end\n")

-- three groups of lines
pub in_three : (whole : List ℕ) (a b c : List (List (List ℕ)))
    → whole ++ text_of a ++ text_of b ++ text_of c ≡ whole ++ text_of (a ++ b ++ c)
in_three whole a b c =
    ap (λ t. t ++ text_of c) (append_assoc whole (text_of a) (text_of b)
    ∙ ap (λ t. whole ++ t) (sym (flat_map-append line_text a b)))
    ∙ append_assoc whole (text_of (a ++ b)) (text_of c)
    ∙ ap (λ t. whole ++ t) (sym (flat_map-append line_text (a ++ b) c))
