-- A line of a table by its three words.
use Rattle.std.proofs.Common.{◌≡◌, ℕ, List, Option, ap, ◌∙◌, sym}
use Rattle.trace_files.specs.Numerals.{number_of}
use Rattle.trace_files.specs.Tables.{behind_word, move_of, move_with, word_before}

pub move_parts : (line first rest second third : List ℕ) (from size to : Option ℕ)
    → first ≡ word_before line → rest ≡ behind_word line
    → second ≡ word_before rest → third ≡ behind_word rest
    → number_of first ≡ from → number_of second ≡ size → number_of third ≡ to
    → move_of line ≡ move_with from size to
unfolding move_of
move_parts line first rest second third from size to is_first is_rest is_second is_third a b c =
    let one : number_of (word_before line) ≡ from = ap number_of (sym is_first) ∙ a in
    let two : number_of (word_before (behind_word line)) ≡ size =
    ap (λ (r : List ℕ). number_of (word_before r)) (sym is_rest) ∙ ap number_of (sym is_second) ∙ b
    in
    let three : number_of (behind_word (behind_word line)) ≡ to =
    ap (λ (r : List ℕ). number_of (behind_word r)) (sym is_rest) ∙ ap number_of (sym is_third) ∙ c
    in
    λ i. move_with (one i) (two i) (three i)
