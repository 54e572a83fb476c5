-- How the pieces of the text of a placement make its lines.
use Rattle.std.proofs.Common.{◌≡◌, ℕ, ◌+◌, List, [], ◌∷◌, ◌++◌, Option, add-one, append_assoc, codes}
use Rattle.std.proofs.Common.{filter_map, option_to_list, sym, ap, ◌∙◌}
use Rattle.std.proofs.lemmas.Grind.{flat_map-append}
use Rattle.std.proofs.lemmas.List.Elements.{filter_map-append}
use Rattle.base.specs.TextLines.{line_text, text_of}
use Rattle.sharing_rules.specs.Laws.Lists.{cons_option-nil}
use Rattle.sharing_rules.specs.Places.{below}
use Rattle.placement.specs.Texts.{TextLine}

-- the first two lines: name, address, size, line size, words
pub head_pieces : (whole n a b s w : List ℕ) → (((whole ++ codes "place ") ++ n)
    ++ (codes " " ++ a)) ++ (codes " " ++ b ++ codes " line " ++ s ++ codes "\nwords " ++ w
    ++ codes "\n")
    ≡ whole ++ text_of ((codes "place" ∷ n ∷ a ∷ b ∷ codes "line" ∷ s ∷ [])
    ∷ (codes "words" ∷ w ∷ []) ∷ [])
head_pieces whole n a b s w = simp append_assoc

pub hart_pieces : (whole a b h : List ℕ)
    → (whole ++ ((codes "word" ++ (codes " " ++ a)) ++ (codes " to" ++ (codes " " ++ b))))
    ++ (codes " hart " ++ h ++ codes "\n")
    ≡ whole ++ text_of ((codes "word" ∷ a ∷ codes "to" ∷ b ∷ codes "hart" ∷ h ∷ []) ∷ [])
hart_pieces whole a b h = simp append_assoc

pub many_pieces : (whole a b : List ℕ)
    → (whole ++ ((codes "word" ++ (codes " " ++ a)) ++ (codes " to" ++ (codes " " ++ b))))
    ++ codes " many\n"
    ≡ whole ++ text_of ((codes "word" ∷ a ∷ codes "to" ∷ b ∷ codes "many" ∷ []) ∷ [])
many_pieces whole a b = simp append_assoc

-- a line feed before what follows
fed : (digits more : List ℕ) → (digits ++ 10 ∷ []) ++ more ≡ digits ++ 10 ∷ more
fed digits more = append_assoc digits (10 ∷ []) more

-- the last four lines: before, after, many
abbrev counts_text : (b a m : List ℕ) → List ℕ
counts_text b a m =
    codes "before " ++ (b ++ (codes "\nafter " ++ (a ++ (codes "\nmany " ++ (m ++ codes "\nend\n")))))

counts_spelled : (b a m : List ℕ)
    → text_of ((codes "before" ∷ b ∷ []) ∷ (codes "after" ∷ a ∷ []) ∷ (codes "many" ∷ m ∷ [])
    ∷ (codes "end" ∷ []) ∷ [])
    ≡ counts_text b a m
counts_spelled b a m =
    let many : List ℕ = codes "many " ++ ((m ++ 10 ∷ []) ++ codes "end\n") in
    let last = fed m (codes "end\n") in
    let second = fed a many ∙ ap (λ (r : List ℕ). a ++ (codes "\nmany " ++ r)) last in
    let first = fed b (codes "after " ++ ((a ++ 10 ∷ []) ++ many))
    ∙ ap (λ (r : List ℕ). b ++ (codes "\nafter " ++ r)) second in
    ap (λ (r : List ℕ). codes "before " ++ r) first

area_pieces : (whole s n rest : List ℕ)
    → ((whole ++ codes "area") ++ (codes " " ++ s)) ++ (codes " " ++ n ++ 10 ∷ rest)
    ≡ whole ++ (line_text (codes "area" ∷ s ∷ n ∷ []) ++ rest)
area_pieces whole s n rest = simp append_assoc

size_pieces : (n b a m : List ℕ)
    → codes " " ++ n ++ codes "\nbefore " ++ b ++ codes "\nafter " ++ a ++ codes "\nmany " ++ m
    ++ codes "\nend\n"
    ≡ codes " " ++ n ++ 10 ∷ counts_text b a m
size_pieces n b a m = simp append_assoc

-- the last lines: start, size, before, after, many
pub end_pieces : (whole s n b a m : List ℕ) → ((whole ++ codes "area") ++ (codes " " ++ s))
    ++ (codes " " ++ n ++ codes "\nbefore " ++ b ++ codes "\nafter " ++ a ++ codes "\nmany " ++ m
    ++ codes "\nend\n")
    ≡ whole ++ text_of ((codes "area" ∷ s ∷ n ∷ []) ∷ (codes "before" ∷ b ∷ [])
    ∷ (codes "after" ∷ a ∷ []) ∷ (codes "many" ∷ m ∷ []) ∷ (codes "end" ∷ []) ∷ [])
end_pieces whole s n b a m =
    ap (λ (w : List ℕ). ((whole ++ codes "area") ++ (codes " " ++ s)) ++ w) (size_pieces n b a m)
    ∙ area_pieces whole s n (counts_text b a m)
    ∙ ap (λ (w : List ℕ). whole ++ (line_text (codes "area" ∷ s ∷ n ∷ []) ++ w))
    (sym (counts_spelled b a m))

-- the lines of one number more
pub touched_more : (f : ℕ → Option TextLine) (i : ℕ) (whole before after : List ℕ)
    → before ≡ whole ++ text_of (filter_map f (below i))
    → after ≡ before ++ text_of (option_to_list (f i))
    → after ≡ whole ++ text_of (filter_map f (below (i + 1)))
touched_more f i whole before after known pushed =
    let one : List ℕ = text_of (option_to_list (f i)) in
    let lines : List TextLine = filter_map f (below i) in
    rw add-one (pushed ∙ ap (λ (w : List ℕ). w ++ one) known ∙ append_assoc whole (text_of lines) one
    ∙ ap (λ (w : List ℕ). whole ++ w) (sym (flat_map-append line_text lines (option_to_list (f i)))
    ∙ ap text_of (sym (filter_map-append f (below i) (i ∷ [])
    ∙ ap (λ (ls : List TextLine). lines ++ ls) (cons_option-nil (f i))))))
