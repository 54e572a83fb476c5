-- Texts of lines, put together piece by piece.
use Rattle.std.proofs.Common.{◌≡◌, ℕ, List, [], ◌∷◌, ◌++◌, ap, sym, ◌∙◌, append-nil, append_assoc}
use Rattle.std.proofs.Common.{codes}
use Rattle.std.proofs.Common.{Result, Some, subst, take, ◌+◌}
use Rattle.std.proofs.lemmas.Grind.{flat_map-append}
use Rattle.std.proofs.lemmas.List.{take_more}
use Rattle.std.proofs.lemmas.Option.{get_or_from_slice_get, slice_get_within}
use Rattle.std.specs.Prelude.{OnOk, slice_get}
use Rattle.std.specs.declared.alloc.Global.{Global}
use Rattle.std.specs.declared.string.String.{String}
use Rattle.base.specs.TextLines.{line_text, text_of}
use Rattle.base.specs.declared.layout.Range.{Range}
use Rattle.report.specs.Added.{AddsLine}
use Rattle.report.specs.Lines.{TextLine, owner_words}
use Rattle.sharing_rules.specs.declared.word.Owner.{Owner}
use Rattle.sharing_rules.specs.declared.word.Owner.TheVariants as owner
use Rattle.invalidations.specs.Text.{counted_words, owner_text, title_line}

-- some lines more
pub lines-more : (whole before after : List ℕ) (a b : List TextLine)
    → before ≡ whole ++ text_of a → after ≡ before ++ text_of b
    → after ≡ whole ++ text_of (a ++ b)
lines-more whole before after a b one two =
    two ∙ ap (λ t. t ++ text_of b) one ∙ append_assoc whole (text_of a) (text_of b)
    ∙ ap (λ t. whole ++ t) (sym (flat_map-append line_text a b))

-- a text of two parts
pub whole_text : (none before after : List ℕ) (a b : List TextLine) → none ≡ []
    → before ≡ none ++ text_of a → after ≡ before ++ text_of b → after ≡ text_of (a ++ b)
whole_text none before after a b is one two =
    lines-more none before after a b one two ∙ ap (λ t. t ++ text_of (a ++ b)) is

-- a row more of a table that is read by index
pub rows_more : {X : Type 0} (xs rows new : List X) (i : ℕ) (x : X) → slice_get xs i ≡ Some x
    → rows ≡ take i xs → new ≡ rows ++ x ∷ [] → new ≡ take (i + 1) xs
rows_more xs rows new i x there so_far pushed =
    let within = slice_get_within xs i x there in
    pushed ∙ ap (λ r. r ++ x ∷ []) so_far
    ∙ sym (take_more xs i x within
    ∙ ap (λ y. take i xs ++ y ∷ []) (get_or_from_slice_get xs i x x there))

-- the same line by equal numbers
pub counted_as : {T E : Type 0} (result : Result T E) (old new : String Global) (r q : Range)
    (s m n k : ℕ) → r ≡ q → s ≡ m → n ≡ k
    → OnOk result (AddsLine old new (counted_words r s n))
    → OnOk result (AddsLine old new (counted_words q m k))
counted_as result old new r q s m n k er es en adds =
    subst (λ x. OnOk result (AddsLine old new (counted_words x m k))) er
    (subst (λ x. OnOk result (AddsLine old new (counted_words r x k))) es
    (subst (λ x. OnOk result (AddsLine old new (counted_words r s x))) en adds))

-- the tables, and the end
pub table_pieces : (whole : List ℕ) (a b c : List TextLine)
    → whole ++ text_of a ++ text_of b ++ text_of c ++ codes "end\n"
    ≡ whole ++ text_of (a ++ b ++ c ++ (codes "end" ∷ []) ∷ [])
table_pieces whole a b c =
    let end : List TextLine = (codes "end" ∷ []) ∷ [] in
    ap (λ t. t ++ text_of c ++ text_of end) (append_assoc whole (text_of a) (text_of b)
    ∙ ap (λ t. whole ++ t) (sym (flat_map-append line_text a b)))
    ∙ ap (λ t. t ++ text_of end) (append_assoc whole (text_of (a ++ b)) (text_of c)
    ∙ ap (λ t. whole ++ t) (sym (flat_map-append line_text (a ++ b) c)))
    ∙ append_assoc whole (text_of (a ++ b ++ c)) (text_of end)
    ∙ ap (λ t. whole ++ t) (sym (flat_map-append line_text (a ++ b ++ c) end))

-- the first lines
pub head_pieces : (whole : List ℕ) (b : List TextLine) (c : TextLine)
    → whole ++ codes "predator explain 1\n" ++ text_of b ++ line_text c
    ≡ whole ++ text_of ((title_line ∷ b) ++ c ∷ [])
head_pieces whole b c =
    let title = line_text title_line in
    ap (λ t. t ++ line_text c) (append_assoc whole title (text_of b))
    ∙ append_assoc whole (title ++ text_of b) (line_text c)
    ∙ ap (λ t. whole ++ t)
    (ap (λ t. (title ++ text_of b) ++ t) (sym (append-nil (line_text c)))
    ∙ sym (flat_map-append line_text (title_line ∷ b) (c ∷ [])))

-- the line of a site
pub site_pieces : (before a d e f : List ℕ) (o : Owner)
    → before ++ (codes "site " ++ a ++ codes " reads " ++ d ++ codes " writes " ++ e ++ codes " ")
    ++ owner_text o ++ f ++ codes "\n"
    ≡ before ++ line_text (codes "site" ∷ a ∷ codes "reads" ∷ d ∷ codes "writes" ∷ e
    ∷ (owner_words o ++ f ∷ []))
site_pieces before a d e f owner.None = simp append_assoc
site_pieces before a d e f (owner.One h) = simp append_assoc
site_pieces before a d e f owner.Many = simp append_assoc
