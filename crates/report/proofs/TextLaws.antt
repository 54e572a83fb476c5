-- Texts of lines of words, put together piece by piece.
use Rattle.std.proofs.Common.{◌≡◌, ℕ, suc, ◌+◌, ◌<◌, List, [], ◌∷◌, ◌++◌, Bool, nat_lt, get_or}
use Rattle.std.proofs.Common.{length, take, Option, Some, slice_get, refl}
use Rattle.std.proofs.Common.{sym, ap, ◌∙◌, inl, inr, arith, append_assoc, append-nil, add-zero}
use Rattle.std.proofs.Common.{map, filter, length-take, option_to_list}
use Rattle.std.proofs.Common.{codes, pos, ◌+ℤ◌, ◌*◌}
use Rattle.std.specs.Fmt.{decimal}
use Rattle.base.specs.Addresses.{address_text}
use Rattle.std.specs.Prelude.{if◌then◌else◌}
use Rattle.std.specs.List.{enumerate_from, flat_map}
use Rattle.std.proofs.lemmas.Bool.{cases_Bool}
use Rattle.std.proofs.lemmas.List.{take_more, map-append}
use Rattle.std.proofs.lemmas.List.Elements.{filter-append}
use Rattle.std.proofs.lemmas.Grind.{flat_map-append}
use Rattle.std.proofs.lemmas.Option.{slice_get_within, slice_get_cases, get_or_from_slice_get}
use Rattle.base.specs.declared.layout.Range.{Range}
use Rattle.sharing_rules.specs.Words.{accesses}
use Rattle.sharing_rules.specs.declared.word.Word.{Word}
use Rattle.base.specs.TextLines.{line_text, text_of}
use Rattle.base.specs.Levels.{Levels}
use Rattle.base.specs.Lines.{Grid}
use Rattle.base.specs.declared.ending.Ending.{Ending}
use Rattle.objects.specs.Objects.{Objects}
use Rattle.report.specs.Shown.{ShownLine}
use Rattle.report.specs.Reports.{ending_lines, lines_of, report_lines, setting_lines}
use Rattle.objects.specs.declared.block.Block.{Block}
use Rattle.objects.specs.Symbols.{Symbol}
use Rattle.base.specs.PrintedNames.{name_text}
use Rattle.report.specs.Lines.{TextLine, block_line, death_words, owner_words, rest_of_line}
use Rattle.report.specs.Lines.{symbol_line, word_line, word_lines}

-- a line is its first word and what follows it
pub line_text-cons : (w : List ℕ) (ws : TextLine) → line_text (w ∷ ws) ≡ w ++ rest_of_line ws
line_text-cons w [] = refl
line_text-cons w (v ∷ vs) =
    append_assoc w _ (10 ∷ []) ∙ ap (λ t. w ++ 32 ∷ t)
    (line_text-cons v vs ∙ sym (append_assoc v (flat_map (λ w. 32 ∷ w) vs) (10 ∷ [])))

numbered : (before a d e : List ℕ) (ws : TextLine)
    → before ++ (codes "word " ++ a ++ codes " reads " ++ d ++ codes " writes " ++ e)
    ++ rest_of_line ws
    ≡ before ++ (codes "word" ++ rest_of_line (a ∷ codes "reads" ∷ d ∷ codes "writes" ∷ e ∷ ws))
numbered before a d e ws = simp append_assoc

-- the line of a word: its numbers, and its harts
pub word_pieces : (r : Range) (i : ℕ) (w : Word) (before : List ℕ)
    → before ++ (codes "word " ++ address_text (r.base +ℤ pos (4 * i)) ++ codes " reads "
    ++ decimal w.reads ++ codes " writes "
    ++ decimal w.writes) ++ rest_of_line (owner_words w.owner)
    ≡ before ++ line_text (word_line r (i, w))
word_pieces r i w before =
    numbered before (address_text (r.base +ℤ pos (4 * i))) (decimal w.reads) (decimal w.writes)
    (owner_words w.owner)
    ∙ ap (λ t. before ++ t)
    (sym (line_text-cons (codes "word") (address_text (r.base +ℤ pos (4 * i)) ∷ codes "reads"
    ∷ decimal w.reads ∷ codes "writes"
    ∷ decimal w.writes ∷ owner_words w.owner)))

-- the line of a word, where it was accessed
abbrev pub accessed_text : Range → ℕ × Word → List ℕ
accessed_text r p = text_of (if nat_lt 0 (accesses p.1) then word_line r p ∷ [] else [])

abbrev words_text : Range → ℕ → List Word → List ℕ
words_text r n ws = text_of (map (word_line r)
    (filter (λ p. nat_lt 0 (accesses p.1)) (enumerate_from n ws)))

words_text-cons : (r : Range) (n : ℕ) (w : Word) (ws : List Word) → words_text r n (w ∷ ws)
    ≡ accessed_text r (n, w) ++ words_text r
    (n + 1) ws
words_text-cons r n w ws =
    elim (cases_Bool (nat_lt 0 (accesses w))) [
      | inl yes_some ↦ rw yes_some (ap (λ t. t ++ words_text r (n + 1) ws)
          (sym (append-nil (line_text (word_line r (n, w))))))
      | inr no_some ↦ rw no_some
    ]

words_text-push : (r : Range) (n : ℕ) (ws : List Word) (w : Word) → words_text r n (ws ++ w ∷ [])
    ≡ words_text r n ws ++ accessed_text r
    (n + length ws, w)
words_text-push r n [] w =
    words_text-cons r n w [] ∙ append-nil (accessed_text r (n, w))
    ∙ ap (λ k. accessed_text r (k, w)) (sym (add-zero n))
words_text-push r n (v ∷ ws) w =
    words_text-cons r n v (ws ++ w ∷ [])
    ∙ ap (λ t. accessed_text r (n, v) ++ t) (words_text-push r (n + 1) ws w)
    ∙ sym (append_assoc (accessed_text r (n, v)) (words_text r (n + 1) ws) _)
    ∙ ap (λ t. t ++ accessed_text r (n + 1 + length ws, w)) (sym (words_text-cons r n v ws))
    ∙ ap (λ k. words_text r n (v ∷ ws) ++ accessed_text r (k, w))
    (let e : n + 1 + length ws ≡ n + suc (length ws) = omega arith in e)

-- the lines of one word more
pub word_lines-more : (r : Range) (ws : List Word) (i : ℕ) (w : Word) (whole before after : List ℕ)
    → slice_get ws i ≡ Some w
    → before ≡ whole ++ text_of (word_lines r (take i ws)) → after ≡ before
    ++ accessed_text r (i, w)
    → after ≡ whole ++ text_of (word_lines r (take (i + 1) ws))
word_lines-more r ws i w whole before after at_i known pushed =
    let within : i < length ws = slice_get_within ws i w at_i in
    let longer : take (i + 1) ws ≡ take i ws ++ w ∷ [] = take_more ws i w within
    ∙ ap (λ x. take i ws ++ x ∷ []) (get_or_from_slice_get ws i w w at_i) in
    let count : 0 + length (take i ws) ≡ i = omega (arith, length-take i ws) in
    pushed ∙ ap (λ t. t ++ accessed_text r (i, w)) known
    ∙ append_assoc whole (words_text r 0 (take i ws)) (accessed_text r (i, w))
    ∙ ap (λ t. whole ++ t)
    (sym (ap (words_text r 0) longer ∙ words_text-push r 0 (take i ws) w
    ∙ ap (λ k. words_text r 0 (take i ws) ++ accessed_text r (k, w)) count))

-- of a text that takes the elements of a list one after another: one element more
pub text_more : {X : Type 0} (h : List X → List ℕ)
    → ((xs ys : List X) → h (xs ++ ys) ≡ h xs ++ h ys)
    → (xs : List X) (i : ℕ) (x : X) (whole before after : List ℕ)
    → i < length xs → x ≡ get_or xs i x → before ≡ whole ++ h (take i xs) → after ≡ before
    ++ h (x ∷ [])
    → after ≡ whole ++ h (take (i + 1) xs)
text_more h joins xs i x whole before after within at_i known pushed =
    pushed ∙ ap (λ t. t ++ h (x ∷ [])) known ∙ append_assoc whole (h (take i xs)) (h (x ∷ []))
    ∙ ap (λ t. whole ++ t) (sym (ap h (take_more xs i x within
    ∙ ap (λ y. take i xs ++ y ∷ []) (sym at_i)) ∙ joins (take i xs) (x ∷ [])))

-- the same, of the element at a place
pub text_more_at : {X : Type 0} (h : List X → List ℕ)
    → ((xs ys : List X) → h (xs ++ ys) ≡ h xs ++ h ys)
    → (xs : List X) (i : ℕ) (o : Option X) (whole before after : List ℕ)
    → i < length xs → o ≡ slice_get xs i → before ≡ whole ++ h (take i xs) → after ≡ before
    ++ h (option_to_list o)
    → after ≡ whole ++ h (take (i + 1) xs)
text_more_at h joins xs i o whole before after within at_i known pushed =
    elim (slice_get_cases xs i).1 [
      | inl (x, lt, got, read) ↦ text_more h joins xs i x whole before after within (sym read) known
          (rw (at_i, got) at pushed)
      | inr (past, got) ↦ absurd (omega arith)
    ]

-- lines of the elements that pass a test
pub text_of-joins : {X : Type 0} (f : X → TextLine) (p : X → Bool) (xs ys : List X)
    → text_of (map f (filter p (xs ++ ys))) ≡ text_of
    (map f (filter p xs)) ++ text_of (map f (filter p ys))
text_of-joins f p xs ys =
    ap (λ zs. text_of (map f zs)) (filter-append p xs ys)
    ∙ ap text_of (map-append f (filter p xs) (filter p ys))
    ∙ flat_map-append line_text (map f (filter p xs)) (map f (filter p ys))

four : (whole : List ℕ) (a b c d : List TextLine) → whole ++ text_of a ++ text_of b ++ text_of c
    ++ text_of d ≡ whole ++ text_of
    (a ++ b ++ c ++ d)
four whole a b c d =
    ap (λ t. t ++ text_of c ++ text_of d) (append_assoc whole (text_of a) (text_of b)
    ∙ ap (λ t. whole ++ t) (sym (flat_map-append line_text a b)))
    ∙ ap (λ t. t ++ text_of d) (append_assoc whole (text_of (a ++ b)) (text_of c)
    ∙ ap (λ t. whole ++ t) (sym (flat_map-append line_text (a ++ b) c)))
    ∙ append_assoc whole (text_of (a ++ b ++ c)) (text_of d)
    ∙ ap (λ t. whole ++ t) (sym (flat_map-append line_text (a ++ b ++ c) d))

-- the parts of a report
pub report_pieces : (n : ℕ) (m : ℕ) (whole : List ℕ) (ending : Ending) (g : Grid) (v : Levels)
    (objects : Objects) (listed : List ShownLine)
    → n ≡ length listed → m ≡ ending.accesses
    → whole ++ text_of (ending_lines ending) ++ text_of (setting_lines g v n)
    ++ text_of (flat_map (lines_of objects m) listed)
    ++ codes "end\n"
    ≡ whole ++ text_of (report_lines ending g v objects listed)
report_pieces n m whole ending g v objects listed counted ended =
    ap (λ k. whole ++ text_of (ending_lines ending) ++ text_of (setting_lines g v k)
    ++ text_of (flat_map (lines_of objects m) listed)
    ++ codes "end\n") counted
    ∙ ap (λ k. whole ++ text_of (ending_lines ending) ++ text_of (setting_lines g v (length listed))
    ++ text_of
    (flat_map (lines_of objects k) listed) ++ codes "end\n") ended
    ∙ four whole (ending_lines ending) (setting_lines g v (length listed))
    (flat_map (lines_of objects ending.accesses) listed)
    ((codes "end" ∷ []) ∷ [])

named : (before n : List ℕ) (ws : TextLine)
    → before ++ codes "object symbol " ++ n ++ rest_of_line ws
    ≡ before ++ (codes "object" ++ rest_of_line (codes "symbol" ∷ n ∷ ws))
named before n ws = simp append_assoc

-- the line of a symbol: its name, its place and its size
pub symbol_pieces : (s : Symbol) (before : List ℕ)
    → before ++ codes "object symbol " ++ name_text s.name
    ++ rest_of_line (address_text (pos s.addr) ∷ decimal s.size ∷ [])
    ≡ before ++ line_text (symbol_line s)
symbol_pieces s before =
    let place : TextLine = address_text (pos s.addr) ∷ decimal s.size ∷ [] in
    named before (name_text s.name) place
    ∙ ap (λ t. before ++ t) (sym (line_text-cons (codes "object")
    (codes "symbol" ∷ name_text s.name ∷ place)))

lived : (before a d e : List ℕ) (ws : TextLine)
    → before ++ codes "object block " ++ a ++ codes " " ++ d ++ codes " born " ++ e
    ++ rest_of_line ws
    ≡ before ++ (codes "object" ++ rest_of_line (codes "block" ∷ a ∷ d ∷ codes "born" ∷ e ∷ ws))
lived before a d e ws = simp append_assoc

-- the line of a block: its place and its life, and how that ended
pub block_pieces : (b : Block) (before : List ℕ)
    → before ++ codes "object block " ++ address_text (pos b.addr) ++ codes " " ++ decimal b.size
    ++ codes " born " ++ decimal b.born
    ++ rest_of_line (death_words b.died)
    ≡ before ++ line_text (block_line b)
block_pieces b before =
    lived before (address_text (pos b.addr)) (decimal b.size) (decimal b.born) (death_words b.died)
    ∙ ap (λ t. before ++ t)
    (sym (line_text-cons (codes "object") (codes "block" ∷ address_text (pos b.addr)
    ∷ decimal b.size ∷ codes "born" ∷ decimal b.born
    ∷ death_words b.died)))
