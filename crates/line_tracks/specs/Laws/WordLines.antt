-- Lines and their ranges hold the same addresses, and place their words alike.
use Rattle.std.proofs.Common.{◌≡◌, ℕ, ◌+◌, ◌-◌, ◌*◌, ◌/◌, ◌%◌, ◌<◌, ◌≤◌, true, false, ap, sym, ◌∙◌}
use Rattle.std.proofs.Common.{arith, inl, inr}
use Rattle.std.proofs.lemmas.Bool.{cases_Bool, false≢true, and_parts, and_from, eqb-true, eq-eqb}
use Rattle.std.proofs.lemmas.Int.{ints}
use Rattle.std.proofs.lemmas.Nat.{div-add-mod', div-mul-add}
use Rattle.std.proofs.Math.Nat.{mod-lt}
use Rattle.std.specs.Prelude.{pos, ◌+ℤ◌, ◌-ℤ◌, int_le, int_lt, nat_abs}
use Rattle.std.proofs.Common.{refl, eqb, ltb, List, [], ◌∷◌, ◌++◌, ◌&&◌, Some, length}
use Rattle.std.proofs.lemmas.Bool.{or_cases, ltb-true}
use Rattle.std.specs.Prelude.{slice_get, slice_set}
use Rattle.std.specs.List.{list_any, list_all}
use Rattle.base.specs.Lines.{is_layout, is_line_size}
use Rattle.base.specs.Touch.{Touch}
use Rattle.base.specs.declared.layout.Range.{Range}
use Rattle.base.specs.Ranges.{holds_address}
use Rattle.sharing_rules.specs.Words.{note_word, word_since, words_since}
use Rattle.sharing_rules.specs.declared.word.Word.{Word}
use Rattle.sharing_rules.specs.Laws.Tracks.{word_place-within}
use Rattle.sharing_rules.specs.Laws.Words.{words_since-at, words_since-push}
use Rattle.sharing_rules.specs.Lines.{Line, is_inside, range_of, word_place}
use Rattle.line_tracks.specs.RangeWords.{RangeWords, note_words, word_index}

-- from the base of line m / n of (n, o) to its end
in_range : (m n o a : ℕ) → o < n → holds_address (record { base = pos (m + o) -ℤ pos n; size = n })
    a ≡ true → (m + o ≤ a + n) × (a < m + o)
in_range m n o a small h =
    let k = and_parts (int_le (pos (m + o) -ℤ pos n) (pos a))
    (int_lt (pos a) (pos (m + o) -ℤ pos n +ℤ pos n)) h in
    let low = k.0 in
    let high = k.1 in
    (grind (arith, ints), grind (arith, ints))

range_in : (m n o a : ℕ) → o < n → m + o ≤ a + n → a < m + o
    → holds_address (record { base = pos (m + o) -ℤ pos n; size = n }) a ≡ true
range_in m n o a small low high = and_from (int_le (pos (m + o) -ℤ pos n) (pos a))
    (int_lt (pos a) (pos (m + o) -ℤ pos n +ℤ pos n)) (grind (arith, ints)) (grind (arith, ints))

number_from : (n k b : ℕ) (d : ℕ) → b < n → d ≡ k * n + b → d / n ≡ k
number_from n k b d less e = ap (λ z. z / n) e ∙ div-mul-add k n b less

-- an address in the range is in the line
pub held-inside : (l : Line) (a : ℕ) → l.offset < l.size → holds_address (range_of l) a ≡ true
    → is_inside l a ≡ true
held-inside l a small h =
    let p = in_range (l.number * l.size) l.size l.offset a small h in
    let low = p.0 in
    let high = p.1 in
    eq-eqb ((a + l.size - l.offset) / l.size) l.number
    (number_from l.size l.number (a + l.size - l.offset - l.number * l.size)
    (a + l.size - l.offset) (omega arith) (omega arith))

-- and the other way round
pub inside-held : (l : Line) (a : ℕ) → l.offset < l.size → is_inside l a ≡ true
    → holds_address (range_of l) a ≡ true
inside-held l a small h =
    let e = eqb-true ((a + l.size - l.offset) / l.size) l.number h in
    let split = div-add-mod' (a + l.size - l.offset) l.size in
    let some : 0 < l.size = omega arith in
    let rest = mod-lt (a + l.size - l.offset) some in
    let same : (a + l.size - l.offset) / l.size * l.size ≡ l.number * l.size =
    ap (λ k. k * l.size) e in
    range_in (l.number * l.size) l.size l.offset a small (omega arith) (omega arith)

pub outside-held : (l : Line) (a : ℕ) → l.offset < l.size → holds_address (range_of l) a ≡ false
    → is_inside l a ≡ false
outside-held l a small h =
    elim (cases_Bool (is_inside l a)) [
      | inl e ↦ absurd (false≢true (sym h ∙ inside-held l a small e))
      | inr e ↦ e
    ]

-- a word of the range has the place of the line's
pub place-held : (l : Line) (a : ℕ) → l.offset < l.size → holds_address (range_of l) a ≡ true
    → word_index (range_of l) a ≡ word_place l a
place-held l a small h =
    let p = in_range (l.number * l.size) l.size l.offset a small h in
    let low = p.0 in
    let high = p.1 in
    let e = eqb-true ((a + l.size - l.offset) / l.size) l.number (held-inside l a small h) in
    let split = div-add-mod' (a + l.size - l.offset) l.size in
    let same : (a + l.size - l.offset) / l.size * l.size ≡ l.number * l.size =
    ap (λ k. k * l.size) e in
    let far : nat_abs (pos a -ℤ (pos (l.number * l.size + l.offset) -ℤ pos l.size)) ≡
    (a + l.size - l.offset) % l.size = omega (arith, ints) in
    ap (λ z. z / 4) far

multiple : (n : ℕ) (ns : List ℕ) → list_all (λ m. eqb (m % 4) 0) ns ≡ true
    → list_any (eqb n) ns ≡ true → n % 4 ≡ 0
multiple n [] all h = absurd (false≢true h)
multiple n (m ∷ ms) all h =
    let k = and_parts (eqb (m % 4) 0) (list_all (λ m. eqb (m % 4) 0) ms) all in
    elim (or_cases (eqb n m) (list_any (eqb n) ms) h) [
      | inl e ↦ ap (λ z. z % 4) (eqb-true n m e) ∙ eqb-true (m % 4) 0 k.0
      | inr e ↦ multiple n ms k.1 e
    ]

-- a line of an allowed layout consists of words
pub layout-sized : (n o : ℕ) → is_layout n o ≡ true → (o < n) × (n % 4 ≡ 0)
layout-sized n o h =
    let outer = and_parts (is_line_size n && ltb o n) (eqb (o % 4) 0) h in
    let inner = and_parts (is_line_size n) (ltb o n) outer.0 in (
      ltb-true o n inner.1,
      multiple n (4 ∷ 8 ∷ 16 ∷ 32 ∷ 64 ∷ 128 ∷ 256 ∷ 512 ∷ 1024 ∷ []) refl
          inner.0,
    )

-- one access more of a line's words
pub note-since : (v : RangeWords) (l : Line) (s : ℕ) (t : List Touch) (a : Touch)
    → is_layout l.size l.offset ≡ true → s ≤ length t → holds_address v.range a.addr ≡ true
    → v.range ≡ range_of l → v.words ≡ words_since l s t → (note_words v a).words ≡ words_since l s
    (t ++ a ∷ [])
note-since v l s t a allowed due holds range words =
    let sized = layout-sized l.size l.offset allowed in
    let some : 0 < l.size = let k = sized.0 in omega (arith, k) in
    let here : holds_address (range_of l) a.addr ≡ true = ap (λ (r : Range). holds_address r a.addr)
    (sym range) ∙ holds in
    let inside = held-inside l a.addr sized.0 here in
    let within = word_place-within l a.addr some sized.1 in
    let place : word_index v.range a.addr ≡ word_place l a.addr =
    ap (λ (r : Range). word_index r a.addr) range ∙ place-held l a.addr sized.0 here in
    let get : slice_get v.words (word_index v.range a.addr) ≡ Some
    (word_since l s t (word_place l a.addr)) =
    ap (slice_get v.words) place ∙ ap (λ ws. slice_get ws (word_place l a.addr)) words
    ∙ words_since-at l s t (word_place l a.addr) within in
    rw get
    (ap (λ ws. slice_set ws (word_index v.range a.addr)
    (note_word (word_since l s t (word_place l a.addr)) a)) words
    ∙ ap (λ i. slice_set (words_since l s t) i
    (note_word (word_since l s t (word_place l a.addr)) a)) place
    ∙ words_since-push l s t a due inside within)

-- a note of a word, by its place
pub noted_words : (r : Range) (words : List Word) (a : Touch) (p : ℕ) (w : Word)
    → p ≡ word_index r a.addr → slice_get words p ≡ Some w
    → (note_words (record { range = r; words = words }) a).words ≡ slice_set words p (note_word w a)
noted_words r words a p w e get = rw (← e, get)
