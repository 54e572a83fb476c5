-- What is kept of a line, after one access of it more.
use Rattle.std.proofs.Common.{◌≡◌, ℕ, ◌+◌, ◌-◌, ◌/◌, ◌%◌, get_or, ◌<◌, ◌≤◌, Bool, true, false, eqb}
use Rattle.std.proofs.Common.{ltb, leb, not, ◌&&◌, List, [], ◌∷◌, ◌++◌, Some, None, take, length}
use Rattle.std.proofs.Common.{refl, sym, ap, ◌∙◌, arith, inl, inr}
use Rattle.std.proofs.lemmas.List.{drop_all}
use Rattle.std.proofs.lemmas.Bool.{cases_Bool, false≢true, and_parts, ne_eqb, and_right, and_left}
use Rattle.std.proofs.lemmas.Bool.{lt-ltb, le-ltb, le-leb, eqb-true, eqb-false}
use Rattle.std.proofs.lemmas.Option.{get_or_from_slice_get}
use Rattle.std.proofs.Math.Nat.{add-zero, mod-lt}
use Rattle.std.specs.Prelude.{if◌then◌else◌, slice_get, slice_set}
use Rattle.std.specs.List.{list_any, IsDistinct}
use Rattle.base.specs.Lines.{line_number}
use Rattle.base.specs.Touch.{Touch, is_write}
use Rattle.sharing_rules.specs.AccessLists.{writes_to}
use Rattle.sharing_rules.specs.Arrivals.{arrivals, note_arrival}
use Rattle.sharing_rules.specs.Holders.{is_held_by_another, is_invalidation, line_count_since}
use Rattle.sharing_rules.specs.Lines.{Line, is_inside, word_place}
use Rattle.sharing_rules.specs.Observed.{first_write_from}
use Rattle.sharing_rules.specs.Places.{below}
use Rattle.sharing_rules.specs.Tracks.{blank_words, Traced, track_since, track_of}
use Rattle.sharing_rules.specs.Words.{tally, word_since, words_since, note_word}
use Rattle.sharing_rules.specs.Laws.Places.{first_place-passes, first_place-push}
use Rattle.sharing_rules.specs.Laws.Places.{first_place-within, first_place-append}
use Rattle.sharing_rules.specs.Laws.Places.{count_places-push, count_places-none}
use Rattle.sharing_rules.specs.Laws.Arrivals.{arrivals-push, arrivals-some, arrivals-distinct}
use Rattle.sharing_rules.specs.Laws.Held.{another-arrived}
use Rattle.sharing_rules.specs.Laws.Words.{words_since-push, word_since-push, words_since-at}
use Rattle.sharing_rules.specs.Tracks.{note_track}
use Rattle.sharing_rules.specs.Tracks.{begin_track}
use Rattle.sharing_rules.specs.Laws.Lists.{any_get, map_same, slice_cases}

-- the first two of one arrival more depend on the first two alone
pub first_two-note : (hs : List ℕ) (h : ℕ) → take 2 (note_arrival (take 2 hs) h) ≡ take 2
    (note_arrival hs h)
first_two-note [] h = refl
first_two-note (x ∷ []) h = refl
first_two-note (x ∷ (y ∷ [])) h = refl
first_two-note (x ∷ (y ∷ (z ∷ hs))) h =
    elim (cases_Bool (list_any (eqb h) (x ∷ (y ∷ [])))) [
      | inl e ↦ elim (cases_Bool (list_any (eqb h) (x ∷ (y ∷ (z ∷ hs)))))
          [ inl d ↦ rw (e, d) | inr d ↦ rw (e, d) ]
      | inr e ↦ elim (cases_Bool (list_any (eqb h) (x ∷ (y ∷ (z ∷ hs)))))
          [ inl d ↦ rw (e, d) | inr d ↦ rw (e, d) ]
    ]

both : (x y h : ℕ) → eqb x y ≡ false → x ≡ h → y ≡ h → ⊥
both x y h apart e d = eqb-false x y apart (e ∙ sym d)

-- two entries determine whether another hart came
pub first_two-another : (hs : List ℕ) (h : ℕ) → IsDistinct eqb hs
    → list_any (λ g. not (eqb g h)) (take 2 hs) ≡ list_any (λ g. not (eqb g h)) hs
unfolding IsDistinct
first_two-another [] h d = refl
first_two-another (x ∷ []) h d = refl
first_two-another (x ∷ (y ∷ hs)) h d =
    elim (cases_Bool (eqb x h)) [
      | inl e ↦ let apart : eqb y h ≡ false = ne_eqb y h (λ s. both x y h d.0.0 (eqb-true x h e) s)
          in rw (e, apart)
      | inr e ↦ rw e
    ]

-- a line that started was written
pub written_from : (o : ℕ) (inside : ℕ → Bool) (t : List Touch) (s : ℕ)
    → first_write_from o inside t ≡ Some s → list_any (writes_to inside) t ≡ true
written_from o inside t s e =
    let k = first_place-passes (λ before a. leb o (length before) && writes_to inside a) t s e in
    elim (slice_cases (slice_get t s)) [
      | inl none ↦ let z : false ≡ true = rw none at k in absurd (false≢true z)
      | inr some ↦
          let z : (leb o (length (take s t)) && writes_to inside some.0) ≡ true = rw some.1 at k in
          any_get (writes_to inside) t s some.0 some.1 (and_parts _ _ z).1
    ]

word_since-end : (l : Line) (t : List Touch) (i : ℕ) → word_since l (length t) t i ≡ tally []
word_since-end l t i = rw (drop_all (length t) t (omega arith))

blank-words_since : (l : Line) (t : List Touch) → words_since l (length t) t ≡ blank_words l
unfolding words_since
blank-words_since l t = map_same (word_since l (length t) t) (λ i. tally []) (word_since-end l t)
    (below (l.size / 4))

-- a place of a word of a line
pub word_place-within : (l : Line) (a : ℕ) → 0 < l.size → l.size % 4 ≡ 0
    → word_place l a < l.size / 4
word_place-within l a some even = let m = mod-lt (a + l.size - l.offset) some in omega arith

same_track : (x y : Traced) → x.start ≡ y.start → x.entries ≡ y.entries → x.count ≡ y.count
    → x.words ≡ y.words → x ≡ y
same_track x y s e c w =
    ap (λ k. record { start = k; entries = x.entries; count = x.count; words = x.words }) s
    ∙ ap (λ k. record { start = y.start; entries = k; count = x.count; words = x.words }) e
    ∙ ap (λ k. record { start = y.start; entries = y.entries; count = k; words = x.words }) c
    ∙ ap (λ k. record { start = y.start; entries = y.entries; count = y.count; words = k }) w

-- the first write of a line that had none
pub track_of-begins : (l : Line) (from : ℕ) (t : List Touch) (a : Touch)
    → first_write_from from (is_inside l) t ≡ None → from ≤ length t
    → is_inside l a.addr ≡ true → is_write a.kind ≡ true → word_place l a.addr < l.size / 4
    → track_of l from (t ++ a ∷ []) ≡ begin_track l (length t) a
track_of-begins l from t a none due inside writes within =
    let start : first_write_from from (is_inside l) (t ++ a ∷ []) ≡ Some (length t) =
    rw (
      first_place-push (λ before b. leb from (length before) && writes_to (is_inside l) b) t
          a,
      none,
      le-leb from (length t) due,
      writes,
      inside,
    ) in
    ap (track_since l (t ++ a ∷ [])) start
    ∙ same_track _ _ refl
    (rw (arrivals-push (is_inside l) t a, inside, writes))
    (rw (
      count_places-push
          (λ before b. ltb (length t) (length before) && is_invalidation
          (line_number l.size l.offset)
          l.number before b) t a,
      le-ltb (length t) (length t) (omega arith),
      add-zero,
    )
    (count_places-none
    (λ before b. ltb (length t) (length before) && is_invalidation (line_number l.size l.offset)
    l.number before b) t
    (λ before b h. and_left _ _ (le-ltb (length t) (length before) (omega arith)))))
    (sym
    (ap (λ w. slice_set (blank_words l) (word_place l a.addr) (note_word w a))
    (sym (word_since-end l t (word_place l a.addr)))
    ∙ ap (λ ws. slice_set ws (word_place l a.addr)
    (note_word (word_since l (length t) t (word_place l a.addr)) a))
    (sym (blank-words_since l t)) ∙ words_since-push l (length t) t a (omega arith) inside
    within))

-- a line that has no start yet, and doesn't begin here
pub track_of-waits : (l : Line) (from : ℕ) (t : List Touch) (a : Touch)
    → first_write_from from (is_inside l) t ≡ None
    → (leb from (length t) && writes_to (is_inside l) a) ≡ false
    → track_of l from (t ++ a ∷ []) ≡ track_of l from t
track_of-waits l from t a none quiet =
    let start : first_write_from from (is_inside l) (t ++ a ∷ []) ≡ None =
    rw (
      first_place-push (λ before b. leb from (length before) && writes_to (is_inside l) b) t
          a,
      none,
      quiet,
    ) in
    ap (track_since l (t ++ a ∷ [])) start ∙ sym (ap (track_since l t) none)

found_by_two : (l : Line) (t : List Touch) (h : ℕ) → list_any (writes_to (is_inside l)) t ≡ true
    → is_held_by_another (line_number l.size l.offset) t h l.number ≡ list_any (λ g. not (eqb g h))
    (take 2 (arrivals (is_inside l) t))
found_by_two l t h written =
    another-arrived (line_number l.size l.offset) l.number t h written
    ∙ sym (first_two-another (arrivals (is_inside l) t) h (arrivals-distinct (is_inside l) t))

entries-note : (l : Line) (t : List Touch) (a : Touch) → is_inside l a.addr ≡ true
    → list_any (writes_to (is_inside l)) t ≡ true
    → take 2 (arrivals (is_inside l) (t ++ a ∷ [])) ≡ (if is_write a.kind then a.hart ∷ []
    else take 2 (note_arrival (take 2 (arrivals (is_inside l) t)) a.hart))
entries-note l t a inside written =
    let g = arrivals-some (is_inside l) t written in
    elim (cases_Bool (is_write a.kind)) [
      | inl w ↦ rw (w, arrivals-push (is_inside l) t a, inside, w)
      | inr w ↦ rw (w, arrivals-push (is_inside l) t a, inside, w, g.2)
          (sym (first_two-note (g.0 ∷ g.1) a.hart))
    ]

count-note : (l : Line) (s : ℕ) (t : List Touch) (a : Touch) → is_inside l a.addr ≡ true
    → s < length t → list_any (writes_to (is_inside l)) t ≡ true
    → line_count_since l s (t ++ a ∷ []) ≡
    (if is_write a.kind && list_any (λ g. not (eqb g a.hart))
    (take 2 (arrivals (is_inside l) t)) then line_count_since l s t + 1
    else line_count_since l s t)
count-note l s t a inside later written =
    rw (
      count_places-push
          (λ before b. ltb s (length before) && is_invalidation (line_number l.size l.offset)
          l.number
          before b) t a,
      lt-ltb s (length t) later,
      inside,
      found_by_two l t a.hart written,
    )
    (elim (cases_Bool (is_write a.kind)) [
      | inl w ↦ elim
          (cases_Bool (list_any (λ g. not (eqb g a.hart)) (take 2 (arrivals (is_inside l) t))))
          [ inl u ↦ rw (w, u) | inr u ↦ rw (w, u, add-zero) ]
      | inr w ↦ rw (w, add-zero)
    ])

words-note : (l : Line) (s : ℕ) (t : List Touch) (a : Touch) → s ≤ length t
    → is_inside l a.addr ≡ true → word_place l a.addr < l.size / 4
    → words_since l s (t ++ a ∷ []) ≡ slice_set (words_since l s t) (word_place l a.addr)
    (note_word (get_or (words_since l s t) (word_place l a.addr) (tally [])) a)
words-note l s t a le inside within =
    let there : get_or (words_since l s t) (word_place l a.addr) (tally []) ≡ word_since l s t
    (word_place l a.addr) = get_or_from_slice_get (words_since l s t) (word_place l a.addr)
    (word_since l s t (word_place l a.addr)) (tally [])
    (words_since-at l s t (word_place l a.addr) within) in
    rw there (sym (words_since-push l s t a le inside within))

-- a later access of a line that started
pub track_of-goes_on : (l : Line) (from s : ℕ) (t : List Touch) (a : Touch)
    → first_write_from from (is_inside l) t ≡ Some s → is_inside l a.addr ≡ true
    → word_place l a.addr < l.size / 4
    → track_of l from (t ++ a ∷ []) ≡ note_track l (track_of l from t) a
track_of-goes_on l from s t a some inside within =
    let asked : List Touch → Touch → Bool = λ before b. leb from (length before) && writes_to
    (is_inside l) b in
    let later : s < length t = first_place-within asked t s some in
    let written = written_from from (is_inside l) t s some in
    ap (track_since l (t ++ a ∷ [])) (first_place-append asked t (a ∷ []) s some)
    ∙ same_track _ _ refl (entries-note l t a inside written)
    (count-note l s t a inside later written) (words-note l s t a (omega arith) inside within)
    ∙ sym (ap (λ x. note_track l (track_since l t x) a) some)

count-elsewhere : (l : Line) (s : ℕ) (t : List Touch) (a : Touch) → s < length t
    → is_inside l a.addr ≡ false → line_count_since l s (t ++ a ∷ []) ≡ line_count_since l s t
count-elsewhere l s t a later outside =
    rw (
      count_places-push (λ before b. ltb s (length before) && is_invalidation
          (line_number l.size l.offset) l.number before b) t a,
      lt-ltb s (length t) later,
      outside,
    )
    (elim (cases_Bool (is_write a.kind)) [ inl w ↦ rw (w, add-zero) | inr w ↦ rw (w, add-zero) ])

words-elsewhere : (l : Line) (s : ℕ) (t : List Touch) (a : Touch) → s ≤ length t
    → is_inside l a.addr ≡ false → words_since l s (t ++ a ∷ []) ≡ words_since l s t
unfolding words_since
words-elsewhere l s t a le outside = map_same (word_since l s (t ++ a ∷ [])) (word_since l s t)
    (λ i. rw (word_since-push l s t a i le, outside)) (below (l.size / 4))

-- an access elsewhere
pub track_of-stays : (l : Line) (from : ℕ) (t : List Touch) (a : Touch) → is_inside l a.addr ≡ false
    → track_of l from (t ++ a ∷ []) ≡ track_of l from t
track_of-stays l from t a outside =
    let asked : List Touch → Touch → Bool = λ before b. leb from (length before) && writes_to
    (is_inside l) b in
    elim (slice_cases (first_write_from from (is_inside l) t)) [
      | inl none ↦ track_of-waits l from t a none (rw outside (and_right _ _ (and_right _ _ refl)))
      | inr some ↦
          let later : some.0 < length t = first_place-within asked t some.0 some.1 in
          ap (track_since l (t ++ a ∷ [])) (first_place-append asked t (a ∷ []) some.0 some.1)
          ∙ same_track _ _ refl
          (rw (arrivals-push (is_inside l) t a, outside))
          (count-elsewhere l some.0 t a later outside)
          (words-elsewhere l some.0 t a (omega arith) outside)
          ∙ sym (ap (track_since l t) some.1)
    ]
