-- A mark undoes one access.
use Rattle.std.proofs.Common.{◌≡◌, ℕ, ◌*◌, ◌/◌, ◌<◌, ◌≤◌, List, [], Option, Some, None, length}
use Rattle.std.proofs.Common.{get_or, sym, ap, subst, ◌∙◌, arith, inl}
use Rattle.std.proofs.Common.{inr}
use Rattle.std.proofs.lemmas.Bool.{cases_Bool}
use Rattle.std.proofs.lemmas.List.{set-get_or, set-set, get_or-set_same}
use Rattle.std.proofs.lemmas.Option.{slice_get-get_or, slice_get_within}
use Rattle.std.specs.Prelude.{if◌then◌else◌, slice_get, slice_set}
use Rattle.base.specs.Touch.{Touch, is_write}
use Rattle.sharing_rules.specs.Words.{note_word, tally}
use Rattle.sharing_rules.specs.declared.word.Word.{Word}
use Rattle.line_tracks.specs.RangeWords.{note_words, word_index}
use Rattle.line_tracks.specs.Laws.TrackValue.{note-range}
use Rattle.line_tracks.specs.TrackValue.{CanRestore, IsBlank, TrackValue, mark_of, note_from}
use Rattle.line_tracks.specs.TrackValue.{note_kept}
use Rattle.line_tracks.specs.TrackValue.{restored, started, word_at, words_of}
use Rattle.sharing_rules.specs.Laws.Lists.{slice_cases}

-- with other words
abbrev with_words : TrackValue → List Word → TrackValue
with_words x ws = record {
  kind = x.kind;
  range = x.range;
  start = x.start;
  entries =
      x.entries;
  count = x.count;
  words = ws;
}

noted_is : (x : TrackValue) (a : Touch) → word_index x.range a.addr < length x.words
    → (note_words (words_of x) a).words ≡ slice_set x.words (word_index x.range a.addr)
    (note_word (word_at x (word_index x.range a.addr)) a)
noted_is x a within = rw (slice_get-get_or x.words (word_index x.range a.addr) (tally []) within)

undone-words : (x : TrackValue) (a : Touch) → slice_set (note_words (words_of x) a).words
    (word_index x.range a.addr)
    (word_at x (word_index x.range a.addr)) ≡ x.words
undone-words x a =
    let i = word_index x.range a.addr in
    elim (slice_cases (slice_get x.words (word_index x.range a.addr))) [
      | inl none ↦ rw none (set-get_or x.words i (tally []))
      | inr some ↦
          let within = slice_get_within x.words (word_index x.range a.addr) some.0 some.1 in
          ap (λ ws. slice_set ws (word_index x.range a.addr) (word_at x (word_index x.range a.addr)))
          (noted_is x a within)
          ∙ set-set x.words i (note_word (word_at x i) a) (word_at x i)
          ∙ set-get_or x.words i (tally [])
    ]

undone_from : (o : Option ℕ) (x : TrackValue) (p : ℕ) (a : Touch)
    → restored (note_from o x p a) (mark_of x a.addr) ≡ x
undone_from None x p a =
    elim (cases_Bool (is_write a.kind)) [
      | inl w ↦ ap (λ b. restored (if b then started x p a else x) (mark_of x a.addr)) w
          ∙ ap (with_words x) (undone-words x a)
      | inr w ↦ ap (λ b. restored (if b then started x p a else x) (mark_of x a.addr)) w
          ∙ ap (with_words x) (set-get_or x.words (word_index x.range a.addr) (tally []))
    ]
undone_from (Some s) x p a = ap (with_words x) (undone-words x a)

-- one note and its restore give the track back
pub undone : (x : TrackValue) (p : ℕ) (a : Touch) → restored (note_kept x p a) (mark_of x a.addr) ≡ x
undone x p a = undone_from x.start x p a

-- how often a word was accessed, at least
record IsAtMost (w v : Word) : Type 0 where
  reads : w.reads ≤ v.reads
  writes : w.writes ≤ v.writes

noted_more : (w : Word) (a : Touch) → IsAtMost w (note_word w a)
noted_more w a = elim (cases_Bool (is_write a.kind)) [
  | inl e ↦ record { reads = rw e (omega arith); writes = rw e (omega arith) }
  | inr e ↦ record { reads = rw e (omega arith); writes = rw e (omega arith) }
]

words_more : (x : TrackValue) (a : Touch) → word_index x.range a.addr < length x.words
    → IsAtMost (word_at x (word_index x.range a.addr))
    (get_or (note_words (words_of x) a).words (word_index x.range a.addr) (tally []))
words_more x a within =
    let i = word_index x.range a.addr in
    let e : get_or (note_words (words_of x) a).words i (tally []) ≡ note_word (word_at x i) a =
    ap (λ ws. get_or ws (word_index x.range a.addr) (tally [])) (noted_is x a within)
    ∙ get_or-set_same x.words i (note_word (word_at x i) a)
    (tally []) within in
    rw e (noted_more (word_at x i) a)

more_from : (o : Option ℕ) (x : TrackValue) (p : ℕ) (a : Touch) → word_index x.range a.addr < length x.words
    → IsAtMost (word_at x (word_index x.range a.addr))
    (word_at (note_from o x p a) (word_index x.range a.addr))
more_from None x p a within =
    let same : IsAtMost (word_at x (word_index x.range a.addr))
    (word_at x (word_index x.range a.addr)) =
    record { reads = omega arith; writes = omega arith } in
    elim (cases_Bool (is_write a.kind)) [
      | inl w ↦ subst
          (λ b. IsAtMost (word_at x (word_index x.range a.addr))
          (word_at (if b then started x p a else x) (word_index x.range a.addr))) (sym w)
          (words_more x a within)
      | inr w ↦ subst
          (λ b. IsAtMost (word_at x (word_index x.range a.addr))
          (word_at (if b then started x p a else x) (word_index x.range a.addr)))
          (sym w) same
    ]
more_from (Some s) x p a within = words_more x a within

-- after one note it can be restored
pub can_undo : (x : TrackValue) (p : ℕ) (a : Touch) → 4 * length x.words ≡ x.range.size
    → word_index x.range a.addr < x.range.size / 4
    → (x.start ≡ None → IsBlank x)
    → CanRestore (note_kept x p a) (mark_of x a.addr)
can_undo x p a sized within blank =
    let inside : word_index x.range a.addr < length x.words = omega arith in
    let more = more_from x.start x p a inside in
    record {
      within = rw (note-range x.start x p a) within;
      reads = more.reads;
      writes = more.writes;
      blank_before = λ none. rw (undone x p a) (blank none);
    }
