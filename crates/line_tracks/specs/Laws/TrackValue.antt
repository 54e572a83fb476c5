-- Notes keep tracks: of a list with the access, and elsewhere of the list as before.
use Rattle.std.proofs.Common.{◌≡◌, ℕ, ◌/◌, ◌<◌, ◌≤◌, Bool, true, false, leb, ◌&&◌, List, [], ◌∷◌}
use Rattle.std.proofs.Common.{◌++◌, Option, Some, None, length, take, get_or, refl, sym, ap, ◌∙◌}
use Rattle.std.proofs.Common.{arith, inl, inr}
use Rattle.std.proofs.lemmas.Bool.{cases_Bool, and_right, lt-leb}
use Rattle.std.proofs.lemmas.List.{length-take-le}
use Rattle.std.proofs.lemmas.Option.{slice_get-get_or}
use Rattle.std.specs.Prelude.{if◌then◌else◌, sum_by, slice_get, slice_set}
use Rattle.base.specs.Lines.{is_layout}
use Rattle.base.specs.Ranges.{holds_address}
use Rattle.base.specs.Touch.{Touch, is_write}
use Rattle.base.specs.declared.layout.Range.{Range}
use Rattle.sharing_rules.specs.AccessLists.{writes_to, AccessList}
use Rattle.sharing_rules.specs.Lines.{Line, is_inside, range_of, word_place}
use Rattle.sharing_rules.specs.Observed.{first_write_from}
use Rattle.sharing_rules.specs.Tracks.{Traced, blank_words, track_since, track_of, note_track}
use Rattle.sharing_rules.specs.Words.{accesses, note_word, tally, words_since}
use Rattle.sharing_rules.specs.declared.line_kind.LineKind.{LineKind}
use Rattle.sharing_rules.specs.declared.word.Word.{Word}
use Rattle.sharing_rules.specs.Laws.Places.{first_place-never}
use Rattle.sharing_rules.specs.Laws.Tracks.{track_of-begins, track_of-waits, track_of-goes_on}
use Rattle.sharing_rules.specs.Laws.Tracks.{track_of-stays, word_place-within}
use Rattle.sharing_rules.specs.Laws.Words.{length-words_since}
use Rattle.line_tracks.specs.RangeWords.{blank, note_words, word_index}
use Rattle.line_tracks.specs.Laws.Words.{blank-sum}
use Rattle.line_tracks.specs.TrackValue.{TrackValue, IsTrackOf, note_from, note_kept, started}
use Rattle.line_tracks.specs.TrackValue.{traced, waiting}
use Rattle.line_tracks.specs.Laws.WordLines.{layout-sized, held-inside, outside-held, place-held}
use Rattle.sharing_rules.specs.Laws.Lists.{slice_cases, slice_get-map-below}
use Rattle.line_tracks.specs.KeptIn.{kept_in}
use Rattle.sharing_rules.specs.Opened.{Opened}

-- words that no one touched have no access
pub untouched-none : (r : Range) (words : List Word) → words ≡ (blank r).words
    → sum_by accesses words ≡ 0
untouched-none r words e = ap (λ (ws : List Word). sum_by accesses ws) e
    ∙ sym (blank-sum (r.size / 4))

-- a track with these parts
abbrev with_parts : LineKind → Range → Traced → TrackValue
with_parts kind r x = record {
  kind = kind;
  range = r;
  start = x.start;
  entries = x.entries;
  count =
      x.count;
  words = x.words;
}

words-noted : (r : Range) (words : List Word) (a : Touch) (w : Word)
    → slice_get words (word_index r a.addr) ≡ Some w
    → (note_words (record { range = r; words = words }) a).words ≡ slice_set words
    (word_index r a.addr) (note_word w a)
words-noted r words a w e = rw e

-- a note of the track of a list gives that of the list with the access
traced-push : (l : Line) (from : ℕ) (t : List Touch) (a : Touch) (kind : LineKind) → from ≤ length t
    → is_inside l a.addr ≡ true → word_place l a.addr < l.size / 4
    → word_index (range_of l) a.addr ≡ word_place l a.addr
    → traced (note_kept (with_parts kind (range_of l) (track_of l from t)) (length t) a)
    ≡ track_of l from (t ++ a ∷ [])
traced-push l from t a kind due inside within place =
    elim (slice_cases (first_write_from from (is_inside l) t)) [
      | inl none ↦
          let get : slice_get (blank_words l) (word_index (range_of l) a.addr) ≡ Some (tally []) =
          rw place (slice_get-map-below (λ i. tally []) (l.size / 4) (word_place l a.addr)
          within) in
          let x = with_parts kind (range_of l) (track_since l t None) in
          ap (λ (y : Traced). traced (note_kept (with_parts kind (range_of l) y) (length t) a))
          (ap (track_since l t) none)
          ∙ elim (cases_Bool (is_write a.kind)) [
            | inl w ↦
                ap (λ b. traced (if b then started x (length t) a else x)) w
                ∙ ap (λ (ws : List Word). record {
                  start = Some (length t);
                  entries = a.hart ∷ [];
                  count = 0;
                  words = ws;
                })
                (words-noted (range_of l) (blank_words l) a (tally []) get
                ∙ ap (λ i. slice_set (blank_words l) i (note_word (tally []) a)) place)
                ∙ sym (track_of-begins l from t a none due inside w within)
            | inr w ↦
                let quiet : (leb from (length t) && writes_to (is_inside l) a) ≡ false =
                rw w (and_right (leb from (length t)) false refl) in
                ap (λ b. traced (if b then started x (length t) a else x)) w
                ∙ sym (ap (track_since l t) none) ∙ sym (track_of-waits l from t a none quiet)
          ]
      | inr some ↦
          let s = some.0 in
          let old = get_or (words_since l s t) (word_place l a.addr) (tally []) in
          let get : slice_get (words_since l s t) (word_index (range_of l) a.addr) ≡ Some old =
          rw place (slice_get-get_or (words_since l s t) (word_place l a.addr) (tally [])
          (omega (arith, length-words_since l s t))) in
          let x : Traced = track_since l t (Some s) in
          ap (λ (y : Traced). traced (note_kept (with_parts kind (range_of l) y) (length t) a))
          (ap (track_since l t) some.1)
          ∙ ap (λ (ws : List Word). record {
            start = Some s;
            entries = (note_track l x a).entries;
            count = (note_track l x a).count;
            words = ws;
          })
          (words-noted (range_of l) (words_since l s t) a old get
          ∙ ap (λ i. slice_set (words_since l s t) i (note_word old a)) place)
          ∙ ap (λ (y : Traced). note_track l y a) (sym (ap (track_since l t) some.1))
          ∙ sym (track_of-goes_on l from s t a some.1 inside within)
    ]

pub note-kind : (o : Option ℕ) (x : TrackValue) (p : ℕ) (a : Touch) → (note_from o x p a).kind ≡ x.kind
note-kind None x p a = elim (cases_Bool (is_write a.kind)) [ inl w ↦ rw w | inr w ↦ rw w ]
note-kind (Some s) x p a = refl

pub note-range : (o : Option ℕ) (x : TrackValue) (p : ℕ) (a : Touch) → (note_from o x p a).range ≡ x.range
note-range None x p a = elim (cases_Bool (is_write a.kind)) [ inl w ↦ rw w | inr w ↦ rw w ]
note-range (Some s) x p a = refl

pub kept-push : (l : Line) (from : ℕ) (t : List Touch) (a : Touch) (x : TrackValue) (p : ℕ)
    → is_layout l.size l.offset ≡ true → length t ≡ p → from ≤ p
    → holds_address x.range a.addr ≡ true
    → IsTrackOf l from t x → IsTrackOf l from (t ++ a ∷ []) (note_kept x p a)
kept-push l from t a x p allowed at due holds old =
    let sized = layout-sized l.size l.offset allowed in
    let small : l.offset < l.size = sized.0 in
    let here : holds_address (range_of l) a.addr ≡ true = ap (λ (r : Range). holds_address r a.addr)
    (sym old.range) ∙ holds in
    record {
      range = note-range x.start x p a ∙ old.range;
      traced_is =
          ap (λ k. traced (note_kept x k a)) (sym at)
          ∙ ap (λ (r : Range). traced (note_kept (with_parts x.kind r (traced x)) (length t) a))
          old.range
          ∙ ap (λ (y : Traced). traced (note_kept (with_parts x.kind (range_of l) y) (length t) a))
          old.traced_is
          ∙ traced-push l from t a x.kind (omega arith) (held-inside l a.addr small here)
          (word_place-within l a.addr (omega arith) sized.1) (place-held l a.addr small here);
    }

-- an access elsewhere leaves it the track of the list
pub kept-elsewhere : (l : Line) (from : ℕ) (t : List Touch) (a : Touch) (x : TrackValue)
    → is_layout l.size l.offset ≡ true → holds_address x.range a.addr ≡ false
    → IsTrackOf l from t x → IsTrackOf l from (t ++ a ∷ []) x
kept-elsewhere l from t a x allowed misses old =
    let small : l.offset < l.size = (layout-sized l.size l.offset allowed).0 in
    let there : holds_address (range_of l) a.addr ≡ false =
    ap (λ (r : Range). holds_address r a.addr) (sym old.range) ∙ misses in
    record {
      range = old.range;
      traced_is = old.traced_is
          ∙ sym (track_of-stays l from t a (outside-held l a.addr small there));
    }

no_write_yet : (from : ℕ) (inside : ℕ → Bool) (t : List Touch) → length t ≤ from
    → first_write_from from inside t ≡ None
no_write_yet from inside t short =
    first_place-never (λ before a. leb from (length before) && writes_to inside a) t (λ i below.
    elim (slice_cases (slice_get t i)) [
      | inl none ↦ rw none
      | inr some ↦
          let early : leb from (length (take i t)) ≡ false = lt-leb from (length (take i t))
          (omega (arith, length-take-le i t (omega arith))) in
          rw (some.1, early)
    ])

-- a new track is that of each list that ends before it may start
pub kept-new : (l : Line) (from : ℕ) (t : List Touch) (kind : LineKind) (r : Range) → r ≡ range_of l
    → length t ≤ from → IsTrackOf l from t (waiting kind r)
kept-new l from t kind r same short = record {
  range = same;
  traced_is =
      ap (λ (q : Range). traced (waiting kind q)) same
      ∙ sym (ap (track_since l t) (no_write_yet from (is_inside l) t short));
}

-- what a list keeps of a line is its track
pub kept_in-IsTrackOf : (t : AccessList) (o : Opened) → IsTrackOf o.line o.from t (kept_in t o)
kept_in-IsTrackOf t o = record { range = refl; traced_is = refl }
