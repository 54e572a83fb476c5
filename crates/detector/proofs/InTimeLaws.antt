-- A noted track is in time, of the same kind and range, and blank where it has no start.
use Rattle.std.proofs.Common.{◌≡◌, ℕ, zero, suc, ◌+◌, ◌/◌, [], ◌∷◌, map, ◌≤◌, ◌&&◌, Option, Some}
use Rattle.std.proofs.Common.{None, get_or, refl, sym, ap, ◌∙◌, subst, arith, inl, inr, Bool, true}
use Rattle.std.proofs.Common.{false}
use Rattle.std.proofs.lemmas.Bool.{cases_Bool}
use Rattle.std.proofs.lemmas.Option.{none-some, slice_get_within, get_or_from_slice_get}
use Rattle.std.proofs.lemmas.List.{map-append}
use Rattle.std.proofs.lemmas.List.Sums.{sum_by-set, sum_by-append}
use Rattle.std.specs.Prelude.{if◌then◌else◌, sum_by, slice_get, slice_set, IfSome}
use Rattle.base.specs.Ranges.{holds_address}
use Rattle.base.specs.Touch.{Touch, is_write}
use Rattle.sharing_rules.specs.Places.{below}
use Rattle.sharing_rules.specs.Words.{accesses, note_word, tally}
use Rattle.sharing_rules.specs.declared.word.Word.{Word}
use Rattle.line_tracks.specs.Entries.{has_another}
use Rattle.line_tracks.specs.RangeWords.{RangeWords, blank, note_words, word_index}
use Rattle.line_tracks.specs.TrackValue.{IsBlank, IsInTime, IsSince, TrackValue, note_from}
use Rattle.line_tracks.specs.TrackValue.{note_kept, started}
use Rattle.line_tracks.specs.TrackValue.{words_of}
use Rattle.detector.specs.Watch.{touched}
use Rattle.sharing_rules.specs.Laws.Lists.{slice_cases}
use Rattle.line_tracks.specs.Laws.TrackValue.{note-kind, note-range}

word_more : (w : Word) (a : Touch) → accesses (note_word w a) ≡ accesses w + 1
word_more w a = elim (cases_Bool (is_write a.kind)) [
  | inl e ↦ rw e (omega arith)
  | inr e ↦
      rw e (omega arith)
]

words_more : (v : RangeWords) (a : Touch) → sum_by accesses (note_words v a).words
    ≤ sum_by accesses v.words + 1
words_more v a =
    elim (slice_cases (slice_get v.words (word_index v.range a.addr))) [
      | inl none ↦ rw none (omega arith)
      | inr some ↦
          let set : sum_by accesses (slice_set v.words (word_index v.range a.addr)
          (note_word some.0 a)) + accesses
          (get_or v.words (word_index v.range a.addr) some.0)
          ≡ sum_by accesses v.words + accesses (note_word some.0 a) =
          sum_by-set accesses v.words (word_index v.range a.addr) (note_word some.0 a) some.0
          (slice_get_within v.words (word_index v.range a.addr) some.0 some.1) in
          let was : accesses (get_or v.words (word_index v.range a.addr) some.0) ≡ accesses some.0 =
          ap accesses (get_or_from_slice_get v.words (word_index v.range a.addr) some.0 some.0 some.1)
          in
          let more : accesses (note_word some.0 a) ≡ accesses some.0 + 1 = word_more some.0 a in
          rw some.1 (omega (arith, set, was, more))
    ]

none_below : (n : ℕ) → sum_by accesses (map (λ i. tally []) (below n)) ≡ 0
none_below zero = refl
none_below (suc n) =
    let ih = none_below n in
    ap (sum_by accesses) (map-append (λ i. tally []) (below n) (n ∷ []))
    ∙ sum_by-append accesses (map (λ i. tally []) (below n))
    (tally [] ∷ []) ∙ ap (λ m. m + 0) ih

blank-none : (x : TrackValue) → sum_by accesses (blank x.range).words ≡ 0
blank-none x = none_below (x.range.size / 4)

in_time_from : (o : Option ℕ) (x : TrackValue) (p : ℕ) (a : Touch) → x.start ≡ o → IfSome o (IsSince x p)
    → (x.start ≡ None → IsBlank x)
    → IsInTime (note_from o x p a) (p + 1)
in_time_from None x p a is h quiet =
    elim (cases_Bool (is_write a.kind)) [
      | inl w ↦
          let none : sum_by accesses x.words ≡ 0 = ap (sum_by accesses) (quiet is).words
          ∙ blank-none x in
          let more = words_more (words_of x) a in
          let since : IsSince (started x p a) (p + 1) p =
          record { later = omega arith; accessed = omega arith; counted = omega arith } in
          subst (λ b. IsInTime (if b then started x p a else x) (p + 1)) (sym w) since
      | inr w ↦ rw (w, is) tt
    ]
in_time_from (Some s) x p a is h quiet =
    let more = words_more (words_of x) a in
    let count : (if is_write a.kind && has_another x.entries a.hart then x.count + 1 else x.count)
    ≤ x.count + 1 =
    elim (cases_Bool (is_write a.kind && has_another x.entries a.hart)) [
      | inl e ↦
          rw e (omega arith)
      | inr e ↦ rw e (omega arith)
    ] in
    let later = h.later in
    let accessed = h.accessed in
    let counted = h.counted in
    let since : IsSince (note_from (Some s) x p a) (p + 1) s =
    record { later = omega arith; accessed = omega arith; counted = omega arith }
    in
    subst (λ o. IfSome o (IsSince (note_from (Some s) x p a) (p + 1))) (sym is) since

pub noted-in_time : (x : TrackValue) (p : ℕ) (a : Touch) → IsInTime x p → (x.start ≡ None → IsBlank x)
    → IsInTime (note_kept x p a) (p + 1)
noted-in_time x p a h quiet = in_time_from x.start x p a refl h quiet

later_from : (o : Option ℕ) (x : TrackValue) (p : ℕ) → IfSome o (IsSince x p)
    → IfSome o (IsSince x (p + 1))
later_from None x p h = tt
later_from (Some s) x p h =
    let later = h.later in
    let accessed = h.accessed in
    let counted = h.counted in
    record { later = omega arith; accessed = omega arith; counted = omega arith }

pub later-in_time : (x : TrackValue) (p : ℕ) → IsInTime x p → IsInTime x (p + 1)
later-in_time x p h = later_from x.start x p h

-- one of two tracks
either : (P : TrackValue → Type 0) (b : Bool) (x y : TrackValue) → P x → P y → P (if b then x else y)
either P true x y h k = h
either P false x y h k = k

pub touched-in_time : (x : TrackValue) (p : ℕ) (a : Touch) → IsInTime x p → (x.start ≡ None → IsBlank x)
    → IsInTime (touched p a x) (p + 1)
touched-in_time x p a h quiet =
    either (λ z. IsInTime z (p + 1)) (holds_address x.range a.addr) (note_kept x p a) x
    (noted-in_time x p a h quiet) (later-in_time x p h)

blank_from : (o : Option ℕ) (x : TrackValue) (p : ℕ) (a : Touch) → x.start ≡ o
    → (x.start ≡ None → IsBlank x) → (note_from o x p a).start ≡ None
    → IsBlank (note_from o x p a)
blank_from None x p a is quiet none =
    elim (cases_Bool (is_write a.kind)) [
      | inl w ↦ absurd (none-some p (sym none ∙ ap (λ b. (if b then started x p a else x).start) w))
      | inr w ↦ rw w (quiet is)
    ]
blank_from (Some s) x p a is quiet none = absurd (none-some s (sym none ∙ is))

pub noted-blank : (x : TrackValue) (p : ℕ) (a : Touch) → (x.start ≡ None → IsBlank x)
    → (note_kept x p a).start ≡ None → IsBlank (note_kept x p a)
noted-blank x p a quiet none = blank_from x.start x p a refl quiet none

pub touched-blank : (x : TrackValue) (p : ℕ) (a : Touch) → (x.start ≡ None → IsBlank x)
    → (touched p a x).start ≡ None → IsBlank (touched p a x)
touched-blank x p a quiet =
    either (λ z. z.start ≡ None → IsBlank z) (holds_address x.range a.addr) (note_kept x p a) x
    (noted-blank x p a quiet) quiet

pub noted-kind : (x : TrackValue) (p : ℕ) (a : Touch) → (note_kept x p a).kind ≡ x.kind
noted-kind x p a = note-kind x.start x p a

pub noted-range : (x : TrackValue) (p : ℕ) (a : Touch) → (note_kept x p a).range ≡ x.range
noted-range x p a = note-range x.start x p a

pub touched-kind : (p : ℕ) (a : Touch) (x : TrackValue) → (touched p a x).kind ≡ x.kind
touched-kind p a x = either (λ z. z.kind ≡ x.kind) (holds_address x.range a.addr)
    (note_kept x p a) x (noted-kind x p a) refl

pub touched-range : (p : ℕ) (a : Touch) (x : TrackValue) → (touched p a x).range ≡ x.range
touched-range p a x = either (λ z. z.range ≡ x.range) (holds_address x.range a.addr)
    (note_kept x p a) x (noted-range x p a) refl
