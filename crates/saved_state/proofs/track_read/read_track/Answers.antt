use Rattle.std.proofs.Common.{◌≡◌, ℕ, ◌/◌, true, List, sym, ap, ◌∙◌, subst, arith, inl, inr}
use Rattle.std.proofs.lemmas.Bool.{cases_Bool}
use Rattle.std.specs.Prelude.{IsTrue, None, Some, if◌then◌else◌, option_and_then, option_map}
use Rattle.line_tracks.specs.TrackValue.{IsBlank, IsInTime, saved}
use Rattle.line_tracks.specs.RangeWords.{RangeWords}
use Rattle.saved_state.specs.Parts.{are_words, head_meant, header_meant, most_of}
use Rattle.saved_state.specs.Units.{size_of, words_at}
use Rattle.saved_state.proofs.Alone.{alone-short, alone-then, blank-from, head-is, in_time-from}
use Rattle.saved_state.proofs.Alone.{there-is, there-is_none, with_words}
use Rattle.saved_state.proofs.Alone.{words-are}
use Rattle.saved_state.proofs.Words.{length-words_at}
use Rattle.saved_state.proofs.track_read.read_track.Goals as goal

pub returns-then-bytes-lt32-clause-value : goal.returns-then-bytes-lt32-clause-value
returns-then-bytes-lt32-clause-value c = sym (alone-short
    (header_meant c.args.header.now) c.args.bytes.now (omega arith))

pub returns-in_default-clause-value : goal.returns-in_default-clause-value
returns-in_default-clause-value c =
    let h = header_meant c.args.header.now in
    let bytes = c.args.bytes.now in
    sym (alone-then h bytes ∙ ap (option_and_then (with_words h bytes))
    (sym c.in_default.ensures.value))

pub returns-then-bytes-head-clause-value : goal.returns-then-bytes-head-clause-value
returns-then-bytes-head-clause-value c =
    let h = header_meant c.args.header.now in
    let bytes = c.args.bytes.now in
    let kind = (head-is h bytes (head_meant c.in-Some.head) (sym c.in-Some.ensures.value)).1 in
    let size = c.in-Some.ensures.sized.size ∙ ap (size_of h.grid) kind in
    sym (alone-short h bytes (omega (arith, size, c.in-Some.ensures.sized.words)))

pub returns-in-Ok-None-clause-value : goal.returns-in-Ok-None-clause-value
returns-in-Ok-None-clause-value c =
    let h = header_meant c.args.header.now in
    let bytes = c.args.bytes.now in
    let x = head_meant c.in-Some.head in
    let head = c.in-Some.head in
    let is : c.in-Ok-None.field-0 ≡ None = cc in
    let stated = there-is_none c.in-Ok-None.field-0
    (IsTrue (are_words h.harts c.most_of-most.result (head.range.size / 4) bytes))
    (record { range = head.range; words = words_at (head.range.size / 4) bytes }) is
    c.in-Ok-None.ensures in
    let most = c.most_of-most.ensures.value in
    let size = c.in-Some.ensures.sized.size in
    let words = words_at (size_of h.grid x.kind / 4) bytes in
    elim (cases_Bool (are_words h.harts (most_of h.position x.start)
    (size_of h.grid x.kind / 4) bytes)) [
      | inl passes ↦ absurd (stated ((λ i. are_words h.harts (most i) (size i / 4) bytes) ∙ passes))
      | inr fails ↦
          sym (alone-then h bytes ∙ ap (option_and_then (with_words h bytes))
          (sym c.in-Some.ensures.value)
          ∙ ap (λ b. if b then Some (record x { words = words }) else None) fails)
    ]

pub returns-in-Ok-Some-clause-value : goal.returns-in-Ok-Some-clause-value
returns-in-Ok-Some-clause-value c =
    let h = header_meant c.args.header.now in
    let bytes = c.args.bytes.now in
    let head = c.in-Some.head in
    let x = head_meant head in
    let most_read = c.most_of-most.result in
    let is : c.in-Ok-Some.field-0 ≡ Some c.in-Ok-Some.shadow = cc in
    let stated = there-is c.in-Ok-Some.field-0 (IsTrue
    (are_words h.harts most_read (head.range.size / 4) bytes))
    (record { range = head.range; words = words_at (head.range.size / 4) bytes })
    c.in-Ok-Some.shadow is c.in-Ok-Some.ensures in
    let most = c.most_of-most.ensures.value in
    let size = c.in-Some.ensures.sized.size in
    let words = words_at (size_of h.grid x.kind / 4) bytes in
    let passes : are_words h.harts (most_of h.position x.start) (size_of h.grid x.kind / 4) bytes
    ≡ true =
    sym (λ i. are_words h.harts (most i) (size i / 4) bytes) ∙ stated.0 in
    let same : record x { words = words } ≡ saved head.kind c.in-Ok-Some.shadow head.start
    head.count =
    ap (λ (n : ℕ). saved head.kind (record { range = head.range; words = words_at (n / 4) bytes })
    head.start head.count) (sym size)
    ∙ ap (λ (v : RangeWords). saved head.kind v head.start head.count) (sym stated.1) in
    sym (alone-then h bytes ∙ ap (option_and_then (with_words h bytes))
    (sym c.in-Some.ensures.value)
    ∙ ap (λ b. if b then Some (record x { words = words }) else None) passes ∙ ap Some same)

pub returns-in-Ok-Some-clause-in_time : goal.returns-in-Ok-Some-clause-in_time
returns-in-Ok-Some-clause-in_time c =
    let h = header_meant c.args.header.now in
    let bytes = c.args.bytes.now in
    let head = c.in-Some.head in
    let x = head_meant head in
    let most_read = c.most_of-most.result in
    let is : c.in-Ok-Some.field-0 ≡ Some c.in-Ok-Some.shadow = cc in
    let stated = there-is c.in-Ok-Some.field-0 (IsTrue
    (are_words h.harts most_read (head.range.size / 4) bytes))
    (record { range = head.range; words = words_at (head.range.size / 4) bytes })
    c.in-Ok-Some.shadow is c.in-Ok-Some.ensures in
    let since = (head-is h bytes x (sym c.in-Some.ensures.value)).0 in
    let words = words-are h.harts c.most_of-most.result (head.range.size / 4) bytes stated.0 in
    subst (λ (v : RangeWords). IsInTime (saved head.kind v head.start head.count) h.position)
    (sym stated.1)
    (in_time-from h x (words_at (head.range.size / 4) bytes) x.start since
    (omega (arith, words.1, c.most_of-most.ensures.value)))

pub returns-in-Ok-Some-clause-blank : goal.returns-in-Ok-Some-clause-blank
returns-in-Ok-Some-clause-blank c = λ none.
    let h = header_meant c.args.header.now in
    let bytes = c.args.bytes.now in
    let head = c.in-Some.head in
    let x = head_meant head in
    let most_read = c.most_of-most.result in
    let is : c.in-Ok-Some.field-0 ≡ Some c.in-Ok-Some.shadow = cc in
    let stated = there-is c.in-Ok-Some.field-0 (IsTrue
    (are_words h.harts most_read (head.range.size / 4) bytes))
    (record { range = head.range; words = words_at (head.range.size / 4) bytes })
    c.in-Ok-Some.shadow is c.in-Ok-Some.ensures in
    let since = (head-is h bytes x (sym c.in-Some.ensures.value)).0 in
    let words = words-are h.harts c.most_of-most.result (head.range.size / 4) bytes stated.0 in
    subst (λ (v : RangeWords). IsBlank (saved head.kind v head.start head.count)) (sym stated.1)
    (blank-from h x (words_at (head.range.size / 4) bytes) x.start since
    (ap (λ o. option_map (λ (s : ℕ × List ℕ). s.0) o) none) words.0
    (omega (arith, words.1, c.most_of-most.ensures.value))
    (length-words_at (head.range.size / 4) bytes))
