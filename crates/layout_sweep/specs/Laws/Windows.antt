-- What one access more makes of a window of a list, and of what is counted in it.
use Rattle.std.proofs.Common.{◌≡◌, ℕ, ◌+◌, ◌/◌, ◌%◌, ◌<◌, Bool, true, false, leb, ltb, ◌&&◌}
use Rattle.std.proofs.Common.{◌||◌, List, [], ◌∷◌, ◌++◌, Option, Some, None, length, refl, sym, ap}
use Rattle.std.proofs.Common.{◌∙◌, arith, inl, inr}
use Rattle.std.proofs.Math.Bool.{or-false}
use Rattle.std.proofs.lemmas.Bool.{cases_Bool, and_right, le-leb}
use Rattle.std.proofs.lemmas.Bool.Decides.{nat_tests}
use Rattle.std.proofs.lemmas.List.Folds.{list_any-append}
use Rattle.std.proofs.lemmas.Option.{none-some}
use Rattle.std.specs.List.{list_any}
use Rattle.std.specs.Option.{option_or}
use Rattle.std.specs.Prelude.{if◌then◌else◌, is_some, option_map}
use Rattle.base.specs.Touch.{Touch, is_write}
use Rattle.sharing_rules.specs.AccessLists.{writes_to}
use Rattle.sharing_rules.specs.Lines.{Line, is_inside, word_place}
use Rattle.sharing_rules.specs.Observed.{first_write_from}
use Rattle.sharing_rules.specs.Tracks.{Traced, note_track, track_of, track_since}
use Rattle.sharing_rules.specs.Laws.Lists.{by_push, slice_cases}
use Rattle.sharing_rules.specs.Laws.Starts.{first_write_from-push}
use Rattle.sharing_rules.specs.Laws.Tracks.{track_of-begins, track_of-goes_on, track_of-stays}
use Rattle.sharing_rules.specs.Laws.Tracks.{track_of-waits, word_place-within}
use Rattle.sharing_rules.specs.declared.word.Word.{Word}
use Rattle.line_tracks.specs.Entries.{has_another}
use Rattle.sharing_rules.specs.Laws.Places.{first_place-empty}
use Rattle.layout_sweep.specs.Windows.{blank_window, takes, window_after, window_from}
use Rattle.layout_sweep.specs.Windows.{window_of}
use Rattle.layout_sweep.specs.declared.window.Window.{Window}

-- a track that started
abbrev going : ℕ → List ℕ → ℕ → List Word → Traced
going s es c ws = record { start = Some s; entries = es; count = c; words = ws }

-- a line of whole words
pub record IsSized (l : Line) : Type 0 where
  pub some : 0 < l.size
  pub whole : l.size % 4 ≡ 0

-- What one access makes of a window of a list and of the count of its line.
pub record IsNoted (l : Line) (t : List Touch) (a : Touch) : Type 0 where
  pub window : window_of l (t ++ a ∷ []) ≡ window_after (window_of l t) a
  pub count : (track_of l 0 (t ++ a ∷ [])).count ≡ (track_of l 0 t).count +
      (if takes (window_of l t) a then 1 else 0)

-- the same by what the track becomes
record BecomesNoted (x y : Traced) (a : Touch) : Type 0 where
  window : window_from y ≡ window_after (window_from x) a
  count : y.count ≡ x.count + (if takes (window_from x) a then 1 else 0)

from_tracks : (l : Line) (t : List Touch) (a : Touch) (x y : Traced) → track_of l 0 t ≡ x
    → track_of l 0 (t ++ a ∷ []) ≡ y → BecomesNoted x y a → IsNoted l t a
from_tracks l t a x y before after noted =
    record {
      window = ap window_from after ∙ noted.window
          ∙ sym (ap (λ (z : Traced). window_after (window_from z) a) before);
      count = ap (λ (z : Traced). z.count) after ∙ noted.count
          ∙ sym (ap (λ (z : Traced). z.count + (if takes (window_from z) a then 1 else 0))
          before);
    }

above : (c : ℕ) → ltb 0 (c + 1) ≡ true
above c = grind (arith, nat_tests)

goes_on : (l : Line) (s c : ℕ) (es : List ℕ) (ws : List Word) (a : Touch)
    → BecomesNoted (going s es c ws) (note_track l (going s es c ws) a) a
goes_on l s c es ws a =
    elim (cases_Bool (is_write a.kind && has_another es a.hart)) [
      | inl taken ↦ record { window = rw (taken, above c) refl; count = rw taken refl }
      | inr kept ↦ record { window = rw kept refl; count = rw kept (omega arith) }
    ]

pub window-noted : (l : Line) (t : List Touch) (a : Touch) → IsSized l → is_inside l a.addr ≡ true
    → IsNoted l t a
window-noted l t a sized inside =
    let within : word_place l a.addr < l.size / 4 = word_place-within l a.addr sized.some sized.whole
    in
    elim (slice_cases (first_write_from 0 (is_inside l) t)) [
      | inl none ↦ elim (cases_Bool (is_write a.kind)) [
        | inl writes ↦
            from_tracks l t a _ _ (ap (track_since l t) none)
            (track_of-begins l 0 t a none (omega arith) inside writes within)
            (record { window = rw writes refl; count = refl })
        | inr reads ↦
            let quiet : (leb 0 (length t) && writes_to (is_inside l) a) ≡ false =
            rw reads (and_right (leb 0 (length t)) false refl) in
            from_tracks l t a _ _ (ap (track_since l t) none)
            (track_of-waits l 0 t a none quiet ∙ ap (track_since l t) none)
            (record { window = rw reads refl; count = refl })
      ]
      | inr some ↦
          let x : Traced = track_since l t (Some some.0) in
          from_tracks l t a x (note_track l x a) (ap (track_since l t) some.1)
          (track_of-goes_on l 0 some.0 t a some.1 inside within
          ∙ ap (λ (z : Traced). note_track l z a) (ap (track_since l t) some.1))
          (goes_on l some.0 x.count x.entries x.words a)
    ]

-- an access elsewhere
pub window-stays : (l : Line) (t : List Touch) (a : Touch) → is_inside l a.addr ≡ false
    → window_of l (t ++ a ∷ []) ≡ window_of l t
window-stays l t a outside = ap window_from (track_of-stays l 0 t a outside)

-- a read never takes a window, whatever is kept of it
pub reads-take_nothing : (w : Window) (a : Touch) → is_write a.kind ≡ false → takes w a ≡ false
reads-take_nothing w a reads =
    elim (slice_cases w.history) [
      | inl none ↦ rw none refl
      | inr some ↦ rw (some.1, reads) refl
    ]

-- with no access a window is blank
pub window-blank : (l : Line) → window_of l [] ≡ blank_window
window-blank l =
    let none : first_write_from 0 (is_inside l) [] ≡ None =
    first_place-empty (λ before a. leb 0 (length before) && writes_to (is_inside l) a) in
    ap window_from (ap (track_since l []) none)

either : (o : Option ℕ) (b : Bool) (n : ℕ)
    → is_some (option_or o (if b then Some n else None)) ≡ (is_some o || b)
either None true n = refl
either None false n = refl
either (Some m) b n = refl

-- a line starts where it is written
started : (inside : ℕ → Bool) (t : List Touch)
    → is_some (first_write_from 0 inside t) ≡ list_any (writes_to inside) t
started inside t =
    by_push (λ (t : List Touch). is_some (first_write_from 0 inside t)
    ≡ list_any (writes_to inside) t)
    (rw (first_place-empty (λ before a. leb 0 (length before) && writes_to inside a)) refl)
    (λ t a ih. rw (
      first_write_from-push 0 inside t a,
      le-leb 0 (length t) (omega arith),
      either,
      ih,
      list_any-append (writes_to inside) t (a ∷ []),
      or-false,
    ))
    t

-- a blank window is a line that was never written
pub blank-unwritten : (l : Line) (t : List Touch) → window_of l t ≡ blank_window
    → list_any (writes_to (is_inside l)) t ≡ false
blank-unwritten l t blank =
    elim (slice_cases (first_write_from 0 (is_inside l) t)) [
      | inl none ↦ sym (started (is_inside l) t) ∙ ap is_some none
      | inr some ↦
          let x : Traced = track_since l t (Some some.0) in
          let history : (window_of l t).history ≡ Some x.entries =
          ap (λ (y : Traced). option_map (λ s. y.entries) y.start) (ap (track_since l t) some.1) in
          absurd (none-some x.entries (sym (ap (λ (w : Window). w.history) blank) ∙ history))
    ]
