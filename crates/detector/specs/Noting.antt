-- The places of the tracks that may hold an address of a line, and what noting them makes of the
-- tracks.
use Rattle.std.specs.Prelude.{◌≡◌, ℕ, ◌-◌, ◌%◌, ◌<◌, ◌==◌, if◌then◌else◌, List, length, Option}
use Rattle.std.specs.Prelude.{Some, None, slice_get, slice_set, IsTrue, Bool}
use Rattle.std.specs.Prelude.{◌&&◌, is_some}
use Rattle.std.specs.Option.{option_map_or}
use Rattle.base.specs.Ranges.{holds_address}
use Rattle.base.specs.Touch.{Touch}
use Rattle.detector.specs.declared.line_entry.LineEntry.{LineEntry}
use Rattle.line_tracks.specs.TrackValue.{CanRestore, IsInTime, TrackValue, mark_of, note_kept}
use Rattle.detector.specs.declared.track_places.TrackNumbers.{TrackNumbers}
use Rattle.detector.specs.declared.undo.Undo.{Undo}
use Rattle.detector.specs.declared.undo.Undos.{Undos}
use Rattle.base.specs.Lines.{Grid, line_number}
use Rattle.detector.specs.Index.{IsNamed, names_in}
use Rattle.detector.specs.Watch.{touched}

-- where the line's own track stands, the shifted ones of its pairs with the line above and with the
-- line below, and the doubled one of its even pair
abbrev pub places_between : ℕ → LineEntry → LineEntry → TrackNumbers
places_between k here below = record {
  own = here.track;
  shifted = here.shifted;
  below = below.shifted;
  doubled = if k % 2 == 1 then here.doubled else below.doubled;
}

abbrev pub places : (ℕ → LineEntry) → ℕ → TrackNumbers
places entry_of k = places_between k (entry_of k) (entry_of (k - 1))

-- whether the predicted lines of its pairs and of its even pair have all opened
abbrev pub have_opened : TrackNumbers → Bool
have_opened p = is_some p.shifted && is_some p.below && is_some p.doubled

-- the track at a place is noted if its range holds the address
abbrev pub touched_at : ℕ → Touch → Option ℕ → List TrackValue → List TrackValue
touched_at position a place xs =
    option_map_or (λ i. option_map_or (λ x. slice_set xs i (touched position a x))
    (slice_get xs i) xs) place xs

-- one after the other
abbrev pub touched_places : ℕ → Touch → TrackNumbers → List TrackValue → List TrackValue
touched_places position a p xs =
    touched_at position a p.doubled
    (touched_at position a p.below
    (touched_at position a p.shifted (touched_at position a p.own xs)))

-- each track is in time
abbrev pub AreInTime : List TrackValue → ℕ → Type 0
AreInTime xs position = (i : ℕ) (x : TrackValue) → slice_get xs i ≡ Some x → IsInTime x position

-- a track at a place that can be noted
pub record CanTouch (xs : List TrackValue) (position : ℕ) (place : Option ℕ) : Type 0 where
  pub within : (i : ℕ) → place ≡ Some i → i < length xs
  pub in_time : (i : ℕ) (x : TrackValue) → place ≡ Some i → slice_get xs i ≡ Some x → IsInTime x position

-- they can be noted one after the other, since no two are the same
pub record CanTouchAll (xs : List TrackValue) (position : ℕ) (a : Touch) (p : TrackNumbers) : Type 0 where
  pub own : CanTouch xs position p.own
  pub shifted : CanTouch (touched_at position a p.own xs) position p.shifted
  pub below : CanTouch (touched_at position a p.shifted (touched_at position a p.own xs)) position
      p.below
  pub doubled : CanTouch
      (touched_at position a p.below
      (touched_at position a p.shifted (touched_at position a p.own xs))) position p.doubled

-- the range of the track at a place holds an address
abbrev pub HoldsAt : List TrackValue → ℕ → Option ℕ → Type 0
HoldsAt xs addr place = (i : ℕ) (x : TrackValue) → place ≡ Some i → slice_get xs i ≡ Some x
    → IsTrue (holds_address x.range addr)

-- the line's own track and the doubled one hold the address, as they are when they are noted
pub record AreHeld (xs : List TrackValue) (position : ℕ) (a : Touch) (p : TrackNumbers) : Type 0 where
  pub own : HoldsAt xs a.addr p.own
  pub doubled : HoldsAt
      (touched_at position a p.below
      (touched_at position a p.shifted (touched_at position a p.own xs))) a.addr p.doubled

-- the tracks that an access of line k can be noted in, by the entries
pub record IsNotable (entry_of : ℕ → LineEntry) (g : Grid) (xs : List TrackValue) (k position : ℕ)
    (a : Touch) : Type 0 where
  pub names : IsNamed (names_in entry_of) g xs
  pub in_time : AreInTime xs position
  pub layout : g.offset < g.size
  pub line : k ≡ line_number g.size g.offset a.addr

-- What is remembered of a note takes the tracks ys back to xs: the track at a place was noted once,
-- and its mark is that of the track before.
pub record UndoesNote (u : Undo) (ys xs : List TrackValue) : Type 0 where
  pub track : TrackValue
  pub position : ℕ
  pub access : Touch
  pub noted : slice_get ys u.place ≡ Some (note_kept track position access)
  pub marked : u.mark ≡ mark_of track access.addr
  pub ready : CanRestore (note_kept track position access) u.mark
  pub back : slice_set ys u.place track ≡ xs

-- nothing is remembered where nothing was noted
abbrev pub Undoes : Option Undo → List TrackValue → List TrackValue → Type 0
Undoes None ys xs = ys ≡ xs
Undoes (Some u) ys xs = UndoesNote u ys xs

-- the same of four notes, the last of which is taken back first
pub record UndoesAll (u : Undos) (ys xs : List TrackValue) : Type 0 where
  pub one : List TrackValue
  pub two : List TrackValue
  pub three : List TrackValue
  pub own : Undoes u.own one xs
  pub shifted : Undoes u.shifted two one
  pub below : Undoes u.below three two
  pub doubled : Undoes u.doubled ys three
