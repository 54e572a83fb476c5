-- Two neighbouring lines by the places of their tracks, and the entries around a line.
use Rattle.std.specs.Prelude.{◌≡◌, ℕ, ◌+◌, ◌-◌, ◌*◌, ◌/◌, ◌<◌, ◌≤◌, ◌^◌, if◌then◌else◌, IsTrue}
use Rattle.std.specs.Prelude.{List, length, Option, None, Some, is_some, option_map}
use Rattle.std.specs.Prelude.{option_and_then, slice_get}
use Rattle.base.specs.Lines.{Grid}
use Rattle.base.specs.declared.layout.Range.{Range}
use Rattle.detector.specs.declared.line_entry.LineEntry.{LineEntry}
use Rattle.sharing_rules.specs.Lines.{native_line, range_of, native_grid}
use Rattle.sharing_rules.specs.Opened.{even_lower}
use Rattle.sharing_rules.specs.Predicted.{doubled_line, is_native_size, shifted_around}
use Rattle.sharing_rules.specs.Predicted.{word_address}
use Rattle.sharing_rules.specs.declared.line_kind.LineKind.TheVariants.{Observed, Shifted, Doubled}
use Rattle.line_tracks.specs.TrackValue.{TrackValue}
use Rattle.line_tracks.specs.declared.pair.Pair.{Pair}
use Rattle.detector.specs.declared.openings.Around.{Around}
use Rattle.detector.specs.declared.openings.Openings.{Openings}
use Rattle.detector.specs.Index.{IsShaped}
use Rattle.detector.specs.Named.{track_named}
use Rattle.detector.specs.Openings.{best_of_two}

-- the track at a place, if one is named
abbrev pub kept_at : List TrackValue → Option ℕ → Option TrackValue
kept_at tracks place = option_and_then (slice_get tracks) place

-- a native line that lies below 2^32
pub record IsNativeLine (n k : ℕ) : Type 0 where
  pub ends : k * n ≤ 2 ^ 32
  pub some : 1 ≤ k
  pub small : k + 1 ≤ 2 ^ 30

-- the track at a place, if one is named, is that of line k of n bytes
pub record IsOwnPlace (n k : ℕ) (tracks : List TrackValue) (place : Option ℕ) : Type 0 where
  pub within : (i : ℕ) → place ≡ Some i → i < length tracks
  pub range : (x : TrackValue) → kept_at tracks place ≡ Some x → x.range ≡ range_of (native_line n k)
  pub reached : (x : TrackValue) → kept_at tracks place ≡ Some x → IsNativeLine n k

-- the places of the tracks of lines k and k+1 of n bytes
pub record ArePair (n k : ℕ) (tracks : List TrackValue) (lower upper : Option ℕ) : Type 0 where
  pub native : IsTrue (is_native_size n)
  pub below : IsOwnPlace n k tracks lower
  pub above : IsOwnPlace n (k + 1) tracks upper

-- what opens for such a pair
abbrev pub shifted_between : ℕ → ℕ → List TrackValue → LineEntry → LineEntry → Option Range
shifted_between n k tracks lower upper =
    if is_some lower.shifted then None
    else option_map (λ p. range_of (shifted_around n k p))
    (best_of_two (kept_at tracks lower.track) (kept_at tracks upper.track) n)

abbrev pub doubled_between : ℕ → ℕ → List TrackValue → LineEntry → LineEntry → Option Range
doubled_between n k tracks lower upper =
    if is_some lower.doubled then None
    else option_map (λ p. range_of (doubled_line n k))
    (best_of_two (kept_at tracks lower.track) (kept_at tracks upper.track) (2 * n))

-- the entries of lines k and k+1 name the tracks
pub record AreNamedPair (g : Grid) (k : ℕ) (tracks : List TrackValue) (lower upper : LineEntry)
    : Type 0 where
  pub own : ArePair g.size k tracks lower.track upper.track
  pub lower_own : track_named g Observed k tracks ≡ kept_at tracks lower.track
  pub upper_own : track_named g Observed (k + 1) tracks ≡ kept_at tracks upper.track
  pub shifted : is_some (track_named g Shifted k tracks) ≡ is_some lower.shifted
  pub doubled : is_some (track_named g Doubled k tracks) ≡ is_some lower.doubled

-- the entries of line k and of its neighbours do
pub record AreAround (g : Grid) (k : ℕ) (tracks : List TrackValue) (e : Around) : Type 0 where
  pub some : 1 ≤ k
  pub lower : AreNamedPair g (k - 1) tracks e.below e.here
  pub upper : AreNamedPair g k tracks e.here e.above

-- the best hot pair of two such lines, by the addresses of its words
pub record IsPairOf (n k : ℕ) (tracks : List TrackValue) (lower upper : Option ℕ) (within : ℕ)
    (pair : Pair) : Type 0 where
  pub places : ℕ × ℕ
  pub best : best_of_two (kept_at tracks lower) (kept_at tracks upper) within ≡ Some places
  pub lower_at : pair.x ≡ word_address n k places.0
  pub upper_at : pair.y ≡ word_address n (k + 1) places.1
  pub lower_in : 4 * places.0 < n
  pub upper_in : 4 * places.1 < n
  pub near : 4 * (n / 4 + places.1) + 4 ≤ within + 4 * places.0
  pub some : 1 ≤ k

-- where each of the ranges lies that open for line k
pub record AreShaped (n k : ℕ) (o : Openings) : Type 0 where
  pub below : (r : Range) → o.below ≡ Some r → IsShaped (native_grid n) (k - 1) Shifted r
  pub here : (r : Range) → o.here ≡ Some r → IsShaped (native_grid n) k Shifted r
  pub doubled : (r : Range) → o.doubled ≡ Some r → IsShaped (native_grid n) (even_lower k) Doubled r

-- a layout of native lines
pub record IsNativeGrid (g : Grid) : Type 0 where
  pub size : IsTrue (is_native_size g.size)
  pub offset : g.offset ≡ 0
