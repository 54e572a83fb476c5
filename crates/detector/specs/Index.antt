-- What ties the tracks to the entries of the index.
use Rattle.std.specs.Prelude.{◌≡◌, ℕ, ◌+◌, ◌*◌, ◌%◌, ◌<◌, ◌≤◌, ◌^◌, pos, ◌-ℤ◌, List, length, Option}
use Rattle.std.specs.Prelude.{Some, None, slice_get}
use Rattle.base.specs.Lines.{Grid, line_number}
use Rattle.base.specs.declared.layout.Range.{Range}
use Rattle.detector.specs.declared.line_entry.LineEntry.{LineEntry}
use Rattle.sharing_rules.specs.Lines.{grid_line, range_of}
use Rattle.sharing_rules.specs.declared.line_kind.LineKind.{LineKind}
use Rattle.sharing_rules.specs.declared.line_kind.LineKind.TheVariants.{Observed, Shifted, Doubled}
use Rattle.line_tracks.specs.TrackValue.{IsBlank, IsInTime, TrackValue}
use Rattle.detector.specs.Named.{line_of_base}

-- the place that an entry names for a kind of track
abbrev pub place_in : LineEntry → LineKind → Option ℕ
place_in e Observed = e.track
place_in e Shifted = e.shifted
place_in e Doubled = e.doubled

-- the places that the entries of all lines name
abbrev pub Names : Type 0
Names = LineKind → ℕ → Option ℕ

abbrev pub names_in : (ℕ → LineEntry) → Names
names_in entry_of kind k = place_in (entry_of k) kind

-- a line that an address has
abbrev pub IsReached : Grid → ℕ → Type 0
IsReached g k = (a : ℕ) × (a < 2 ^ 32) × (line_number g.size g.offset a ≡ k)

-- A range that begins in line k is that of a track of a kind: the line's own; one of the same size,
-- from within the line on; or that of an even pair, of which k is the lower line.
abbrev pub IsShaped : Grid → ℕ → LineKind → Range → Type 0
IsShaped g k Observed r = (r ≡ range_of (grid_line g k)) × IsReached g k
IsShaped g k Shifted r =
    (1 ≤ k) × (r.size ≡ g.size)
    × ((d : ℕ) × (d < g.size) × (r.base ≡ (pos (k * g.size + g.offset + d) -ℤ pos g.size)))
IsShaped g k Doubled r =
    (k % 2 ≡ 1) × (r.size ≡ 2 * g.size) × (r.base ≡ (pos (k * g.size + g.offset) -ℤ pos g.size))

-- Each track is named once, by the entry of the line in which it begins and under its kind, and no
-- other place is named.
pub record IsNamed (names : Names) (g : Grid) (tracks : List TrackValue) : Type 0 where
  pub placed : (i : ℕ) (x : TrackValue) → slice_get tracks i ≡ Some x
      → names x.kind (line_of_base g x.range) ≡ Some i
  pub named : (kind : LineKind) (k i : ℕ) → names kind k ≡ Some i
      → (x : TrackValue) × (slice_get tracks i ≡ Some x) × (x.kind ≡ kind) × (line_of_base g x.range ≡ k)
  pub shaped : (i : ℕ) (x : TrackValue) → slice_get tracks i ≡ Some x
      → IsShaped g (line_of_base g x.range) x.kind x.range

-- The entries name the tracks. A line that has a track of its own was written at least T times; no
-- line was written more often than there were accesses, and each track is in time.
pub record IsIndexed (entry_of : ℕ → LineEntry) (g : Grid) (tracks : List TrackValue) (T position : ℕ) :
    Type 0 where
  pub names : IsNamed (names_in entry_of) g tracks
  pub late : (k i : ℕ) → (entry_of k).track ≡ Some i → T ≤ (entry_of k).writes
  pub written : (k : ℕ) → (entry_of k).writes ≤ position
  pub in_time : (i : ℕ) (x : TrackValue) → slice_get tracks i ≡ Some x → IsInTime x position
  pub blank : (i : ℕ) (x : TrackValue) → slice_get tracks i ≡ Some x → x.start ≡ None → IsBlank x
  pub few : length tracks ≤ 2 ^ 31
