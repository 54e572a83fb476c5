-- How many tracks a detector has of each kind, and how much they keep together.
use Rattle.std.specs.Prelude.{◌≡◌, ℕ, ◌*◌, ◌/◌, ◌<◌, ◌≤◌, Bool, ◌==◌, List, length, None}
use Rattle.std.specs.List.{count_by, sum_by}
use Rattle.base.specs.Ranges.{holds_address}
use Rattle.sharing_rules.specs.Listed.{rank}
use Rattle.sharing_rules.specs.declared.line_kind.LineKind.{LineKind}
use Rattle.sharing_rules.specs.declared.line_kind.LineKind.TheVariants as kind
use Rattle.line_tracks.specs.TrackValue.{TrackValue}
use Rattle.detector.specs.Watch.{Watch}

abbrev pub is_of : LineKind → TrackValue → Bool
is_of kind x = rank x.kind == rank kind

-- how many tracks there are of a kind
abbrev pub kind_count : LineKind → List TrackValue → ℕ
kind_count kind tracks = count_by (is_of kind) tracks

abbrev pub observed_count : Watch → ℕ
observed_count w = kind_count kind.Observed w.tracks

abbrev pub shifted_count : Watch → ℕ
shifted_count w = kind_count kind.Shifted w.tracks

abbrev pub doubled_count : Watch → ℕ
doubled_count w = kind_count kind.Doubled w.tracks

-- how many entries all tracks have, and how many words
abbrev pub entry_count : Watch → ℕ
entry_count w = sum_by (λ x. length x.entries) w.tracks

abbrev pub word_count : Watch → ℕ
word_count w = sum_by (λ x. length x.words) w.tracks

-- how many words a line of the layout has
abbrev pub line_words : Watch → ℕ
line_words w = w.grid.size / 4

-- where there are observed tracks, fewer are shifted
abbrev pub HasFewerShifted : Watch → Type 0
HasFewerShifted w = 0 < observed_count w → shifted_count w < observed_count w

-- at most half as many are doubled as observed
abbrev pub HasHalfDoubled : Watch → Type 0
HasHalfDoubled w = 2 * doubled_count w ≤ observed_count w

-- five entries for each observed track, and the words of three lines
abbrev pub HasFewEntries : Watch → Type 0
HasFewEntries w = entry_count w ≤ 5 * observed_count w

abbrev pub HasFewWords : Watch → Type 0
HasFewWords w = word_count w ≤ 3 * (observed_count w * line_words w)

-- without prediction each track is observed, and has two entries and the words of a line
pub record IsUnpredicted (w : Watch) : Type 0 where
  pub all : length w.tracks ≡ observed_count w
  pub entries : entry_count w ≤ 2 * observed_count w
  pub words : word_count w ≡ observed_count w * line_words w

abbrev pub IsSmallUnpredicted : Watch → Type 0
IsSmallUnpredicted w = w.levels.prediction ≡ None → IsUnpredicted w

-- at most four ranges hold an address
abbrev pub HasFewAtEach : Watch → Type 0
HasFewAtEach w = (a : ℕ) → count_by (λ x. holds_address x.range a) w.tracks ≤ 4
