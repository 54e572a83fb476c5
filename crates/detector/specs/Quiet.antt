-- What false sharing says of a track.
use Rattle.std.specs.Prelude.{◌≡◌, ℕ, drop, IsTrue, IsFalse, Some}
use Rattle.std.specs.List.{All}
use Rattle.base.specs.Ranges.{holds_address}
use Rattle.line_tracks.specs.Quiet.{word_line}
use Rattle.sharing_rules.specs.AccessLists.{AccessList}
use Rattle.sharing_rules.specs.Holders.{is_invalidation}
use Rattle.sharing_rules.specs.Places.{passes_at}
use Rattle.sharing_rules.specs.Verdicts.{verdict_of}
use Rattle.sharing_rules.specs.declared.line_kind.Verdict.TheVariants.{FalseSharing}
use Rattle.line_tracks.specs.TrackValue.{TrackValue}
use Rattle.detector.specs.Watch.{Watch}

-- From empty caches under lines of 4 bytes, no access of the list takes a word of a track's range
-- from another hart.
abbrev pub TakesNoWord : TrackValue → AccessList → Type 0
TakesNoWord x t =
    (addr : ℕ) → IsTrue (holds_address x.range addr)
    → (i : ℕ) → IsFalse (passes_at (is_invalidation word_line (word_line addr)) t i)

-- Where the words of a track have the verdict false, the accesses from its start on, as a list of
-- their own, take none of its words from another hart.
abbrev pub IsQuietWhereFalse : AccessList → TrackValue → Type 0
IsQuietWhereFalse t x =
    (s : ℕ) → x.start ≡ Some s → verdict_of x.words ≡ FalseSharing → TakesNoWord x (drop s t)

abbrev pub AreQuietWhereFalse : AccessList → Watch → Type 0
AreQuietWhereFalse t w = All (IsQuietWhereFalse t) w.tracks
