-- What accesses change of a detector's value, also of one that no list has.
use Rattle.std.specs.Prelude.{ℕ, ◌+◌, Bool, not, ◌&&◌, List, [], ◌∷◌, IsTrue}
use Rattle.base.specs.Touch.{Touch}
use Rattle.line_tracks.specs.TrackValue.{TrackValue}
use Rattle.detector.specs.Named.{number_of}
use Rattle.detector.specs.Watch.{Watch, begins_track, searches_at, touched, watched}

-- after each access of a list
abbrev pub watched_all : Watch → List Touch → Watch
watched_all w [] = w
watched_all w (a ∷ t) = watched_all (watched w a) t

-- a track after each of them, the first of which has a position
abbrev pub touched_all : ℕ → List Touch → TrackValue → TrackValue
touched_all position [] x = x
touched_all position (a ∷ t) x = touched_all (position + 1) t (touched position a x)

-- no write that brings its line to the tracking threshold, or to a multiple of the prediction
-- threshold
abbrev pub adds_no_track : Watch → Touch → Bool
adds_no_track w a =
    not (begins_track w.levels.tracking w.writes (number_of w.grid a) a) && not (searches_at w a)

abbrev pub AddNoTracks : Watch → List Touch → Type 0
AddNoTracks w [] = Unit {0}
AddNoTracks w (a ∷ t) = IsTrue (adds_no_track w a) × AddNoTracks (watched w a) t
