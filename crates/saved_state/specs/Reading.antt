-- What any bytes say: the state that they begin with, or the place of the first unit at fault.
use Rattle.std.specs.Prelude.{◌≡◌, ℕ, zero, suc, ◌+◌, ◌<◌, ◌^◌, true, nat_le, List, [], ◌∷◌, ◌++◌}
use Rattle.std.specs.Prelude.{length, drop, Option, if◌then◌else◌, Result, Ok, Err}
use Rattle.std.specs.Option.{option_map_or}
use Rattle.base.specs.declared.faults.ResumeFault.{ResumeFault}
use Rattle.base.specs.declared.faults.ResumeFault.TheVariants.{BadState}
use Rattle.line_tracks.specs.TrackValue.{TrackValue}
use Rattle.saved_state.specs.declared.state_parts.CountedLine.{CountedLine}
use Rattle.saved_state.specs.Spelling.{Header, State, header_of, spell_line, spell_state}
use Rattle.saved_state.specs.Spelling.{spell_track}
use Rattle.saved_state.specs.Units.{IsSized, due, header_in, is_good_header, is_good_line}
use Rattle.saved_state.specs.Units.{is_good_track, is_placed, line_in, track_in}

-- units of one sort that were read, the place behind them, and the bytes from there on
pub record Units (X : Type 0) : Type 0 where
  pub read : List X
  pub place : ℕ
  pub left : List ℕ

-- So many units more, each judged beside those before it. The first at fault is reported by its
-- place.
abbrev pub read_units : {X : Type 0} → (List X → List ℕ → Option X) → (X → List ℕ) → ℕ → Units X
    → Result (Units X) ResumeFault
read_units unit spell zero u = Ok u
read_units unit spell (suc n) u =
    option_map_or (λ x. read_units unit spell n (record {
      read = u.read ++ x ∷ [];
      place = u.place + length (spell x);
      left = drop (length (spell x)) u.left;
    })) (unit u.read u.left) (Err (BadState u.place))

-- a state, and the place behind it
abbrev pub Found : Type 0
Found = State × ℕ

abbrev pub state_with : Header → List CountedLine → List TrackValue → State
state_with h lines tracks = record {
  grid = h.grid;
  tracking = h.tracking;
  prediction = h.prediction;
  harts = h.harts;
  position = h.position;
  lines = lines;
  tracks = tracks;
}

-- Where a due line has no track, the unit that stands in its place is at fault.
abbrev pub tracks_then : Header → List CountedLine → Result (Units TrackValue) ResumeFault
    → Result Found ResumeFault
tracks_then h lines (Err fault) = Err fault
tracks_then h lines (Ok u) =
    if nat_le (length (due h lines)) (length u.read) then Ok (state_with h lines u.read, u.place)
    else Err (BadState u.place)

abbrev pub lines_then : Header → Result (Units CountedLine) ResumeFault → Result Found ResumeFault
lines_then h (Err fault) = Err fault
lines_then h (Ok u) =
    tracks_then h u.read (read_units (track_in h u.read) spell_track h.tracks (record {
      read = [];
      place = u.place;
      left = u.left;
    }))

-- the header, then the lines, and then the tracks
abbrev pub read_state : List ℕ → Result Found ResumeFault
read_state bytes =
    option_map_or (λ h. lines_then h (read_units (line_in h) (spell_line h.grid) h.lines (record {
      read = [];
      place = 64;
      left = drop 64 bytes;
    }))) (header_in bytes) (Err (BadState 0))

-- the bytes begin with a state that ends at a place
pub record BeginsWith (bytes : List ℕ) (s : State) (place : ℕ) : Type 0 where
  pub left : List ℕ
  pub spelled : bytes ≡ spell_state s ++ left
  pub place_is : place ≡ length (spell_state s)

-- each element of a list may stand behind those before it
abbrev pub AllInTurn : {X : Type 0} → (List X → X → Type 0) → List X → List X → Type 0
AllInTurn P before [] = Unit {0}
AllInTurn P before (x ∷ xs) = P before x × AllInTurn P (before ++ x ∷ []) xs

-- a track that may stand behind these lines and tracks
pub record IsGoodTrack (h : Header) (lines : List CountedLine) (before : List TrackValue) (x : TrackValue) :
    Type 0 where
  pub good : is_good_track h x ≡ true
  pub placed : is_placed h lines before x ≡ true
  pub sized : IsSized h.grid x

-- a state that keeps every rule, its tracks in their order
pub record IsGood (s : State) : Type 0 where
  pub header : is_good_header (header_of s) ≡ true
  pub few_lines : length s.lines < 2 ^ 64
  pub few_tracks : length s.tracks < 2 ^ 64
  pub lines : AllInTurn (λ before l. is_good_line (header_of s) before l ≡ true) [] s.lines
  pub tracks : AllInTurn (IsGoodTrack (header_of s) s.lines) [] s.tracks
  pub whole : nat_le (length (due (header_of s) s.lines)) (length s.tracks) ≡ true
