-- What any bytes say: of each unit of a state its fields, its rule, and how it stands beside the
-- units before it. A unit is good where what its fields say keeps the rule and is spelled so, byte
-- by byte.
use Rattle.std.specs.Prelude.{◌≡◌, ℕ, zero, suc, ◌+◌, ◌-◌, ◌*◌, ◌/◌, ◌%◌, ◌^◌, ◌==◌, ◌&&◌, not}
use Rattle.std.specs.Prelude.{Bool, false}
use Rattle.std.specs.Prelude.{true, FitsSigned, ℤ, pos, nat_abs, int_le, nat_eq, nat_lt, nat_le}
use Rattle.std.specs.Prelude.{List, [], ◌∷◌, length, filter, take, drop, slice_get}
use Rattle.std.specs.Prelude.{slice_index, sum_by, if◌then◌else◌, Option, None, Some, is_some}
use Rattle.std.specs.Int.{w16, w32, w64, cast_signed}
use Rattle.std.specs.List.{list_all, list_any, starts_with}
use Rattle.std.specs.Option.{option_map_or}
use Rattle.std.specs.Ordering.{int_eq}
use Rattle.base.specs.Levels.{is_from_to}
use Rattle.base.specs.Lines.{Grid, is_layout, line_number}
use Rattle.base.specs.Ranges.{line_range}
use Rattle.sharing_rules.specs.Arrivals.{each_once}
use Rattle.sharing_rules.specs.Listed.{rank}
use Rattle.sharing_rules.specs.Predicted.{is_native_size}
use Rattle.sharing_rules.specs.Words.{accesses}
use Rattle.sharing_rules.specs.declared.line_kind.LineKind.{LineKind}
use Rattle.sharing_rules.specs.declared.line_kind.LineKind.TheVariants.{Observed, Shifted, Doubled}
use Rattle.sharing_rules.specs.declared.word.Owner.{Owner}
use Rattle.sharing_rules.specs.declared.word.Owner.TheVariants as owner
use Rattle.sharing_rules.specs.declared.word.Word.{Word}
use Rattle.line_tracks.specs.RangeWords.{is_possible}
use Rattle.line_tracks.specs.TrackValue.{TrackValue}
use Rattle.line_tracks.specs.Placed.{is_placed_before}
use Rattle.base.specs.Fields.{number_at}
use Rattle.saved_state.specs.declared.state_parts.CountedLine.{CountedLine}
use Rattle.saved_state.specs.Spelling.{Header, many_harts, no_hart, no_start, spell_header}
use Rattle.saved_state.specs.Spelling.{spell_line, spell_track}
use Rattle.sharing_rules.specs.Lines.{number_of_base}
use Rattle.saved_state.specs.HeaderPlaces.{size_place, offset_place, tracking_place}
use Rattle.saved_state.specs.HeaderPlaces.{prediction_place, harts_place, position_place}
use Rattle.saved_state.specs.HeaderPlaces.{lines_place, tracks_place}

abbrev pub integer_at : ℕ → List ℕ → ℤ
integer_at place bytes = cast_signed w64 (number_at w64 place bytes)

-- a number, unless it stands for none
abbrev pub some_unless : ℕ → ℕ → Option ℕ
some_unless none n = if n == none then None else Some n

-- what was read, where it is good and the bytes begin with its spelling
abbrev pub if_spelled : {X : Type 0} → (X → List ℕ) → Bool → X → List ℕ → Option X
if_spelled spell good x bytes = if good && starts_with nat_eq bytes (spell x) then Some x else None

-- ---- the header

abbrev pub header_at : List ℕ → Header
header_at bytes = record {
  grid = record {
    size = number_at w32 size_place bytes;
    offset = number_at w32 offset_place bytes;
  };
  tracking = number_at w64 tracking_place bytes;
  prediction = some_unless 0 (number_at w64 prediction_place bytes);
  harts = number_at w16 harts_place bytes;
  position = number_at w64 position_place bytes;
  lines = number_at w64 lines_place bytes;
  tracks = number_at w64 tracks_place bytes;
}

-- lines are predicted only under a native layout
abbrev pub is_prediction : Header → ℕ → Bool
is_prediction h P = is_from_to h.tracking (2 ^ 32) P && is_native_size h.grid.size
    && (h.grid.offset == 0)

abbrev pub is_good_header : Header → Bool
is_good_header h =
    is_layout h.grid.size h.grid.offset
    && is_from_to 1 (2 ^ 32) h.tracking
    && option_map_or (is_prediction h) h.prediction true
    && is_from_to 1 256 h.harts
    && nat_le h.position (2 ^ 40)

unfoldable pub header_in : List ℕ → Option Header
header_in bytes = if_spelled spell_header (is_good_header (header_at bytes)) (header_at bytes) bytes

-- ---- a written line

abbrev pub line_at : Grid → List ℕ → CountedLine
line_at g bytes = record {
  number = number_of_base g (integer_at 0 bytes);
  writes = number_at w64 8 bytes;
}

-- a line that has an address
abbrev pub is_line : Grid → ℕ → Bool
is_line g k = nat_lt 0 (k * g.size + g.offset) && nat_le k
    (line_number g.size g.offset (2 ^ 32 - 1))

-- it lies above those before, and was written no more often than there were accesses
abbrev pub is_good_line : Header → List CountedLine → CountedLine → Bool
is_good_line h before l =
    is_line h.grid l.number
    && list_all (λ x. nat_lt x.number l.number) before
    && is_from_to 1 h.position l.writes

unfoldable pub line_in : Header → List CountedLine → List ℕ → Option CountedLine
line_in h before bytes =
    if_spelled (spell_line h.grid) (is_good_line h before (line_at h.grid bytes))
    (line_at h.grid bytes) bytes

-- ---- a track: what it has by itself

abbrev pub kind_of : ℕ → LineKind
kind_of n = if n == 0 then Observed else (if n == 1 then Shifted else Doubled)

abbrev pub size_of : Grid → LineKind → ℕ
size_of g Observed = g.size
size_of g Shifted = g.size
size_of g Doubled = 2 * g.size

abbrev pub owner_of : ℕ → Owner
owner_of n =
    if n == no_hart then owner.None else (if n == many_harts then owner.Many else owner.One n)

abbrev pub word_at : List ℕ → Word
word_at bytes = record {
  reads = number_at w64 0 bytes;
  writes = number_at w64 8 bytes;
  owner = owner_of (number_at w16 16 bytes);
}

-- so many words, one behind the other
abbrev pub words_from : ℕ → List ℕ → List Word
words_from zero bytes = []
words_from (suc n) bytes = word_at bytes ∷ words_from n (drop 20 bytes)

-- and those behind the head of a track
abbrev pub words_at : ℕ → List ℕ → List Word
words_at count bytes = words_from count (drop 32 bytes)

abbrev pub track_as : Grid → LineKind → List ℕ → TrackValue
track_as g kind bytes = record {
  kind = kind;
  range = record { base = integer_at 8 bytes; size = size_of g kind };
  start = some_unless no_start (number_at w64 16 bytes);
  entries = take (slice_index bytes 1) (number_at w16 2 bytes ∷ number_at w16 4 bytes ∷ []);
  count = number_at w64 24 bytes;
  words = words_at (size_of g kind / 4) bytes;
}

abbrev pub track_at : Grid → List ℕ → TrackValue
track_at g bytes = track_as g (kind_of (slice_index bytes 0)) bytes

abbrev pub is_owner : ℕ → Owner → Bool
is_owner harts owner.None = true
is_owner harts (owner.One h) = nat_lt h harts
is_owner harts owner.Many = true

abbrev pub is_good_word : ℕ → Word → Bool
is_good_word harts w = is_possible w && is_owner harts w.owner

-- one or two harts that differ
abbrev pub are_entries : ℕ → List ℕ → Bool
are_entries harts hs =
    is_from_to 1 2 (length hs)
    && list_all (λ h. nat_lt h harts) hs
    && (length (each_once hs) == length hs)

-- Before its start it has counted nothing. Since then there was at most one access of it a
-- position, and the starting one doesn't count.
abbrev pub is_since : Header → TrackValue → Option ℕ → Bool
is_since h x None =
    (length x.entries == 0) && (x.count == 0) && (sum_by accesses x.words == 0)
is_since h x (Some s) =
    are_entries h.harts x.entries
    && nat_lt (x.count + s) h.position
    && nat_le (sum_by accesses x.words + s) h.position

abbrev pub is_good_track : Header → TrackValue → Bool
is_good_track h x = list_all (is_good_word h.harts) x.words && is_since h x x.start

-- the size of its range and the number of its words are those of its kind, and its base fits
pub record IsSized (g : Grid) (x : TrackValue) : Type 0 where
  pub size : x.range.size ≡ size_of g x.kind
  pub words : length x.words ≡ size_of g x.kind / 4
  pub base : FitsSigned w64 x.range.base

-- ---- a track among the lines and the tracks before it

-- the lines that were written as often as the tracking threshold says
abbrev pub due : Header → List CountedLine → List CountedLine
due h lines = filter (λ l. nat_le h.tracking l.writes) lines

-- lines k and k+1 are among them
abbrev pub both_due : Header → List CountedLine → ℕ → Bool
both_due h lines k =
    list_any (λ l. l.number == k) (due h lines) && list_any (λ l. l.number == k + 1) (due h lines)

-- what a predicted track needs: prediction, and each due line's own track before it
abbrev pub is_predicted : Header → List CountedLine → List TrackValue → TrackValue → Bool
is_predicted h lines before x =
    is_some h.prediction
    && nat_le (length (due h lines)) (length before)
    && int_le (pos 0) x.range.base
    && both_due h lines (number_of_base h.grid x.range.base)

-- whether a base is a multiple of n
abbrev pub is_multiple : ℕ → TrackValue → Bool
is_multiple n x = nat_abs x.range.base % n == 0

-- a shifted track that begins in line k
abbrev pub is_shifted_at : Grid → ℕ → TrackValue → Bool
is_shifted_at g k x = (rank x.kind == 1) && (number_of_base g x.range.base == k)

-- whether a track begins where line k does
abbrev pub is_base : Grid → ℕ → TrackValue → Bool
is_base g k x = int_eq (line_range g.size g.offset k).base x.range.base

-- An observed track is that of the next due line. At most one shifted track begins in a line.
abbrev pub is_kind_placed : Header → List CountedLine → List TrackValue → TrackValue → LineKind → Bool
is_kind_placed h lines before x Observed =
    option_map_or (λ l. is_base h.grid l.number x) (slice_get (due h lines) (length before)) false
    && is_some x.start
is_kind_placed h lines before x Shifted =
    is_predicted h lines before x
    && is_multiple 4 x
    && not (is_multiple h.grid.size x)
    && not (list_any (is_shifted_at h.grid (number_of_base h.grid x.range.base)) before)
is_kind_placed h lines before x Doubled =
    is_predicted h lines before x && is_multiple (2 * h.grid.size) x

-- and it comes behind each before it in the order of tracks
abbrev pub is_placed : Header → List CountedLine → List TrackValue → TrackValue → Bool
is_placed h lines before x = list_all (λ y. is_placed_before y x) before
    && is_kind_placed h lines before x x.kind

-- a track by what it has by itself, wherever it stands
unfoldable pub track_alone : Header → List ℕ → Option TrackValue
track_alone h bytes =
    if_spelled spell_track (is_good_track h (track_at h.grid bytes)) (track_at h.grid bytes) bytes

unfoldable pub track_in : Header → List CountedLine → List TrackValue → List ℕ → Option TrackValue
track_in h lines before bytes =
    if_spelled spell_track (is_good_track h (track_at h.grid bytes) && is_placed h lines before
    (track_at h.grid bytes)) (track_at h.grid bytes) bytes
