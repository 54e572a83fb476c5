-- What the parts of a state that are read one at a time mean.
use Rattle.std.specs.Prelude.{◌≡◌, ℕ, ◌-◌, ◌%◌, ◌^◌, ◌==◌, Bool, true, ◌&&◌, nat_eq, nat_lt, nat_le}
use Rattle.std.specs.Prelude.{List, [], drop, length, flat_map, sum_by, Option, None, Some}
use Rattle.std.specs.Prelude.{option_map, slice_get, if◌then◌else◌}
use Rattle.std.specs.Int.{w64}
use Rattle.std.specs.List.{list_all, starts_with}
use Rattle.std.specs.Option.{option_map_or}
use Rattle.base.specs.Levels.{is_from_to}
use Rattle.base.specs.Lines.{Grid}
use Rattle.sharing_rules.specs.Predicted.{is_native_size}
use Rattle.sharing_rules.specs.Words.{accesses}
use Rattle.sharing_rules.specs.declared.word.Word.{Word}
use Rattle.line_tracks.specs.TrackValue.{TrackValue, saved}
use Rattle.saved_state.specs.declared.state_parts.CountedLine.{CountedLine}
use Rattle.saved_state.specs.declared.state_parts.SavedTrack.{SavedTrack}
use Rattle.saved_state.specs.declared.state_parts.StateHeader.{StateHeader}
use Rattle.saved_state.specs.declared.state_parts.TrackHead.{TrackHead}
use Rattle.saved_state.specs.Spelling.{Header, no_start, spell_head, spell_line, spell_word}
use Rattle.saved_state.specs.Units.{if_spelled, is_good_word, is_line, is_since, line_at}
use Rattle.base.specs.Fields.{number_at}
use Rattle.saved_state.specs.Units.{size_of, some_unless, track_at, word_at, words_at}

-- all but the report threshold, which isn't saved
abbrev pub header_meant : StateHeader → Header
header_meant h = record {
  grid = h.layout;
  tracking = h.thresholds.tracking;
  prediction = h.thresholds.prediction;
  harts = h.harts;
  position = h.position;
  lines = h.lines;
  tracks = h.tracks;
}

abbrev pub kept_of : SavedTrack → TrackValue
kept_of x = saved x.kind x.shadow x.start x.count

-- the number of the last of some lines, None where there is none
abbrev pub IsLast : List CountedLine → Option ℕ → Type 0
IsLast lines last = option_map (λ l. l.number) (slice_get lines (length lines - 1)) ≡ last

-- thresholds that a state may have under a layout
abbrev pub are_native_levels : Grid → ℕ → Option ℕ → Bool
are_native_levels g tracking prediction =
    is_from_to 1 (2 ^ 32) tracking
    && option_map_or (λ P. is_from_to tracking (2 ^ 32) P && is_native_size g.size
    && (g.offset == 0)) prediction true

-- a line that may stand behind one of a number, or as the first one
abbrev pub is_good_behind : Header → Option ℕ → CountedLine → Bool
is_good_behind h last l =
    is_line h.grid l.number
    && option_map_or (λ n. nat_lt n l.number) last true
    && is_from_to 1 h.position l.writes

unfoldable pub line_behind : Header → Option ℕ → List ℕ → Option CountedLine
line_behind h last bytes =
    if_spelled (spell_line h.grid) (is_good_behind h last (line_at h.grid bytes))
    (line_at h.grid bytes) bytes

-- ---- a track: its head, and its words

-- all of a track but its words
abbrev pub head_meant : TrackHead → TrackValue
head_meant h = saved h.kind (record { range = h.range; words = [] }) h.start h.count

-- its range has the size of its kind, which is a number of words
pub record IsHeadSized (g : Grid) (h : TrackHead) : Type 0 where
  pub size : h.range.size ≡ size_of g h.kind
  pub words : h.range.size % 4 ≡ 0

-- what bytes say of a track before its words, with a start
abbrev pub head_from : Grid → Option ℕ → List ℕ → TrackValue
head_from g start bytes = record (track_at g bytes) { start = start; words = [] }

abbrev pub head_at : Grid → List ℕ → TrackValue
head_at g bytes = head_from g (some_unless no_start (number_at w64 16 bytes)) bytes

-- a head that keeps the rule, with a start
abbrev pub good_head : Header → Option ℕ → List ℕ → Option TrackValue
good_head h start bytes =
    if is_since h (head_from h.grid start bytes) start then Some (head_from h.grid start bytes)
    else None

unfoldable pub head_in : Header → List ℕ → Option TrackValue
head_in h bytes =
    if_spelled spell_head (is_since h (head_at h.grid bytes) (head_at h.grid bytes).start)
    (head_at h.grid bytes) bytes

-- how many accesses the words of a track can have, by its start
abbrev pub most_of : ℕ → Option ℕ → ℕ
most_of position None = 0
most_of position (Some s) = position - s

-- a word of at most so many accesses
abbrev pub is_word_within : ℕ → ℕ → Word → Bool
is_word_within harts most w = is_good_word harts w && nat_le (accesses w) most

unfoldable pub word_in : ℕ → ℕ → List ℕ → Option Word
word_in harts most bytes =
    if_spelled spell_word (is_word_within harts most (word_at bytes)) (word_at bytes) bytes

-- so many words behind a head are good and spelled, and have at most so many accesses together
unfoldable pub are_words : ℕ → ℕ → ℕ → List ℕ → Bool
are_words harts most n bytes =
    list_all (is_good_word harts) (words_at n bytes)
    && nat_le (sum_by accesses (words_at n bytes)) most
    && starts_with nat_eq (drop 32 bytes) (flat_map spell_word (words_at n bytes))
