-- What is kept of a line that is watched, and what an access in its range makes of it.
use Rattle.std.specs.Prelude.{◌≡◌, ℕ, ◌+◌, ◌<◌, ◌≤◌, ◌&&◌, if◌then◌else◌, List, [], ◌∷◌, sum_by}
use Rattle.std.specs.Prelude.{Option, Some, None, option_map, slice_index_or, slice_set, IsTrue}
use Rattle.std.specs.Prelude.{◌/◌}
use Rattle.std.specs.Option.{IfSome, option_map_or}
use Rattle.base.specs.Ranges.{holds_address}
use Rattle.base.specs.Touch.{Touch, is_write}
use Rattle.base.specs.declared.layout.Range.{Range}
use Rattle.sharing_rules.specs.AccessLists.{AccessList}
use Rattle.sharing_rules.specs.Lines.{Line, range_of}
use Rattle.sharing_rules.specs.Tracks.{Traced, track_of}
use Rattle.sharing_rules.specs.Words.{accesses, tally}
use Rattle.sharing_rules.specs.declared.line_kind.LineKind.{LineKind}
use Rattle.sharing_rules.specs.declared.word.Word.{Word}
use Rattle.line_tracks.specs.Entries.{entries_after_read, has_another}
use Rattle.line_tracks.specs.RangeWords.{RangeWords, blank, note_words, word_index}

-- a track: its kind and its range, where it starts, the first two arrivals, its count and its words
pub record TrackValue : Type 0 where
  pub kind : LineKind
  pub range : Range
  pub start : Option ℕ
  pub entries : List ℕ
  pub count : ℕ
  pub words : List Word

abbrev pub words_of : TrackValue → RangeWords
words_of x = record { range = x.range; words = x.words }

-- one that has no start yet
abbrev pub waiting : LineKind → Range → TrackValue
waiting kind r = record {
  kind = kind;
  range = r;
  start = None;
  entries = [];
  count = 0;
  words =
      (blank r).words;
}

-- after the write that starts it
abbrev pub started : TrackValue → ℕ → Touch → TrackValue
started x position a = record {
  kind = x.kind;
  range = x.range;
  start = Some position;
  entries = a.hart ∷ [];
  count = 0;
  words = (note_words (words_of x) a).words;
}

-- after an access since its start
abbrev pub goes_on : TrackValue → Touch → TrackValue
goes_on x a = record {
  kind = x.kind;
  range = x.range;
  start = x.start;
  entries = if is_write a.kind then a.hart ∷ [] else entries_after_read x.entries a.hart;
  count = if is_write a.kind && has_another x.entries a.hart then x.count + 1 else x.count;
  words = (note_words (words_of x) a).words;
}

abbrev pub note_from : Option ℕ → TrackValue → ℕ → Touch → TrackValue
note_from None x position a = if is_write a.kind then started x position a else x
note_from (Some s) x position a = goes_on x a

-- before its start a read leaves it as it is, and a write starts it
abbrev pub note_kept : TrackValue → ℕ → Touch → TrackValue
note_kept x position a = note_from x.start x position a

-- Since its start there was at most one access of it a position, and the starting one doesn't
-- count.
pub record IsSince (x : TrackValue) (position s : ℕ) : Type 0 where
  pub later : s < position
  pub accessed : sum_by accesses x.words + s ≤ position
  pub counted : x.count + s < position

-- what is true of a track before the access at a position
abbrev pub IsInTime : TrackValue → ℕ → Type 0
IsInTime x position = IfSome x.start (IsSince x position)

-- what an access of an address needs of a track
pub record CanNote (x : TrackValue) (position addr : ℕ) : Type 0 where
  pub inside : IsTrue (holds_address x.range addr)
  pub in_time : IsInTime x position

-- its start, its entries, its count and its words
abbrev pub traced : TrackValue → Traced
traced x = record { start = x.start; entries = x.entries; count = x.count; words = x.words }

-- the track of a list and a line that may start from a position on
pub record IsTrackOf (l : Line) (from : ℕ) (t : AccessList) (x : TrackValue) : Type 0 where
  pub range : x.range ≡ range_of l
  pub traced_is : traced x ≡ track_of l from t

-- what is remembered of a track before an access of an address: all but the words of other
-- addresses
pub record Marked : Type 0 where
  pub start : Option ℕ
  pub entries : List ℕ
  pub count : ℕ
  pub place : ℕ
  pub word : Word

abbrev pub word_at : TrackValue → ℕ → Word
word_at x i = slice_index_or x.words i (tally [])

abbrev pub mark_of : TrackValue → ℕ → Marked
mark_of x addr = record {
  start = x.start;
  entries = x.entries;
  count = x.count;
  place =
      word_index x.range addr;
  word = word_at x (word_index x.range addr);
}

-- with what a mark remembers
abbrev pub restored : TrackValue → Marked → TrackValue
restored x m = record {
  kind = x.kind;
  range = x.range;
  start = m.start;
  entries = m.entries;
  count = m.count;
  words = slice_set x.words m.place m.word;
}

-- no start, no count, and no access of a word
pub record IsBlank (x : TrackValue) : Type 0 where
  pub count : x.count ≡ 0
  pub words : x.words ≡ (blank x.range).words

-- A mark of no more accesses of its word, which is one of the track's; without a start it leaves a
-- blank track.
pub record CanRestore (x : TrackValue) (m : Marked) : Type 0 where
  pub within : m.place < x.range.size / 4
  pub reads : m.word.reads ≤ (word_at x m.place).reads
  pub writes : m.word.writes ≤ (word_at x m.place).writes
  pub blank_before : m.start ≡ None → IsBlank (restored x m)

-- a track as it was saved
abbrev pub saved : LineKind → RangeWords → Option (ℕ × List ℕ) → ℕ → TrackValue
saved kind v start count = record {
  kind = kind;
  range = v.range;
  start = option_map (λ s. s.0) start;
  entries = option_map_or (λ s. s.1) start [];
  count = count;
  words = v.words;
}
