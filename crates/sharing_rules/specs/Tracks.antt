-- What is kept of a range for an access list: its track.
use Rattle.std.specs.Prelude.{ℕ, ◌+◌, ◌/◌, ◌==◌, ◌&&◌, not, if◌then◌else◌, List, [], ◌∷◌, map, take}
use Rattle.std.specs.Prelude.{Option, Some, None, slice_set, slice_index_or}
use Rattle.std.specs.List.{list_any}
use Rattle.base.specs.Touch.{Touch, is_write}
use Rattle.sharing_rules.specs.AccessLists.{AccessList}
use Rattle.sharing_rules.specs.Places.{below}
use Rattle.sharing_rules.specs.Lines.{Line, is_inside, word_place}
use Rattle.sharing_rules.specs.Holders.{line_count_since}
use Rattle.sharing_rules.specs.Arrivals.{arrivals, note_arrival}
use Rattle.sharing_rules.specs.Words.{tally, words_since, note_word}
use Rattle.sharing_rules.specs.Observed.{first_write_from}
use Rattle.sharing_rules.specs.declared.word.Word.{Word}

-- a track: where it starts, the first two arrivals, the count and the words since
pub record Traced : Type 0 where
  pub start : Option ℕ
  pub entries : List ℕ
  pub count : ℕ
  pub words : List Word

-- no access of any word
abbrev pub blank_words : Line → List Word
blank_words l = map (λ i. tally []) (below (l.size / 4))

abbrev pub track_since : Line → AccessList → Option ℕ → Traced
track_since l t None = record { start = None; entries = []; count = 0; words = blank_words l }
track_since l t (Some s) = record {
  start = Some s;
  entries = take 2 (arrivals (is_inside l) t);
  count = line_count_since l s t;
  words = words_since l s t;
}

-- The track of a line that may start from a position on: for an observed line its start, and for a
-- predicted one the position after its opening.
abbrev pub track_of : Line → ℕ → AccessList → Traced
track_of l from t = track_since l t (first_write_from from (is_inside l) t)

-- what the first write makes of a track
abbrev pub begin_track : Line → ℕ → Touch → Traced
begin_track l position a = record {
  start = Some position;
  entries = a.hart ∷ [];
  count = 0;
  words = slice_set (blank_words l) (word_place l a.addr) (note_word (tally []) a);
}

-- what a later access of the line makes of a track that started
abbrev pub note_track : Line → Traced → Touch → Traced
note_track l x a = record {
  start = x.start;
  entries = if is_write a.kind then a.hart ∷ [] else take 2 (note_arrival x.entries a.hart);
  count = if is_write a.kind && list_any (λ g. not (g == a.hart)) x.entries then x.count + 1
      else x.count;
  words = slice_set x.words (word_place l a.addr)
      (note_word (slice_index_or x.words (word_place l a.addr) (tally [])) a);
}
