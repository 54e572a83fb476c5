-- The state of a detector as bytes: the one spelling of each of its parts. Numbers are little
-- endian.
use Rattle.std.specs.Prelude.{ℕ, ◌-◌, ◌^◌, List, ◌∷◌, ◌++◌, codes, length, flat_map, get_or, Option}
use Rattle.std.specs.Prelude.{unwrap_or}
use Rattle.std.specs.Int.{w16, w32, w64, to_le_bytes, cast_unsigned}
use Rattle.base.specs.Lines.{Grid}
use Rattle.base.specs.Ranges.{line_range}
use Rattle.sharing_rules.specs.Listed.{in_order, rank}
use Rattle.sharing_rules.specs.declared.word.Owner.{Owner}
use Rattle.sharing_rules.specs.declared.word.Owner.TheVariants as owner
use Rattle.sharing_rules.specs.declared.word.Word.{Word}
use Rattle.line_tracks.specs.TrackValue.{TrackValue}
use Rattle.saved_state.specs.declared.state_parts.CountedLine.{CountedLine}
use Rattle.line_tracks.specs.Placed.{is_placed_before}

-- What is saved of a detector, and for how many harts: the written lines in order of their numbers,
-- and the tracks in any order.
pub record State : Type 0 where
  pub grid : Grid
  pub tracking : ℕ
  pub prediction : Option ℕ
  pub harts : ℕ
  pub position : ℕ
  pub lines : List CountedLine
  pub tracks : List TrackValue

-- what is stated before the lines and the tracks, of which only the numbers are stated
pub record Header : Type 0 where
  pub grid : Grid
  pub tracking : ℕ
  pub prediction : Option ℕ
  pub harts : ℕ
  pub position : ℕ
  pub lines : ℕ
  pub tracks : ℕ

abbrev pub header_of : State → Header
header_of s = record {
  grid = s.grid;
  tracking = s.tracking;
  prediction = s.prediction;
  harts = s.harts;
  position = s.position;
  lines = length s.lines;
  tracks = length s.tracks;
}

-- 64 bytes: the magic, the layout, the thresholds with 0 for no prediction, the harts, zeros, the
-- position, and how many lines and tracks there are
unfoldable pub spell_header : Header → List ℕ
spell_header h =
    codes "PRDSTA01"
    ++ (to_le_bytes w32 h.grid.size ++ (to_le_bytes w32 h.grid.offset
    ++ (to_le_bytes w64 h.tracking ++ (to_le_bytes w64 (unwrap_or h.prediction 0)
    ++ (to_le_bytes w16 h.harts ++ (to_le_bytes w16 0 ++ (to_le_bytes w32 0
    ++ (to_le_bytes w64 h.position
    ++ (to_le_bytes w64 h.lines ++ to_le_bytes w64 h.tracks)))))))))

-- 16 bytes: the base of a line, and how often it was written
unfoldable pub spell_line : Grid → CountedLine → List ℕ
spell_line g line = to_le_bytes w64
    (cast_unsigned w64 (line_range g.size g.offset line.number).base) ++ to_le_bytes w64 line.writes

-- no hart, and many of them
abbrev pub no_hart : ℕ
no_hart = 0xffff

abbrev pub many_harts : ℕ
many_harts = 0xfffe

abbrev pub owner_number : Owner → ℕ
owner_number owner.None = no_hart
owner_number (owner.One h) = h
owner_number owner.Many = many_harts

-- 20 bytes: reads, writes, owner, and zeros
unfoldable pub spell_word : Word → List ℕ
spell_word w = to_le_bytes w64 w.reads ++ (to_le_bytes w64
    w.writes ++ (to_le_bytes w16 (owner_number w.owner) ++ to_le_bytes w16 0))

-- no start
abbrev pub no_start : ℕ
no_start = 2 ^ 64 - 1

-- 32 bytes: kind, number of entries, both entries, zeros, base, start and count
unfoldable pub spell_head : TrackValue → List ℕ
spell_head x =
    rank x.kind ∷ length x.entries ∷ (to_le_bytes w16
    (get_or x.entries 0 no_hart) ++ (to_le_bytes w16 (get_or x.entries 1 no_hart)
    ++ (to_le_bytes w16 0 ++ (to_le_bytes w64 (cast_unsigned w64 x.range.base)
    ++ (to_le_bytes w64 (unwrap_or x.start no_start) ++ to_le_bytes w64 x.count)))))

-- a track: its head, and 20 bytes for each word of its range
abbrev pub spell_track : TrackValue → List ℕ
spell_track x = spell_head x ++ flat_map spell_word x.words

-- The whole. The tracks stand in the order of their kinds and bases.
abbrev pub spell_state : State → List ℕ
spell_state s =
    spell_header (header_of s) ++ (flat_map (spell_line s.grid) s.lines
    ++ flat_map spell_track (in_order is_placed_before s.tracks))
