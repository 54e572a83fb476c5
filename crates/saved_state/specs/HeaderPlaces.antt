-- Where a header states what. What a state is refused for is named by these places too.
use Rattle.std.specs.Prelude.{ℕ}

-- the size of a line, and the offset of the lines
abbrev pub size_place : ℕ
size_place = 8

abbrev pub offset_place : ℕ
offset_place = 12

-- the thresholds
abbrev pub tracking_place : ℕ
tracking_place = 16

abbrev pub prediction_place : ℕ
prediction_place = 24

-- the number of harts
abbrev pub harts_place : ℕ
harts_place = 32

-- the position, and how many lines and tracks there are
abbrev pub position_place : ℕ
position_place = 40

abbrev pub lines_place : ℕ
lines_place = 48

abbrev pub tracks_place : ℕ
tracks_place = 56
