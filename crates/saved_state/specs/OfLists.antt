-- The state of an access list, by the definitions of sharing.
use Rattle.std.specs.Prelude.{ℕ, ◌<◌, ◌≤◌, ◌^◌, IsTrue, nat_lt, List, length, map}
use Rattle.std.specs.List.{All}
use Rattle.base.specs.Levels.{Levels, are_levels, is_from_to}
use Rattle.base.specs.Lines.{Grid, is_layout}
use Rattle.sharing_rules.specs.AccessLists.{AccessList}
use Rattle.sharing_rules.specs.Lines.{grid_line, is_inside}
use Rattle.sharing_rules.specs.Listed.{in_order, may_predict}
use Rattle.sharing_rules.specs.Observed.{write_count, written_lines}
use Rattle.sharing_rules.specs.Opened.{opened}
use Rattle.line_tracks.specs.KeptIn.{kept_in}
use Rattle.line_tracks.specs.Placed.{is_placed_before}
use Rattle.saved_state.specs.declared.state_parts.CountedLine.{CountedLine}
use Rattle.saved_state.specs.Counted.{counted_line}
use Rattle.saved_state.specs.Spelling.{State, spell_state}

-- how often a list writes line k of a layout
abbrev pub writes_of : Grid → AccessList → ℕ → ℕ
writes_of g t k = write_count (is_inside (grid_line g k)) t

-- the lines that it writes, in order of their numbers
abbrev pub counted_in : Grid → AccessList → List CountedLine
counted_in g t = map (counted_line (writes_of g t)) (in_order nat_lt (written_lines g t))

-- what is kept of the list, for so many harts: its written lines, and the tracks of the lines that
-- it observes or opens
abbrev pub state_in : Grid → Levels → ℕ → AccessList → State
state_in g v harts t = record {
  grid = g;
  tracking = v.tracking;
  prediction = v.prediction;
  harts = harts;
  position = length t;
  lines = counted_in g t;
  tracks = map (kept_in t) (opened g v t);
}

abbrev pub state_of_list : Grid → Levels → ℕ → AccessList → List ℕ
state_of_list g v harts t = spell_state (state_in g v harts t)

-- accesses of harts below a number, at addresses of 32 bits
abbrev pub AreOf : ℕ → AccessList → Type 0
AreOf harts t = All (λ a. (a.hart < harts) × (a.addr < 2 ^ 32)) t

-- what is kept of the list, its tracks in order
abbrev pub sorted_state_in : Grid → Levels → ℕ → AccessList → State
sorted_state_in g v harts t = record {
  grid = g;
  tracking = v.tracking;
  prediction = v.prediction;
  harts = harts;
  position = length t;
  lines = counted_in g t;
  tracks = in_order is_placed_before (map (kept_in t) (opened g v t));
}

-- what a detector keeps a list under: an allowed layout and thresholds, which predict only where
-- they may, and a list of at most 2^40 accesses, of at most 256 harts
pub record MayKeep (g : Grid) (v : Levels) (harts : ℕ) (t : AccessList) : Type 0 where
  pub layout : IsTrue (is_layout g.size g.offset)
  pub predictable : IsTrue (may_predict g v)
  pub levels : IsTrue (are_levels v.tracking v.prediction v.report)
  pub few_harts : IsTrue (is_from_to 1 256 harts)
  pub all : AreOf harts t
  pub short : length t ≤ 2 ^ 40
