-- When a detector stands for an access list.
use Rattle.std.specs.Prelude.{◌≡◌, ℕ, length, map, option_and_then, option_map, Option}
use Rattle.std.specs.List.Sorted.{IsPermutation}
use Rattle.base.specs.Levels.{Levels}
use Rattle.base.specs.Lines.{Grid}
use Rattle.sharing_rules.specs.AccessLists.{AccessList}
use Rattle.sharing_rules.specs.Lines.{grid_line, is_inside}
use Rattle.sharing_rules.specs.Observed.{write_count}
use Rattle.sharing_rules.specs.Opened.{Opened, opened, opened_doubled, opened_observed}
use Rattle.sharing_rules.specs.Opened.{opened_shifted}
use Rattle.sharing_rules.specs.declared.line_kind.LineKind.{LineKind}
use Rattle.sharing_rules.specs.declared.line_kind.LineKind.TheVariants.{Observed, Shifted, Doubled}
use Rattle.line_tracks.specs.KeptIn.{kept_in}
use Rattle.detector.specs.Counts.{count_at}
use Rattle.detector.specs.Named.{track_named}
use Rattle.detector.specs.Watch.{Watch}

-- what a list makes one keep under a kind and the number of a line
abbrev pub opened_at : Grid → Levels → AccessList → LineKind → ℕ → Option Opened
opened_at g v t Observed k = opened_observed g v.tracking t k
opened_at g v t Shifted k =
    option_and_then (λ P. opened_shifted g.size v.tracking P t k) v.prediction
opened_at g v t Doubled k =
    option_and_then (λ P. opened_doubled g.size v.tracking P t k) v.prediction

pub record StandsFor (t : AccessList) (w : Watch) : Type 0 where
  -- it has seen as many accesses
  pub position : w.position ≡ length t
  -- it knows how often each line was written
  pub writes : (k : ℕ) → count_at w.writes k ≡ write_count (is_inside (grid_line w.grid k)) t
  -- its tracks are those of the lines that are observed or opened, in any order
  pub tracks : IsPermutation w.tracks (map (kept_in t) (opened w.grid w.levels t))

-- its track of each kind and line is that of what the list makes one keep there
abbrev pub HasEach : AccessList → Watch → Type 0
HasEach t w =
    (kind : LineKind) (k : ℕ) → track_named w.grid kind k w.tracks
    ≡ option_map (kept_in t) (opened_at w.grid w.levels t kind k)
