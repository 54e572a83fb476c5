-- A write at which a track may begin, or a predicted line may open.
use Rattle.std.specs.Prelude.{◌≡◌, ◌≤◌, ◌^◌, IsTrue, ℕ, ◌+◌, ◌-◌, ◌*◌, ◌/◌, ◌%◌, Bool, false, ◌&&◌}
use Rattle.std.specs.Prelude.{◌==◌, if◌then◌else◌, List, [], ◌∷◌, ◌++◌, length, Option, option_map}
use Rattle.std.specs.Option.{option_map_or, option_or}
use Rattle.base.specs.Levels.{Levels}
use Rattle.base.specs.Lines.{Grid, is_layout}
use Rattle.base.specs.Touch.{Touch}
use Rattle.detector.specs.declared.line_entry.LineEntry.{LineEntry}
use Rattle.sharing_rules.specs.Listed.{rank}
use Rattle.sharing_rules.specs.Opened.{even_lower}
use Rattle.sharing_rules.specs.declared.line_kind.LineKind.{LineKind}
use Rattle.sharing_rules.specs.declared.line_kind.LineKind.TheVariants.{Observed, Shifted, Doubled}
use Rattle.line_tracks.specs.TrackValue.{TrackValue}
use Rattle.detector.specs.declared.openings.Openings.{Openings}
use Rattle.detector.specs.declared.task.OpenedTracks.{OpenedTracks}
use Rattle.detector.specs.declared.task.Task.{Task}
use Rattle.detector.specs.Index.{IsIndexed, IsReached, Names}
use Rattle.detector.specs.Openings.{nothing_opens, opened_tracks, openings, waiting_for}
use Rattle.detector.specs.Pairs.{IsNativeGrid}
use Rattle.detector.specs.Watch.{begun}

-- the names with a place for a kind and a line, if one is given
abbrev pub with_name : Names → LineKind → ℕ → Option ℕ → Names
with_name N kind k o j q = if (rank j == rank kind) && (q == k) then option_or o (N j q) else N j q

-- an entry with a place for a kind, if one is given
abbrev pub with_place : LineEntry → LineKind → Option ℕ → LineEntry
with_place e Observed o = record e { track = option_or o e.track }
with_place e Shifted o = record e { shifted = option_or o e.shifted }
with_place e Doubled o = record e { doubled = option_or o e.doubled }

-- an entry after one write more
abbrev pub counted : LineEntry → LineEntry
counted e = record e { writes = e.writes + 1 }

-- where the tracks stand of what opens, behind others
abbrev pub opened_places : List TrackValue → Openings → OpenedTracks
opened_places xs o = record {
  below = option_map (λ r. length xs) o.below;
  here = option_map (λ r. length (xs ++ waiting_for Shifted o.below)) o.here;
  doubled = option_map
      (λ r. length (xs ++ waiting_for Shifted o.below ++ waiting_for Shifted o.here)) o.doubled;
}

-- the names with those of line k's own track and of what opened for it
abbrev pub settled : Names → ℕ → Option ℕ → OpenedTracks → Names
settled N k own o =
    with_name (with_name (with_name (with_name N Observed k own) Shifted (k - 1) o.below) Shifted k
    o.here) Doubled (even_lower k) o.doubled

-- the tracks after a write of line k was noted in those that were there: its own, where it begins,
-- and what opens
abbrev pub tracks_begun : Grid → ℕ → ℕ → Touch → Bool → List TrackValue → List TrackValue
tracks_begun g k position a begins xs = xs ++ (if begins then begun g k position a ∷ [] else [])

abbrev pub task_opens : Grid → ℕ → Bool → List TrackValue → Openings
task_opens g k searches xs = if searches then openings g k xs else nothing_opens

-- the most steps of a search of the pairs of a write's line, where they are searched
abbrev pub search_steps : Grid → Bool → ℕ
search_steps g searches = if searches then 3 * (g.size / 4 * (g.size / 4)) else 0

abbrev pub tracks_changed : Grid → ℕ → ℕ → Touch → Bool → Bool → List TrackValue → List TrackValue
tracks_changed g k position a begins searches xs =
    tracks_begun g k position a begins xs ++ opened_tracks
    (task_opens g k searches (tracks_begun g k position a begins xs))

-- What a write needs of the entries and of the tracks in which it was noted: they are tied, the
-- line's own track begins only where there is none, and pairs are searched only under a native
-- layout.
pub record IsDue (entry_of : ℕ → LineEntry) (g : Grid) (xs : List TrackValue) (k : ℕ) (task : Task)
    (position T : ℕ) : Type 0 where
  pub indexed : IsIndexed entry_of g xs T (position + 1)
  pub positive : 1 ≤ T
  pub due : IsTrue task.begins → (entry_of k).writes + 1 ≡ T
  pub written : (entry_of k).writes ≤ position

pub record IsTask (entry_of : ℕ → LineEntry) (g : Grid) (xs : List TrackValue) (k : ℕ) (task : Task)
    (position : ℕ) (a : Touch) : Type 0 where
  pub tracking : ℕ
  pub is_due : IsDue entry_of g xs k task position tracking
  pub native : IsTrue task.searches → IsNativeGrid g
  pub layout : IsTrue (is_layout g.size g.offset)
  pub small : k ≤ 2 ^ 30
  pub reached : IsReached g k

-- the same before the write is noted
pub record IsDueAt (entry_of : ℕ → LineEntry) (g : Grid) (xs : List TrackValue) (k : ℕ) (task : Task)
    (position T : ℕ) : Type 0 where
  pub indexed : IsIndexed entry_of g xs T position
  pub positive : 1 ≤ T
  pub due : IsTrue task.begins → (entry_of k).writes + 1 ≡ T

-- a write's task, by the entry of its line
pub record IsTaskOf (e : LineEntry) (v : Levels) (task : Task) : Type 0 where
  pub begins : task.begins ≡ (e.writes + 1 == v.tracking)
  pub searches : task.searches ≡ option_map_or (λ P. (e.writes + 1) % P == 0) v.prediction false
