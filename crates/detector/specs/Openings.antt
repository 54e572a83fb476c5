-- The predicted lines that open at a write, by the tracks that the write is noted in.
use Rattle.std.specs.Prelude.{ℕ, ◌+◌, ◌-◌, ◌*◌, if◌then◌else◌, List, ◌++◌, Option, None, is_some}
use Rattle.std.specs.Prelude.{option_map, option_and_then}
use Rattle.std.specs.Option.{option_to_list}
use Rattle.base.specs.Lines.{Grid}
use Rattle.base.specs.declared.layout.Range.{Range}
use Rattle.sharing_rules.specs.Lines.{range_of}
use Rattle.sharing_rules.specs.Opened.{even_lower}
use Rattle.sharing_rules.specs.Pairs.{best_pair_of}
use Rattle.sharing_rules.specs.Predicted.{doubled_line, shifted_around}
use Rattle.sharing_rules.specs.declared.line_kind.LineKind.{LineKind}
use Rattle.sharing_rules.specs.declared.line_kind.LineKind.TheVariants.{Observed, Shifted, Doubled}
use Rattle.line_tracks.specs.TrackValue.{TrackValue, waiting}
use Rattle.detector.specs.declared.openings.Openings.{Openings}
use Rattle.detector.specs.Named.{track_named}

-- the best hot pair of at most `within` bytes between the words of two tracks
abbrev pub best_of_two : Option TrackValue → Option TrackValue → ℕ → Option (ℕ × ℕ)
best_of_two lower upper within =
    option_and_then (λ x. option_and_then (λ y. best_pair_of x.words y.words within) upper) lower

-- the same for the observed lines k and k+1
abbrev pub best_among : Grid → ℕ → ℕ → List TrackValue → Option (ℕ × ℕ)
best_among g within k tracks =
    best_of_two (track_named g Observed k tracks) (track_named g Observed (k + 1) tracks) within

-- The range of the shifted line that opens for lines k and k+1: none where there is one already, or
-- no pair that one line can hold.
abbrev pub shifted_opens : Grid → ℕ → List TrackValue → Option Range
shifted_opens g k tracks =
    if is_some (track_named g Shifted k tracks) then None
    else option_map (λ p. range_of (shifted_around g.size k p)) (best_among g g.size k tracks)

-- the same for the doubled line of lines k and k+1, which holds any pair
abbrev pub doubled_opens : Grid → ℕ → List TrackValue → Option Range
doubled_opens g k tracks =
    if is_some (track_named g Doubled k tracks) then None
    else option_map (λ p. range_of (doubled_line g.size k)) (best_among g (2 * g.size) k tracks)

-- what opens for line k: with the line below it, with the line above it, and in its even pair
abbrev pub openings : Grid → ℕ → List TrackValue → Openings
openings g k tracks = record {
  below = shifted_opens g (k - 1) tracks;
  here = shifted_opens g k tracks;
  doubled = doubled_opens g (even_lower k) tracks;
}

abbrev pub nothing_opens : Openings
nothing_opens = record { below = None; here = None; doubled = None }

-- the track of a range that opens, which waits for a write
abbrev pub waiting_for : LineKind → Option Range → List TrackValue
waiting_for kind o = option_to_list (option_map (waiting kind) o)

abbrev pub opened_tracks : Openings → List TrackValue
opened_tracks o = waiting_for Shifted o.below ++ waiting_for Shifted o.here ++ waiting_for Doubled
    o.doubled
