use Rattle.std.proofs.Common.{◌≡◌, take, map, filter}
use Rattle.std.specs.Prelude.{filter_map, nat_le}
use Rattle.report.specs.ListedTracks.{track_shown}
use Rattle.report.specs.Shown.{shown_of}
use Rattle.report.proofs.listing.reported.Given as goal

abbrev pub invariant-loop-track : goal.invariant-loop-track
invariant-loop-track l = map track_shown l.rows.items ≡ filter (λ s. nat_le l.report s.count)
    (filter_map shown_of (take l.track-index l.tracks))
