use Rattle.std.proofs.Common.{map}
use Rattle.std.specs.Prelude.{nat_le}
use Rattle.report.specs.ListedTracks.{track_shown}
use Rattle.report.specs.Shown.{shown_of}
use Rattle.report.proofs.ShownLaws.{reported_more}
use Rattle.report.proofs.listing.reported.Goals as goal

pub loop-track-preserved : goal.loop-track-preserved
loop-track-preserved c =
    reported_more shown_of (λ s. nat_le c.args.report s.count) c.args.tracks.now
    c.loop-track.track-index c.track-item.result
    (map track_shown c.loop-track.rows.items) (map track_shown c.push_listed.new.rows.items)
    c.loop-track-test.true c.track-item.is
    c.loop-track.invariant c.in_ok-push_listed.ensures
