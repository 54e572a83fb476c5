-- What the tracks so far come to, which is no more than as many greatest ones would.
use Rattle.std.proofs.Common.{◌≡◌, ◌*◌, ◌^◌, ◌≤◌, take}
use Rattle.std.specs.Prelude.{sum_by}
use Rattle.detector.specs.TotalsCounted.{observed_count, one, one_if_listed, weight}
use Rattle.detector.proofs.totals.sum_tracks.Given as goal

abbrev pub invariant-loop-track : goal.invariant-loop-track
invariant-loop-track l =
    (l.totals.tracked ≡ sum_by (weight one) (take l.track-index l.tracks))
    × (l.totals.listed ≡ sum_by (weight (one_if_listed l.report)) (take l.track-index l.tracks))
    × (l.totals.invalidations ≡ sum_by (weight observed_count) (take l.track-index l.tracks))
    × (l.totals.tracked ≤ l.track-index) × (l.totals.listed ≤ l.track-index)
    × (l.totals.invalidations ≤ l.track-index * 2 ^ 64)
