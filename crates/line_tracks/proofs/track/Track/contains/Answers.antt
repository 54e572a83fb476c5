-- An access elsewhere leaves the track that of the list.
use Rattle.std.proofs.Common.{◌≡◌, false, rules}
use Rattle.base.specs.Ranges.{holds_address}
use Rattle.line_tracks.specs.Laws.TrackValue.{kept-elsewhere}
use Rattle.line_tracks.proofs.track.Track.contains.Goals as goal

pub returns-clause-elsewhere : goal.returns-clause-elsewhere
returns-clause-elsewhere c = λ misses l from t a same allowed old.
    let here : holds_address c.args.self.now.range a.addr ≡ false = rw same (search rules) in
    kept-elsewhere l from t a c.args.self.now allowed here old
