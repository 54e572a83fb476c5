-- A new track has no start.
use Rattle.line_tracks.specs.Laws.TrackValue.{kept-new}
use Rattle.line_tracks.proofs.tracks.Tracks.add.Goals as goal

pub returns-in-Ok-clause-stands : goal.returns-in-Ok-clause-stands
returns-in-Ok-clause-stands c = λ l from t same short. kept-new l from t c.args.kind c.args.range
    same short

pub returns-in-Err-clause-stands : goal.returns-in-Err-clause-stands
returns-in-Err-clause-stands c = λ l from t same short. kept-new l from t c.args.kind c.args.range
    same short
