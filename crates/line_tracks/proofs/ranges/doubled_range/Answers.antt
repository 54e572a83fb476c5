-- The doubled line of the even pair.
use Rattle.std.proofs.Common.{◌∙◌}
use Rattle.line_tracks.proofs.EvenLaws.{doubled-holds}
use Rattle.line_tracks.proofs.ranges.doubled_range.Goals as goal

pub returns-clause-pair : goal.returns-clause-pair
returns-clause-pair c = λ k odd inside. c.aligned_range.ensures
    ∙ doubled-holds c.args.line k c.args.addr c.requires odd inside
