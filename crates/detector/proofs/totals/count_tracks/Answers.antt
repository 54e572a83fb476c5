use Rattle.std.proofs.Common.{◌∙◌}
use Rattle.detector.proofs.TotalLaws.{totals-kept}
use Rattle.detector.proofs.totals.count_tracks.Goals as goal

pub returns-clause-of_list : goal.returns-clause-of_list
returns-clause-of_list c = λ g v t is perm. c.sum_tracks.ensures
    ∙ totals-kept g v t c.args.report c.args.tracks.now is perm
