use Rattle.std.proofs.Common.{sym, ◌∙◌}
use Rattle.detector.proofs.AfterLaws.{levels-positive}
use Rattle.detector.proofs.dues.Dues.searches.Goals as goal

pub is_multiple-requires : goal.is_multiple-requires
is_multiple-requires c = λ m e. levels-positive c.self.inside.thresholds m
    c.tracking-tracking.ensures.allowed (sym c.prediction.ensures ∙ e)
