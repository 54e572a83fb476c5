use Rattle.std.proofs.Common.{◌∙◌}
use Rattle.settings.proofs.Numbers.{number_of-prediction}
use Rattle.settings.proofs.read.prediction_beside.Goals as goal

pub returns-clause-value : goal.returns-clause-value
returns-clause-value c = c.number.ensures.value ∙ number_of-prediction _ _ c.requires.own
