use Rattle.std.proofs.Common.{◌∙◌}
use Rattle.settings.proofs.Numbers.{number_of-alone}
use Rattle.settings.proofs.read.number_alone.Goals as goal

pub returns-clause-value : goal.returns-clause-value
returns-clause-value c = c.number.ensures.value ∙ number_of-alone _ _ c.requires
