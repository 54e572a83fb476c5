use Rattle.std.proofs.Common.{refl}
use Rattle.settings.specs.Tables.{number_of}
use Rattle.settings.proofs.values.Settings.usual.Goals as goal

pub returns-clause-value : goal.returns-clause-value
unfolding number_of
returns-clause-value c = refl
