use Rattle.std.proofs.Common.{◌∙◌}
use Rattle.std.proofs.lemmas.List.{take_min}
use Rattle.base.proofs.name.Name.new.Goals as goal

pub returns : goal.returns
returns c = c.in_ok-content.ensures.items ∙ rw (c.min-kept.ensures, take_min)
