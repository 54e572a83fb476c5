use Rattle.command_line.proofs.BoundLaws.{words_bounded}
use Rattle.command_line.proofs.bounds.what_is_asked_is_bounded.Goals as goal

pub returns : goal.returns
returns c = words_bounded
