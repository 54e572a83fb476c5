-- The law of few lines.
use Rattle.line_tracks.specs.Laws.Few.{at_most_four}
use Rattle.line_tracks.proofs.laws.at_most_four_lines_hold_an_address.Goals as goal

pub returns : goal.returns
returns c = at_most_four
