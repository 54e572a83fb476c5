-- The words that no one touched are words of the range.
use Rattle.std.proofs.Common.{◌/◌}
use Rattle.line_tracks.specs.Laws.Words.{blank-are, blank-sum}
use Rattle.line_tracks.proofs.shadow.Shadow.new.Goals as goal

pub invariant_of-result : goal.invariant_of-result
invariant_of-result c = rw c.in_ok-words.ensures
    (blank-are c.args.range c.requires, blank-sum (c.args.range.size / 4))
