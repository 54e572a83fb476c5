use Rattle.std.proofs.Common.{◌≡◌}
use Rattle.misses.specs.MissCounts.{blank_words}
use Rattle.misses.proofs.line_misses.blank_words.Given as goal

abbrev pub invariant-loop : goal.invariant-loop
invariant-loop l = l.words.items ≡ blank_words l.counter
