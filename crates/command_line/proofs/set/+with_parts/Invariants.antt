use Rattle.std.proofs.Common.{length}
use Rattle.command_line.proofs.set.+with_parts.Given as goal

abbrev pub decreases-with_parts : goal.decreases-with_parts
decreases-with_parts l = length l.text.now
