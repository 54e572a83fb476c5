use Rattle.std.proofs.Common.{arith, rules}
use Rattle.misses.specs.Laws.Fits.{fit-none}
use Rattle.misses.specs.Laws.KeptOf.{kept_of-empty}
use Rattle.misses.proofs.all_lines.Misses.new.Goals as goal

pub invariant_of-result : goal.invariant_of-result
invariant_of-result c = (
  fit-none c.args.layout.size 0 c.new.result.entries c.new.ensures.empty,
  record { cold = omega arith; misses = omega arith; needed = omega arith },
  search rules,
)

pub returns : goal.returns
returns c = kept_of-empty c.args.layout c.new.result.entries c.new.ensures.empty
