use Rattle.std.proofs.Common.{[]}
use Rattle.trace_passes.specs.Laws.Accounts.{came-none}
use Rattle.invalidations.specs.BlameKept.{nothing_blamed}
use Rattle.invalidations.specs.BlameRecords.{blame_account}
use Rattle.invalidations.specs.Laws.BlameKept.{stands-empty}
use Rattle.invalidations.proofs.blame.Blame.new.Goals as goal

pub invariant_of-result : goal.invariant_of-result
invariant_of-result c = (
  [],
  rw (c.new.ensures.empty, c.new-2.ensures.empty, c.new-3.ensures.empty)
      (stands-empty c.args.layout),
)

pub returns-clause-stands : goal.returns-clause-stands
returns-clause-stands c =
    rw (c.new.ensures.empty, c.new-2.ensures.empty, c.new-3.ensures.empty)
    (stands-empty c.args.layout)

pub returns-clause-begun : goal.returns-clause-begun
returns-clause-begun c =
    rw (c.new.ensures.empty, c.new-2.ensures.empty, c.new-3.ensures.empty)
    (came-none blame_account (nothing_blamed c.args.layout))
