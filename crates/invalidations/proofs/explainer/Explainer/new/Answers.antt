use Rattle.std.proofs.Common.{[]}
use Rattle.invalidations.specs.Laws.KeptOf.{kept_of-empty}
use Rattle.invalidations.proofs.explainer.Explainer.new.Goals as goal

pub invariant_of-result : goal.invariant_of-result
invariant_of-result c = (
  [],
  rw (c.new.ensures.empty, c.new-2.ensures.empty, c.new-3.ensures.empty)
      (kept_of-empty c.args.line c.args.start),
)

pub returns : goal.returns
returns c =
    rw (c.new.ensures.empty, c.new-2.ensures.empty, c.new-3.ensures.empty)
    (kept_of-empty c.args.line c.args.start)
