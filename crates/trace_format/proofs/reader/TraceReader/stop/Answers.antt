use Rattle.std.proofs.Common.{ap, arith, length, []}
use Rattle.trace_format.specs.Laws.Extents.{extent_is_some}
use Rattle.trace_format.proofs.reader.TraceReader.stop.Goals as goal

pub invariant_of-self : goal.invariant_of-self
invariant_of-self c = (
  c.self.invariant.0,
  omega (arith, c.self.invariant.1, ap length c.clear.ensures.items),
  rw c.clear.ensures.items (omega (
    arith,
    extent_is_some c.self.inside.state.progress
        c.self.inside.state.ending [],
  )),
)
