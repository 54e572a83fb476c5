use Rattle.std.proofs.Common.{◌≡◌, ◌+◌}
use Rattle.layout_sweep.proofs.pages.skip.Given as goal

abbrev pub invariant-loop : goal.invariant-loop
invariant-loop g l = l.steps ≡ l.fn.steps + l.counter
