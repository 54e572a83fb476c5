use Rattle.std.proofs.Common.{◌≡◌, [], replicate}
use Rattle.guest.proofs.configuration.no_calls.Given as goal

abbrev pub invariant-loop-hart : goal.invariant-loop-hart
invariant-loop-hart l = l.calls.items ≡ replicate l._hart []
