use Rattle.std.proofs.Common.{◌≡◌, replicate}
use Rattle.guest.specs.Configs.{unused}
use Rattle.guest.proofs.configuration.unused_harts.Given as goal

abbrev pub invariant-loop-hart : goal.invariant-loop-hart
invariant-loop-hart l = l.states.items ≡ replicate l._hart unused
