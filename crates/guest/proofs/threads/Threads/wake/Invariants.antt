use Rattle.guest.proofs.WokenHarts.{WakesBelow}
use Rattle.guest.proofs.threads.Threads.wake.Given as goal

abbrev pub invariant-loop-place : goal.invariant-loop-place
invariant-loop-place l = WakesBelow l.initial.self l.self l.addr l.most l.place l.count
