use Rattle.std.proofs.Common.{[]}
use Rattle.std.proofs.lemmas.List.{replicate-append-replicate}
use Rattle.guest.proofs.configuration.no_calls.Goals as goal

pub loop-hart-preserved : goal.loop-hart-preserved
loop-hart-preserved c =
    rw (c.in-Ok-push.ensures.items, c.loop-hart.invariant, c.in-Ok.ensures)
    (replicate-append-replicate c.loop-hart._hart 1 [])
