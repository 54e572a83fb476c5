use Rattle.std.proofs.lemmas.List.{replicate-append-replicate}
use Rattle.guest.specs.Configs.{unused}
use Rattle.guest.proofs.configuration.unused_harts.Goals as goal

pub loop-hart-preserved : goal.loop-hart-preserved
loop-hart-preserved c =
    rw (c.in-Ok.ensures.items, c.loop-hart.invariant, c.new.ensures)
    (replicate-append-replicate c.loop-hart._hart 1 unused)
