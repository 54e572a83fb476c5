use Rattle.std.proofs.Common.{refl}
use Rattle.trace_files.proofs.Movings.{nothing_moved}
use Rattle.trace_files.proofs.mover.Mover.new.Goals as goal

pub returns : goal.returns
returns c = λ table outside.
    nothing_moved table _ outside refl refl refl (c.new.ensures.outputs outside)
