use Rattle.base.specs.Shapes.{CacheShape, is_shape}
use Rattle.command_line.proofs.ShapeLemmas.{there_if}
use Rattle.command_line.proofs.caches.shape_of.Goals as goal

pub returns : goal.returns
returns c =
    let k : CacheShape = record { size = c.args.size; sets = c.args.sets; ways = c.args.ways } in
    there_if (is_shape k) c.new.result k c.new.ensures
