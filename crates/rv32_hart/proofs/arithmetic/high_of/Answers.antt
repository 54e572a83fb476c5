use Rattle.rv32_hart.proofs.Products.{product_high}
use Rattle.rv32_hart.proofs.arithmetic.high_of.Goals as goal

pub returns : goal.returns
returns c = product_high c.args.a c.args.b _ _ _ c.ranges.a c.ranges.b c.from.ensures
    c.from-2.ensures c.cast_unsigned.ensures
