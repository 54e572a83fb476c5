use Rattle.rv32_decode.proofs.Extended.{branch}
use Rattle.rv32_decode.proofs.fields.imm_b_of.Goals as goal

pub returns : goal.returns
returns c = branch c.args.word c.cast_signed.result c.ranges.word.fits c.cast_signed.ensures
