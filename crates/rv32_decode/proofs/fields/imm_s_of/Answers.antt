use Rattle.rv32_decode.proofs.Extended.{store}
use Rattle.rv32_decode.proofs.fields.imm_s_of.Goals as goal

pub returns : goal.returns
returns c = store c.args.word c.cast_signed.result c.ranges.word.fits c.cast_signed.ensures
