use Rattle.std.proofs.Common.{◌∙◌}
use Rattle.rv32_decode.proofs.Found.{op_is}
use Rattle.rv32_decode.proofs.decoder.op_of.Goals as goal

pub returns : goal.returns
returns c = op_is _ _ _ _ _ c.requires (c.in_ok-op.ensures.found.0 ∙ c.funct3_of.ensures)
    (c.in_ok-op.ensures.found.1 ∙ c.funct7_of.ensures)
    c.rd_of.ensures c.rs1_of.ensures c.rs2_of.ensures
