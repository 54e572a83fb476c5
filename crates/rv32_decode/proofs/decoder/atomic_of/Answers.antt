use Rattle.std.proofs.Common.{arith, ◌∙◌}
use Rattle.rv32_decode.proofs.Found.{amo_is}
use Rattle.rv32_decode.proofs.decoder.atomic_of.Goals as goal

pub returns-in_ok-op-in_default : goal.returns-in_ok-op-in_default
returns-in_ok-op-in_default c = amo_is _ _ _ _ _ _ c.requires (omega arith)
    (c.in_ok-op-in_default.ensures.found ∙ c.funct5_of.ensures)
    c.rd_of-rd.ensures c.rs1_of-rs1.ensures c.rs2_of-rs2.ensures c.order_of-order.ensures
