use Rattle.std.proofs.Common.{rules}
use Rattle.rv32_decode.proofs.Found.{store_is}
use Rattle.rv32_decode.proofs.Signs.{passed_on}
use Rattle.rv32_decode.proofs.decoder.store_by.Goals as goal

pub returns : goal.returns
returns c = store_is _ _ _ _ _ c.requires.opcode c.requires.code c.rs1_of.ensures c.rs2_of.ensures
    (passed_on _ _ (search rules) c.imm_s_of.ensures)
