use Rattle.std.proofs.Common.{rules}
use Rattle.rv32_decode.proofs.Found.{load_is}
use Rattle.rv32_decode.proofs.Signs.{passed_on}
use Rattle.rv32_decode.proofs.decoder.load_by.Goals as goal

pub returns : goal.returns
returns c = load_is _ _ _ _ _ c.requires.opcode c.requires.code c.rd_of.ensures c.rs1_of.ensures
    (passed_on _ _ (search rules) c.imm_i_of.ensures)
