use Rattle.std.proofs.Common.{arith}
use Rattle.std.proofs.lemmas.Int.{to_z-of_z}
use Rattle.rv32_hart.proofs.one_step.act.Goals as goal

pub returns-in-Branch : goal.returns-in-Branch
returns-in-Branch c =
    grind (arith, to_z-of_z, c.branch-instr.ensures c.args.memory.now c.args.held.now)

pub returns-in-Load : goal.returns-in-Load
returns-in-Load c = grind (arith, to_z-of_z, c.load.ensures c.args.held.now)
