use Rattle.std.proofs.Common.{arith}
use Rattle.std.proofs.lemmas.Int.{to_z-of_z}
use Rattle.rv32_hart.proofs.effects.load.Goals as goal

pub returns-in-Lb : goal.returns-in-Lb
returns-in-Lb c = λ h. grind (arith, to_z-of_z, c.in-Lb.is, c.load_as.ensures h)

pub returns-in-Lh : goal.returns-in-Lh
returns-in-Lh c = λ h. grind (arith, to_z-of_z, c.in-Lh.is, c.load_as-in-Lh.ensures h)

pub returns-in-Lw : goal.returns-in-Lw
returns-in-Lw c = λ h. grind (arith, to_z-of_z, c.in-Lw.is, c.load_as-in-Lw.ensures h)

pub returns-in-Lbu : goal.returns-in-Lbu
returns-in-Lbu c = λ h. grind (arith, to_z-of_z, c.in-Lbu.is, c.load_as-in-Lbu.ensures h)

pub returns-in-Lhu : goal.returns-in-Lhu
returns-in-Lhu c = λ h. grind (arith, to_z-of_z, c.in-Lhu.is, c.load_as-in-Lhu.ensures h)
