use Rattle.rv32_hart.proofs.KeptInstrs.{keeps_read}
use Rattle.rv32_hart.proofs.kept.keep.Goals as goal

pub returns-in-Some-clause-keeping : goal.returns-in-Some-clause-keeping
returns-in-Some-clause-keeping c =
    keeps_read _ c.args.kept.now c.slot_of.result c.args.pc c.in-Ok.word c.in-Some.instr
    c.requires.keeping c.slot_of.ensures.place c.slot_of.ensures.below c.in-Ok.ensures
    c.in-Some.ensures.row
