use Rattle.std.proofs.Common.{◌∙◌, ◌+◌, Err, ap, drop, sym}
use Rattle.objects.specs.Objects.{Objects}
use Rattle.base.specs.declared.faults.ResumeFault.{ResumeFault}
use Rattle.saved_state.specs.ObjectJudging.{block_in, blocks_at, blocks_read}
use Rattle.saved_state.specs.ObjectSpelling.{spell_block}
use Rattle.saved_state.proofs.BlockUnits.{length-block}
use Rattle.saved_state.proofs.LoopLaws.{next_unit, no_unit}
use Rattle.saved_state.proofs.block_units.next_block.Goals as goal

pub returns-in-None-clause-refused : goal.returns-in-None-clause-refused
returns-in-None-clause-refused c = λ more memory.
    no_unit (block_in c.args.position) spell_block
    (blocks_at c.args.table.now c.args.rest.place c.args.rest.bytes.now) more
    (sym c.in-None.ensures.value) ∙ ap (λ (f : ResumeFault). Err f) (sym c.fault_at.ensures)

pub returns-in-Ok-clause-read : goal.returns-in-Ok-clause-read
returns-in-Ok-clause-read c = λ more.
    let position = c.args.position in
    let rest = c.args.rest in
    let is = sym c.in-Some.ensures.value in
    next_unit (block_in position) spell_block
    (blocks_at c.args.table.now rest.place rest.bytes.now) c.in-Some.block 41 more is
    (length-block position c.args.table.now.blocks rest.bytes.now
    c.in-Some.block is)
    ∙ ap (λ (o : Objects). blocks_read position more o (rest.place + 41)
    (drop 41 rest.bytes.now)) (sym c.in-Ok.ensures.noted)
