use Rattle.std.proofs.Common.{arith, sym}
use Rattle.trace_files.proofs.Ranges.{last_holds, none_begun, none_holds}
use Rattle.trace_files.proofs.move_table.row_at.Goals as goal

pub returns-then-begun-eq0-clause-value : goal.returns-then-begun-eq0-clause-value
returns-then-begun-eq0-clause-value c =
    sym (none_begun c.args.rows.now c.args.addr c.begun_at-begun.result
    (record { from = 0; size = 0; to = 0 }) c.requires c.begun_at-begun.ensures.bound
    c.begun_at-begun.ensures.below c.begun_at-begun.ensures.above c.if-begun-eq0.true)

pub returns-then-from-row-clause-value : goal.returns-then-from-row-clause-value
returns-then-from-row-clause-value c =
    sym (last_holds c.args.rows.now c.args.addr c.begun_at-begun.result
    (record { from = 0; size = 0; to = 0 }) c.requires c.begun_at-begun.ensures.bound
    c.begun_at-begun.ensures.below c.begun_at-begun.ensures.above c.if-begun-eq0.false
    (omega (arith, c.if-from-row.true)))

pub returns-else-from-row-clause-value : goal.returns-else-from-row-clause-value
returns-else-from-row-clause-value c =
    sym (none_holds c.args.rows.now c.args.addr c.begun_at-begun.result
    (record { from = 0; size = 0; to = 0 }) c.requires c.begun_at-begun.ensures.bound
    c.begun_at-begun.ensures.below c.begun_at-begun.ensures.above c.if-begun-eq0.false
    (omega (arith, c.if-from-row.false)))
