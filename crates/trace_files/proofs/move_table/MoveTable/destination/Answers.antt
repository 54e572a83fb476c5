use Rattle.std.proofs.Common.{arith}
use Rattle.trace_files.proofs.Lookups.{fits_place, kept_word}
use Rattle.trace_files.proofs.TableRows.{rising_table}
use Rattle.trace_files.proofs.move_table.MoveTable.destination.Goals as goal

pub row_at-requires : goal.row_at-requires
row_at-requires c =
    rw c.deref.ensures.value (rising_table c.self.inside.rows.items c.self.invariant.table)

pub overflow_add-result : goal.overflow_add-result
overflow_add-result c =
    let small = fits_place c.self.inside.rows.items c.args.addr c.in-Some.row c.self.invariant.table
    (rw c.deref.ensures.value at c.in-Some.ensures.within) c.in-Some.ensures.holds in
    omega arith

pub returns-in-Some-clause-word : goal.returns-in-Some-clause-word
returns-in-Some-clause-word c =
    kept_word c.self.inside.rows.items c.args.addr c.in-Some.row c.self.invariant.table
    (rw c.deref.ensures.value at c.in-Some.ensures.within) c.in-Some.ensures.holds
