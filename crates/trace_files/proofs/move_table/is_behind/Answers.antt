use Rattle.std.proofs.Common.{arith, sym, ◌≡◌, ◌∙◌, length, ◌<◌, ◌+◌, ◌-◌}
use Rattle.std.specs.Prelude.{nat_le, slice_index_or}
use Rattle.std.proofs.lemmas.Bool.Decides.{nat_tests}
use Rattle.trace_files.specs.declared.move_row.Move.{Move}
use Rattle.trace_files.proofs.Ranges.{behind_all}
use Rattle.trace_files.proofs.move_table.is_behind.Goals as goal

pub returns-then-row-last : goal.returns-then-row-last
returns-then-row-last c =
    let none : Move = record { from = 0; size = 0; to = 0 } in
    let rows = c.args.rows.now in
    let some : 0 < length rows = grind (arith, nat_tests) in
    let value : nat_le (slice_index_or rows (length rows - 1) none).size c.from.result
    ≡ nat_le ((slice_index_or rows (length rows - 1) none).from
    + (slice_index_or rows (length rows - 1) none).size) c.args.row.now.from =
    grind (arith, nat_tests) in
    value ∙ sym (behind_all rows c.args.row.now.from none c.requires some)
