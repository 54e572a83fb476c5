use Rattle.std.proofs.Common.{sym, ◌∙◌}
use Rattle.trace_files.proofs.TableLines.{empty_adds, row_rules}
use Rattle.trace_files.proofs.move_table.read_line.Goals as goal

pub returns-then-is_empty-clause-added : goal.returns-then-is_empty-clause-added
returns-then-is_empty-clause-added c =
    empty_adds c.args.rows.now.items c.args.line.now (sym c.is_empty.ensures ∙ c.if-is_empty.true)

pub add_row-requires-clause-rules : goal.add_row-requires-clause-rules
add_row-requires-clause-rules c =
    row_rules c.args.line.now c.in-Some.row (sym c.in-Some.is ∙ c.row_of.ensures)
