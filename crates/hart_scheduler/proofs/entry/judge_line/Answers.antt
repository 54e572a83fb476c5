use Rattle.std.proofs.Common.{sym, ◌∙◌}
use Rattle.hart_scheduler.proofs.Reading.{empty_line}
use Rattle.hart_scheduler.proofs.entry.judge_line.Goals as goal

pub returns-then-is_empty-clause-good : goal.returns-then-is_empty-clause-good
returns-then-is_empty-clause-good c = empty_line c.args.harts c.args.number c.args.line.now
    (sym c.is_empty.ensures ∙ c.if-is_empty.true)
