use Rattle.std.proofs.Common.{string_bytes}
use Rattle.misses.specs.Texts.{total_line}
use Rattle.base.specs.Laws.TextLines.{ended_by}
use Rattle.misses.proofs.text.push_ends.Goals as goal

pub returns : goal.returns
returns c =
    rw (← ended_by (string_bytes c.args.text.now) (total_line c.args.total))
    (rw c.in_ok-push_total.ensures at c.push_end.ensures)
