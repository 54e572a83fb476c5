use Rattle.std.proofs.Common.{string_bytes}
use Rattle.std.specs.Fmt.{decimal}
use Rattle.invalidations.proofs.BlameLaws.{ended_by}
use Rattle.invalidations.proofs.blame_text.push_ends.Goals as goal

pub returns : goal.returns
returns c =
    rw (← ended_by (string_bytes c.args.text.now) (decimal c.args.total))
    (rw c.in_ok-push_total.ensures at c.push_end.ensures)
