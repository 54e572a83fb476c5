use Rattle.std.proofs.Common.{string_bytes}
use Rattle.invalidations.specs.BlameText.{count_lines}
use Rattle.invalidations.proofs.BlameLaws.{headed_by}
use Rattle.invalidations.proofs.blame_text.push_heads.Goals as goal

pub returns : goal.returns
returns c =
    rw (← headed_by (string_bytes c.args.text.now)
    (count_lines c.args.layout c.args.accesses c.args.whole c.args.lines))
    (rw c.in_ok-push_title.ensures at c.push_counts.ensures)
