use Rattle.std.proofs.Common.{string_bytes}
use Rattle.report.specs.Reports.{outcome_lines}
use Rattle.invalidations.proofs.TextLaws.{head_pieces}
use Rattle.invalidations.specs.Text.{counted_line}
use Rattle.invalidations.proofs.text.push_head.Goals as goal

pub returns : goal.returns
returns c =
    let k = c.args.explainer.now in
    rw (← head_pieces (string_bytes c.args.text.now) (outcome_lines c.args.ending.now)
    (counted_line k.line k.start k.count))
    (rw (c.in_ok-push_outcome_lines.ensures, c.in_ok-push_title.ensures) at
    c.push_counted_line.ensures)
