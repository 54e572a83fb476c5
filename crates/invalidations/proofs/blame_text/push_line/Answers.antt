use Rattle.std.proofs.Common.{length, string_bytes}
use Rattle.invalidations.specs.BlameRows.{numbers}
use Rattle.invalidations.specs.Text.{hart_lines, pair_lines}
use Rattle.invalidations.proofs.BlameLaws.{line_pieces}
use Rattle.invalidations.proofs.blame_text.push_line.Goals as goal

pub returns : goal.returns
returns c =
    rw (← line_pieces (string_bytes c.args.text.now)
    (numbers c.args.head.now (length c.args.pairs.now) (length c.args.harts.now))
    (pair_lines c.args.pairs.now) (hart_lines c.args.harts.now))
    (rw (c.in_ok-push_pairs_in_order.ensures, c.in_ok-push_numbers.ensures) at
    c.push_harts_in_order.ensures)
