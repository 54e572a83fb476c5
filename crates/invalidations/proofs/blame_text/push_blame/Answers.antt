use Rattle.std.proofs.Common.{length, string_bytes}
use Rattle.std.specs.Prelude.{flat_map}
use Rattle.invalidations.specs.BlameRows.{gathered_at, with_rows}
use Rattle.invalidations.specs.BlameText.{blame_ends, blame_heads, lines_of_line}
use Rattle.invalidations.proofs.BlameLaws.{three_pieces}
use Rattle.invalidations.proofs.blame_text.push_blame.Goals as goal

pub returns : goal.returns
returns c =
    let k = c.args.blame.now in
    rw (← three_pieces (string_bytes c.args.text.now)
    (blame_heads k.grid k.position c.args.whole (length c.args.heads.now))
    (flat_map (λ h. lines_of_line (with_rows (gathered_at c.args.pairs.now.entries)
    (gathered_at c.args.harts.now.entries) h)) c.args.heads.now) (blame_ends k.total))
    (rw (
      c.in_ok-push_lines.ensures,
      c.in_ok-push_heads.ensures,
      c.total.ensures.kept,
      c.position.ensures.kept,
      c.layout.ensures,
    ) at c.in_ok-push_ends.ensures)
