use Rattle.std.proofs.Common.{string_bytes, length, map}
use Rattle.base.specs.Laws.TextLines.{in_three}
use Rattle.finite_cache.specs.Texts.{end_lines, head_lines, row_line}
use Rattle.finite_cache.proofs.text.push_caches.Goals as goal

pub returns : goal.returns
returns c =
    let k = c.args.caches.now in
    rw (← in_three (string_bytes c.args.text.now)
    (head_lines k.shape k.position (length c.args.rows.now))
    (map row_line c.args.rows.now) (end_lines c.args.total))
    (rw (
      c.in_ok-push_rows.ensures,
      c.in_ok-push_heads.ensures,
      c.position.ensures.kept,
      c.shape.ensures,
    ) at c.push_ends.ensures)
