use Rattle.std.proofs.Common.{string_bytes, length}
use Rattle.std.specs.List.{flat_map}
use Rattle.misses.specs.Texts.{miss_ends, miss_heads, miss_lines}
use Rattle.base.specs.Laws.TextLines.{in_three}
use Rattle.misses.proofs.text.push_misses.Goals as goal

pub returns : goal.returns
returns c =
    let k = c.args.misses.now in
    rw (← in_three (string_bytes c.args.text.now)
    (miss_heads k.grid k.position c.args.whole (length c.args.rows.now))
    (flat_map (miss_lines c.args.index.now k.position) c.args.rows.now)
    (miss_ends c.args.total))
    (rw (
      c.in_ok-push_rows.ensures,
      c.in_ok-push_heads.ensures,
      c.position-accesses.ensures,
      c.layout.ensures,
    ) at c.push_ends.ensures)
