use Rattle.std.proofs.Common.{append_assoc, string_bytes}
use Rattle.report.proofs.TextLaws.{block_pieces}
use Rattle.report.proofs.object_lines.push_block.Goals as goal

pub returns : goal.returns
returns c =
    rw (← block_pieces c.args.block.now (string_bytes c.args.text.now))
    (simp append_assoc
    (simp append_assoc at (rw (
      c.in_ok-write.ensures.bytes,
      c.in_ok-push_address.ensures,
      c.from.ensures,
      c.in_ok-push_str.ensures.bytes,
    ) at c.push_death.ensures)))
