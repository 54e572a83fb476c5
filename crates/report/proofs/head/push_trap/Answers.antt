use Rattle.std.proofs.Common.{append_assoc}
use Rattle.report.proofs.head.push_trap.Goals as goal

pub returns : goal.returns
returns c =
    simp append_assoc
    (simp append_assoc at (rw (
      c.in_ok-push_address.ensures,
      c.from.ensures,
      c.in_ok-write.ensures.bytes,
      c.number-number.ensures.value,
      c.cause_name-name.ensures,
    ) at c.writeln.ensures.bytes))
