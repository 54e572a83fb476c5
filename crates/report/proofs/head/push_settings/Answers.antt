use Rattle.std.proofs.Common.{append_assoc, append-nil}
use Rattle.report.proofs.head.push_settings.Goals as goal

pub returns : goal.returns
returns c =
    simp (append_assoc, append-nil)
    (simp append_assoc at (rw (
      c.in_ok-push_thresholds.ensures,
      c.in_ok-push_layout.ensures,
    ) at c.writeln.ensures.bytes))
