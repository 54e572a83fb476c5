use Rattle.std.proofs.Common.{ap, ◌∙◌}
use Rattle.std.specs.Prelude.{is_ok}
use Rattle.detector.proofs.CountLaws.{left-alone}
use Rattle.detector.proofs.task.reserve.Goals as goal

pub returns-in-Ok-clause-same : goal.returns-in-Ok-clause-same
returns-in-Ok-clause-same g c =
    let change = (c.entry.follows.holds c.leave.new._entry (ap is_ok c.in-Ok.is)).0 in
    left-alone (g.I.LineIndex.entries c.args.index.now) _ c.args.line c.leave.new._entry
    (g.met.I.LineIndex.only_entries c.args.index.now)
    change.whole (c.leave.ensures ∙ c.in-Ok.ensures.value)
