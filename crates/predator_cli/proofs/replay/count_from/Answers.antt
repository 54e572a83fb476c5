use Rattle.std.proofs.lemmas.Result.{IfOk-weaker}
use Rattle.predator_cli.proofs.replay.count_from.Goals as goal

pub returns-in-None-clause-counted : goal.returns-in-None-clause-counted
returns-in-None-clause-counted g c =
    rw c.in-None.is (c.count_whole.ensures.counted c.args.layout c.args.thresholds
    c.new-observations.ensures.blank)

pub returns-in-Some-clause-counted : goal.returns-in-Some-clause-counted
returns-in-Some-clause-counted g c =
    rw (c.in-Some.is, c.in-Some.field-0-is) (IfOk-weaker c.count_on.result _ _
    (λ counted so. so c.args.layout c.args.thresholds) c.count_on.ensures.counted)

pub returns-in-Some-clause-accepted : goal.returns-in-Some-clause-accepted
returns-in-Some-clause-accepted g c = rw (c.in-Some.is, c.in-Some.field-0-is)
    c.count_on.ensures.accepted

pub returns-in-Some-clause-stopped : goal.returns-in-Some-clause-stopped
returns-in-Some-clause-stopped g c = rw (c.in-Some.is, c.in-Some.field-0-is)
    c.count_on.ensures.stopped
