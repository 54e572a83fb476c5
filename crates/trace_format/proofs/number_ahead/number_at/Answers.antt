use Rattle.trace_format.specs.Ahead.{HasNumber}
use Rattle.trace_format.proofs.Groups.{number_from}
use Rattle.trace_format.proofs.number_ahead.number_at.Goals as goal

pub returns-in-Some-clause-stated : goal.returns-in-Some-clause-stated
returns-in-Some-clause-stated c =
    let stated = c.in-Some.field-0 in
    let has : HasNumber c.behind.result.now stated.number stated.end = c.in-Some.ensures in
    number_from c.args.bytes.now c.behind.result.now c.args.place stated.number stated.end
    c.behind.ensures.value c.behind.ensures.size has
