use Rattle.std.proofs.Common.{refl}
use Rattle.trace_format.specs.declared.record.TraceRecord.TheVariants as records
use Rattle.observations.proofs.NextLaws.{next_other}
use Rattle.observations.proofs.observations.Observations.note.Goals as goal

pub returns-in-End-clause-seen : goal.returns-in-End-clause-seen
returns-in-End-clause-seen c =
    let now = c.args.self.now in
    rw c.in-End.is
    (next_other now.watch now.objects now.objects (records.End c.in-End.field-0) refl refl refl)

pub returns-in-Touch-clause-noted : goal.returns-in-Touch-clause-noted
returns-in-Touch-clause-noted c =
    rw c.in-Touch.is (c.note_access.ensures.noted c.in-Touch.field-1)

pub returns-in-Touch-clause-known : goal.returns-in-Touch-clause-known
returns-in-Touch-clause-known c =
    rw c.in-Touch.is (c.note_access.ensures.known c.in-Touch.field-1)
