use Rattle.std.proofs.Common.{refl}
use Rattle.trace_format.specs.declared.record.TraceRecord.TheVariants as records
use Rattle.observations.proofs.NextLaws.{next_other}
use Rattle.observations.proofs.observations.Observations.note_free.Goals as goal

pub returns-clause-seen : goal.returns-clause-seen
returns-clause-seen c =
    rw (← c.self.view_is)
    (next_other c.self.inside.detector c.self.inside.objects c.note_free.new.self
    (records.Free c.args.addr) refl refl (rw c.position.ensures at c.note_free.ensures))
