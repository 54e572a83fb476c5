use Rattle.std.proofs.Common.{refl}
use Rattle.std.proofs.lemmas.Result.{on_ok_weaker}
use Rattle.trace_format.specs.declared.record.TraceRecord.TheVariants as records
use Rattle.observations.proofs.NextLaws.{next_other}
use Rattle.observations.proofs.observations.Observations.note_alloc.Goals as goal

pub returns-clause-seen : goal.returns-clause-seen
returns-clause-seen c =
    rw (← c.self.view_is)
    (on_ok_weaker c.note_alloc.result
    (next_other c.self.inside.detector c.self.inside.objects c.note_alloc.new.self
    (records.Alloc c.args.addr c.args.size c.args.sites) refl refl)
    (rw c.position.ensures at c.note_alloc.ensures.noted))
