use Rattle.std.proofs.Common.{refl}
use Rattle.std.proofs.lemmas.Result.{on_ok_weaker}
use Rattle.trace_format.specs.declared.record.TraceRecord.TheVariants as records
use Rattle.observations.proofs.NextLaws.{next_other}
use Rattle.observations.proofs.observations.Observations.note_symbol.Goals as goal

pub returns-clause-seen : goal.returns-clause-seen
returns-clause-seen c =
    rw (← c.self.view_is)
    (on_ok_weaker c.note_symbol.result
    (next_other c.self.inside.detector c.self.inside.objects c.note_symbol.new.self
    (records.Symbol c.args.kind c.args.addr c.args.size c.args.name.now) refl refl)
    c.note_symbol.ensures.noted)
