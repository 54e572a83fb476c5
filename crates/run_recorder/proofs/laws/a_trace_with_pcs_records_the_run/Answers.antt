use Rattle.std.proofs.Common.{refl}
use Rattle.trace_format.specs.declared.record.Version.TheVariants.{Three}
use Rattle.trace_passes.specs.Laws.Spelled.{trace-spelled}
use Rattle.trace_passes.specs.Passes.{spell_trace}
use Rattle.run_recorder.specs.Laws.{run-stated}
use Rattle.run_recorder.specs.Recorded.{trace_for}
use Rattle.run_recorder.proofs.Kept.{untouched}
use Rattle.run_recorder.proofs.laws.a_trace_with_pcs_records_the_run.Goals as goal

pub returns : goal.returns
returns c = λ harts symbols r stated good.
    let t = trace_for Three harts symbols r in
    let read = trace-spelled (spell_trace t) t.version t.header t.items t.ending
    (record { good = good; spelled = refl }) in
    (t, read, run-stated harts symbols r (untouched symbols stated))
