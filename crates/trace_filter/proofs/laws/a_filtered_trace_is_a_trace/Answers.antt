use Rattle.std.proofs.Common.{refl, subst}
use Rattle.trace_format.specs.declared.record.Version.{Version}
use Rattle.trace_format.specs.Rules.{IsGoodTrace}
use Rattle.trace_passes.specs.Laws.Spelled.{trace-spelled}
use Rattle.trace_passes.specs.Passes.{spell_trace}
use Rattle.trace_filter.specs.Filtering.{filtered_trace}
use Rattle.trace_filter.proofs.GoodTraces.{good_filtered}
use Rattle.trace_filter.proofs.laws.a_filtered_trace_is_a_trace.Goals as goal

pub returns : goal.returns
returns c = λ k bytes t low high small is three short.
    let good = (c.a_trace_is_its_spelling.ensures bytes t small is).good in
    let kept = filtered_trace k t in
    trace-spelled (spell_trace kept) kept.version kept.header kept.items kept.ending
    (record {
      good = good_filtered k t low high
          (subst (λ (v : Version). IsGoodTrace v t.header t.items t.ending) three good) short;
      spelled = refl;
    })
