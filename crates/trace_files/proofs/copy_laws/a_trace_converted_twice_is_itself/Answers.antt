use Rattle.std.proofs.Common.{◌∙◌, length, refl, sym, ap, arith}
use Rattle.trace_format.specs.Spelling.{spell}
use Rattle.trace_passes.specs.Passes.{spell_trace}
use Rattle.trace_passes.specs.Laws.Spelled.{trace-spelled}
use Rattle.trace_files.specs.Copies.{converted, other_items, other_version}
use Rattle.trace_files.proofs.Others.{items_twice, other_ending, other_good, other_inner, other_regions, other_touches}
use Rattle.trace_files.proofs.Others.{twice}
use Rattle.trace_files.proofs.copy_laws.a_trace_converted_twice_is_itself.Goals as goal

pub returns-clause-trace : goal.returns-clause-trace
returns-clause-trace c = λ bytes t small is short.
    let good = (c.a_trace_is_its_spelling.ensures bytes t small is).good in
    let items = other_items t.version t.items in
    let same = ap length (other_touches t.version t.items) in
    trace-spelled (spell_trace (converted t)) (other_version t.version) t.header items t.ending
    (record {
      good = record {
        header = good.header;
        regions = other_regions t.version t.header good.regions;
        records = other_good t.version t.header.harts t.items good.records;
        inner = other_inner t.version t.items good.inner;
        ending = other_ending t.version t.header.harts t.ending good.ending;
        positions = omega (arith, same, good.positions);
        counted = good.counted ∙ sym same;
        short = short;
      };
      spelled = refl;
    })

pub returns-clause-accesses : goal.returns-clause-accesses
returns-clause-accesses c = λ t. other_touches t.version t.items

pub returns-clause-itself : goal.returns-clause-itself
returns-clause-itself c = λ bytes t small is two.
    (λ i. spell (twice t.version two i) t.header (items_twice t.version t.items two i) t.ending)
    ∙ sym (c.a_trace_is_its_spelling.ensures bytes t small is).spelled
