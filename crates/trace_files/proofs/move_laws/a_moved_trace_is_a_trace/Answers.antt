use Rattle.std.proofs.Common.{◌∙◌, length, refl, sym, ap, arith}
use Rattle.std.proofs.lemmas.List.{length-map}
use Rattle.trace_format.specs.Rules.{touches_in}
use Rattle.trace_passes.specs.Passes.{spell_trace}
use Rattle.trace_passes.specs.Laws.Spelled.{trace-spelled}
use Rattle.trace_files.specs.Moves.{moved_in}
use Rattle.trace_files.specs.Moving.{moved, moved_items, narrowed}
use Rattle.trace_files.proofs.MovedTraces.{all_good_moved, all_inner_moved, free_unrefused}
use Rattle.trace_files.proofs.MovedTraces.{moved_touches, narrowed_regions, unrefused_found}
use Rattle.trace_files.proofs.MovedTraces.{unrefused_free, unrefused_near, unrefused_whole}
use Rattle.trace_files.proofs.move_laws.a_moved_trace_is_a_trace.Goals as goal

pub returns-clause-accepted : goal.returns-clause-accepted
returns-clause-accepted c = free_unrefused

pub returns-clause-free : goal.returns-clause-free
returns-clause-free c = unrefused_free

pub returns-clause-near : goal.returns-clause-near
returns-clause-near c = unrefused_near

pub returns-clause-found : goal.returns-clause-found
returns-clause-found c = unrefused_found

pub returns-clause-whole : goal.returns-clause-whole
returns-clause-whole c = unrefused_whole

pub returns-clause-trace : goal.returns-clause-trace
returns-clause-trace c = λ table bytes t table_is small is short.
    let good = (c.a_trace_is_its_spelling.ensures bytes t small is).good in
    let items = moved_items table t.items in
    let same = ap length (moved_touches table t.items)
    ∙ length-map (touches_in t.items) (moved_in table) in
    trace-spelled (spell_trace (moved table t)) t.version (narrowed t.header) items t.ending
    (record {
      good = record {
        header = record {
          position = good.header.position;
          some = good.header.some;
          few = good.header.few;
        };
        regions = narrowed_regions t.version t.header good.regions;
        records = all_good_moved table table_is t.version t.header.harts t.items good.records;
        inner = all_inner_moved table t.items good.inner;
        ending = good.ending;
        positions = omega (arith, same, good.positions);
        counted = good.counted ∙ sym same;
        short = short;
      };
      spelled = refl;
    })

pub returns-clause-regions : goal.returns-clause-regions
returns-clause-regions c = λ bytes t small is.
    (c.a_trace_is_its_spelling.ensures bytes t small is).good.regions

pub returns-clause-accesses : goal.returns-clause-accesses
returns-clause-accesses c = λ table t. moved_touches table t.items
