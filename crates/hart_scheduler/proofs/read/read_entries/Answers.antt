use Rattle.std.proofs.Common.{arith, ◌<◌, ◌++◌, List, length, sym, ◌∙◌, ap, append-nil}
use Rattle.std.proofs.lemmas.Bool.Decides.{nat_tests}
use Rattle.std.specs.Prelude.{slice_get}
use Rattle.hart_scheduler.specs.ScheduleParts.{ListEntry}
use Rattle.hart_scheduler.specs.declared.fault.ScheduleFault.{ScheduleFault}
use Rattle.hart_scheduler.specs.Texts.{entries_of}
use Rattle.hart_scheduler.proofs.Reading.{faults_on, faults_here, entries_on, entries_none}
use Rattle.hart_scheduler.proofs.Reading.{shorter_after, unless_memory}
use Rattle.hart_scheduler.proofs.read.read_entries.Goals as goal

pub returns-in-Err-clause-bad : goal.returns-in-Err-clause-bad
returns-in-Err-clause-bad c =
    unless_memory c.in-Err.fault
    (λ bad. ap (λ (faults : List ScheduleFault). slice_get faults 0) c.loop-rest.invariant.faults
    ∙ faults_here c.args.harts c.loop-rest.number c.loop-rest.rest.now c.cut_at.result.0.now
    c.in-Err.fault c.cut_at.ensures.front bad)
    c.in-Err.ensures.bad

pub loop-rest-preserved : goal.loop-rest-preserved
loop-rest-preserved c =
    let rest = c.loop-rest.rest.now in
    let line = c.cut_at.result.0.now in
    let after = c.cut_at.result.1.now in
    let some : 0 < length rest = grind (arith, nat_tests) in
    let shorter : length after < length rest = shorter_after rest after c.cut_at.ensures.back
    some in
    record {
      faults = c.loop-rest.invariant.faults ∙ faults_on c.args.harts c.loop-rest.number rest line
          after c.cut_at.ensures.front
          c.cut_at.ensures.back c.in-Ok.ensures.good;
      entries =
          c.loop-rest.invariant.entries ∙ entries_on rest line after c.loop-rest.entries.items
          c.cut_at.ensures.front c.cut_at.ensures.back
          ∙ ap (λ (front : List ListEntry). front ++ entries_of after) (sym c.in-Ok.ensures.added);
      room = omega arith;
    }

pub returns-clause-read : goal.returns-clause-read
returns-clause-read c =
    let items = c.loop-rest.entries.items in
    sym (c.loop-rest.invariant.entries
    ∙ ap (λ (back : List ListEntry). items ++ back)
    (entries_none c.loop-rest.rest.now (sym c.is_empty.ensures ∙ c.loop-rest-test.false))
    ∙ append-nil items)
