use Rattle.std.proofs.Common.{refl, ap, ◌∙◌, subst, sym}
use Rattle.std.specs.Prelude.{is_ok}
use Rattle.detector.specs.Entries.{Entries, entry_at}
use Rattle.detector.specs.Counts.{counts_of}
use Rattle.detector.specs.Index.{IsIndexed}
use Rattle.detector.proofs.AddLaws.{at_err, counting, written-indexed}
use Rattle.detector.proofs.CountLaws.{counts-written}
use Rattle.detector.proofs.adding.set_writes.Goals as goal

pub returns-in-Ok-clause-counts : goal.returns-in-Ok-clause-counts
returns-in-Ok-clause-counts g c =
    let change = (c.entry.follows.holds (counting c.in-Ok.entry.now c.args.writes)
    (ap is_ok c.in-Ok.is)).0 in
    ap counts_of change.whole
    ∙ counts-written (g.I.LineIndex.entries c.args.index.now) c.args.line c.args.writes
    (counting c.in-Ok.entry.now c.args.writes) refl
    c.requires.some

pub returns-in-Ok-clause-indexed : goal.returns-in-Ok-clause-indexed
returns-in-Ok-clause-indexed g c = λ grid xs T p few indexed.
    let change = (c.entry.follows.holds (counting c.in-Ok.entry.now c.args.writes)
    (ap is_ok c.in-Ok.is)).0 in
    written-indexed (entry_at (g.I.LineIndex.entries c.args.index.now))
    (entry_at _) grid xs T p c.args.line c.args.writes
    c.in-Ok.entry.now change.each c.in-Ok.ensures.value c.requires.fresh few indexed

pub returns-in-Err-clause-indexed : goal.returns-in-Err-clause-indexed
returns-in-Err-clause-indexed g c = λ grid xs T p few indexed.
    let same = at_err c.entry.result c.in-Err.refused _ c.in-Err.is c.entry.follows.holds-at-none in
    subst (λ (m : Entries). IsIndexed (entry_at m) grid xs T p) (sym same.0) indexed
