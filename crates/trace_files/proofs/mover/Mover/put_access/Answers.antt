use Rattle.std.proofs.Common.{◌≡◌, ◌∙◌, ◌+◌, ℕ, List, OnOk, Some, ap, refl, subst}
use Rattle.std.proofs.lemmas.Result.{IfErr-weaker}
use Rattle.std.specs.Prelude.{is_some}
use Rattle.base.specs.Touch.{Touch}
use Rattle.shelf.specs.Shelf.{Outside}
use Rattle.shelf.specs.Files.{AreCut, Output}
use Rattle.shelf.specs.OnTheirWay.{IsOutputs, outputs_with}
use Rattle.trace_format.specs.declared.record.TraceRecord.TheVariants as records
use Rattle.trace_format.specs.Spelling.{before_after, spell_record}
use Rattle.trace_files.specs.Moving.{moved_so_far}
use Rattle.trace_files.proofs.Movings.{begun_there, both_ok, has_put, may_count, one_counted}
use Rattle.trace_files.proofs.Movings.{put_on}
use Rattle.trace_files.proofs.mover.Mover.put_access.Goals as goal

pub counted-self-requires : goal.counted-self-requires
counted-self-requires g c =
    may_count c.args.table.now c.args.self.now (records.Touch c.args.access.now c.args.pc)
    (g.S.Shelf.outside c.args.shelf.now) c.requires.way

pub put_record-requires-clause-begun : goal.put_record-requires-clause-begun
put_record-requires-clause-begun g c =
    let way = c.requires.way in
    begun_there c.args.table.now way.name c.args.self.now way.head way.seen way.before
    (g.S.Shelf.outside c.args.shelf.now) way.has

pub returns-clause-moved : goal.returns-clause-moved
returns-clause-moved g c =
    let t = c.args.table.now in
    let m = c.args.self.now in
    let a = c.args.access.now in
    let pc = c.args.pc in
    let old = g.S.Shelf.outside c.args.shelf.now in
    let new = g.S.Shelf.outside c.put_record.new.shelf in
    let count = c.counted-self.ensures
    ∙ ap (λ (k : ℕ). m.moved + k)
    (one_counted t a pc c.moved_access-access.result.1 c.moved_access-access.ensures.moved) in
    both_ok c.put_record.result
    (λ next outputs head seen before has.
    has_put t m.name.now m head seen before old has (records.Touch a pc) _ new
    (ap is_some c.requires.free) refl refl refl count next
    (outputs (moved_so_far t m.name.now (Some head) seen) before has.outputs))
    (subst (λ (b : Touch). OnOk c.put_record.result (c.put_record.new.writer
    ≡ record m.writer { before = before_after m.writer.before (records.Touch b pc) }))
    c.moved_access-access.ensures.access c.put_record.ensures.next)
    (subst (λ (b : Touch). OnOk c.put_record.result ((outputs : List Output) (before : Outside)
    → IsOutputs m.files outputs before old
    → IsOutputs c.put_record.new.self
    (outputs_with outputs 0 (spell_record m.writer.version m.writer.before (records.Touch b pc)))
    before new))
    c.moved_access-access.ensures.access c.put_record.ensures.outputs)

pub returns-clause-cut : goal.returns-clause-cut
returns-clause-cut g c =
    let t = c.args.table.now in
    let m = c.args.self.now in
    let a = c.args.access.now in
    let pc = c.args.pc in
    let old = g.S.Shelf.outside c.args.shelf.now in
    let new = g.S.Shelf.outside c.put_record.new.shelf in
    IfErr-weaker c.put_record.result _ _
    (λ error cut head seen before has.
    subst (λ (l : List Output). AreCut l before new error)
    (put_on t m.name.now m head seen before old has (records.Touch a pc))
    (subst (λ (b : Touch). AreCut (outputs_with (moved_so_far t m.name.now (Some head) seen) 0
    (spell_record m.writer.version m.writer.before (records.Touch b pc))) before new error)
    c.moved_access-access.ensures.access
    (cut (moved_so_far t m.name.now (Some head) seen) before has.outputs)))
    c.put_record.ensures.cut
