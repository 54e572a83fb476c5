use Rattle.std.proofs.Common.{◌≡◌, ◌+◌, ◌++◌, ◌∷◌, [], List, OnOk, Some, ap, arith, refl, subst}
use Rattle.std.proofs.Common.{sym}
use Rattle.std.proofs.lemmas.Result.{IfErr-weaker, on_ok_weaker}
use Rattle.shelf.specs.Shelf.{Outside}
use Rattle.shelf.specs.Files.{AreCut, Output}
use Rattle.shelf.specs.OnTheirWay.{IsOutputs, outputs_with}
use Rattle.trace_format.specs.declared.record.TraceRecord.{TraceRecord}
use Rattle.trace_format.specs.Rules.{touches_in}
use Rattle.trace_format.specs.Spelling.{before_after, spell_record}
use Rattle.trace_files.specs.Movers.{HasMoved}
use Rattle.trace_files.specs.Moves.{count_moved}
use Rattle.trace_files.specs.Moving.{moved_so_far}
use Rattle.trace_files.proofs.Movings.{begun_there, both_ok, has_put, one_file_there, other_item}
use Rattle.trace_files.proofs.Movings.{put_on}
use Rattle.trace_files.proofs.mover.Mover.put.Goals as goal

pub put_record-requires : goal.put_record-requires
put_record-requires g c =
    let way = c.requires.way in
    let there = one_file_there c.args.table.now way.name c.args.self.now way.head way.seen way.before
    (g.S.Shelf.outside c.args.shelf.now) way.has in
    record {
      place = omega (arith, there);
      begun = begun_there c.args.table.now way.name c.args.self.now way.head way.seen way.before
          (g.S.Shelf.outside c.args.shelf.now) way.has;
      writable = c.requires.writable;
    }

pub returns-in-Touch-clause-cut : goal.returns-in-Touch-clause-cut
returns-in-Touch-clause-cut g c =
    let t = c.args.table.now in
    let m = c.args.self.now in
    let old = g.S.Shelf.outside c.args.shelf.now in
    let new = g.S.Shelf.outside c.put_access.new.shelf in
    IfErr-weaker c.put_access.result _ _
    (λ error cut head seen before has.
    subst (λ (item : TraceRecord). AreCut
    (moved_so_far t m.name.now (Some head) (seen ++ item ∷ [])) before new error)
    (sym c.in-Touch.is) (cut head seen before has))
    c.put_access.ensures.cut

pub returns-in-Touch-clause-moved : goal.returns-in-Touch-clause-moved
returns-in-Touch-clause-moved g c =
    let t = c.args.table.now in
    let m = c.args.self.now in
    let after = c.put_access.new.self in
    let new = g.S.Shelf.outside c.put_access.new.shelf in
    on_ok_weaker c.put_access.result
    (λ moved head seen before has.
    subst (λ (item : TraceRecord). HasMoved t m.name.now after (Some head) (seen ++ item ∷ [])
    before new) (sym c.in-Touch.is) (moved head seen before has))
    c.put_access.ensures.moved

pub returns-in_default : goal.returns-in_default
returns-in_default g c =
    let t = c.args.table.now in
    let m = c.args.self.now in
    let item = c.args.item.now in
    let old = g.S.Shelf.outside c.args.shelf.now in
    let new = g.S.Shelf.outside c.put_record.new.shelf in
    let other = other_item t item c.in_default.not-Touch in
    let none : m.moved ≡ m.moved + count_moved t (touches_in (item ∷ [])) =
    omega (arith, ap (count_moved t) other.1) in
    record {
      moved = both_ok c.put_record.result
          (λ next outputs head seen before has.
          has_put t m.name.now m head seen before old has item _ new c.requires.free refl refl refl
          none next
          (outputs (moved_so_far t m.name.now (Some head) seen) before has.outputs))
          (subst (λ (r : TraceRecord). OnOk c.put_record.result (c.put_record.new.writer
          ≡ record m.writer { before = before_after m.writer.before r }))
          (sym other.0) c.put_record.ensures.next)
          (subst (λ (r : TraceRecord). OnOk c.put_record.result
          ((outputs : List Output) (before : Outside)
          → IsOutputs m.files outputs before old
          → IsOutputs c.put_record.new.self
          (outputs_with outputs 0 (spell_record m.writer.version m.writer.before r))
          before new))
          (sym other.0) c.put_record.ensures.outputs);
      cut = IfErr-weaker c.put_record.result _ _
          (λ error cut head seen before has.
          subst (λ (l : List Output). AreCut l before new error)
          (put_on t m.name.now m head seen before old has item)
          (subst (λ (r : TraceRecord). AreCut
          (outputs_with (moved_so_far t m.name.now (Some head) seen) 0
          (spell_record m.writer.version m.writer.before r)) before new error)
          (sym other.0)
          (cut (moved_so_far t m.name.now (Some head) seen) before has.outputs)))
          c.put_record.ensures.cut;
      name = refl;
      keeps_held = c.put_record.ensures.keeps_held;
    }
