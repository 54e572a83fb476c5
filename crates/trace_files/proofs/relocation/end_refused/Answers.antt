use Rattle.std.proofs.Common.{◌++◌, List, Option, refl, subst, sym}
use Rattle.shelf.specs.Shelf.{Outside}
use Rattle.trace_format.specs.declared.record.Header.{Header}
use Rattle.trace_format.specs.declared.record.TraceRecord.{TraceRecord}
use Rattle.trace_format.specs.declared.record.Version.{Version}
use Rattle.trace_passes.specs.Cursors.{version_and_header}
use Rattle.trace_files.specs.declared.move_fault.MoveFault.{MoveFault}
use Rattle.trace_files.specs.Movers.{EndsAt, Follows, HasMoved}
use Rattle.trace_files.proofs.Relocations.{all_cut, all_written, ends_by}
use Rattle.trace_files.proofs.Takings.{named_so, stops_by}
use Rattle.trace_files.proofs.relocation.end_refused.Goals as goal

pub finish-requires : goal.finish-requires
finish-requires g c =
    let t = c.args.table.now in
    let m = c.args.mover.now in
    let way = c.requires.way in
    let h = version_and_header c.args.cursor.now.reading.progress in
    let items = c.args.cursor.now.items in
    let old = g.S.Shelf.outside c.args.shelf.now in
    let mid = g.S.Shelf.outside c.take.new.shelf in
    let taken : (known : Option (Version × Header)) (seen : List TraceRecord) (before : Outside)
    → HasMoved t m.name.now m known seen before old → Follows known seen h items
    → HasMoved t m.name.now c.take.new.mover h (seen ++ items) before mid =
    subst (λ (x : Option (Version × Header)). (known : Option (Version × Header))
    (seen : List TraceRecord) (before : Outside)
    → HasMoved t m.name.now m known seen before old → Follows known seen x items
    → HasMoved t m.name.now c.take.new.mover x (seen ++ items) before mid) c.head.ensures
    (subst (λ (l : List TraceRecord). (known : Option (Version × Header))
    (seen : List TraceRecord) (before : Outside)
    → HasMoved t m.name.now m known seen before old → Follows known seen c.head.result l
    → HasMoved t m.name.now c.take.new.mover c.head.result (seen ++ l) before mid) c.items.ensures
    c.in-Ok.ensures.moved) in
    record {
      way = (
        t,
        m.name.now,
        h,
        way.seen ++ items,
        way.before,
        taken way.known way.seen way.before
            (named_so t way.name m way.known way.seen way.before old way.has) way.follows,
      );
    }

pub returns-in-Ok-finish-clause-ends : goal.returns-in-Ok-finish-clause-ends
returns-in-Ok-finish-clause-ends g c = λ known seen before has follows.
    let t = c.args.table.now in
    let m = c.args.mover.now in
    let h = version_and_header c.args.cursor.now.reading.progress in
    let items = c.args.cursor.now.items in
    let old = g.S.Shelf.outside c.args.shelf.now in
    let mid = g.S.Shelf.outside c.take.new.shelf in
    let new = g.S.Shelf.outside c.finish.new.shelf in
    let taken : (known : Option (Version × Header)) (seen : List TraceRecord) (before : Outside)
    → HasMoved t m.name.now m known seen before old → Follows known seen h items
    → HasMoved t m.name.now c.take.new.mover h (seen ++ items) before mid =
    subst (λ (x : Option (Version × Header)). (known : Option (Version × Header))
    (seen : List TraceRecord) (before : Outside)
    → HasMoved t m.name.now m known seen before old → Follows known seen x items
    → HasMoved t m.name.now c.take.new.mover x (seen ++ items) before mid) c.head.ensures
    (subst (λ (l : List TraceRecord). (known : Option (Version × Header))
    (seen : List TraceRecord) (before : Outside)
    → HasMoved t m.name.now m known seen before old → Follows known seen c.head.result l
    → HasMoved t m.name.now c.take.new.mover c.head.result (seen ++ l) before mid) c.items.ensures
    c.in-Ok.ensures.moved) in
    let has_all = taken known seen before has follows in (
      refl,
      all_written t m.name.now c.take.new.mover h (seen ++ items) before mid new has_all
          (c.in-Ok-finish.ensures.written t m.name.now h (seen ++ items) before has_all)
          (c.in-Ok-finish.ensures.cut_there t m.name.now h (seen ++ items) before has_all),
    )

pub returns-in-Err-finish-clause-ends : goal.returns-in-Err-finish-clause-ends
returns-in-Err-finish-clause-ends g c = λ known seen before has follows.
    let t = c.args.table.now in
    let m = c.args.mover.now in
    let h = version_and_header c.args.cursor.now.reading.progress in
    let items = c.args.cursor.now.items in
    let old = g.S.Shelf.outside c.args.shelf.now in
    let mid = g.S.Shelf.outside c.take.new.shelf in
    let new = g.S.Shelf.outside c.finish.new.shelf in
    let taken : (known : Option (Version × Header)) (seen : List TraceRecord) (before : Outside)
    → HasMoved t m.name.now m known seen before old → Follows known seen h items
    → HasMoved t m.name.now c.take.new.mover h (seen ++ items) before mid =
    subst (λ (x : Option (Version × Header)). (known : Option (Version × Header))
    (seen : List TraceRecord) (before : Outside)
    → HasMoved t m.name.now m known seen before old → Follows known seen x items
    → HasMoved t m.name.now c.take.new.mover x (seen ++ items) before mid) c.head.ensures
    (subst (λ (l : List TraceRecord). (known : Option (Version × Header))
    (seen : List TraceRecord) (before : Outside)
    → HasMoved t m.name.now m known seen before old → Follows known seen c.head.result l
    → HasMoved t m.name.now c.take.new.mover c.head.result (seen ++ l) before mid) c.items.ensures
    c.in-Ok.ensures.moved) in
    let has_all = taken known seen before has follows in
    subst (λ (f : MoveFault). EndsAt t m.name.now h (seen ++ items) before new c.args.refusal f)
    (sym c.write_fault.ensures)
    (ends_by t m.name.now h (seen ++ items) before new _ c.args.refusal
    (stops_by t m.name.now h (seen ++ items) before new c.in-Err-finish.error
    (all_cut t m.name.now c.take.new.mover h (seen ++ items) before mid new c.in-Err-finish.error
    has_all
    (c.in-Err-finish.ensures.cut t m.name.now h (seen ++ items) before has_all))))
