use Rattle.std.proofs.Common.{◌++◌, List, sym, subst, arith}
use Rattle.std.proofs.lemmas.List.{append-nil, take_all}
use Rattle.std.proofs.lemmas.List.Elements.{All-get_or}
use Rattle.trace_format.specs.Rules.{IsWritable}
use Rattle.trace_format.specs.declared.record.TraceRecord.{TraceRecord}
use Rattle.trace_passes.proofs.Notes.{room_for_one, seen_more}
use Rattle.trace_passes.proofs.passes.note_all.Goals as goal

pub note-requires : goal.note-requires
note-requires g c = record {
  good = subst IsWritable (sym c.item-item.is)
      (All-get_or IsWritable c.args.items.now c.loop-item.item-index c.item-item.result
      c.loop-item-test.true c.requires.good);
  room = room_for_one c.args.items.now c.loop-item.item-index c.item-item.result
      c.loop-item-test.true c.item-item.is
      g.O.Observer.begins g.O.Observer.given c.args.observer.now c.loop-item.observer
      (c.requires.room (omega arith))
      c.loop-item.invariant;
}

pub loop-item-preserved : goal.loop-item-preserved
loop-item-preserved g c = λ begun seen first.
    let one = c.in_ok-note.ensures in
    let items = c.args.items.now in
    subst (λ (xs : List TraceRecord). g.O.Observer.given begun c.note.new.self xs)
    (seen_more items c.loop-item.item-index c.item-item.result c.loop-item-test.true c.item-item.is
    seen)
    (one.given begun _ (c.loop-item.invariant begun seen first))

pub returns : goal.returns
returns g c = record {
  given = λ begun seen first.
      subst (λ (xs : List TraceRecord). g.O.Observer.given begun c.loop-item.observer (seen ++ xs))
      (take_all c.loop-item.item-index c.args.items.now c.loop-item-test.false)
      (c.loop-item.invariant begun seen first);
}

pub loop-item-init : goal.loop-item-init
loop-item-init g c = λ begun seen first.
    subst (λ (xs : List TraceRecord). g.O.Observer.given begun c.args.observer.now xs)
    (sym (append-nil seen)) first
