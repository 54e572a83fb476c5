use Rattle.std.proofs.Common.{◌≡◌, ◌∷◌, ◌++◌, ◌∙◌, [], ℕ, None, subst, arith}
use Rattle.trace_format.specs.declared.record.TraceRecord.TheVariants as records
use Rattle.trace_files.specs.Made.{made_items}
use Rattle.trace_files.specs.OneTrace.{IsOnItsWay}
use Rattle.trace_files.proofs.MadeGoing.{cut_access, item_is, next_is, none_made, one_more}
use Rattle.trace_files.proofs.MadeGoing.{room_for_access}
use Rattle.trace_files.proofs.OneTraces.{on_way, way_of}
use Rattle.trace_files.proofs.maker.note_accesses.Goals as goal

pub loop-place-init : goal.loop-place-init
loop-place-init g c =
    none_made g.O.Observer.given c.args.observer.now c.args.file.now
    (g.S.Shelf.outside c.args.shelf.now) c.requires.fresh c.requires.way

pub note_record-requires-clause-room : goal.note_record-requires-clause-room
note_record-requires-clause-room g c =
    room_for_access g.O.Observer.begins g.O.Observer.given c.loop-place.place
    (records.Touch c.access_at-access.result None) c.args.observer.now c.loop-place.observer
    (omega (arith, c.loop-place-test.true, c.requires.few))
    (item_is c.loop-place.place c.loop-place.state c.next_state-next.result
    c.access_at-access.result
    c.loop-place.invariant.state_is c.next_state-next.ensures c.access_at-access.ensures)
    c.requires.begins c.loop-place.invariant.given_so_far

pub returns-in-Err-clause-cut : goal.returns-in-Err-clause-cut
returns-in-Err-clause-cut g c = λ before on.
    cut_access c.args.file.now c.loop-place.file c.args.count c.loop-place.place
    (records.Touch c.access_at-access.result None) before
    (g.S.Shelf.outside c.note_record.new.shelf)
    c.in-Err.error c.loop-place.invariant.files_stay c.loop-place-test.true
    (item_is c.loop-place.place c.loop-place.state c.next_state-next.result
    c.access_at-access.result
    c.loop-place.invariant.state_is c.next_state-next.ensures c.access_at-access.ensures)
    (c.in-Err.ensures.cut (made_items c.loop-place.place) before
    (c.loop-place.invariant.noted before on))

pub append_full_piece-requires : goal.append_full_piece-requires
append_full_piece-requires g c =
    let way = c.loop-place.invariant.way in
    record {
      way = way_of c.note_record.new.file
          (way.seen ++ records.Touch c.access_at-access.result None ∷ []) way.before
          (g.S.Shelf.outside c.note_record.new.shelf)
          (c.in-Ok.ensures.noted way.seen way.before
          (on_way c.loop-place.file (g.S.Shelf.outside c.loop-place.shelf) way));
    }

pub returns-in-Err-append_full_piece-clause-cut : goal.returns-in-Err-append_full_piece-clause-cut
returns-in-Err-append_full_piece-clause-cut g c = λ before on.
    cut_access c.args.file.now c.note_record.new.file c.args.count c.loop-place.place
    (records.Touch c.access_at-access.result None) before
    (g.S.Shelf.outside c.append_full_piece.new.shelf) c.in-Err-append_full_piece.error
    (c.note_record.ensures.files ∙ c.loop-place.invariant.files_stay) c.loop-place-test.true
    (item_is c.loop-place.place c.loop-place.state c.next_state-next.result
    c.access_at-access.result
    c.loop-place.invariant.state_is c.next_state-next.ensures c.access_at-access.ensures)
    (c.in-Err-append_full_piece.ensures.cut
    (made_items c.loop-place.place ++ records.Touch c.access_at-access.result None ∷ []) before
    (c.in-Ok.ensures.noted (made_items c.loop-place.place) before
    (c.loop-place.invariant.noted before on)))

pub loop-place-preserved : goal.loop-place-preserved
loop-place-preserved g c =
    one_more g.O.Observer.given c.loop-place.place c.loop-place.state c.next_state-next.result
    (records.Touch c.access_at-access.result None) c.args.observer.now c.loop-place.observer
    c.note_record.new.observer c.args.file.now c.loop-place.file c.note_record.new.file
    c.append_full_piece.new.file (g.S.Shelf.outside c.args.shelf.now)
    (g.S.Shelf.outside c.loop-place.shelf) (g.S.Shelf.outside c.note_record.new.shelf)
    (g.S.Shelf.outside c.append_full_piece.new.shelf) c.loop-place.invariant
    (next_is c.loop-place.place c.loop-place.state c.next_state-next.result
    c.loop-place.invariant.state_is c.next_state-next.ensures)
    (item_is c.loop-place.place c.loop-place.state c.next_state-next.result
    c.access_at-access.result
    c.loop-place.invariant.state_is c.next_state-next.ensures c.access_at-access.ensures)
    c.in-Ok.ensures.given c.note_record.ensures.files c.append_full_piece.ensures.files
    c.in-Ok.ensures.noted c.in-Ok-append_full_piece.ensures.noted

pub returns-clause-given : goal.returns-clause-given
returns-clause-given g c =
    let all : c.loop-place.place ≡ c.args.count = omega arith in
    subst (λ (n : ℕ). g.O.Observer.given c.args.observer.now c.loop-place.observer (made_items n))
    all c.loop-place.invariant.given_so_far

pub returns-clause-noted : goal.returns-clause-noted
returns-clause-noted g c = λ before on.
    let all : c.loop-place.place ≡ c.args.count = omega arith in
    subst (λ (n : ℕ). IsOnItsWay c.loop-place.file (made_items n) before
    (g.S.Shelf.outside c.loop-place.shelf)) all (c.loop-place.invariant.noted before on)
