use Rattle.std.proofs.Common.{◌≡◌, ◌≤◌, ◌++◌, ◌∙◌, ℕ, [], List, Ok, All, refl, sym}
use Rattle.std.proofs.Common.{ap, subst, arith, length}
use Rattle.trace_format.specs.declared.record.TraceRecord.{TraceRecord}
use Rattle.trace_format.specs.Reading.{Reading, reading_of}
use Rattle.trace_format.specs.Rules.{IsWritable}
use Rattle.trace_passes.specs.Cursors.{GoesOn, HasEnded}
use Rattle.trace_passes.specs.Rooms.{HasRoom}
use Rattle.shelf.specs.Laws.Agreeing.{front_none}
use Rattle.shelf.specs.Laws.Known.{only_both, only_none}
use Rattle.trace_passes.proofs.Fronts.{nothing_read}
use Rattle.trace_passes.proofs.Pieces.{all_writable, ok_is_no_err, room_for_all}
use Rattle.trace_passes.proofs.Closings.{accepted_then, has_passed, shown_trace}
use Rattle.trace_passes.proofs.passes.pass.Goals as goal

no_fewer : (m n : ℕ) → m ≡ n → n ≤ m
no_fewer m n same = omega arith

pub pieces-init : goal.pieces-init
pieces-init g c = record {
  way = record {
    bytes = [];
    front = front_none c.args.name.now (g.S.Shelf.outside c.args.shelf.now).given;
    come = c.in_ok-cursor.ensures.begins _ _ _;
    saw = subst (g.O.Observer.given c.args.observer.now c.args.observer.now)
        (sym (ap (λ (x : List TraceRecord × Reading). x.0) nothing_read)) c.requires.fresh;
  };
  only = only_none _;
  quiet = refl;
}

pub advance-requires : goal.advance-requires
advance-requires g c =
    let x = c.pieces.invariant in (x.way.bytes, x.way.come)

pub note_all-requires : goal.note_all-requires
note_all-requires g c =
    let x = c.pieces.invariant in
    let bytes = x.way.bytes in
    let name = c.args.name.now in
    let w = c.args.wanted.now in
    let next = c.advance.new.self in
    let none = c.in_default.is in
    let on : GoesOn (g.S.Shelf.outside c.pieces.shelf) (g.S.Shelf.outside c.advance.new.shelf) name w
    bytes next =
    c.in_ok-passed.ensures.more (ap Ok none) bytes x.way.come in
    let items = next.items in
    record {
      good = subst (All IsWritable) (sym c.items.ensures)
          (all_writable bytes on.more items on.records);
      room = λ some. subst (HasRoom g.O.Observer.begins g.O.Observer.given c.pieces.observer)
          (sym c.items.ensures)
          (room_for_all bytes on.more items on.records g.O.Observer.begins g.O.Observer.given w
          c.args.observer.now c.pieces.observer
          next.reading c.requires.begins x.way.saw on.come.read
          (omega (arith, some, ap length c.items.ensures)));
    }

pub pieces-preserved : goal.pieces-preserved
pieces-preserved g c =
    let x = c.pieces.invariant in
    let bytes = x.way.bytes in
    let name = c.args.name.now in
    let w = c.args.wanted.now in
    let next = c.advance.new.self in
    let none = c.in_default.is in
    let given = g.O.Observer.given c.args.observer.now c.note_all.new.observer in
    let on : GoesOn (g.S.Shelf.outside c.pieces.shelf) (g.S.Shelf.outside c.advance.new.shelf) name w
    bytes next =
    c.in_ok-passed.ensures.more (ap Ok none) bytes x.way.come in
    record {
      way = record {
        bytes = bytes ++ on.more;
        front = on.front (g.S.Shelf.outside c.args.shelf.now).given x.way.front;
        come = on.come;
        saw = subst given (ap (λ (xs : List TraceRecord). (reading_of bytes).0 ++ xs)
            c.items.ensures ∙ sym on.records)
            (c.in_ok-note_all.ensures.given c.args.observer.now _ x.way.saw);
      };
      only = only_both (g.S.Shelf.outside c.args.shelf.now) (g.S.Shelf.outside c.pieces.shelf)
          (g.S.Shelf.outside c.advance.new.shelf)
          x.only c.in_ok-passed.ensures.only;
      quiet = c.in_ok-passed.ensures.cause.quiet (ok_is_no_err _ _) ∙ x.quiet;
    }

pub pieces-smaller : goal.pieces-smaller
pieces-smaller g c = let none = c.in_default.is in c.in_ok-passed.ensures.fewer (ap Ok none)

pub returns-in-Some : goal.returns-in-Some
returns-in-Some g c =
    let x = c.pieces.invariant in
    let bytes = x.way.bytes in
    let name = c.args.name.now in
    let w = c.args.wanted.now in
    let passed = c.in-Some.passed in
    let some = c.in-Some.is in
    let held = (g.S.Shelf.outside c.advance.new.shelf).held in
    let ended : HasEnded held name w bytes passed =
    c.in_ok-passed.ensures.ended passed (ap Ok some) bytes x.way.come in
    let quiet = c.in_ok-passed.ensures.cause.quiet (ok_is_no_err _ _) ∙ x.quiet in
    record {
      passed = has_passed held name w bytes passed
          (g.O.Observer.given c.args.observer.now c.pieces.observer) ended x.way.saw;
      head = (ended.header, ended.wanted);
      sited = ended.sited;
      near = ended.near;
      accepted = accepted_then held name w bytes passed ended;
      refused = λ refusal same. absurd (ok_is_no_err _ _ same);
      shown = shown_trace held name w bytes passed (g.S.Shelf.outside c.args.shelf.now).given
          (g.S.Shelf.outside c.advance.new.shelf).given ended
          (c.in_ok-passed.ensures.shown passed (ap Ok some) bytes x.way.come
          (g.S.Shelf.outside c.args.shelf.now).given x.way.front);
      shown_refused = λ refusal same. absurd (ok_is_no_err _ _ same);
      memory = ok_is_no_err _ _;
      cause = record {
        later = λ n. no_fewer _ _ (ap (λ (f : List ℕ → ℕ). f n) quiet);
        failed = λ same. absurd (ok_is_no_err _ _ same);
        quiet = λ no. quiet;
      };
      only = only_both (g.S.Shelf.outside c.args.shelf.now) (g.S.Shelf.outside c.pieces.shelf)
          (g.S.Shelf.outside c.advance.new.shelf)
          x.only c.in_ok-passed.ensures.only;
    }

pub returns-in_err-passed-clause-refused : goal.returns-in_err-passed-clause-refused
returns-in_err-passed-clause-refused g c = λ refusal same.
    let was_err = c.in_err-passed.was in
    let handed_on = rw same at c.from_residual-in_err-passed.ensures.1 in
    c.advance.ensures.refused refusal (cc)

pub returns-in_err-passed-clause-shown_refused : goal.returns-in_err-passed-clause-shown_refused
returns-in_err-passed-clause-shown_refused g c = λ refusal same.
    let x = c.pieces.invariant in
    let was_err = c.in_err-passed.was in
    let handed_on = rw same at c.from_residual-in_err-passed.ensures.1 in
    c.advance.ensures.shown_refused refusal (cc) x.way.bytes x.way.come
    (g.S.Shelf.outside c.args.shelf.now).given x.way.front

pub returns-in_err-passed-clause-only : goal.returns-in_err-passed-clause-only
returns-in_err-passed-clause-only g c =
    only_both _ _ _ c.pieces.invariant.only c.in_err-passed.ensures.only

pub returns-in_err-note_all-clause-only : goal.returns-in_err-note_all-clause-only
returns-in_err-note_all-clause-only g c =
    only_both _ _ _ c.pieces.invariant.only c.in_ok-passed.ensures.only
