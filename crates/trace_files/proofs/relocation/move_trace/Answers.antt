use Rattle.std.proofs.Common.{◌≡◌, ◌≢◌, ◌++◌, ℕ, List, Option, Some, Ok, Err, refl, sym, ap}
use Rattle.std.proofs.Common.{subst, ◌∙◌}
use Rattle.std.specs.List.{All}
use Rattle.std.proofs.lemmas.Result.{IfErr-at_err, IfErr-weaker}
use Rattle.shelf.specs.Fetch.{IsFront}
use Rattle.shelf.specs.Shelf.{HasRead, Outside, Known, content}
use Rattle.shelf.specs.Laws.Known.{known_same, known_still}
use Rattle.trace_format.specs.declared.record.Header.{Header}
use Rattle.trace_format.specs.declared.record.TraceRecord.{TraceRecord}
use Rattle.trace_format.specs.declared.record.Version.{Version}
use Rattle.trace_format.specs.Reading.{reading_of}
use Rattle.trace_format.specs.Rules.{IsWritable}
use Rattle.trace_passes.specs.declared.passes.PassFault.{PassFault}
use Rattle.trace_passes.specs.declared.passes.PassFault.TheVariants as passes
use Rattle.trace_passes.specs.declared.passes.Passed.{Passed}
use Rattle.trace_passes.specs.declared.wanted.Refusal.{Refusal}
use Rattle.trace_passes.specs.declared.wanted.Refusal.TheVariants as refusals
use Rattle.trace_format.specs.declared.fault.TraceFault.{TraceFault}
use Rattle.trace_format.specs.declared.fault.TraceFault.TheVariants as trace_faults
use Rattle.trace_passes.specs.declared.wanted.Wanted.{Wanted}
use Rattle.trace_passes.specs.Cursors.{GoesOn, HasCome, HasEnded, HasStopped, version_and_header}
use Rattle.trace_passes.specs.Passes.{HasPassCause, refusal_of}
use Rattle.trace_files.specs.Copies.{any}
use Rattle.trace_files.specs.declared.move_fault.MoveFault.{MoveFault}
use Rattle.trace_files.specs.declared.move_fault.MoveFault.TheVariants as faults
use Rattle.trace_files.specs.declared.move_row.Move.{Move}
use Rattle.trace_files.specs.Movers.{EndsAt, Follows, HasMoved, MayTake, StopsAt}
use Rattle.trace_files.proofs.Endings.{taken_up}
use Rattle.trace_files.proofs.GivingUp.{Gave, gave_reading, gave_refused, gave_stopped, is_trace_fault}
use Rattle.trace_files.proofs.GivingUp.{three_ok, whole_copied}
use Rattle.trace_files.proofs.Relocations.{at_all, front_still, has_read, may_take, moving_first}
use Rattle.trace_files.proofs.Relocations.{moving_next, writable_behind}
use Rattle.trace_files.proofs.relocation.move_trace.Given.{Over}
use Rattle.trace_files.proofs.relocation.move_trace.Goals as goal
use Rattle.trace_files.proofs.relocation.move_trace.Goals.{In-Err-Refused, In-Err-take, In-Ok-None}
use Rattle.trace_files.proofs.relocation.move_trace.Goals.{In-Ok-Some}

-- an answer is no fault
no_fault : (o : Option Passed) (f : PassFault) → Ok o ≢ Err f
no_fault o f = λ e. cc

pub pieces-init : goal.pieces-init
pieces-init g c =
    moving_first c.args.table.now c.args.trace.now c.args.file.now c.new-mover.result
    c.in-Ok.cursor (g.S.Shelf.outside c.args.shelf.now)
    (c.in-Ok.ensures.begins _ _ _)
    (c.new-mover.ensures c.args.table.now (g.S.Shelf.outside c.args.shelf.now))

-- ---- a piece more

-- reading it failed nowhere
more_read : (g : Over) (c : In-Ok-None g)
    → HasRead (g.S.Shelf.outside c.pieces.shelf) (g.S.Shelf.outside c.advance.new.shelf)
more_read g c = record {
  only = c.in-Ok-None.ensures.only;
  faults = c.in-Ok-None.ensures.cause.quiet (no_fault _ _);
}

-- the cursor goes on
more_come : (g : Over) (c : In-Ok-None g)
    → GoesOn (g.S.Shelf.outside c.pieces.shelf) (g.S.Shelf.outside c.advance.new.shelf)
    c.args.trace.now any c.pieces.invariant.bytes c.advance.new.self
more_come g c =
    let mid = g.S.Shelf.outside c.pieces.shelf in
    let read = g.S.Shelf.outside c.advance.new.shelf in
    let trace = c.args.trace.now in
    let at = c.pieces.invariant in
    subst (λ (w : Wanted). GoesOn mid read trace w at.bytes c.advance.new.self) c.any.ensures
    (c.in-Ok-None.ensures.more (ap Ok c.in-Ok-None.field-0-is) at.bytes
    (subst (λ (w : Wanted). HasCome mid.held trace w at.bytes c.pieces.cursor) (sym c.any.ensures)
    at.come))

pub take-requires-clause-writable : goal.take-requires-clause-writable
take-requires-clause-writable g c =
    let on = more_come g (goal.at.take-requires-clause-writable g c).In-Ok-None in
    let at = c.pieces.invariant in
    subst (All IsWritable) (sym c.items.ensures)
    (writable_behind at.bytes (at.bytes ++ on.more) c.advance.new.self.items on.records)

pub take-requires-clause-way : goal.take-requires-clause-way
take-requires-clause-way g c =
    let reads = more_read g (goal.at.take-requires-clause-way g c).In-Ok-None in
    let on = more_come g (goal.at.take-requires-clause-way g c).In-Ok-None in
    let t = c.args.table.now in
    let m = c.pieces.mover in
    let read = g.S.Shelf.outside c.advance.new.shelf in
    let next = c.advance.new.self in
    let at = c.pieces.invariant in
    subst (λ (h : Option (Version × Header)). MayTake t m h c.items.result.now read)
    (sym c.head.ensures)
    (subst (λ (l : List TraceRecord). MayTake t m (version_and_header next.reading.progress) l read)
    (sym c.items.ensures)
    (may_take t c.args.trace.now c.args.file.now m c.pieces.cursor
    (g.S.Shelf.outside c.args.shelf.now) (g.S.Shelf.outside c.pieces.shelf) at read reads
    (at.bytes ++ on.more) next.items next.reading (on.more, refl) on.records on.come.read.reading))

pub pieces-preserved : goal.pieces-preserved
pieces-preserved g c =
    let reads = more_read g (goal.at.pieces-preserved g c).In-Ok-None in
    let on = more_come g (goal.at.pieces-preserved g c).In-Ok-None in
    let t = c.args.table.now in
    let trace = c.args.trace.now in
    let file = c.args.file.now in
    let old = g.S.Shelf.outside c.args.shelf.now in
    let read = g.S.Shelf.outside c.advance.new.shelf in
    let new = g.S.Shelf.outside c.take.new.shelf in
    let next = c.advance.new.self in
    let later = c.take.new.mover in
    let at = c.pieces.invariant in
    moving_next t trace file later next old read new (at.bytes ++ on.more) c.take.ensures.keeps_held
    on.come
    (at_all t trace file c.pieces.mover c.pieces.cursor old (g.S.Shelf.outside c.pieces.shelf) at
    read reads (at.bytes ++ on.more) next.items c.items.result.now next.reading c.head.result
    (λ n h l b. HasMoved t n later h l b new) (on.more, refl) on.records on.come.read.reading
    c.head.ensures c.items.ensures c.in-Ok-take.ensures.moved)

pub pieces-smaller : goal.pieces-smaller
pieces-smaller g c = c.in-Ok-None.ensures.fewer (ap Ok c.in-Ok-None.field-0-is)

-- ---- its records can't all be put

-- what was given up then
gave_taking : (g : Over) (c : In-Err-take g)
    → Gave (g.S.Shelf.outside c.take.new.shelf).held c.args.trace.now c.args.file.now
    c.args.table.now (g.S.Shelf.outside c.args.shelf.now) (g.S.Shelf.outside c.take.new.shelf)
    c.in-Err-take.fault
gave_taking g c =
    let e = c.in-Ok-None.ensures in
    let mid = g.S.Shelf.outside c.pieces.shelf in
    let read = g.S.Shelf.outside c.advance.new.shelf in
    let reads : HasRead mid read = record { only = e.only; faults = e.cause.quiet (no_fault _ _) }
    in
    taken_up c.args.table.now c.args.trace.now c.args.file.now c.pieces.mover c.pieces.cursor
    c.advance.new.self (g.S.Shelf.outside c.args.shelf.now) mid read
    (g.S.Shelf.outside c.take.new.shelf) c.pieces.invariant reads c.any.result c.any.ensures
    (e.more (ap Ok c.in-Ok-None.field-0-is)) c.head.result c.items.result.now c.in-Err-take.fault
    c.head.ensures c.items.ensures c.take.ensures.keeps_held c.in-Err-take.ensures.stopped

pub returns-in-Err-take-clause-refused : goal.returns-in-Err-take-clause-refused
returns-in-Err-take-clause-refused g c = λ refusal same.
    let is : c.in-Err-take.fault ≡ faults.Refused refusal = cc in
    (gave_taking g (goal.at.returns-in-Err-take-clause-refused g c).In-Err-take).refused refusal is

pub returns-in-Err-take-clause-occupied : goal.returns-in-Err-take-clause-occupied
returns-in-Err-take-clause-occupied g c = λ addr same.
    let is : c.in-Err-take.fault ≡ faults.Occupied addr = cc in
    (gave_taking g (goal.at.returns-in-Err-take-clause-occupied g c).In-Err-take).occupied addr is

pub returns-in-Err-take-clause-far : goal.returns-in-Err-take-clause-far
returns-in-Err-take-clause-far g c = λ addr same.
    let is : c.in-Err-take.fault ≡ faults.Far addr = cc in
    (gave_taking g (goal.at.returns-in-Err-take-clause-far g c).In-Err-take).far addr is

pub returns-in-Err-take-clause-memory : goal.returns-in-Err-take-clause-memory
returns-in-Err-take-clause-memory g c = λ same.
    let is : c.in-Err-take.fault ≡ faults.Refused (refusals.Trace trace_faults.NoMemory) = cc in
    (gave_taking g (goal.at.returns-in-Err-take-clause-memory g c).In-Err-take).memory is

pub returns-in-Err-take-clause-given_up : goal.returns-in-Err-take-clause-given_up
returns-in-Err-take-clause-given_up g c =
    (gave_taking g (goal.at.returns-in-Err-take-clause-given_up g c).In-Err-take).given_up

-- ---- the trace is refused

-- where the cursor stopped, by which fault, with no fault of reading
record Stopped (g : Over) (c : In-Err-Refused g) : Type 0 where
  reads : HasRead (g.S.Shelf.outside c.pieces.shelf) (g.S.Shelf.outside c.advance.new.shelf)
  fault : TraceFault
  is : c.in-Err-Refused.refusal ≡ refusals.Trace fault
  at : HasStopped (g.S.Shelf.outside c.advance.new.shelf).held c.args.trace.now any
      c.pieces.invariant.bytes (refusals.Trace fault) c.advance.new.self

stopped_there : (g : Over) (c : In-Err-Refused g) → Stopped g c
stopped_there g c =
    let trace = c.args.trace.now in
    let mid = g.S.Shelf.outside c.pieces.shelf in
    let read = g.S.Shelf.outside c.advance.new.shelf in
    let next = c.advance.new.self in
    let at = c.pieces.invariant in
    let come = subst (λ (w : Wanted). HasCome mid.held trace w at.bytes c.pieces.cursor)
    (sym c.any.ensures) at.come in
    let e = c.in-Err-Refused.ensures in
    let refusal = c.in-Err-Refused.refusal in
    let is = c.in-Err-Refused.field-0-is in
    let cause = subst (λ (f : PassFault). HasPassCause {T = Option Passed} trace mid read (Err f)) is
    e.cause in
    let found = e.found refusal (ap Err is) in
    let wrong = is_trace_fault found.0 refusal
    (subst (λ (w : Wanted). refusal_of w found.0 ≡ Some refusal) c.any.ensures found.1) in
    record {
      reads = record { only = e.only; faults = cause.quiet (λ i. cc) };
      fault = wrong.0;
      is = wrong.1;
      at = subst (λ (w : Wanted). HasStopped read.held trace w at.bytes (refusals.Trace wrong.0) next)
          c.any.ensures (e.stopped wrong.0 (ap Err (is ∙ ap passes.Refused wrong.1)) at.bytes come);
    }

pub end_refused-requires-clause-writable : goal.end_refused-requires-clause-writable
end_refused-requires-clause-writable g c =
    let stopped = (stopped_there g (goal.at.end_refused-requires-clause-writable g c).In-Err-Refused).at in
    writable_behind c.pieces.invariant.bytes stopped.all c.advance.new.self.items stopped.records

pub end_refused-requires-clause-way : goal.end_refused-requires-clause-way
end_refused-requires-clause-way g c =
    let there = stopped_there g (goal.at.end_refused-requires-clause-way g c).In-Err-Refused in
    let stopped = there.at in
    let next = c.advance.new.self in
    may_take c.args.table.now c.args.trace.now c.args.file.now c.pieces.mover c.pieces.cursor
    (g.S.Shelf.outside c.args.shelf.now) (g.S.Shelf.outside c.pieces.shelf) c.pieces.invariant
    (g.S.Shelf.outside c.advance.new.shelf) there.reads stopped.all next.items next.reading
    stopped.behind stopped.records stopped.reading

-- what was given up, once the records before the fault were put
gave_refusal : (g : Over) (c : In-Err-Refused g) (new : Outside) (fault : MoveFault)
    → new.held ≡ (g.S.Shelf.outside c.advance.new.shelf).held
    → ((known : Option (Version × Header)) (seen : List TraceRecord) (before : Outside)
    → HasMoved c.args.table.now c.pieces.mover.name.now c.pieces.mover known seen before
    (g.S.Shelf.outside c.advance.new.shelf)
    → Follows known seen (version_and_header c.advance.new.self.reading.progress)
    c.advance.new.self.items
    → EndsAt c.args.table.now c.pieces.mover.name.now
    (version_and_header c.advance.new.self.reading.progress) (seen ++ c.advance.new.self.items)
    before new c.in-Err-Refused.refusal fault)
    → Gave new.held c.args.trace.now c.args.file.now c.args.table.now
    (g.S.Shelf.outside c.args.shelf.now) new fault
gave_refusal g c new fault keeps_held ends =
    let there = stopped_there g c in
    let stopped = there.at in
    let t = c.args.table.now in
    let trace = c.args.trace.now in
    let file = c.args.file.now in
    let old = g.S.Shelf.outside c.args.shelf.now in
    let read = g.S.Shelf.outside c.advance.new.shelf in
    let next = c.advance.new.self in
    let refusal = c.in-Err-Refused.refusal in
    let whole : Known new.held (λ fs. stopped.all ≡ content fs trace) =
    known_same (λ fs. stopped.all ≡ content fs trace) read.held new.held keeps_held stopped.whole in
    let other : refusal ≢ refusals.Trace trace_faults.NoMemory = λ same_one.
    c.in-Err-Refused.ensures.memory
    (ap Err (c.in-Err-Refused.field-0-is ∙ ap passes.Refused same_one)) in
    gave_refused new.held trace file t stopped.all whole refusal
    (stopped.refused ∙ ap (λ (r : Refusal). Some r) (sym there.is)) other old new fault
    (at_all t trace file c.pieces.mover c.pieces.cursor old (g.S.Shelf.outside c.pieces.shelf)
    c.pieces.invariant read there.reads stopped.all next.items next.items next.reading
    (version_and_header next.reading.progress) (λ n h l b. EndsAt t n h l b new refusal fault)
    stopped.behind stopped.records stopped.reading refl refl ends)

pub returns-in-Err-Refused-clause-refused : goal.returns-in-Err-Refused-clause-refused
returns-in-Err-Refused-clause-refused g c = λ refusal same.
    let is : c.end_refused.result ≡ faults.Refused refusal = cc in
    (gave_refusal g (goal.at.returns-in-Err-Refused-clause-refused g c).In-Err-Refused
    (g.S.Shelf.outside c.end_refused.new.shelf) c.end_refused.result c.end_refused.ensures.keeps_held
    c.end_refused.ensures.ends).refused
    refusal is

pub returns-in-Err-Refused-clause-occupied : goal.returns-in-Err-Refused-clause-occupied
returns-in-Err-Refused-clause-occupied g c = λ addr same.
    let is : c.end_refused.result ≡ faults.Occupied addr = cc in
    (gave_refusal g (goal.at.returns-in-Err-Refused-clause-occupied g c).In-Err-Refused
    (g.S.Shelf.outside c.end_refused.new.shelf) c.end_refused.result c.end_refused.ensures.keeps_held
    c.end_refused.ensures.ends).occupied
    addr is

pub returns-in-Err-Refused-clause-far : goal.returns-in-Err-Refused-clause-far
returns-in-Err-Refused-clause-far g c = λ addr same.
    let is : c.end_refused.result ≡ faults.Far addr = cc in
    (gave_refusal g (goal.at.returns-in-Err-Refused-clause-far g c).In-Err-Refused
    (g.S.Shelf.outside c.end_refused.new.shelf) c.end_refused.result c.end_refused.ensures.keeps_held
    c.end_refused.ensures.ends).far addr is

pub returns-in-Err-Refused-clause-memory : goal.returns-in-Err-Refused-clause-memory
returns-in-Err-Refused-clause-memory g c = λ same.
    let is : c.end_refused.result ≡ faults.Refused (refusals.Trace trace_faults.NoMemory) = cc in
    (gave_refusal g (goal.at.returns-in-Err-Refused-clause-memory g c).In-Err-Refused
    (g.S.Shelf.outside c.end_refused.new.shelf) c.end_refused.result c.end_refused.ensures.keeps_held
    c.end_refused.ensures.ends).memory is

pub returns-in-Err-Refused-clause-given_up : goal.returns-in-Err-Refused-clause-given_up
returns-in-Err-Refused-clause-given_up g c =
    (gave_refusal g (goal.at.returns-in-Err-Refused-clause-given_up g c).In-Err-Refused
    (g.S.Shelf.outside c.end_refused.new.shelf) c.end_refused.result c.end_refused.ensures.keeps_held
    c.end_refused.ensures.ends).given_up

-- ---- a piece isn't read

pub returns-in-Err-ReadFault-clause-given_up : goal.returns-in-Err-ReadFault-clause-given_up
returns-in-Err-ReadFault-clause-given_up g c =
    let t = c.args.table.now in
    let trace = c.args.trace.now in
    let file = c.args.file.now in
    let m = c.pieces.mover in
    let old = g.S.Shelf.outside c.args.shelf.now in
    let mid = g.S.Shelf.outside c.pieces.shelf in
    let read = g.S.Shelf.outside c.advance.new.shelf in
    let next = c.advance.new.self in
    let at = c.pieces.invariant in
    let come = subst (λ (w : Wanted). HasCome mid.held trace w at.bytes c.pieces.cursor)
    (sym c.any.ensures) at.come in
    let e = c.in-Err-ReadFault.ensures in
    let is = c.in-Err-ReadFault.field-0-is in
    let cause = subst (λ (f : PassFault). HasPassCause {T = Option Passed} trace mid read (Err f)) is
    e.cause in
    let front : Known read.held (λ fs. IsFront (content fs trace) at.bytes) =
    known_still (λ fs. IsFront (content fs trace) at.bytes) mid.held read.held e.only.held
    at.come.front in
    let gave = gave_reading read.held trace file t at.bytes front old read {T = Option Passed} m mid
    passes.ReadFault (λ r i. cc) at.has e.only cause in
    gave.given_up

pub returns-in-Err-NoMemory-clause-given_up : goal.returns-in-Err-NoMemory-clause-given_up
returns-in-Err-NoMemory-clause-given_up g c =
    let t = c.args.table.now in
    let trace = c.args.trace.now in
    let file = c.args.file.now in
    let m = c.pieces.mover in
    let old = g.S.Shelf.outside c.args.shelf.now in
    let mid = g.S.Shelf.outside c.pieces.shelf in
    let read = g.S.Shelf.outside c.advance.new.shelf in
    let next = c.advance.new.self in
    let at = c.pieces.invariant in
    let come = subst (λ (w : Wanted). HasCome mid.held trace w at.bytes c.pieces.cursor)
    (sym c.any.ensures) at.come in
    let e = c.in-Err-NoMemory.ensures in
    let is = c.in-Err-NoMemory.field-0-is in
    let cause = subst (λ (f : PassFault). HasPassCause {T = Option Passed} trace mid read (Err f)) is
    e.cause in
    let front : Known read.held (λ fs. IsFront (content fs trace) at.bytes) =
    known_still (λ fs. IsFront (content fs trace) at.bytes) mid.held read.held e.only.held
    at.come.front in
    let gave = gave_reading read.held trace file t at.bytes front old read {T = Option Passed} m mid
    passes.NoMemory (λ r i. cc) at.has e.only cause in
    gave.given_up

-- ---- the trace is read to its end

-- it has these bytes, and the mover has their records
record Ended (g : Over) (c : In-Ok-Some g) : Type 0 where
  at : HasEnded (g.S.Shelf.outside c.advance.new.shelf).held c.args.trace.now any
      c.pieces.invariant.bytes c.in-Ok-Some.passed
  has : HasMoved c.args.table.now c.args.file.now c.pieces.mover
      (version_and_header (reading_of c.pieces.invariant.bytes).1.progress)
      (reading_of c.pieces.invariant.bytes).0 (g.S.Shelf.outside c.args.shelf.now)
      (g.S.Shelf.outside c.advance.new.shelf)

ended_there : (g : Over) (c : In-Ok-Some g) → Ended g c
ended_there g c =
    let t = c.args.table.now in
    let trace = c.args.trace.now in
    let file = c.args.file.now in
    let mid = g.S.Shelf.outside c.pieces.shelf in
    let read = g.S.Shelf.outside c.advance.new.shelf in
    let at = c.pieces.invariant in
    let come = subst (λ (w : Wanted). HasCome mid.held trace w at.bytes c.pieces.cursor)
    (sym c.any.ensures) at.come in
    let e = c.in-Ok-Some.ensures in
    let reads : HasRead mid read = record { only = e.only; faults = e.cause.quiet (no_fault _ _) }
    in
    record {
      at = subst (λ (w : Wanted). HasEnded read.held trace w at.bytes c.in-Ok-Some.passed)
          c.any.ensures (e.ended c.in-Ok-Some.passed (ap Ok c.in-Ok-Some.field-0-is) at.bytes come);
      has = has_read t file c.pieces.mover (version_and_header (reading_of at.bytes).1.progress)
          (reading_of at.bytes).0 (g.S.Shelf.outside c.args.shelf.now) mid read reads at.has;
    }

pub end_whole-requires : goal.end_whole-requires
end_whole-requires g c =
    let at = c.pieces.invariant in
    record {
      way = (
        c.args.table.now,
        c.args.file.now,
        version_and_header (reading_of at.bytes).1.progress,
        (reading_of at.bytes).0,
        g.S.Shelf.outside c.args.shelf.now,
        (ended_there g (goal.at.end_whole-requires g c).In-Ok-Some).has,
      );
    }

pub returns-in-Ok-Some-clause-moved : goal.returns-in-Ok-Some-clause-moved
returns-in-Ok-Some-clause-moved g c =
    let there = ended_there g (goal.at.returns-in-Ok-Some-clause-moved g c).In-Ok-Some in
    let ended = there.at in
    let t = c.args.table.now in
    let trace = c.args.trace.now in
    let file = c.args.file.now in
    let old = g.S.Shelf.outside c.args.shelf.now in
    let read = g.S.Shelf.outside c.advance.new.shelf in
    let new = g.S.Shelf.outside c.end_whole.new.shelf in
    let bytes = c.pieces.invariant.bytes in
    let whole : Known new.held (λ fs. bytes ≡ content fs trace) =
    known_same (λ fs. bytes ≡ content fs trace) read.held new.held c.end_whole.ensures.keeps_held
    ended.whole in
    three_ok c.end_whole.result
    (λ made written accesses count.
    whole_copied new.held trace file t c.pieces.mover c.in-Ok-Some.passed bytes ended.items made old
    read new whole ended.is there.has
    (written t file (version_and_header (reading_of bytes).1.progress) (reading_of bytes).0 old
    there.has) accesses count)
    c.end_whole.ensures.written c.end_whole.ensures.accesses c.end_whole.ensures.moved

-- what was given up, where the end can't be put
gave_ending : (g : Over) (c : In-Ok-Some g) (new : Outside)
    → new.held ≡ (g.S.Shelf.outside c.advance.new.shelf).held → (fault : MoveFault)
    → ((table : List Move) (name : List ℕ) (head : Option (Version × Header))
    (seen : List TraceRecord) (before : Outside)
    → HasMoved table name c.pieces.mover head seen before (g.S.Shelf.outside c.advance.new.shelf)
    → StopsAt table name head seen before new fault)
    → Gave new.held c.args.trace.now c.args.file.now c.args.table.now
    (g.S.Shelf.outside c.args.shelf.now) new fault
gave_ending g c new keeps_held fault stops =
    let trace = c.args.trace.now in
    let mid = g.S.Shelf.outside c.pieces.shelf in
    let read = g.S.Shelf.outside c.advance.new.shelf in
    let old = g.S.Shelf.outside c.args.shelf.now in
    let at = c.pieces.invariant in
    let front : Known new.held (λ fs. IsFront (content fs trace) at.bytes) =
    front_still read.held new.held trace at.bytes keeps_held
    (known_still (λ fs. IsFront (content fs trace) at.bytes) mid.held read.held
    c.in-Ok-Some.ensures.only.held at.come.front) in
    gave_stopped new.held trace c.args.file.now c.args.table.now at.bytes front old new fault
    (stops c.args.table.now c.args.file.now (version_and_header (reading_of at.bytes).1.progress)
    (reading_of at.bytes).0 old (ended_there g c).has)

pub returns-in-Ok-Some-clause-refused : goal.returns-in-Ok-Some-clause-refused
returns-in-Ok-Some-clause-refused g c = λ refusal same.
    (gave_ending g (goal.at.returns-in-Ok-Some-clause-refused g c).In-Ok-Some
    (g.S.Shelf.outside c.end_whole.new.shelf) c.end_whole.ensures.keeps_held
    (faults.Refused refusal) (IfErr-at_err _ same c.end_whole.ensures.stopped)).refused refusal refl

pub returns-in-Ok-Some-clause-occupied : goal.returns-in-Ok-Some-clause-occupied
returns-in-Ok-Some-clause-occupied g c = λ addr same.
    (gave_ending g (goal.at.returns-in-Ok-Some-clause-occupied g c).In-Ok-Some
    (g.S.Shelf.outside c.end_whole.new.shelf) c.end_whole.ensures.keeps_held
    (faults.Occupied addr) (IfErr-at_err _ same c.end_whole.ensures.stopped)).occupied addr refl

pub returns-in-Ok-Some-clause-far : goal.returns-in-Ok-Some-clause-far
returns-in-Ok-Some-clause-far g c = λ addr same.
    (gave_ending g (goal.at.returns-in-Ok-Some-clause-far g c).In-Ok-Some
    (g.S.Shelf.outside c.end_whole.new.shelf) c.end_whole.ensures.keeps_held
    (faults.Far addr) (IfErr-at_err _ same c.end_whole.ensures.stopped)).far addr refl

pub returns-in-Ok-Some-clause-memory : goal.returns-in-Ok-Some-clause-memory
returns-in-Ok-Some-clause-memory g c = λ same.
    (gave_ending g (goal.at.returns-in-Ok-Some-clause-memory g c).In-Ok-Some
    (g.S.Shelf.outside c.end_whole.new.shelf) c.end_whole.ensures.keeps_held
    (faults.Refused (refusals.Trace trace_faults.NoMemory))
    (IfErr-at_err _ same c.end_whole.ensures.stopped)).memory refl

pub returns-in-Ok-Some-clause-given_up : goal.returns-in-Ok-Some-clause-given_up
returns-in-Ok-Some-clause-given_up g c =
    let there = (goal.at.returns-in-Ok-Some-clause-given_up g c).In-Ok-Some in
    IfErr-weaker c.end_whole.result _ _
    (λ fault stops. (gave_ending g there (g.S.Shelf.outside c.end_whole.new.shelf)
    c.end_whole.ensures.keeps_held fault stops).given_up)
    c.end_whole.ensures.stopped
