use Rattle.std.proofs.Common.{◌≡◌, ◌≢◌, ◌++◌, ℕ, List, All, Ok, Err, Option, Some, refl, sym, ap, subst, take}
use Rattle.trace_passes.specs.declared.passes.PassFault.{PassFault}
use Rattle.trace_passes.specs.declared.passes.Passed.{Passed}
use Rattle.trace_passes.specs.declared.wanted.Wanted.{Wanted}
use Rattle.trace_passes.specs.Passes.{refusal_of}
use Rattle.shelf.specs.Agreeing.{HasShown}
use Rattle.shelf.specs.Shelf.{HasRead, Outside}
use Rattle.shelf.specs.Laws.Known.{narrows_by, narrows_same, narrows_then}
use Rattle.shelf.specs.Files.{AreCut}
use Rattle.shelf.specs.OnTheirWay.{IsOutputs}
use Rattle.trace_format.specs.declared.record.TraceRecord.{TraceRecord}
use Rattle.trace_format.specs.Rules.{IsWritable}
use Rattle.trace_files.proofs.Going.{at_first, way_at}
use Rattle.trace_files.proofs.Pieces.{come_at, cut_at, end_at, ended_at, next_at, on_at}
use Rattle.trace_files.proofs.Pieces.{piece_writable, refused_at, short_at, short_none, shown_at}
use Rattle.trace_files.proofs.Pieces.{was_refused}
use Rattle.trace_files.proofs.copy.copy_records.Goals as goal

-- an answer is no fault
no_fault : (o : Option Passed) (f : PassFault) → Ok o ≢ Err f
no_fault o f = λ e. cc

pub pieces-init : goal.pieces-init
pieces-init g c =
    at_first g.T.Target.waiting g.T.Target.files g.T.Target.has c.args.name.now c.args.target.now
    c.in-Ok.cursor
    (g.S.Shelf.outside c.args.shelf.now) (c.in-Ok.ensures.begins _ _ _) c.requires.has

pub advance-requires : goal.advance-requires
advance-requires g c = (
  c.pieces.invariant.bytes,
  come_at g.T.Target.waiting g.T.Target.files g.T.Target.has c.args.name.now c.args.target.now
      c.pieces.target c.pieces.cursor
      (g.S.Shelf.outside c.args.shelf.now) (g.S.Shelf.outside c.pieces.shelf) c.pieces.invariant
      c.unfiltered.result c.unfiltered.ensures,
)

pub put_all-requires : goal.put_all-requires
put_all-requires g c =
    let none = c.in-Ok-None.field-0-is in
    let e = c.in-Ok-None.ensures in
    let old = g.S.Shelf.outside c.args.shelf.now in
    let mid = g.S.Shelf.outside c.pieces.shelf in
    let next = c.advance.new.self in
    let read = g.S.Shelf.outside c.advance.new.shelf in
    let reads : HasRead mid read = record { only = e.only; faults = e.cause.quiet (no_fault _ _) }
    in
    let on = on_at g.T.Target.waiting g.T.Target.files g.T.Target.has c.args.name.now
    c.args.target.now c.pieces.target c.pieces.cursor
    old mid c.pieces.invariant c.unfiltered.result c.unfiltered.ensures next read (e.more (ap Ok none)) in
    record {
      writable = subst (All IsWritable) (sym c.items.ensures)
          (piece_writable mid read c.args.name.now c.pieces.invariant.bytes next on);
      way = way_at g.T.Target.waiting g.T.Target.files g.T.Target.has c.args.name.now
          c.args.target.now c.pieces.target c.pieces.cursor
          old mid read c.requires.way.0 c.requires.way.1 c.pieces.invariant reads;
    }

pub pieces-preserved : goal.pieces-preserved
pieces-preserved g c =
    let none = c.in-Ok-None.field-0-is in
    let e = c.in-Ok-None.ensures in
    let old = g.S.Shelf.outside c.args.shelf.now in
    let mid = g.S.Shelf.outside c.pieces.shelf in
    let read = g.S.Shelf.outside c.advance.new.shelf in
    let new = g.S.Shelf.outside c.put_all.new.shelf in
    let now = c.pieces.target in
    let later = c.put_all.new.target in
    let next = c.advance.new.self in
    let has = g.T.Target.has in
    let reads : HasRead mid read = record { only = e.only; faults = e.cause.quiet (no_fault _ _) }
    in
    let on = on_at g.T.Target.waiting g.T.Target.files has c.args.name.now c.args.target.now now
    c.pieces.cursor
    old mid c.pieces.invariant c.unfiltered.result c.unfiltered.ensures next read (e.more (ap Ok none)) in
    next_at g.T.Target.waiting g.T.Target.files has c.args.name.now c.args.target.now now
    c.pieces.cursor
    old mid c.pieces.invariant next read reads on later new c.put_all.ensures.files
    (subst (λ (items : List TraceRecord). (seen : List TraceRecord) → has now seen
    → has later (seen ++ items))
    c.items.ensures c.in-Ok-put_all.ensures.has)
    (subst (λ (items : List TraceRecord). (seen : List TraceRecord) (b : Outside) → has now seen
    → IsOutputs (g.T.Target.waiting now) (g.T.Target.files now seen) b read
    → IsOutputs (g.T.Target.waiting later) (g.T.Target.files now (seen ++ items)) b new)
    c.items.ensures c.in-Ok-put_all.ensures.outputs)
    (narrows_by read.held new.held c.put_all.ensures.keeps_held) c.put_all.ensures.gives

pub pieces-smaller : goal.pieces-smaller
pieces-smaller g c = let none = c.in-Ok-None.field-0-is in c.in-Ok-None.ensures.fewer (ap Ok none)

pub returns-in-Err-clause-short : goal.returns-in-Err-clause-short
returns-in-Err-clause-short g c = λ before began.
    let old = g.S.Shelf.outside c.args.shelf.now in
    rw c.second_fault.ensures
    (short_none old.held c.args.name.now (g.T.Target.files c.args.target.now)
    (g.T.Target.waiting c.args.target.now) c.in-Err.fault
    (c.in-Err.ensures.memory c.in-Err.fault refl) old before began)

pub returns-in-Ok-Some-clause-copied : goal.returns-in-Ok-Some-clause-copied
returns-in-Ok-Some-clause-copied g c =
    let some = c.in-Ok-Some.field-0-is in
    let e = c.in-Ok-Some.ensures in
    let old = g.S.Shelf.outside c.args.shelf.now in
    let mid = g.S.Shelf.outside c.pieces.shelf in
    let read = g.S.Shelf.outside c.advance.new.shelf in
    let reads : HasRead mid read = record { only = e.only; faults = e.cause.quiet (no_fault _ _) }
    in
    let passed = c.in-Ok-Some.passed in
    let ended = end_at g.T.Target.waiting g.T.Target.files g.T.Target.has c.args.name.now
    c.args.target.now c.pieces.target c.pieces.cursor
    old mid c.pieces.invariant c.unfiltered.result c.unfiltered.ensures passed read.held
    (e.ended passed (ap Ok some)) in
    ended_at g.T.Target.waiting g.T.Target.files g.T.Target.has c.args.name.now c.args.target.now
    c.pieces.target c.pieces.cursor
    old mid c.pieces.invariant passed read reads ended

pub returns-in-Ok-Some-clause-shown : goal.returns-in-Ok-Some-clause-shown
returns-in-Ok-Some-clause-shown g c =
    let some = c.in-Ok-Some.field-0-is in
    let e = c.in-Ok-Some.ensures in
    let old = g.S.Shelf.outside c.args.shelf.now in
    let mid = g.S.Shelf.outside c.pieces.shelf in
    let read = g.S.Shelf.outside c.advance.new.shelf in
    let passed = c.in-Ok-Some.passed in
    let x = c.pieces.invariant in
    let ended = end_at g.T.Target.waiting g.T.Target.files g.T.Target.has c.args.name.now
    c.args.target.now c.pieces.target c.pieces.cursor old mid x c.unfiltered.result c.unfiltered.ensures passed
    read.held (e.ended passed (ap Ok some)) in
    shown_at g.T.Target.waiting g.T.Target.files g.T.Target.has c.args.name.now c.args.target.now
    c.pieces.target c.pieces.cursor old mid x passed read.held read.given ended
    (e.shown passed (ap Ok some) x.bytes
    (come_at g.T.Target.waiting g.T.Target.files g.T.Target.has c.args.name.now c.args.target.now
    c.pieces.target c.pieces.cursor old mid x c.unfiltered.result c.unfiltered.ensures) old.given x.front)

pub returns-in-Err-put_all-clause-short : goal.returns-in-Err-put_all-clause-short
returns-in-Err-put_all-clause-short g c = λ before began.
    let none = c.in-Ok-None.field-0-is in
    let e = c.in-Ok-None.ensures in
    let old = g.S.Shelf.outside c.args.shelf.now in
    let mid = g.S.Shelf.outside c.pieces.shelf in
    let read = g.S.Shelf.outside c.advance.new.shelf in
    let new = g.S.Shelf.outside c.put_all.new.shelf in
    let now = c.pieces.target in
    let next = c.advance.new.self in
    let error = c.in-Err-put_all.error in
    let reads : HasRead mid read = record { only = e.only; faults = e.cause.quiet (no_fault _ _) }
    in
    let on = on_at g.T.Target.waiting g.T.Target.files g.T.Target.has c.args.name.now
    c.args.target.now now c.pieces.cursor
    old mid c.pieces.invariant c.unfiltered.result c.unfiltered.ensures next read (e.more (ap Ok none)) in
    rw c.write_fault.ensures
    (cut_at g.T.Target.waiting g.T.Target.files g.T.Target.has c.args.name.now c.args.target.now now
    c.pieces.cursor
    old mid c.pieces.invariant next read reads on new error
    (subst (λ (items : List TraceRecord). (k : ℕ)
    × ((seen : List TraceRecord) (b : Outside) → g.T.Target.has now seen
    → IsOutputs (g.T.Target.waiting now) (g.T.Target.files now seen) b read
    → AreCut (g.T.Target.files now (seen ++ take k items)) b new error)) c.items.ensures
    c.in-Err-put_all.ensures.cut)
    (narrows_by read.held new.held c.put_all.ensures.keeps_held) before began)

pub returns-in-Err-advance-clause-short : goal.returns-in-Err-advance-clause-short
returns-in-Err-advance-clause-short g c = λ before began.
    let e = c.in-Err-advance.ensures in
    rw c.second_fault-in-Err-advance.ensures
    (short_at g.T.Target.waiting g.T.Target.files g.T.Target.has c.args.name.now c.args.target.now
    c.pieces.target c.pieces.cursor
    (g.S.Shelf.outside c.args.shelf.now) (g.S.Shelf.outside c.pieces.shelf) c.pieces.invariant
    c.in-Err-advance.fault
    (g.S.Shelf.outside c.advance.new.shelf) e.only e.cause before began)

pub returns-in-Err-advance-clause-changed : goal.returns-in-Err-advance-clause-changed
returns-in-Err-advance-clause-changed g c = λ refusal same.
    let refused = was_refused c.in-Err-advance.fault c.second_fault-in-Err-advance.result refusal
    c.second_fault-in-Err-advance.ensures (cc) in
    refused_at (g.S.Shelf.outside c.advance.new.shelf).held c.args.name.now c.unfiltered.result
    c.unfiltered.ensures refusal
    (c.in-Err-advance.ensures.refused refusal (cc))

pub returns-in-Err-advance-clause-found : goal.returns-in-Err-advance-clause-found
returns-in-Err-advance-clause-found g c = λ refusal same.
    let refused = was_refused c.in-Err-advance.fault c.second_fault-in-Err-advance.result refusal
    c.second_fault-in-Err-advance.ensures (cc) in
    let old = g.S.Shelf.outside c.args.shelf.now in
    let read = g.S.Shelf.outside c.advance.new.shelf in
    let x = c.pieces.invariant in
    subst (λ (w : Wanted). HasShown c.args.name.now (λ file. refusal_of w file ≡ Some refusal)
    old.given read.given) c.unfiltered.ensures
    (c.in-Err-advance.ensures.shown_refused refusal (cc) x.bytes
    (come_at g.T.Target.waiting g.T.Target.files g.T.Target.has c.args.name.now c.args.target.now
    c.pieces.target c.pieces.cursor old (g.S.Shelf.outside c.pieces.shelf) x c.unfiltered.result
    c.unfiltered.ensures) old.given x.front)

-- ---- no more is known than before

pub returns-in-Err-clause-keeps_held : goal.returns-in-Err-clause-keeps_held
returns-in-Err-clause-keeps_held g c = narrows_same (g.S.Shelf.outside c.args.shelf.now).held

pub returns-in-Ok-Some-clause-keeps_held : goal.returns-in-Ok-Some-clause-keeps_held
returns-in-Ok-Some-clause-keeps_held g c =
    narrows_then _ _ _ c.pieces.invariant.narrow c.in-Ok-Some.ensures.only.held

pub returns-in-Err-put_all-clause-keeps_held : goal.returns-in-Err-put_all-clause-keeps_held
returns-in-Err-put_all-clause-keeps_held g c =
    narrows_then _ _ _ c.pieces.invariant.narrow
    (narrows_then _ _ _ c.in-Ok-None.ensures.only.held (narrows_by _ _ c.put_all.ensures.keeps_held))

pub returns-in-Err-advance-clause-keeps_held : goal.returns-in-Err-advance-clause-keeps_held
returns-in-Err-advance-clause-keeps_held g c =
    narrows_then _ _ _ c.pieces.invariant.narrow c.in-Err-advance.ensures.only.held

pub returns-in-Ok-Some-clause-plain : goal.returns-in-Ok-Some-clause-plain
returns-in-Ok-Some-clause-plain g c =
    let some = c.in-Ok-Some.field-0-is in
    let e = c.in-Ok-Some.ensures in
    let old = g.S.Shelf.outside c.args.shelf.now in
    let mid = g.S.Shelf.outside c.pieces.shelf in
    let read = g.S.Shelf.outside c.advance.new.shelf in
    let passed = c.in-Ok-Some.passed in
    let x = c.pieces.invariant in
    let ended = end_at g.T.Target.waiting g.T.Target.files g.T.Target.has c.args.name.now
    c.args.target.now c.pieces.target c.pieces.cursor old mid x c.unfiltered.result
    c.unfiltered.ensures passed read.held (e.ended passed (ap Ok some)) in
    ended.near
