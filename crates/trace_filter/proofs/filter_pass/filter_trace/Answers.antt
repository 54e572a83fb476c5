use Rattle.std.proofs.Common.{◌≡◌, ◌≢◌, ◌++◌, ℕ, List, Option, Some, Ok, Err, refl, sym, ap}
use Rattle.std.proofs.Common.{subst, ◌∙◌, length}
use Rattle.std.specs.List.{All}
use Rattle.sharing_rules.specs.Filtered.{filtered}
use Rattle.shelf.specs.Fetch.{IsFront}
use Rattle.shelf.specs.Files.{AreWritten, Output}
use Rattle.shelf.specs.Shelf.{HasRead, Known, content}
use Rattle.shelf.specs.Laws.Known.{known_same, known_still}
use Rattle.trace_format.specs.declared.record.Header.{Header}
use Rattle.trace_format.specs.declared.record.TraceRecord.{TraceRecord}
use Rattle.trace_format.specs.declared.record.Version.{Version}
use Rattle.trace_format.specs.Reading.{reading_of}
use Rattle.trace_format.specs.Rules.{IsWritable}
use Rattle.trace_passes.specs.declared.passes.PassFault.{PassFault}
use Rattle.trace_passes.specs.declared.passes.PassFault.TheVariants as passes
use Rattle.trace_passes.specs.declared.passes.Passed.{Passed}
use Rattle.trace_passes.specs.declared.wanted.Refusal.{Refusal}
use Rattle.trace_passes.specs.declared.wanted.Refusal.TheVariants as refusals
use Rattle.trace_passes.specs.declared.wanted.Wanted.{Wanted}
use Rattle.trace_format.specs.declared.fault.TraceFault.TheVariants as trace_faults
use Rattle.trace_passes.specs.Cursors.{GoesOn, HasCome, HasEnded, HasStopped, version_and_header}
use Rattle.trace_passes.specs.Passes.{HasPassCause, refusal_of, trace_with}
use Rattle.trace_filter.specs.FilterPass.{HasGivenUp, IsCutAt, IsOnItsWay, MayTake}
use Rattle.trace_filter.specs.FilterPass.{so_far}
use Rattle.trace_filter.specs.declared.filter_fault.FilterFault.{FilterFault}
use Rattle.trace_filter.proofs.Filterings.{at_all, come_next, come_on, come_sited, filtering_first}
use Rattle.trace_filter.proofs.Filterings.{filtering_next, had, may_take}
use Rattle.trace_filter.proofs.OnItsWay.{all_cut, way_outputs}
use Rattle.trace_filter.proofs.Refusals.{fault_in, has_fault, other_refused}
use Rattle.trace_filter.proofs.Sited.{few_in, front_of_all, version_three, writable_behind}
use Rattle.trace_filter.proofs.Stopping.{cut_up, file_of_whole, head_of_trace, other_same, read_up}
use Rattle.trace_filter.proofs.Stopping.{refusal_same, refused_up, touches_of}
use Rattle.trace_filter.proofs.filter_pass.filter_trace.Goals as goal

-- an answer is no fault
no_fault : (o : Option Passed) (f : PassFault) → Ok o ≢ Err f
no_fault o f = λ e. cc

pub pieces-init : goal.pieces-init
pieces-init g c =
    filtering_first c.args.near c.args.trace.now c.args.file.now c.in-Ok.cursor
    (g.S.Shelf.outside c.args.shelf.now) (c.in-Ok.ensures.begins _ _ _)

pub finish-requires : goal.finish-requires
finish-requires g c =
    let some = c.in-Ok-Some.field-0-is in
    let e = c.in-Ok-Some.ensures in
    let k = c.args.near in
    let trace = c.args.trace.now in
    let file = c.args.file.now in
    let f = c.pieces.begun in
    let old = g.S.Shelf.outside c.args.shelf.now in
    let mid = g.S.Shelf.outside c.pieces.shelf in
    let read = g.S.Shelf.outside c.advance.new.shelf in
    let next = c.advance.new.self in
    let at = c.pieces.invariant in
    let good = come_sited mid.held trace at.bytes c.pieces.cursor at.come in
    let come = subst (λ (w : Wanted). HasCome mid.held trace w at.bytes c.pieces.cursor)
    (sym c.wanted_next.ensures) (come_next mid.held trace at.bytes f c.pieces.cursor at.come) in
    let reads : HasRead mid read = record { only = e.only; faults = e.cause.quiet (no_fault _ _) }
    in
    let way = had k trace file f c.pieces.cursor old mid at read reads in
    let head = version_and_header (reading_of at.bytes).1.progress in
    let seen = (reading_of at.bytes).0 in
    record {
      way = (k, file, head, seen, old, way, few_in at.bytes (reading_of at.bytes).1.progress refl);
    }

pub returns-in-Ok-finish-clause-filtered : goal.returns-in-Ok-finish-clause-filtered
returns-in-Ok-finish-clause-filtered g c =
    let some = c.in-Ok-Some.field-0-is in
    let e = c.in-Ok-Some.ensures in
    let k = c.args.near in
    let trace = c.args.trace.now in
    let file = c.args.file.now in
    let f = c.pieces.begun in
    let old = g.S.Shelf.outside c.args.shelf.now in
    let mid = g.S.Shelf.outside c.pieces.shelf in
    let read = g.S.Shelf.outside c.advance.new.shelf in
    let next = c.advance.new.self in
    let at = c.pieces.invariant in
    let good = come_sited mid.held trace at.bytes c.pieces.cursor at.come in
    let come = subst (λ (w : Wanted). HasCome mid.held trace w at.bytes c.pieces.cursor)
    (sym c.wanted_next.ensures) (come_next mid.held trace at.bytes f c.pieces.cursor at.come) in
    let reads : HasRead mid read = record { only = e.only; faults = e.cause.quiet (no_fault _ _) }
    in
    let way = had k trace file f c.pieces.cursor old mid at read reads in
    let passed = c.in-Ok-Some.field-0-0 in
    let head = version_and_header (reading_of at.bytes).1.progress in
    let seen = (reading_of at.bytes).0 in
    let new = g.S.Shelf.outside c.finish.new.shelf in
    let ended = subst (λ (w : Wanted). HasEnded read.held trace w at.bytes passed)
    c.wanted_next.ensures (e.ended passed (ap Ok some) at.bytes come) in
    let t = trace_with passed ended.items in
    let known = head_of_trace at.bytes t ended.is in
    let touches = touches_of at.bytes t ended.is in
    let counts = c.in-Ok-finish.ensures.counts k file (t.version, t.header) seen old
    (subst (λ (h : Option (Version × Header)). IsOnItsWay k file f h seen old read) known way) in
    record {
      bytes = at.bytes;
      whole = known_same (λ fs. at.bytes ≡ content fs trace) read.held new.held
          c.finish.ensures.keeps_held ended.whole;
      trace = t;
      is = ended.is;
      stated = record {
        version = version_three at.bytes t.version t.header known good;
        whole = counts.0 ∙ ap (λ u. length u) touches;
        kept = counts.1 ∙ ap (λ u. length (filtered k u)) touches;
      };
      written = subst (λ (l : List Output). AreWritten l old new)
          (file_of_whole k file at.bytes t ended.is)
          (c.in-Ok-finish.ensures.written k file head seen old way);
    }

pub returns-in-Err-finish-clause-given_up : goal.returns-in-Err-finish-clause-given_up
returns-in-Err-finish-clause-given_up g c =
    let some = c.in-Ok-Some.field-0-is in
    let e = c.in-Ok-Some.ensures in
    let k = c.args.near in
    let trace = c.args.trace.now in
    let file = c.args.file.now in
    let f = c.pieces.begun in
    let old = g.S.Shelf.outside c.args.shelf.now in
    let mid = g.S.Shelf.outside c.pieces.shelf in
    let read = g.S.Shelf.outside c.advance.new.shelf in
    let next = c.advance.new.self in
    let at = c.pieces.invariant in
    let good = come_sited mid.held trace at.bytes c.pieces.cursor at.come in
    let come = subst (λ (w : Wanted). HasCome mid.held trace w at.bytes c.pieces.cursor)
    (sym c.wanted_next.ensures) (come_next mid.held trace at.bytes f c.pieces.cursor at.come) in
    let reads : HasRead mid read = record { only = e.only; faults = e.cause.quiet (no_fault _ _) }
    in
    let way = had k trace file f c.pieces.cursor old mid at read reads in
    let passed = c.in-Ok-Some.field-0-0 in
    let head = version_and_header (reading_of at.bytes).1.progress in
    let seen = (reading_of at.bytes).0 in
    let new = g.S.Shelf.outside c.finish.new.shelf in
    let ended = subst (λ (w : Wanted). HasEnded read.held trace w at.bytes passed)
    c.wanted_next.ensures (e.ended passed (ap Ok some) at.bytes come) in
    let front = known_same (λ fs. IsFront (content fs trace) at.bytes) read.held new.held
    c.finish.ensures.keeps_held
    (known_still (λ fs. IsFront (content fs trace) at.bytes) mid.held read.held e.only.held
    at.come.front) in
    subst (λ (x : FilterFault). HasGivenUp new.held trace file k old new x)
    (sym c.write_fault.ensures)
    (cut_up new.held trace file k at.bytes front good old new c.in-Err-finish.error
    (all_cut k file head seen old new c.in-Err-finish.error
    (c.in-Err-finish.ensures.cut k file head seen old way)))

pub take-requires-clause-writable : goal.take-requires-clause-writable
take-requires-clause-writable g c =
    let none = c.in-Ok-None.field-0-is in
    let e = c.in-Ok-None.ensures in
    let k = c.args.near in
    let trace = c.args.trace.now in
    let file = c.args.file.now in
    let f = c.pieces.begun in
    let old = g.S.Shelf.outside c.args.shelf.now in
    let mid = g.S.Shelf.outside c.pieces.shelf in
    let read = g.S.Shelf.outside c.advance.new.shelf in
    let next = c.advance.new.self in
    let at = c.pieces.invariant in
    let good = come_sited mid.held trace at.bytes c.pieces.cursor at.come in
    let come = subst (λ (w : Wanted). HasCome mid.held trace w at.bytes c.pieces.cursor)
    (sym c.wanted_next.ensures) (come_next mid.held trace at.bytes f c.pieces.cursor at.come) in
    let reads : HasRead mid read = record { only = e.only; faults = e.cause.quiet (no_fault _ _) }
    in
    let way = had k trace file f c.pieces.cursor old mid at read reads in
    let on = subst (λ (w : Wanted). GoesOn mid read trace w at.bytes next)
    c.wanted_next.ensures (e.more (ap Ok none) at.bytes come) in
    let all = at.bytes ++ on.more in
    let all_come = come_on k file read.held trace at.bytes on.more f next old mid good at.way
    on.come in
    subst (All IsWritable) (sym c.items.ensures)
    (writable_behind at.bytes all next.items on.records)

pub take-requires-clause-way : goal.take-requires-clause-way
take-requires-clause-way g c =
    let none = c.in-Ok-None.field-0-is in
    let e = c.in-Ok-None.ensures in
    let k = c.args.near in
    let trace = c.args.trace.now in
    let file = c.args.file.now in
    let f = c.pieces.begun in
    let old = g.S.Shelf.outside c.args.shelf.now in
    let mid = g.S.Shelf.outside c.pieces.shelf in
    let read = g.S.Shelf.outside c.advance.new.shelf in
    let next = c.advance.new.self in
    let at = c.pieces.invariant in
    let good = come_sited mid.held trace at.bytes c.pieces.cursor at.come in
    let come = subst (λ (w : Wanted). HasCome mid.held trace w at.bytes c.pieces.cursor)
    (sym c.wanted_next.ensures) (come_next mid.held trace at.bytes f c.pieces.cursor at.come) in
    let reads : HasRead mid read = record { only = e.only; faults = e.cause.quiet (no_fault _ _) }
    in
    let way = had k trace file f c.pieces.cursor old mid at read reads in
    let on = subst (λ (w : Wanted). GoesOn mid read trace w at.bytes next)
    c.wanted_next.ensures (e.more (ap Ok none) at.bytes come) in
    let all = at.bytes ++ on.more in
    let all_come = come_on k file read.held trace at.bytes on.more f next old mid good at.way
    on.come in
    subst (λ (h : Option (Version × Header)). MayTake k file f h c.items.result.now read)
    (sym c.head.ensures)
    (subst (λ (l : List TraceRecord). MayTake k file f (version_and_header next.reading.progress) l
    read) (sym c.items.ensures)
    (may_take k trace file f c.pieces.cursor old mid at read reads all next.items next.reading
    (on.more, refl) on.records on.come.read.reading))

pub pieces-preserved : goal.pieces-preserved
pieces-preserved g c =
    let none = c.in-Ok-None.field-0-is in
    let e = c.in-Ok-None.ensures in
    let k = c.args.near in
    let trace = c.args.trace.now in
    let file = c.args.file.now in
    let f = c.pieces.begun in
    let old = g.S.Shelf.outside c.args.shelf.now in
    let mid = g.S.Shelf.outside c.pieces.shelf in
    let read = g.S.Shelf.outside c.advance.new.shelf in
    let next = c.advance.new.self in
    let at = c.pieces.invariant in
    let good = come_sited mid.held trace at.bytes c.pieces.cursor at.come in
    let come = subst (λ (w : Wanted). HasCome mid.held trace w at.bytes c.pieces.cursor)
    (sym c.wanted_next.ensures) (come_next mid.held trace at.bytes f c.pieces.cursor at.come) in
    let reads : HasRead mid read = record { only = e.only; faults = e.cause.quiet (no_fault _ _) }
    in
    let way = had k trace file f c.pieces.cursor old mid at read reads in
    let on = subst (λ (w : Wanted). GoesOn mid read trace w at.bytes next)
    c.wanted_next.ensures (e.more (ap Ok none) at.bytes come) in
    let all = at.bytes ++ on.more in
    let all_come = come_on k file read.held trace at.bytes on.more f next old mid good at.way
    on.come in
    let new = g.S.Shelf.outside c.take.new.shelf in
    filtering_next k trace file c.take.new.file next old read new all c.take.ensures.keeps_held all_come
    (at_all k trace file f c.pieces.cursor old mid at read reads all next.items c.items.result.now
    next.reading c.head.result (λ h l b. IsOnItsWay k file c.take.new.file h l b new)
    (on.more, refl) on.records on.come.read.reading c.head.ensures c.items.ensures
    c.in-Ok-take.ensures.came)

pub pieces-smaller : goal.pieces-smaller
pieces-smaller g c = c.in-Ok-None.ensures.fewer (ap Ok c.in-Ok-None.field-0-is)

pub returns-in-Err-take-clause-given_up : goal.returns-in-Err-take-clause-given_up
returns-in-Err-take-clause-given_up g c =
    let none = c.in-Ok-None.field-0-is in
    let e = c.in-Ok-None.ensures in
    let k = c.args.near in
    let trace = c.args.trace.now in
    let file = c.args.file.now in
    let f = c.pieces.begun in
    let old = g.S.Shelf.outside c.args.shelf.now in
    let mid = g.S.Shelf.outside c.pieces.shelf in
    let read = g.S.Shelf.outside c.advance.new.shelf in
    let next = c.advance.new.self in
    let at = c.pieces.invariant in
    let good = come_sited mid.held trace at.bytes c.pieces.cursor at.come in
    let come = subst (λ (w : Wanted). HasCome mid.held trace w at.bytes c.pieces.cursor)
    (sym c.wanted_next.ensures) (come_next mid.held trace at.bytes f c.pieces.cursor at.come) in
    let reads : HasRead mid read = record { only = e.only; faults = e.cause.quiet (no_fault _ _) }
    in
    let way = had k trace file f c.pieces.cursor old mid at read reads in
    let on = subst (λ (w : Wanted). GoesOn mid read trace w at.bytes next)
    c.wanted_next.ensures (e.more (ap Ok none) at.bytes come) in
    let all = at.bytes ++ on.more in
    let all_come = come_on k file read.held trace at.bytes on.more f next old mid good at.way
    on.come in
    let new = g.S.Shelf.outside c.take.new.shelf in
    let error = c.in-Err-take.error in
    let front = known_same (λ fs. IsFront (content fs trace) all) read.held new.held
    c.take.ensures.keeps_held on.come.front in
    subst (λ (x : FilterFault). HasGivenUp new.held trace file k old new x)
    (sym c.write_fault-in-Err-take.ensures)
    (cut_up new.held trace file k all front (come_sited read.held trace all next all_come) old new
    error
    (at_all k trace file f c.pieces.cursor old mid at read reads all next.items c.items.result.now
    next.reading c.head.result (λ h l b. IsCutAt k file h l b new error)
    (on.more, refl) on.records on.come.read.reading c.head.ensures c.items.ensures
    c.in-Err-take.ensures.cut))

pub end_refused-requires-clause-writable : goal.end_refused-requires-clause-writable
end_refused-requires-clause-writable g c =
    let e = c.in-Err-Refused.ensures in
    let is = c.in-Err-Refused.field-0-is in
    let k = c.args.near in
    let trace = c.args.trace.now in
    let file = c.args.file.now in
    let f = c.pieces.begun in
    let old = g.S.Shelf.outside c.args.shelf.now in
    let mid = g.S.Shelf.outside c.pieces.shelf in
    let read = g.S.Shelf.outside c.advance.new.shelf in
    let next = c.advance.new.self in
    let at = c.pieces.invariant in
    let good = come_sited mid.held trace at.bytes c.pieces.cursor at.come in
    let come = subst (λ (w : Wanted). HasCome mid.held trace w at.bytes c.pieces.cursor)
    (sym c.wanted_next.ensures) (come_next mid.held trace at.bytes f c.pieces.cursor at.come) in
    let cause = subst (λ (x : PassFault). HasPassCause {T = Option Passed} trace mid read (Err x)) is
    e.cause in
    let refusal = c.in-Err-Refused.refusal in
    let reads : HasRead mid read = record { only = e.only; faults = cause.quiet (λ i. cc) } in
    let way = had k trace file f c.pieces.cursor old mid at read reads in
    let wrong = fault_in refusal (sym c.is_fault.ensures ∙ c.if-not-is_fault.false) in
    let stopped = subst (λ (w : Wanted).
    HasStopped read.held trace w at.bytes (refusals.Trace wrong.0) next) c.wanted_next.ensures
    (e.stopped wrong.0 (ap Err (is ∙ ap passes.Refused wrong.1)) at.bytes come) in
    let fault = has_fault k file read.held trace at.bytes f wrong.0 next old mid good at.way stopped
    in
    writable_behind at.bytes fault.all next.items fault.records

pub end_refused-requires-clause-way : goal.end_refused-requires-clause-way
end_refused-requires-clause-way g c =
    let e = c.in-Err-Refused.ensures in
    let is = c.in-Err-Refused.field-0-is in
    let k = c.args.near in
    let trace = c.args.trace.now in
    let file = c.args.file.now in
    let f = c.pieces.begun in
    let old = g.S.Shelf.outside c.args.shelf.now in
    let mid = g.S.Shelf.outside c.pieces.shelf in
    let read = g.S.Shelf.outside c.advance.new.shelf in
    let next = c.advance.new.self in
    let at = c.pieces.invariant in
    let good = come_sited mid.held trace at.bytes c.pieces.cursor at.come in
    let come = subst (λ (w : Wanted). HasCome mid.held trace w at.bytes c.pieces.cursor)
    (sym c.wanted_next.ensures) (come_next mid.held trace at.bytes f c.pieces.cursor at.come) in
    let cause = subst (λ (x : PassFault). HasPassCause {T = Option Passed} trace mid read (Err x)) is
    e.cause in
    let refusal = c.in-Err-Refused.refusal in
    let reads : HasRead mid read = record { only = e.only; faults = cause.quiet (λ i. cc) } in
    let way = had k trace file f c.pieces.cursor old mid at read reads in
    let wrong = fault_in refusal (sym c.is_fault.ensures ∙ c.if-not-is_fault.false) in
    let stopped = subst (λ (w : Wanted).
    HasStopped read.held trace w at.bytes (refusals.Trace wrong.0) next) c.wanted_next.ensures
    (e.stopped wrong.0 (ap Err (is ∙ ap passes.Refused wrong.1)) at.bytes come) in
    let fault = has_fault k file read.held trace at.bytes f wrong.0 next old mid good at.way stopped
    in
    may_take k trace file f c.pieces.cursor old mid at read reads fault.all next.items next.reading
    fault.behind fault.records fault.reading

pub returns-in-Ok-end_refused-clause-given_up : goal.returns-in-Ok-end_refused-clause-given_up
returns-in-Ok-end_refused-clause-given_up g c =
    let e = c.in-Err-Refused.ensures in
    let is = c.in-Err-Refused.field-0-is in
    let k = c.args.near in
    let trace = c.args.trace.now in
    let file = c.args.file.now in
    let f = c.pieces.begun in
    let old = g.S.Shelf.outside c.args.shelf.now in
    let mid = g.S.Shelf.outside c.pieces.shelf in
    let read = g.S.Shelf.outside c.advance.new.shelf in
    let next = c.advance.new.self in
    let at = c.pieces.invariant in
    let good = come_sited mid.held trace at.bytes c.pieces.cursor at.come in
    let come = subst (λ (w : Wanted). HasCome mid.held trace w at.bytes c.pieces.cursor)
    (sym c.wanted_next.ensures) (come_next mid.held trace at.bytes f c.pieces.cursor at.come) in
    let cause = subst (λ (x : PassFault). HasPassCause {T = Option Passed} trace mid read (Err x)) is
    e.cause in
    let refusal = c.in-Err-Refused.refusal in
    let reads : HasRead mid read = record { only = e.only; faults = cause.quiet (λ i. cc) } in
    let way = had k trace file f c.pieces.cursor old mid at read reads in
    let wrong = fault_in refusal (sym c.is_fault.ensures ∙ c.if-not-is_fault.false) in
    let stopped = subst (λ (w : Wanted).
    HasStopped read.held trace w at.bytes (refusals.Trace wrong.0) next) c.wanted_next.ensures
    (e.stopped wrong.0 (ap Err (is ∙ ap passes.Refused wrong.1)) at.bytes come) in
    let fault = has_fault k file read.held trace at.bytes f wrong.0 next old mid good at.way stopped
    in
    let new = g.S.Shelf.outside c.end_refused.new.shelf in
    let whole = known_same (λ fs. fault.all ≡ content fs trace) read.held new.held
    c.end_refused.ensures.keeps_held fault.whole in
    let front = front_of_all new.held trace fault.all whole in
    let other : refusal ≢ refusals.Trace trace_faults.NoMemory =
    λ same_one. e.memory (ap Err (is ∙ ap passes.Refused same_one)) in
    refused_up new.held trace file k fault.all front fault.good old new refusal whole
    (fault.refused ∙ ap (λ (r : Refusal). Some r) (sym wrong.1)) other
    (at_all k trace file f c.pieces.cursor old mid at read reads fault.all next.items next.items
    next.reading (version_and_header next.reading.progress)
    (λ h l b. AreWritten (so_far k file h l) b new) fault.behind fault.records fault.reading refl
    refl c.in-Ok-end_refused.ensures.written)

pub returns-in-Err-end_refused-clause-given_up : goal.returns-in-Err-end_refused-clause-given_up
returns-in-Err-end_refused-clause-given_up g c =
    let e = c.in-Err-Refused.ensures in
    let is = c.in-Err-Refused.field-0-is in
    let k = c.args.near in
    let trace = c.args.trace.now in
    let file = c.args.file.now in
    let f = c.pieces.begun in
    let old = g.S.Shelf.outside c.args.shelf.now in
    let mid = g.S.Shelf.outside c.pieces.shelf in
    let read = g.S.Shelf.outside c.advance.new.shelf in
    let next = c.advance.new.self in
    let at = c.pieces.invariant in
    let good = come_sited mid.held trace at.bytes c.pieces.cursor at.come in
    let come = subst (λ (w : Wanted). HasCome mid.held trace w at.bytes c.pieces.cursor)
    (sym c.wanted_next.ensures) (come_next mid.held trace at.bytes f c.pieces.cursor at.come) in
    let cause = subst (λ (x : PassFault). HasPassCause {T = Option Passed} trace mid read (Err x)) is
    e.cause in
    let refusal = c.in-Err-Refused.refusal in
    let reads : HasRead mid read = record { only = e.only; faults = cause.quiet (λ i. cc) } in
    let way = had k trace file f c.pieces.cursor old mid at read reads in
    let wrong = fault_in refusal (sym c.is_fault.ensures ∙ c.if-not-is_fault.false) in
    let stopped = subst (λ (w : Wanted).
    HasStopped read.held trace w at.bytes (refusals.Trace wrong.0) next) c.wanted_next.ensures
    (e.stopped wrong.0 (ap Err (is ∙ ap passes.Refused wrong.1)) at.bytes come) in
    let fault = has_fault k file read.held trace at.bytes f wrong.0 next old mid good at.way stopped
    in
    let new = g.S.Shelf.outside c.end_refused.new.shelf in
    let whole = known_same (λ fs. fault.all ≡ content fs trace) read.held new.held
    c.end_refused.ensures.keeps_held fault.whole in
    let front = front_of_all new.held trace fault.all whole in
    let error = c.in-Err-end_refused.error in
    subst (λ (x : FilterFault). HasGivenUp new.held trace file k old new x)
    (sym c.write_fault-in-Err-end_refused.ensures)
    (cut_up new.held trace file k fault.all front fault.good old new error
    (at_all k trace file f c.pieces.cursor old mid at read reads fault.all next.items next.items
    next.reading (version_and_header next.reading.progress)
    (λ h l b. IsCutAt k file h l b new error) fault.behind fault.records fault.reading refl
    refl c.in-Err-end_refused.ensures.cut))

pub returns-then-not-is_fault-clause-given_up : goal.returns-then-not-is_fault-clause-given_up
returns-then-not-is_fault-clause-given_up g c =
    let e = c.in-Err-Refused.ensures in
    let is = c.in-Err-Refused.field-0-is in
    let k = c.args.near in
    let trace = c.args.trace.now in
    let file = c.args.file.now in
    let f = c.pieces.begun in
    let old = g.S.Shelf.outside c.args.shelf.now in
    let mid = g.S.Shelf.outside c.pieces.shelf in
    let read = g.S.Shelf.outside c.advance.new.shelf in
    let next = c.advance.new.self in
    let at = c.pieces.invariant in
    let good = come_sited mid.held trace at.bytes c.pieces.cursor at.come in
    let come = subst (λ (w : Wanted). HasCome mid.held trace w at.bytes c.pieces.cursor)
    (sym c.wanted_next.ensures) (come_next mid.held trace at.bytes f c.pieces.cursor at.come) in
    let cause = subst (λ (x : PassFault). HasPassCause {T = Option Passed} trace mid read (Err x)) is
    e.cause in
    let refusal = c.in-Err-Refused.refusal in
    let reads : HasRead mid read = record { only = e.only; faults = cause.quiet (λ i. cc) } in
    let way = had k trace file f c.pieces.cursor old mid at read reads in
    let front = known_still (λ fs. IsFront (content fs trace) at.bytes) mid.held read.held e.only.held
    at.come.front in
    let outs = way_outputs k file f (version_and_header (reading_of at.bytes).1.progress)
    (reading_of at.bytes).0 old mid at.way in
    let stated = subst (λ (w : Wanted). Known read.held
    (λ fs. refusal_of w (content fs trace) ≡ Some refusal)) c.wanted_next.ensures
    (e.refused refusal (ap Err is)) in
    let found = subst (λ (w : Wanted). (b : List ℕ) × (refusal_of w b ≡ Some refusal))
    c.wanted_next.ensures (e.found refusal (ap Err is)) in
    let refused = other_refused k read.held trace file f
    (version_and_header (reading_of at.bytes).1.progress) (reading_of at.bytes).0 refusal old read
    (sym c.is_fault.ensures ∙ c.if-not-is_fault.true) way stated found in
    read_up read.held trace file k at.bytes front good {T = Option Passed} outs.0 old mid read
    (passes.Refused refusal) outs.1 e.only cause
    (other_same read.held trace file k old read refusal refused)
    (λ same_one. e.memory (ap Err (is ∙ ap passes.Refused (refusal_same refusal _ same_one))))

pub returns-in-Err-ReadFault-clause-given_up : goal.returns-in-Err-ReadFault-clause-given_up
returns-in-Err-ReadFault-clause-given_up g c =
    let e = c.in-Err-ReadFault.ensures in
    let is = c.in-Err-ReadFault.field-0-is in
    let k = c.args.near in
    let trace = c.args.trace.now in
    let file = c.args.file.now in
    let f = c.pieces.begun in
    let old = g.S.Shelf.outside c.args.shelf.now in
    let mid = g.S.Shelf.outside c.pieces.shelf in
    let read = g.S.Shelf.outside c.advance.new.shelf in
    let next = c.advance.new.self in
    let at = c.pieces.invariant in
    let good = come_sited mid.held trace at.bytes c.pieces.cursor at.come in
    let come = subst (λ (w : Wanted). HasCome mid.held trace w at.bytes c.pieces.cursor)
    (sym c.wanted_next.ensures) (come_next mid.held trace at.bytes f c.pieces.cursor at.come) in
    let cause = subst (λ (x : PassFault). HasPassCause {T = Option Passed} trace mid read (Err x)) is
    e.cause in
    let front = known_still (λ fs. IsFront (content fs trace) at.bytes) mid.held read.held e.only.held
    at.come.front in
    let outs = way_outputs k file f (version_and_header (reading_of at.bytes).1.progress)
    (reading_of at.bytes).0 old mid at.way in
    read_up read.held trace file k at.bytes front good {T = Option Passed} outs.0 old mid read
    passes.ReadFault outs.1 e.only cause (λ r i. absurd cc) (λ i. cc)

pub returns-in-Err-NoMemory-clause-given_up : goal.returns-in-Err-NoMemory-clause-given_up
returns-in-Err-NoMemory-clause-given_up g c =
    let e = c.in-Err-NoMemory.ensures in
    let is = c.in-Err-NoMemory.field-0-is in
    let k = c.args.near in
    let trace = c.args.trace.now in
    let file = c.args.file.now in
    let f = c.pieces.begun in
    let old = g.S.Shelf.outside c.args.shelf.now in
    let mid = g.S.Shelf.outside c.pieces.shelf in
    let read = g.S.Shelf.outside c.advance.new.shelf in
    let next = c.advance.new.self in
    let at = c.pieces.invariant in
    let good = come_sited mid.held trace at.bytes c.pieces.cursor at.come in
    let come = subst (λ (w : Wanted). HasCome mid.held trace w at.bytes c.pieces.cursor)
    (sym c.wanted_next.ensures) (come_next mid.held trace at.bytes f c.pieces.cursor at.come) in
    let cause = subst (λ (x : PassFault). HasPassCause {T = Option Passed} trace mid read (Err x)) is
    e.cause in
    let front = known_still (λ fs. IsFront (content fs trace) at.bytes) mid.held read.held e.only.held
    at.come.front in
    let outs = way_outputs k file f (version_and_header (reading_of at.bytes).1.progress)
    (reading_of at.bytes).0 old mid at.way in
    read_up read.held trace file k at.bytes front good {T = Option Passed} outs.0 old mid read
    passes.NoMemory outs.1 e.only cause (λ r i. absurd cc) (λ i. cc)
