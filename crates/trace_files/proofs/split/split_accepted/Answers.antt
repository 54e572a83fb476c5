use Rattle.std.proofs.Common.{List, refl, sym, subst, arith}
use Rattle.shelf.specs.Shelf.{Given}
use Rattle.shelf.specs.Laws.Files.{IsOutputs-begun}
use Rattle.shelf.specs.Laws.Known.{narrows_by, narrows_then}
use Rattle.trace_format.specs.declared.record.TraceEnd.{TraceEnd}
use Rattle.trace_format.specs.Rules.{IsAllowedEnd, IsGoodHeader}
use Rattle.trace_passes.specs.Passes.{trace_with}
use Rattle.trace_passes.specs.Laws.Passes.{trace-parts}
use Rattle.trace_format.specs.Splits.{Split, headers_of}
use Rattle.trace_files.specs.Copies.{IsOther}
use Rattle.trace_files.specs.Copying.{HasSplit, halves_so_far}
use Rattle.trace_files.proofs.Again.{begun_as}
use Rattle.trace_files.proofs.Splittings.{end_allowed, second_header, split_whole, stopped_begun}
use Rattle.trace_files.proofs.Splittings.{stopped_copying, stopped_ending}
use Rattle.trace_files.proofs.Stopped.{accepted_still}
use Rattle.trace_files.proofs.split.split_accepted.Goals as goal

pub new-splitter-requires : goal.new-splitter-requires
new-splitter-requires g c =
    let is = c.requires.accepted in
    let parts = trace-parts is.bytes (trace_with c.args.passed.now is.items) is.is in
    omega (arith, parts.positions, parts.counted)

pub begin-requires-clause-first : goal.begin-requires-clause-first
begin-requires-clause-first g c =
    let is = c.requires.accepted in
    subst (λ (s : Split). IsGoodHeader (headers_of s).0) (sym c.new-splitter.ensures.value)
    (trace-parts is.bytes (trace_with c.args.passed.now is.items) is.is).header

pub begin-requires-clause-second : goal.begin-requires-clause-second
begin-requires-clause-second g c =
    let is = c.requires.accepted in
    let parts = trace-parts is.bytes (trace_with c.args.passed.now is.items) is.is in
    subst (λ (s : Split). IsGoodHeader (headers_of s).1) (sym c.new-splitter.ensures.value)
    (second_header c.args.passed.now.header c.args.passed.now.ending.accesses c.args.at parts.header
    (omega (arith, parts.positions, parts.counted)))

pub returns-in-Err-clause-stopped : goal.returns-in-Err-clause-stopped
returns-in-Err-clause-stopped g c =
    let a = c.args in
    let old = g.S.Shelf.outside a.shelf.now in
    let now = g.S.Shelf.outside c.begin.new.shelf in
    rw c.write_fault.ensures
    (stopped_begun c.a_trace_is_cut_in_two.ensures.grows now.held a.name.now a.at a.first.now
    a.second.now a.passed.now
    (accepted_still old.held now.held a.name.now a.passed.now c.in-Err.ensures.cut.only.held
    c.requires.accepted)
    c.new-splitter.result c.new-splitter.ensures.value old now c.in-Err.error
    c.in-Err.ensures.cut)

pub copy_again-requires-clause-accepted : goal.copy_again-requires-clause-accepted
copy_again-requires-clause-accepted g c =
    accepted_still (g.S.Shelf.outside c.args.shelf.now).held
    (g.S.Shelf.outside c.begin.new.shelf).held c.args.name.now c.args.passed.now
    c.in-Ok.ensures.outputs.only.held c.requires.accepted

pub copy_again-requires-clause-way : goal.copy_again-requires-clause-way
copy_again-requires-clause-way g c =
    (g.S.Shelf.outside c.args.shelf.now, begun_as c.in-Ok.ensures.files c.in-Ok.ensures.outputs)

pub returns-in-Err-copy_again-clause-other : goal.returns-in-Err-copy_again-clause-other
returns-in-Err-copy_again-clause-other g c = λ refusal same.
    subst (λ (before : List Given). IsOther c.args.name.now c.args.passed.now refusal before
    (g.S.Shelf.outside c.copy_again.new.shelf).given) c.begin.ensures.gives
    (c.in-Err-copy_again.ensures.other refusal (cc))

pub returns-in-Err-copy_again-clause-stopped : goal.returns-in-Err-copy_again-clause-stopped
returns-in-Err-copy_again-clause-stopped g c =
    let a = c.args in
    let old = g.S.Shelf.outside a.shelf.now in
    let now = g.S.Shelf.outside c.copy_again.new.shelf in
    let to = c.in-Ok.target in
    let short = c.in-Err-copy_again.ensures.short old
    (begun_as c.in-Ok.ensures.files c.in-Ok.ensures.outputs) in
    stopped_copying c.a_trace_is_cut_in_two.ensures.grows now.held a.name.now a.at a.first.now
    a.second.now a.passed.now
    (accepted_still old.held now.held a.name.now a.passed.now short.held_stay c.requires.accepted)
    c.new-splitter.result c.new-splitter.ensures.value
    (halves_so_far to.first.now to.second.now to.version to.splitter) c.in-Ok.ensures.files old now
    c.in-Err-copy_again.fault short

pub finish-requires-clause-count : goal.finish-requires-clause-count
finish-requires-clause-count g c =
    let old = g.S.Shelf.outside c.args.shelf.now in
    let way = begun_as c.in-Ok.ensures.files c.in-Ok.ensures.outputs in
    (c.in-Ok-copy_again.ensures.copied old way).came.count

pub finish-requires-clause-begun : goal.finish-requires-clause-begun
finish-requires-clause-begun g c =
    let old = g.S.Shelf.outside c.args.shelf.now in
    let way = begun_as c.in-Ok.ensures.files c.in-Ok.ensures.outputs in
    IsOutputs-begun c.copy_again.new.target.files _ old (g.S.Shelf.outside c.copy_again.new.shelf)
    (c.in-Ok-copy_again.ensures.copied old way).outputs

pub finish-requires-clause-first : goal.finish-requires-clause-first
finish-requires-clause-first g c =
    subst (λ (e : TraceEnd × TraceEnd). IsAllowedEnd e.0.steps e.0.outcome)
    (sym c.endings-before.ensures) refl

pub finish-requires-clause-second : goal.finish-requires-clause-second
finish-requires-clause-second g c =
    let old = g.S.Shelf.outside c.args.shelf.now in
    let way = begun_as c.in-Ok.ensures.files c.in-Ok.ensures.outputs in
    let copied = c.in-Ok-copy_again.ensures.copied old way in
    subst (λ (e : TraceEnd × TraceEnd). IsAllowedEnd e.1.steps e.1.outcome)
    (sym c.endings-before.ensures)
    (end_allowed copied.bytes (trace_with c.in-Ok-copy_again.again copied.items) copied.is)

pub returns-in-Ok-finish-clause-copied : goal.returns-in-Ok-finish-clause-copied
returns-in-Ok-finish-clause-copied g c =
    let a = c.args in
    let old = g.S.Shelf.outside a.shelf.now in
    let mid = g.S.Shelf.outside c.copy_again.new.shelf in
    let now = g.S.Shelf.outside c.finish.new.shelf in
    let to = c.in-Ok.target in
    let later = c.copy_again.new.target in
    let s = c.new-splitter in
    let copied = c.in-Ok-copy_again.ensures.copied old
    (begun_as c.in-Ok.ensures.files c.in-Ok.ensures.outputs) in
    let narrow = narrows_by mid.held now.held c.finish.ensures.keeps_held in
    split_whole c.a_trace_is_cut_in_two.ensures.grows now.held a.name.now a.at a.first.now
    a.second.now a.passed.now
    (accepted_still old.held now.held a.name.now a.passed.now
    (narrows_then old.held mid.held now.held copied.outputs.only.held narrow) c.requires.accepted)
    s.result s.ensures.value (halves_so_far to.first.now to.second.now to.version to.splitter)
    c.in-Ok.ensures.files old c.in-Ok-copy_again.again
    c.in-Ok-copy_again.ensures.alike (HasSplit later) later.files mid narrow copied
    c.endings-before.result c.endings-before.ensures now
    (c.in-Ok-finish.ensures.written _ old copied.outputs)

pub returns-clause-stopped : goal.returns-clause-stopped
returns-clause-stopped g c =
    let a = c.args in
    let old = g.S.Shelf.outside a.shelf.now in
    let mid = g.S.Shelf.outside c.copy_again.new.shelf in
    let now = g.S.Shelf.outside c.finish.new.shelf in
    let to = c.in-Ok.target in
    let later = c.copy_again.new.target in
    let s = c.new-splitter in
    let copied = c.in-Ok-copy_again.ensures.copied old
    (begun_as c.in-Ok.ensures.files c.in-Ok.ensures.outputs) in
    let narrow = narrows_by mid.held now.held c.finish.ensures.keeps_held in
    rw c.write_fault-in-Err-finish.ensures
    (stopped_ending c.a_trace_is_cut_in_two.ensures.grows now.held a.name.now a.at a.first.now
    a.second.now a.passed.now
    (accepted_still old.held now.held a.name.now a.passed.now
    (narrows_then old.held mid.held now.held copied.outputs.only.held narrow) c.requires.accepted)
    s.result s.ensures.value
    (halves_so_far to.first.now to.second.now to.version to.splitter)
    c.in-Ok.ensures.files old c.in-Ok-copy_again.again
    c.in-Ok-copy_again.ensures.alike (HasSplit later) later.files mid narrow copied
    c.endings-before.result c.endings-before.ensures now c.in-Err-finish.error
    (c.in-Err-finish.ensures.cut _ old copied.outputs))
