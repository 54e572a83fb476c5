use Rattle.std.proofs.Common.{[], List, subst}
use Rattle.shelf.specs.Files.{AreCut}
use Rattle.shelf.specs.Shelf.{Given}
use Rattle.shelf.specs.Laws.Files.{IsOutputs-begun}
use Rattle.shelf.specs.Laws.Known.{narrows_by, narrows_then}
use Rattle.trace_format.specs.declared.record.Version.{Version}
use Rattle.trace_passes.specs.Passes.{trace_with}
use Rattle.trace_passes.specs.Laws.Passes.{trace-parts}
use Rattle.trace_files.specs.Copies.{IsOther}
use Rattle.trace_files.specs.OneTrace.{HasPut, so_far, trace_so_far}
use Rattle.trace_files.proofs.Again.{begun_as}
use Rattle.trace_files.proofs.Conversions.{copied_whole, stopped_again, stopped_ending, stopped_put}
use Rattle.trace_files.proofs.Readings.{first_none}
use Rattle.trace_files.proofs.Stopped.{accepted_still}
use Rattle.trace_files.proofs.convert.convert_accepted.Goals as goal

pub begin-requires : goal.begin-requires
begin-requires g c = (trace-parts c.requires.bytes (trace_with c.args.first.now c.requires.items)
    c.requires.is).header

pub returns-in-Err-clause-stopped : goal.returns-in-Err-clause-stopped
returns-in-Err-clause-stopped g c =
    let old = g.S.Shelf.outside c.args.shelf.now in
    let now = g.S.Shelf.outside c.begin.new.shelf in
    let name = c.args.name.now in
    let output = c.args.output.now in
    let first = c.args.first.now in
    rw c.write_fault.ensures
    (stopped_put now.held name output first
    (accepted_still old.held now.held name first c.in-Err.ensures.cut.only.held c.requires) []
    (first_none now.held name) old now c.in-Err.error
    (subst (λ (v : Version). AreCut (trace_so_far output v first.header []) old now c.in-Err.error)
    c.other_version-version.ensures c.in-Err.ensures.cut))

pub copy_again-requires-clause-accepted : goal.copy_again-requires-clause-accepted
copy_again-requires-clause-accepted g c =
    accepted_still (g.S.Shelf.outside c.args.shelf.now).held
    (g.S.Shelf.outside c.begin.new.shelf).held c.args.name.now c.args.first.now
    c.in-Ok.ensures.outputs.only.held c.requires

pub copy_again-requires-clause-way : goal.copy_again-requires-clause-way
copy_again-requires-clause-way g c =
    (g.S.Shelf.outside c.args.shelf.now, begun_as c.in-Ok.ensures.files c.in-Ok.ensures.outputs)

pub returns-in-Err-copy_again-clause-stopped : goal.returns-in-Err-copy_again-clause-stopped
returns-in-Err-copy_again-clause-stopped g c =
    let a = c.args in
    let old = g.S.Shelf.outside a.shelf.now in
    let now = g.S.Shelf.outside c.copy_again.new.shelf in
    let to = c.in-Ok.target in
    let short = c.in-Err-copy_again.ensures.short old
    (begun_as c.in-Ok.ensures.files c.in-Ok.ensures.outputs) in
    stopped_again now.held a.name.now a.output.now a.first.now
    (accepted_still old.held now.held a.name.now a.first.now short.held_stay c.requires)
    c.other_version-version.result c.other_version-version.ensures (so_far to)
    c.in-Ok.ensures.files old now c.in-Err-copy_again.fault short

pub returns-in-Err-copy_again-clause-other : goal.returns-in-Err-copy_again-clause-other
returns-in-Err-copy_again-clause-other g c = λ refusal same.
    subst (λ (before : List Given). IsOther c.args.name.now c.args.first.now refusal before
    (g.S.Shelf.outside c.copy_again.new.shelf).given) c.begin.ensures.gives
    (c.in-Err-copy_again.ensures.other refusal (cc))

pub finish-requires : goal.finish-requires
finish-requires g c =
    let old = g.S.Shelf.outside c.args.shelf.now in
    let way = begun_as c.in-Ok.ensures.files c.in-Ok.ensures.outputs in
    IsOutputs-begun c.copy_again.new.target.files _ old (g.S.Shelf.outside c.copy_again.new.shelf)
    (c.in-Ok-copy_again.ensures.copied old way).outputs

pub returns-in-Ok-finish-clause-copied : goal.returns-in-Ok-finish-clause-copied
returns-in-Ok-finish-clause-copied g c =
    let a = c.args in
    let old = g.S.Shelf.outside a.shelf.now in
    let mid = g.S.Shelf.outside c.copy_again.new.shelf in
    let now = g.S.Shelf.outside c.finish.new.shelf in
    let to = c.in-Ok.target in
    let later = c.copy_again.new.target in
    let copied = c.in-Ok-copy_again.ensures.copied old
    (begun_as c.in-Ok.ensures.files c.in-Ok.ensures.outputs) in
    let narrow = narrows_by mid.held now.held c.finish.ensures.keeps_held in
    copied_whole now.held a.name.now a.output.now a.first.now
    (accepted_still old.held now.held a.name.now a.first.now
    (narrows_then old.held mid.held now.held copied.outputs.only.held narrow) c.requires)
    c.other_version-version.result c.other_version-version.ensures
    (so_far to) c.in-Ok.ensures.files old c.in-Ok-copy_again.passed c.in-Ok-copy_again.ensures.alike
    (HasPut later) later.files mid narrow copied now
    (c.in-Ok-finish.ensures.written _ old copied.outputs)

pub returns-clause-stopped : goal.returns-clause-stopped
returns-clause-stopped g c =
    let a = c.args in
    let old = g.S.Shelf.outside a.shelf.now in
    let mid = g.S.Shelf.outside c.copy_again.new.shelf in
    let now = g.S.Shelf.outside c.finish.new.shelf in
    let to = c.in-Ok.target in
    let later = c.copy_again.new.target in
    let copied = c.in-Ok-copy_again.ensures.copied old
    (begun_as c.in-Ok.ensures.files c.in-Ok.ensures.outputs) in
    let narrow = narrows_by mid.held now.held c.finish.ensures.keeps_held in
    rw c.write_fault-in-Err-finish.ensures
    (stopped_ending now.held a.name.now a.output.now a.first.now
    (accepted_still old.held now.held a.name.now a.first.now
    (narrows_then old.held mid.held now.held copied.outputs.only.held narrow) c.requires)
    c.other_version-version.result c.other_version-version.ensures
    (so_far to) c.in-Ok.ensures.files old c.in-Ok-copy_again.passed c.in-Ok-copy_again.ensures.alike
    (HasPut later) later.files mid narrow copied now c.in-Err-finish.error
    (c.in-Err-finish.ensures.cut _ old copied.outputs))
