use Rattle.std.proofs.Common.{◌≡◌, ◌∷◌, [], length}
use Rattle.std.proofs.lemmas.Result.{IfErr-at_err, IfErr-weaker, IfOk-weaker}
use Rattle.trace_format.specs.declared.fault.TraceFault.TheVariants as trace_faults
use Rattle.trace_format.specs.Rules.{touches_in}
use Rattle.trace_passes.specs.declared.wanted.Refusal.TheVariants as refusals
use Rattle.trace_files.specs.Copies.{IsUnfiltered, HasStopped, conversion, other_version}
use Rattle.trace_files.proofs.Stopped.{accepted_still, copied_since, refused_first, refused_never}
use Rattle.trace_files.proofs.Stopped.{stopped_since, known_accepted}
use Rattle.trace_files.proofs.convert.convert_trace.Goals as goal

pub returns-in-Ok-clause-copied : goal.returns-in-Ok-clause-copied
returns-in-Ok-clause-copied g c =
    let old = g.S.Shelf.outside c.args.shelf.now in
    let mid = g.S.Shelf.outside c.accept.new.shelf in
    let new = g.S.Shelf.outside c.convert_accepted.new.shelf in
    IfOk-weaker c.convert_accepted.result _ _
    (λ made. copied_since old mid new c.in-Ok.ensures.stays new.held c.args.name.now
    (conversion c.args.output.now)
    (λ t. (made.version ≡ other_version t.version) × (made.accesses ≡ length (touches_in t.items))
    × IsUnfiltered t))
    c.convert_accepted.ensures.copied

pub returns-in-Ok-clause-refused : goal.returns-in-Ok-clause-refused
returns-in-Ok-clause-refused g c = λ refusal same. absurd
    (c.convert_accepted.ensures.unrefused refusal same)

pub returns-in-Ok-clause-stays : goal.returns-in-Ok-clause-stays
returns-in-Ok-clause-stays g c = λ refusal same. absurd
    (c.convert_accepted.ensures.unrefused refusal same)

pub returns-in-Ok-clause-memory : goal.returns-in-Ok-clause-memory
returns-in-Ok-clause-memory g c = c.convert_accepted.ensures.unrefused
    (refusals.Trace trace_faults.NoMemory)

pub returns-in-Ok-clause-other : goal.returns-in-Ok-clause-other
returns-in-Ok-clause-other g c = λ refusal same. record {
  first = c.in-Ok.first;
  between = (g.S.Shelf.outside c.accept.new.shelf).given;
  accepted = c.in-Ok.ensures.shown;
  other = c.convert_accepted.ensures.other refusal same;
}

pub returns-in-Ok-clause-accepted : goal.returns-in-Ok-clause-accepted
returns-in-Ok-clause-accepted g c = λ same.
    let mid = g.S.Shelf.outside c.accept.new.shelf in
    let new = g.S.Shelf.outside c.convert_accepted.new.shelf in
    let stopped = IfErr-at_err (λ fault. HasStopped new.held c.args.name.now
    (c.args.output.now ∷ []) (conversion c.args.output.now) mid new fault) same
    c.convert_accepted.ensures.stopped in
    known_accepted new.held c.args.name.now c.in-Ok.first
    (accepted_still mid.held new.held c.args.name.now c.in-Ok.first stopped.held_stay
    c.in-Ok.ensures.accepted)

pub returns-in-Ok-clause-stopped : goal.returns-in-Ok-clause-stopped
returns-in-Ok-clause-stopped g c =
    let old = g.S.Shelf.outside c.args.shelf.now in
    let mid = g.S.Shelf.outside c.accept.new.shelf in
    let new = g.S.Shelf.outside c.convert_accepted.new.shelf in
    IfErr-weaker c.convert_accepted.result _ _
    (stopped_since old mid new c.in-Ok.ensures.stays new.held c.args.name.now
    (c.args.output.now ∷ []) (conversion c.args.output.now))
    c.convert_accepted.ensures.stopped

pub returns-in-Err-clause-stopped : goal.returns-in-Err-clause-stopped
returns-in-Err-clause-stopped g c = c.in-Err.ensures.stopped (c.args.output.now ∷ [])
    (conversion c.args.output.now)

pub returns-in-Ok-clause-begun : goal.returns-in-Ok-clause-begun
returns-in-Ok-clause-begun g c =
    let old = g.S.Shelf.outside c.args.shelf.now in
    let mid = g.S.Shelf.outside c.accept.new.shelf in
    let new = g.S.Shelf.outside c.convert_accepted.new.shelf in
    IfErr-weaker c.convert_accepted.result _ _
    (λ fault stopped. refused_never new.held c.args.name.now c.in-Ok.first old new
    (accepted_still mid.held new.held c.args.name.now c.in-Ok.first stopped.held_stay
    c.in-Ok.ensures.accepted))
    c.convert_accepted.ensures.stopped

pub returns-in-Err-clause-begun : goal.returns-in-Err-clause-begun
returns-in-Err-clause-begun g c =
    let new = g.S.Shelf.outside c.accept.new.shelf in
    refused_first new.held c.args.name.now (g.S.Shelf.outside c.args.shelf.now) new c.in-Err.fault
    c.in-Err.ensures.stopped
