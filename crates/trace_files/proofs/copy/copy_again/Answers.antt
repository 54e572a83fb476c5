use Rattle.std.proofs.Common.{◌≡◌}
use Rattle.trace_passes.specs.Passes.{all_records, trace_with}
use Rattle.trace_files.proofs.Stopped.{accepted_still, first_all, never_refused, same_parts}
use Rattle.trace_files.proofs.Stopped.{short_other, unknown}
use Rattle.trace_files.proofs.Differing.{no_trace_again, other_again}
use Rattle.trace_files.specs.Laws.Copies.{plain_zero}
use Rattle.trace_files.proofs.copy.copy_again.Goals as goal

pub returns-in-Err-clause-changed : goal.returns-in-Err-clause-changed
returns-in-Err-clause-changed g c = λ refusal same.
    let held = (g.S.Shelf.outside c.copy_records.new.shelf).held in
    never_refused held c.args.name.now c.args.first.now
    (accepted_still (g.S.Shelf.outside c.args.shelf.now).held held c.args.name.now c.args.first.now
    c.copy_records.ensures.keeps_held c.requires.accepted) refusal
    (c.in-Err.ensures.changed refusal (cc))

pub returns-in-Some-clause-short : goal.returns-in-Some-clause-short
returns-in-Some-clause-short g c = λ before began.
    let copied = c.in-Ok.ensures.copied before began in
    let t = trace_with c.in-Ok.passed copied.items in
    let held = (g.S.Shelf.outside c.copy_records.new.shelf).held in
    short_other held c.args.name.now (g.T.Target.files c.args.target.now) (all_records t)
    (g.T.Target.waiting c.copy_records.new.target) before
    (g.S.Shelf.outside c.copy_records.new.shelf) c.in-Some.refusal
    (first_all held c.args.name.now copied.bytes t copied.whole copied.is) copied.outputs

pub returns-in-Some-clause-changed : goal.returns-in-Some-clause-changed
returns-in-Some-clause-changed g c = λ refusal same.
    let copied = c.in-Ok.ensures.copied c.requires.way.0 c.requires.way.1 in
    let some = c.in-Some.is in
    let held = (g.S.Shelf.outside c.copy_records.new.shelf).held in
    unknown held (c.args.first.now ≡ c.in-Ok.passed)
    (same_parts held c.args.name.now c.args.first.now c.in-Ok.passed copied.bytes copied.items
    (accepted_still (g.S.Shelf.outside c.args.shelf.now).held held c.args.name.now c.args.first.now
    c.copy_records.ensures.keeps_held c.requires.accepted) copied.whole copied.is)
    (λ one. let none = c.differs.ensures.other one in absurd cc)

pub returns-in-Err-clause-other : goal.returns-in-Err-clause-other
returns-in-Err-clause-other g c = λ refusal same.
    no_trace_again c.args.name.now c.args.first.now refusal
    (g.S.Shelf.outside c.args.shelf.now).given
    (g.S.Shelf.outside c.copy_records.new.shelf).given (c.in-Err.ensures.found refusal (cc))

pub returns-in-Some-clause-other : goal.returns-in-Some-clause-other
returns-in-Some-clause-other g c = λ refusal same.
    let some = c.in-Some.is in
    let value = c.differs.ensures.value in
    other_again c.args.name.now c.args.first.now c.in-Ok.passed refusal
    (g.S.Shelf.outside c.args.shelf.now).given
    (g.S.Shelf.outside c.copy_records.new.shelf).given c.in-Ok.ensures.shown
    c.in-Ok.ensures.plain (cc)

pub differs-requires-clause-first : goal.differs-requires-clause-first
differs-requires-clause-first g c = plain_zero c.args.first.now.header.near c.requires.accepted.plain

pub differs-requires-clause-second : goal.differs-requires-clause-second
differs-requires-clause-second g c =
    plain_zero c.in-Ok.passed.header.near c.in-Ok.ensures.plain
