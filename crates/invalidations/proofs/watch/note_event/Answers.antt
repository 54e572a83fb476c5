use Rattle.invalidations.specs.declared.sited.Sited.{Sited}
use Rattle.invalidations.proofs.Watching.{noted-access, noted-none, noted-position}
use Rattle.invalidations.proofs.watch.note_event.Goals as goal

pub returns-in-Touch-clause-noted : goal.returns-in-Touch-clause-noted
returns-in-Touch-clause-noted c =
    let s : Sited = record { access = c.in-Touch.access; pc = c.in-Touch.pc } in
    rw c.in-Touch.is (noted-access c.on_access.result c.args.explainer.now c.on_access.new.self s
    c.on_access.ensures.noted)

pub returns-in-Touch-clause-position : goal.returns-in-Touch-clause-position
returns-in-Touch-clause-position c =
    let s : Sited = record { access = c.in-Touch.access; pc = c.in-Touch.pc } in
    rw c.in-Touch.is (noted-position c.on_access.result c.args.explainer.now c.on_access.new.self s
    c.on_access.ensures.noted)

pub returns-in-Quiet-clause-noted : goal.returns-in-Quiet-clause-noted
returns-in-Quiet-clause-noted c = λ m l from u is.
    rw c.in-Quiet.is (noted-none l from u c.args.explainer.now is)

pub returns-in-Alloc-clause-noted : goal.returns-in-Alloc-clause-noted
returns-in-Alloc-clause-noted c = λ m l from u is.
    rw c.in-Alloc.is (noted-none l from u c.args.explainer.now is)

pub returns-in-Free-clause-noted : goal.returns-in-Free-clause-noted
returns-in-Free-clause-noted c = λ m l from u is.
    rw c.in-Free.is (noted-none l from u c.args.explainer.now is)

pub returns-in-Output-clause-noted : goal.returns-in-Output-clause-noted
returns-in-Output-clause-noted c = λ m l from u is.
    rw c.in-Output.is (noted-none l from u c.args.explainer.now is)
