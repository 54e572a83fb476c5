use Rattle.std.proofs.Common.{refl}
use Rattle.std.proofs.lemmas.Result.{on_ok_weaker}
use Rattle.trace_passes.specs.Laws.Accounts.{other-next, touch-next}
use Rattle.placement.specs.Passing.{recount_account}
use Rattle.placement.proofs.observer.recount_record.Goals as goal

pub returns-in-Touch-clause-next : goal.returns-in-Touch-clause-next
returns-in-Touch-clause-next c =
    let a = c.in-Touch.access in
    touch-next recount_account c.note.result c.args.recount.now c.note.new.self c.args.item.now a
    c.in-Touch.field-1 a c.in-Touch.is refl c.note.ensures.stands
    (on_ok_weaker c.note.result
    (λ next. (next, λ i. (c.note.ensures.size i, c.note.ensures.plan i))) c.note.ensures.next)

pub returns-in_default-clause-next : goal.returns-in_default-clause-next
returns-in_default-clause-next c =
    other-next recount_account (λ x none. none) c.args.recount.now c.args.item.now
    c.in_default.not-Touch

pub returns-in-Touch-clause-known : goal.returns-in-Touch-clause-known
returns-in-Touch-clause-known c = λ t stood. rw c.in-Touch.is (c.note.ensures.known t stood)
