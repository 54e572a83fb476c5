use Rattle.std.proofs.Common.{refl}
use Rattle.std.proofs.lemmas.Result.{on_ok_weaker}
use Rattle.trace_passes.specs.Laws.Accounts.{other-next, touch-next}
use Rattle.layout_sweep.specs.Seen.{sweep_account}
use Rattle.layout_sweep.proofs.observer.note_record.Goals as goal

pub returns-in-Touch-clause-next : goal.returns-in-Touch-clause-next
returns-in-Touch-clause-next c =
    let a = c.in-Touch.access in
    touch-next sweep_account c.see.result c.args.sweep.now c.see.new.sweep c.args.item.now a
    c.in-Touch.field-1 a c.in-Touch.is refl c.see.ensures.stands
    (on_ok_weaker c.see.result (λ next. (next, c.see.ensures.size)) c.see.ensures.next)

pub returns-in_default-clause-next : goal.returns-in_default-clause-next
returns-in_default-clause-next c =
    other-next sweep_account (λ x none. none) c.args.sweep.now c.args.item.now c.in_default.not-Touch

pub returns-in-Touch-clause-known : goal.returns-in-Touch-clause-known
returns-in-Touch-clause-known c = λ t stood. rw c.in-Touch.is (c.see.ensures.known t stood)
