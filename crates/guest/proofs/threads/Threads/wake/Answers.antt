use Rattle.std.proofs.Common.{◌≡◌, arith, sym, ap, ◌∙◌, List, length}
use Rattle.guest.specs.declared.phase.HartPhase.{HartPhase}
use Rattle.guest.proofs.SoundChanges.{keeps_runnable}
use Rattle.guest.proofs.WokenHarts.{counts_all, passes_other, passes_waiter, wakes_all}
use Rattle.guest.proofs.WokenHarts.{wakes_lowest, wakes_none, wakes_one}
use Rattle.guest.proofs.threads.Threads.wake.Goals as goal
use Rattle.guest.proofs.threads.Threads.wake.Goals.{then-count-most+then-is_waiting}
use Rattle.guest.proofs.threads.Threads.wake.Goals.{else-count-most}
use Rattle.guest.proofs.threads.Threads.wake.Goals.{else-count-most-via-then-count-most+else-is_waiting}
use Rattle.guest.proofs.threads.Threads.wake.Goals.{else-count-most-via-else-count-most}

pub loop-place-init : goal.loop-place-init
loop-place-init c = wakes_none c.args.self.now c.args.addr c.args.most

pub set-requires-clause-within : goal.set-requires-clause-within
set-requires-clause-within c =
    let whole : length c.self.inside.phases.items ≡ length c.args.self.now =
    ap (λ (xs : List HartPhase). length xs) c.self.view_is in
    omega (arith, whole, c.hart_at.ensures, c.loop-place.invariant.same_length)

pub set-requires-clause-keeps : goal.set-requires-clause-keeps
set-requires-clause-keeps c = λ sound.
    let whole : length c.self.inside.phases.items ≡ length c.args.self.now =
    ap (λ (xs : List HartPhase). length xs) c.self.view_is in
    keeps_runnable c.loop-place.self c.hart_at.result sound
    (omega (arith, whole, c.hart_at.ensures))

pub loop-place-preserved : goal.loop-place-preserved
loop-place-preserved c =
    let whole : length c.self.inside.phases.items ≡ length c.args.self.now =
    ap (λ (xs : List HartPhase). length xs) c.self.view_is in
    elim c.if-count-most.branch [
      | then-count-most+then-is_waiting w ↦
          rw (w.self-is, w.count-is, w.set.ensures, w.hart_at.ensures)
          (wakes_one c.args.self.now c.loop-place.self c.args.addr c.args.most c.loop-place.place
          c.loop-place.count c.loop-place.invariant
          (omega (arith, whole)) w.if-count-most.true
          (sym w.is_waiting.ensures.value ∙ w.if-is_waiting.true))
      | else-count-most w ↦
          elim w.else-count-most.branch [
            | else-count-most-via-then-count-most+else-is_waiting w' ↦
                rw (w.self-is, w.count-is)
                (passes_other c.args.self.now c.loop-place.self c.args.addr c.args.most
                c.loop-place.place c.loop-place.count
                c.loop-place.invariant (omega (arith, whole))
                (sym w'.is_waiting.ensures.value ∙ w'.if-is_waiting.false))
            | else-count-most-via-else-count-most w' ↦
                rw (w.self-is, w.count-is)
                (passes_waiter c.args.self.now c.loop-place.self c.args.addr c.args.most
                c.loop-place.place c.loop-place.count
                c.loop-place.invariant (omega (arith, whole)) w'.if-count-most.false)
          ]
    ]

pub returns-clause-after : goal.returns-clause-after
returns-clause-after c =
    let whole : length c.self.inside.phases.items ≡ length c.args.self.now =
    ap (λ (xs : List HartPhase). length xs) c.self.view_is in
    wakes_all c.args.self.now c.loop-place.self c.args.addr c.args.most c.loop-place.place
    c.loop-place.count c.loop-place.invariant
    (omega (arith, whole))

pub returns-clause-answer : goal.returns-clause-answer
returns-clause-answer c =
    let whole : length c.self.inside.phases.items ≡ length c.args.self.now =
    ap (λ (xs : List HartPhase). length xs) c.self.view_is in
    counts_all c.args.self.now c.loop-place.self c.args.addr c.args.most c.loop-place.place
    c.loop-place.count c.loop-place.invariant
    (omega (arith, whole))

pub returns-clause-effect : goal.returns-clause-effect
returns-clause-effect c =
    let whole : length c.self.inside.phases.items ≡ length c.args.self.now =
    ap (λ (xs : List HartPhase). length xs) c.self.view_is in
    wakes_lowest c.args.self.now c.loop-place.self c.args.addr c.args.most c.loop-place.place
    c.loop-place.count c.loop-place.invariant
    (omega (arith, whole))
