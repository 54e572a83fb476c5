use Rattle.std.proofs.Common.{◌≡◌, ◌+◌, ◌++◌, ◌∙◌, ℕ, List, ap, arith, length, map}
use Rattle.sharing_rules.specs.Lines.{Line}
use Rattle.invalidations.specs.LineInvalidations.{kept_of}
use Rattle.invalidations.specs.declared.sited.Sited.{Sited}
use Rattle.invalidations.specs.Watched.{sited_at, sited_touch}
use Rattle.base.specs.declared.ending.Ending.{Ending}
use Rattle.guest.specs.GuestCalls.{RunEvent}
use Rattle.guest.specs.Runs.{ending_with}
use Rattle.guest.specs.SeenTurns.{IsWithin, accesses_in, seen}
use Rattle.guest.specs.declared.setup.Setup.{Setup}
use Rattle.invalidations.proofs.Watching.{watched_all, watches_more, watches_start}
use Rattle.invalidations.proofs.watch.follow.Goals as goal

pub turns-init : goal.turns-init
turns-init c = watches_start c.args.guest.now c.args.explainer.now c.requires.fresh

pub note_turn-requires : goal.note_turn-requires
note_turn-requires c =
    let x = c.turns.invariant in
    let after = c.run_on.new.self in
    let ts = c.run_on.new.touches in
    let counts : after.config.accesses
    ≡ c.turns.guest.config.accesses + length ts + accesses_in c.in-Ok-Ran.event =
    (rw c.in-Ok-Ran.field-0-is at c.in-Ok-Ran.ensures.counts).1 in
    let within : IsWithin after = c.run_on.ensures.within in
    let budget : after.setup.budget ≡ c.args.guest.now.setup.budget =
    ap (λ (s : Setup). s.budget) c.in-Ok-Ran.ensures.setup ∙ x.budget in
    rw c.all.ensures
    (omega (arith, x.early, counts, within.accesses, within.steps, budget, c.requires.budget))

pub turns-preserved : goal.turns-preserved
turns-preserved c =
    let x = c.turns.invariant in
    let after = c.run_on.new.self in
    let ts = c.run_on.new.touches in
    let e : RunEvent = seen after.config.memory c.in-Ok-Ran.event in
    let noted : (l : Line) (from : ℕ) (u : List Sited) → c.turns.explainer ≡ kept_of l from u
    → c.note_turn.new.explainer ≡ kept_of l from (u ++ (map sited_touch ts ++ sited_at e)) =
    λ l from u is.
    rw c.all.ensures at (c.in-Ok.ensures.noted after.config.memory l from u is) in
    watches_more c.args.guest.now c.turns.guest after c.args.explainer.now c.turns.explainer
    c.note_turn.new.explainer ts e (accesses_in c.in-Ok-Ran.event) x
    (rw c.in-Ok-Ran.field-0-is at c.in-Ok-Ran.ensures.run)
    noted
    (rw c.all.ensures at c.in-Ok.ensures.position)
    (rw c.in-Ok-Ran.field-0-is at c.in-Ok-Ran.ensures.counts).1
    (ap (λ (s : Setup). s.budget) c.in-Ok-Ran.ensures.setup)

pub note_touches-requires : goal.note_touches-requires
note_touches-requires c =
    let x = c.turns.invariant in
    let after = c.run_on.new.self in
    let ts = c.run_on.new.touches in
    let counts : after.config.accesses ≡ c.turns.guest.config.accesses + length ts =
    (rw c.in-Ok-Ended.field-0-is at c.in-Ok-Ended.ensures.counts).1 in
    let within : IsWithin after = c.run_on.ensures.within in
    let budget : after.setup.budget ≡ c.args.guest.now.setup.budget =
    ap (λ (s : Setup). s.budget) c.in-Ok-Ended.ensures.setup ∙ x.budget in
    rw c.all-in-Ok-Ended.ensures
    (omega (arith, x.early, counts, within.accesses, within.steps, budget, c.requires.budget))

pub returns-in-Ok-note_touches-clause-noted : goal.returns-in-Ok-note_touches-clause-noted
returns-in-Ok-note_touches-clause-noted c = λ l from is.
    let ts = c.run_on.new.touches in
    let end : Ending = ending_with c.in-Ok-Ended.field-0-0 c.run_on.new.self.config in
    watched_all c.args.guest.now c.turns.guest c.args.explainer.now c.turns.explainer
    c.note_touches.new.explainer ts end c.turns.invariant
    (rw c.in-Ok-Ended.field-0-is at c.in-Ok-Ended.ensures.run)
    (rw c.all-in-Ok-Ended.ensures at c.in-Ok-note_touches.ensures.noted) l from is
