use Rattle.std.proofs.Common.{◌≡◌, ◌∙◌, ◌<◌, None, Some, ap, arith, refl, set}
use Rattle.std.specs.Prelude.{IfOk, OnErr}
use Rattle.guest.specs.Configs.{Fits}
use Rattle.guest.specs.GuestCalls.{RunTurn, call_turn, quiet, ran}
use Rattle.guest.specs.ConfigInside.{config_of}
use Rattle.guest.specs.Turns.{chosen, turn_of, wants_memory}
use Rattle.guest.specs.SeenTurns.{event_of, turn_seen}
use Rattle.guest.specs.declared.turn.Touched.{Touched as ATouched}
use Rattle.rv32_hart.specs.Effect.{machine}
use Rattle.guest.proofs.AtCall.{called, next_made, trapped, whole_left}
use Rattle.guest.proofs.CallFits.{fits_called, fits_chosen, fits_stepped}
use Rattle.guest.proofs.GoingAhead.{passing_ahead}
use Rattle.guest.proofs.OwnAccesses.{own_below, own_seen}
use Rattle.guest.proofs.PassedTurns.{Passing, Taken, passing_on, passing_start, passing_touch}
use Rattle.guest.proofs.PassedTurns.{quiet_answer, step_one, taken}
use Rattle.guest.proofs.TurnAnswers.{fits-either, if_ok-map, no_access_seen, on_err-map}
use Rattle.guest.proofs.TurnAnswers.{on_ok-if}
use Rattle.guest.proofs.configuration.Configuration.run_on.Goals as goal
use Rattle.guest.proofs.configuration.Configuration.run_on.Goals.{After-call-answer}
use Rattle.guest.proofs.configuration.Configuration.run_on.Goals.{After-go_ahead, After-go_on-turn}
use Rattle.guest.proofs.configuration.Configuration.run_on.Goals.{After-pass_over}

-- ---- what goals share

-- nothing but accesses was seen so far, nor of the steps that the hart made ahead
ahead : (c : After-go_ahead) → Passing c.args.setup.now c.args.until (config_of c.args.self.now)
    (config_of c.go_ahead.new.self) c.go_ahead.new.touches
ahead c =
    passing_ahead c.args.setup.now c.in-Some.hart c.args.until (config_of c.args.self.now)
    (config_of c.turns.self) (config_of c.go_ahead.new.self) c.turns.touches
    c.go_ahead.new.touches c.turns.invariant c.go_ahead.ensures.puts
    (omega (arith, c.go_ahead.ensures.ready.inside, c.go_ahead.ensures.at.fits.phases))
    c.go_ahead.ensures.at.fits c.go_ahead.ensures.early

-- a step without an access is the turn
quiet_made : (c : After-pass_over) → ran quiet (config_of c.pass_over.new.self)
    ≡ turn_of c.args.setup.now (config_of c.go_ahead.new.self)
quiet_made c =
    c.pass_over.ensures.turn
    ∙ next_made c.args.setup.now c.in-Some.hart c.from.result c.pc-pc.result
    (chosen (config_of c.go_ahead.new.self)) c.index_mut-state.result.now c.step.new.state
    c.step.new.memory c.step.new.held c.in-Next-default-None.instr None
    (c.from.ensures ∙ c.number.ensures.value)
    (omega (arith, c.go_ahead.ensures.ready.inside, c.go_ahead.ensures.ready.states))
    c.index_mut-state.ensures.value
    (rw c.in-Next-default-None.field-1-is at c.in-Next-default-None.ensures.effect)
    c.pc-pc.ensures.value
    ∙ c.go_ahead.ensures.turn

-- so is one with an access
touch_made : (c : After-go_on-turn)
    → turn_seen c.go_on-turn.result (config_of c.go_on-turn.new.self)
    ≡ turn_of c.args.setup.now (config_of c.go_ahead.new.self)
touch_made c =
    c.go_on-turn.ensures.turn
    ∙ next_made c.args.setup.now c.in-Some.hart c.from.result c.pc-pc.result
    (chosen (config_of c.go_ahead.new.self)) c.index_mut-state.result.now c.step.new.state
    c.step.new.memory c.step.new.held c.in-Next-default-Some.instr
    (Some c.in-Next-default-Some.access) (c.from.ensures ∙ c.number.ensures.value)
    (omega (arith, c.go_ahead.ensures.ready.inside, c.go_ahead.ensures.ready.states))
    c.index_mut-state.ensures.value
    (rw c.in-Next-default-Some.field-1-is at c.in-Next-default-Some.ensures.effect)
    c.pc-pc.ensures.value
    ∙ c.go_ahead.ensures.turn

-- so is what is made at a call
call_at : (c : After-call-answer) (t : RunTurn)
    → t ≡ call_turn c.args.setup.now c.in-Some.hart
    (record (chosen (config_of c.go_ahead.new.self)) {
      states = set (config_of c.go_ahead.new.self).states c.from.result c.step.new.state;
      memory = c.step.new.memory;
      held = c.step.new.held;
    })
    → t ≡ turn_of c.args.setup.now (config_of c.go_ahead.new.self)
call_at c t made =
    called c.args.setup.now c.in-Some.hart c.from.result
    (chosen (config_of c.go_ahead.new.self)) c.index_mut-state.result.now c.step.new.state
    c.step.new.memory c.step.new.held t (c.from.ensures ∙ c.number.ensures.value)
    (omega (arith, c.go_ahead.ensures.ready.inside, c.go_ahead.ensures.ready.states))
    c.index_mut-state.ensures.value c.in-Call.ensures.effect c.in-Call.ensures.left made
    ∙ c.go_ahead.ensures.turn

call_made : (c : After-call-answer) → IfOk c.call-answer.result
    (λ turn. turn_seen turn (config_of c.call-answer.new.self)
    ≡ turn_of c.args.setup.now (config_of c.go_ahead.new.self))
call_made c = if_ok-map c.call-answer.result _ _ (λ turn made. call_at c _ made)
    c.call-answer.ensures.turn

-- a call that is refused leaves all
call_left : (c : After-call-answer) → OnErr c.call-answer.result
    (config_of c.call-answer.new.self ≡ config_of c.go_ahead.new.self)
call_left c =
    on_err-map c.call-answer.result _ _
    (λ same. same ∙ whole_left c.in-Some.hart c.from.result (config_of c.go_ahead.new.self)
    c.index_mut-state.result.now c.step.new.state c.step.new.memory c.step.new.held
    (c.from.ensures ∙ c.number.ensures.value)
    (omega (arith, c.go_ahead.ensures.ready.inside, c.go_ahead.ensures.ready.states))
    c.index_mut-state.ensures.value c.in-Call.ensures.left)
    c.call-answer.ensures.refused

call_fits : (c : After-call-answer) → Fits c.args.setup.now.harts
    (config_of c.call-answer.new.self)
call_fits c =
    fits-either c.call-answer.result c.args.setup.now.harts (config_of c.go_ahead.new.self)
    (config_of c.call-answer.new.self)
    (on_ok-if c.call-answer.result _ _
    (λ turn made harts fits. fits_called harts c.in-Some.hart c.from.result c.args.setup.now
    (chosen (config_of c.go_ahead.new.self)) c.step.new.state c.step.new.memory c.step.new.held
    turn (config_of c.call-answer.new.self) made c.step.ensures.harts
    (fits_chosen harts (config_of c.go_ahead.new.self) fits))
    c.call-answer.ensures.turn)
    (call_left c) c.go_ahead.ensures.at.fits

-- all that is known of it, behind what was made before
call_taken : (c : After-call-answer)
    → Passing c.args.setup.now c.args.until (config_of c.args.self.now)
    (config_of c.go_ahead.new.self) c.go_ahead.new.touches
    → Taken c.args.setup.now c.args.until (config_of c.args.self.now)
    (config_of c.call-answer.new.self) c.go_ahead.new.touches c.call-answer.result
call_taken c before =
    taken c.args.setup.now c.args.until (config_of c.args.self.now)
    (config_of c.go_ahead.new.self) (config_of c.call-answer.new.self) c.go_ahead.new.touches
    c.call-answer.result before (call_made c) (call_left c)
    (λ no_block. c.call-answer.ensures.settled
    (ap (wants_memory (config_of c.go_ahead.new.self)) (call_at c _ refl) ∙ no_block))

-- ---- the loop

pub turns-init : goal.turns-init
turns-init c =
    rw c.requires.none
    (passing_start c.args.setup.now c.args.until (config_of c.args.self.now) c.requires.fits
    c.requires.steps c.requires.accesses)

pub turns-smaller-else-self-until : goal.turns-smaller-else-self-until
turns-smaller-else-self-until c =
    let at = goal.at.turns-smaller-else-self-until c in
    let one = step_one c.args.setup.now (config_of c.go_ahead.new.self)
    (config_of c.pass_over.new.self) quiet (ahead at.After-go_ahead).counts.room
    (quiet_made at.After-pass_over) in
    omega (arith, one.steps, one.room, c.go_ahead.ensures.steps)

pub turns-preserved-else-self-until : goal.turns-preserved-else-self-until
turns-preserved-else-self-until c =
    let at = goal.at.turns-preserved-else-self-until c in
    let s = c.args.setup.now in
    let x = config_of c.go_ahead.new.self in
    passing_on s c.args.until (config_of c.args.self.now) x (config_of c.pass_over.new.self)
    c.go_ahead.new.touches (ahead at.After-go_ahead) (quiet_made at.After-pass_over)
    (c.pass_over.ensures.fits s.harts
    (fits_stepped s.harts c.from.result x c.step.new.state c.step.new.memory c.step.new.held
    c.step.ensures.harts c.go_ahead.ensures.at.fits))
    c.if-self-until.false

pub turns-preserved-in-Next-default-Some : goal.turns-preserved-in-Next-default-Some
turns-preserved-in-Next-default-Some c =
    let at = goal.at.turns-preserved-in-Next-default-Some c in
    let s = c.args.setup.now in
    let x = config_of c.go_ahead.new.self in
    let d = config_of c.go_on-turn.new.self in
    let access = c.in-Next-default-Some.access in
    let t : ATouched = record { access = access; pc = c.pc-pc.result } in
    let made : ran (event_of t) d ≡ turn_of s x =
    rw c.go_on-turn.ensures.seen at (touch_made at.After-go_on-turn) in
    let its : access.hart < s.harts =
    own_below c.in-Some.hart s.harts (machine c.index_mut-state.result.now x.memory x.held)
    (machine c.step.new.state c.step.new.memory c.step.new.held)
    c.in-Next-default-Some.instr access
    (rw c.in-Next-default-Some.field-1-is at c.in-Next-default-Some.ensures.effect)
    (omega (arith, c.go_ahead.ensures.ready.inside, c.go_ahead.ensures.at.fits.phases)) in
    rw c.put.ensures
    (passing_touch s c.args.until (config_of c.args.self.now) x d c.go_ahead.new.touches t
    (ahead at.After-go_ahead) made
    (c.go_on-turn.ensures.fits s.harts
    (fits_stepped s.harts c.from.result x c.step.new.state c.step.new.memory c.step.new.held
    c.step.ensures.harts c.go_ahead.ensures.at.fits))
    c.if-self-until-2.false its)

pub turns-smaller : goal.turns-smaller
turns-smaller c =
    let at = goal.at.turns-smaller c in
    let s = c.args.setup.now in
    let x = config_of c.go_ahead.new.self in
    let d = config_of c.call-answer.new.self in
    let one = step_one s x d quiet (ahead at.After-go_ahead).counts.room
    (quiet_answer s x d c.call-answer.result (call_made at.After-call-answer)
    (c.is_quiet.ensures.0 c.if-not-is_quiet.false)) in
    omega (arith, one.steps, one.room, c.go_ahead.ensures.steps)

pub turns-preserved : goal.turns-preserved
turns-preserved c =
    let at = goal.at.turns-preserved c in
    let s = c.args.setup.now in
    let x = config_of c.go_ahead.new.self in
    let d = config_of c.call-answer.new.self in
    passing_on s c.args.until (config_of c.args.self.now) x d c.go_ahead.new.touches
    (ahead at.After-go_ahead)
    (quiet_answer s x d c.call-answer.result (call_made at.After-call-answer)
    (c.is_quiet.ensures.0 c.if-not-is_quiet.false))
    (call_fits at.After-call-answer) c.if-self-until-3.false

-- ---- a step without an access

pub returns-then-self-until-clause-turn : goal.returns-then-self-until-clause-turn
returns-then-self-until-clause-turn c =
    let at = goal.at.returns-then-self-until-clause-turn c in
    (config_of c.go_ahead.new.self, (ahead at.After-go_ahead).so_far, quiet_made at.After-pass_over)

-- ---- a step with an access

pub go_on-turn-requires-clause-accesses : goal.go_on-turn-requires-clause-accesses
go_on-turn-requires-clause-accesses c =
    (ahead (goal.at.go_on-turn-requires-clause-accesses c).After-go_ahead).within

pub returns-then-self-until-2-clause-turn : goal.returns-then-self-until-2-clause-turn
returns-then-self-until-2-clause-turn c =
    let at = goal.at.returns-then-self-until-2-clause-turn c in (
      config_of c.go_ahead.new.self,
      (ahead at.After-go_ahead).so_far,
      touch_made at.After-go_on-turn,
    )

pub returns-then-self-until-2-clause-seen : goal.returns-then-self-until-2-clause-seen
returns-then-self-until-2-clause-seen c =
    rw c.go_on-turn.ensures.seen
    (own_seen c.in-Some.hart c.args.setup.now.harts c.pc-pc.result _ _ c.in-Next-default-Some.instr
    (Some c.in-Next-default-Some.access) (config_of c.go_on-turn.new.self)
    (rw c.in-Next-default-Some.field-1-is at c.in-Next-default-Some.ensures.effect)
    (omega (
      arith,
      c.go_ahead.ensures.ready.inside,
      c.go_ahead.ensures.at.fits.phases,
    )))

pub returns-then-self-until-2-clause-theirs : goal.returns-then-self-until-2-clause-theirs
returns-then-self-until-2-clause-theirs c =
    (ahead (goal.at.returns-then-self-until-2-clause-theirs c).After-go_ahead).theirs

-- ---- a call

pub returns-then-not-is_quiet-clause-turn : goal.returns-then-not-is_quiet-clause-turn
returns-then-not-is_quiet-clause-turn c =
    let at = goal.at.returns-then-not-is_quiet-clause-turn c in
    (call_taken at.After-call-answer (ahead at.After-go_ahead)).turn

pub returns-then-not-is_quiet-clause-passed : goal.returns-then-not-is_quiet-clause-passed
returns-then-not-is_quiet-clause-passed c =
    let at = goal.at.returns-then-not-is_quiet-clause-passed c in
    (call_taken at.After-call-answer (ahead at.After-go_ahead)).passed

pub returns-then-not-is_quiet-clause-settled : goal.returns-then-not-is_quiet-clause-settled
returns-then-not-is_quiet-clause-settled c =
    let at = goal.at.returns-then-not-is_quiet-clause-settled c in
    (call_taken at.After-call-answer (ahead at.After-go_ahead)).settled

pub returns-then-not-is_quiet-clause-fits : goal.returns-then-not-is_quiet-clause-fits
returns-then-not-is_quiet-clause-fits c =
    call_fits (goal.at.returns-then-not-is_quiet-clause-fits c).After-call-answer

pub returns-then-not-is_quiet-clause-seen : goal.returns-then-not-is_quiet-clause-seen
returns-then-not-is_quiet-clause-seen c =
    if_ok-map c.call-answer.result _ _ (λ turn h. h c.args.setup.now.harts)
    c.call-answer.ensures.seen

pub returns-then-not-is_quiet-clause-theirs : goal.returns-then-not-is_quiet-clause-theirs
returns-then-not-is_quiet-clause-theirs c =
    (ahead (goal.at.returns-then-not-is_quiet-clause-theirs c).After-go_ahead).theirs

pub returns-then-not-is_quiet-clause-room : goal.returns-then-not-is_quiet-clause-room
returns-then-not-is_quiet-clause-room c =
    no_access_seen c.call-answer.result (config_of c.call-answer.new.self) _
    c.call-answer.ensures.seen

-- ---- a trap

pub returns-in-Trap-clause-turn : goal.returns-in-Trap-clause-turn
returns-in-Trap-clause-turn c =
    let x = config_of c.go_ahead.new.self in
    let ended = trapped c.args.setup.now c.in-Some.hart c.from.result c.pc-pc.result (chosen x)
    (config_of c.take_turn.new.self) c.index_mut-state.result.now c.step.new.state
    c.step.new.memory c.step.new.held c.in-Trap.cause (c.from.ensures ∙ c.number.ensures.value)
    (omega (arith, c.go_ahead.ensures.ready.inside, c.go_ahead.ensures.ready.states))
    c.index_mut-state.ensures.value c.in-Trap.ensures.effect c.in-Trap.ensures.left
    c.pc-pc.ensures.value c.take_turn.ensures in (
      x,
      (ahead (goal.at.returns-in-Trap-clause-turn c).After-go_ahead).so_far,
      ended ∙ c.go_ahead.ensures.turn,
    )

pub returns-in-Trap-clause-theirs : goal.returns-in-Trap-clause-theirs
returns-in-Trap-clause-theirs c =
    (ahead (goal.at.returns-in-Trap-clause-theirs c).After-go_ahead).theirs
