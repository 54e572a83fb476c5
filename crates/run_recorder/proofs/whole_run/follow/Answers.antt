use Rattle.std.proofs.Common.{◌≡◌, ◌+◌, ◌∙◌, ◌++◌, ℕ, List, length, ap}
use Rattle.std.proofs.Common.{arith, refl, subst, sym}
use Rattle.std.specs.List.{All}
use Rattle.base.specs.declared.ending.Ending.{Ending}
use Rattle.guest.specs.GuestCalls.{RunEvent}
use Rattle.guest.specs.SeenTurns.{IsWithin, accesses_in, seen}
use Rattle.guest.specs.Runs.{ended_run, ending_with, output_in, rest_of}
use Rattle.guest.specs.declared.setup.Setup.{Setup}
use Rattle.shelf.specs.declared.shelf.ShelfError.TheVariants.{NoMemory}
use Rattle.shelf.specs.Laws.Files.{IsOutputs-cut}
use Rattle.trace_format.specs.Rules.{IsGoodRecord}
use Rattle.run_recorder.specs.Recorded.{outputs_of, record_in, records_in}
use Rattle.run_recorder.specs.Recording.{AreNoted, bytes_so_far, event_bytes, event_records}
use Rattle.run_recorder.specs.Recording.{touch_records}
use Rattle.run_recorder.proofs.Following.{IsGivenOn, all_seen, cut_seen}
use Rattle.run_recorder.proofs.Following.{follows_start, room_more, shown, touches-seen}
use Rattle.run_recorder.proofs.Touching.{cut_touches, cut_turn, follows_touches, follows_turn}
use Rattle.run_recorder.proofs.Touching.{touches_put, turn_count}
use Rattle.run_recorder.proofs.whole_run.follow.Goals as goal

pub turns-init : goal.turns-init
turns-init g c =
    follows_start g.O.Observer.given c.args.version c.args.guest.now c.args.observer.now
    c.args.files.now
    c.args.outputs.now c.args.speller.now.writer
    (g.S.Shelf.outside c.show_steps.new.shelf) (rw c.show_steps.ensures c.requires.begun)

pub note_turn-requires-clause-room : goal.note_turn-requires-clause-room
unfolding event_records event_bytes
note_turn-requires-clause-room g c =
    let after = c.run_on.new.self in
    let ts = c.run_on.new.touches in
    let x = c.turns.invariant in
    let event = c.in-Ok-Ran.event in
    let e : RunEvent = seen after.config.memory event in
    let counts : after.config.accesses
    ≡ c.turns.guest.config.accesses + length ts + accesses_in event =
    (rw c.in-Ok-Ran.field-0-is at c.in-Ok-Ran.ensures.counts).1 in
    let within : IsWithin after = c.run_on.ensures.within in
    let budget : after.setup.budget ≡ c.args.guest.now.setup.budget = ap (λ (s : Setup). s.budget)
    (c.in-Ok-Ran.ensures.setup ∙ x.setup) in
    rw c.all.ensures
    (room_more g.O.Observer.begins g.O.Observer.given c.args.observer.now c.turns.observer
    c.args.version x.events (touch_records c.args.version ts ++ record_in c.args.version e)
    c.requires.started x.given_on
    (omega (
      arith,
      turn_count c.args.version ts e,
      touches-seen after.config event,
      x.early,
      counts,
      within.accesses,
      within.steps,
      budget,
      c.requires.budget,
    )))

pub turns-preserved : goal.turns-preserved
unfolding event_records event_bytes
turns-preserved g c =
    let after = c.run_on.new.self in
    let ts = c.run_on.new.touches in
    let x = c.turns.invariant in
    let event = c.in-Ok-Ran.event in
    let e : RunEvent = seen after.config.memory event in
    let setup : after.setup ≡ c.args.guest.now.setup = c.in-Ok-Ran.ensures.setup ∙ x.setup in
    let harts : after.setup.harts ≡ c.args.guest.now.setup.harts =
    ap (λ (s : Setup). s.harts) setup in
    shown
    (follows_turn g.O.Observer.given c.args.version c.args.guest.now c.turns.guest after
    c.args.observer.now
    c.turns.observer c.note_turn.new.observer c.args.files.now c.args.outputs.now c.turns.outputs
    c.note_turn.new.outputs c.args.speller.now.writer c.turns.speller.writer
    c.note_turn.new.speller.writer (g.S.Shelf.outside c.show_steps.new.shelf)
    (g.S.Shelf.outside c.turns.shelf) (g.S.Shelf.outside c.note_turn.new.shelf) ts e
    (accesses_in event) x (rw c.in-Ok-Ran.field-0-is at c.in-Ok-Ran.ensures.run)
    (rw c.all.ensures at c.in-Ok.ensures.given)
    (subst (λ (n : ℕ). All (IsGoodRecord c.args.version n) (touch_records c.args.version ts
    ++ record_in c.args.version e)) harts
    (rw c.all.ensures at c.in-Ok.ensures.good))
    (λ items put before on. rw c.all.ensures at (c.in-Ok.ensures.noted
    c.args.guest.now.setup.harts items put before on))
    c.in-Ok-Ran.ensures.setup (touches-seen after.config event)
    (rw c.in-Ok-Ran.field-0-is at c.in-Ok-Ran.ensures.counts).1 c.note_turn.ensures.count
    c.in-Ok.ensures.begun)
    c.show_steps-in-Ok.ensures

pub returns-in-Err-note_turn-clause-cut : goal.returns-in-Err-note_turn-clause-cut
unfolding event_records event_bytes
returns-in-Err-note_turn-clause-cut g c = λ earlier before on.
    let after = c.run_on.new.self in
    let ts = c.run_on.new.touches in
    let harts = c.args.guest.now.setup.harts in
    let x = c.turns.invariant in
    let e : RunEvent = seen after.config.memory c.in-Ok-Ran.event in
    cut_turn c.args.version harts earlier c.args.files.now x.events ts e (rest_of c.args.guest.now)
    (rest_of c.turns.guest) (rest_of after) before (g.S.Shelf.outside c.note_turn.new.shelf)
    c.in-Err-note_turn.error x.goes (rw c.in-Ok-Ran.field-0-is at c.in-Ok-Ran.ensures.run)
    (rw c.all.ensures at (c.in-Err-note_turn.ensures.cut harts (earlier
    ++ records_in c.args.version x.events)
    (output_in x.events) before
    (x.noted earlier before (rw c.show_steps.ensures on))))

-- where the guest finds no memory, what was put stands but for what waits
pub returns-in-Err-clause-cut : goal.returns-in-Err-clause-cut
returns-in-Err-clause-cut g c = λ earlier before on.
    let x = c.turns.invariant in
    let harts = c.args.guest.now.setup.harts in
    let files = c.args.files.now in
    let now = g.S.Shelf.outside c.turns.shelf in
    cut_seen c.args.version harts earlier files x.events (rest_of c.args.guest.now) (rest_of
    c.turns.guest) before
    now NoMemory x.goes
    (IsOutputs-cut c.turns.outputs (outputs_of files
    (bytes_so_far c.args.version harts (earlier ++ records_in c.args.version x.events) (output_in
    x.events))) before
    now NoMemory (λ same. cc) (x.noted earlier before (rw c.show_steps.ensures on)).outputs)

pub note_touches-requires-clause-room : goal.note_touches-requires-clause-room
note_touches-requires-clause-room g c =
    let after = c.run_on.new.self in
    let ts = c.run_on.new.touches in
    let x = c.turns.invariant in
    let counts : after.config.accesses ≡ c.turns.guest.config.accesses + length ts =
    (rw c.in-Ok-Ended.field-0-is at c.in-Ok-Ended.ensures.counts).1 in
    let within : IsWithin after = c.run_on.ensures.within in
    let budget : after.setup.budget ≡ c.args.guest.now.setup.budget = ap (λ (s : Setup). s.budget)
    (c.in-Ok-Ended.ensures.setup ∙ x.setup) in
    rw c.all-in-Ok-Ended.ensures
    (room_more g.O.Observer.begins g.O.Observer.given c.args.observer.now c.turns.observer
    c.args.version x.events (touch_records c.args.version ts) c.requires.started x.given_on
    (omega (
      arith,
      touches_put c.args.version ts,
      x.early,
      counts,
      within.accesses,
      within.steps,
      budget,
      c.requires.budget,
    )))

pub returns-in-Ok-note_touches-clause-given : goal.returns-in-Ok-note_touches-clause-given
returns-in-Ok-note_touches-clause-given g c =
    let after = c.run_on.new.self in
    let ts = c.run_on.new.touches in
    let end : Ending = ending_with c.in-Ok-Ended.outcome after.config in
    let harts : after.setup.harts ≡ c.args.guest.now.setup.harts =
    ap (λ (s : Setup). s.harts) (c.in-Ok-Ended.ensures.setup ∙ c.turns.invariant.setup) in
    let good : All (IsGoodRecord c.args.version after.setup.harts) (touch_records c.args.version ts)
    =
    rw c.all-in-Ok-Ended.ensures at (c.in-Ok-note_touches.ensures.good after.setup.harts
    (rw c.all-in-Ok-Ended.ensures c.run_on.ensures.theirs)) in
    let x = follows_touches g.O.Observer.given c.args.version c.args.guest.now c.turns.guest after
    (ended_run end)
    c.args.observer.now c.turns.observer c.note_touches.new.observer c.args.files.now
    c.args.outputs.now c.turns.outputs c.note_touches.new.outputs c.args.speller.now.writer
    c.turns.speller.writer c.note_touches.new.speller.writer
    (g.S.Shelf.outside c.show_steps.new.shelf) (g.S.Shelf.outside c.turns.shelf)
    (g.S.Shelf.outside c.note_touches.new.shelf) ts c.turns.invariant
    (rw c.in-Ok-Ended.field-0-is at c.in-Ok-Ended.ensures.run)
    (rw c.all-in-Ok-Ended.ensures at c.in-Ok-note_touches.ensures.given)
    (subst (λ (n : ℕ). All (IsGoodRecord c.args.version n) (touch_records c.args.version ts)) harts
    good)
    (λ items put before on. rw c.all-in-Ok-Ended.ensures at (c.in-Ok-note_touches.ensures.noted
    c.args.guest.now.setup.harts items put before on))
    c.in-Ok-Ended.ensures.setup
    (rw c.in-Ok-Ended.field-0-is at c.in-Ok-Ended.ensures.counts).1 c.note_touches.ensures.count
    c.in-Ok-note_touches.ensures.begun in
    let same : (rest_of c.args.guest.now).events ≡ x.events = all_seen x.events
    (rest_of c.args.guest.now) (ended_run end) end x.goes refl in
    subst (λ (l : List RunEvent). IsGivenOn g.O.Observer.given c.args.observer.now
    c.note_touches.new.observer (records_in c.args.version l)) (sym same) x.given_on

pub returns-in-Ok-note_touches-clause-good : goal.returns-in-Ok-note_touches-clause-good
returns-in-Ok-note_touches-clause-good g c =
    let after = c.run_on.new.self in
    let ts = c.run_on.new.touches in
    let end : Ending = ending_with c.in-Ok-Ended.outcome after.config in
    let harts : after.setup.harts ≡ c.args.guest.now.setup.harts =
    ap (λ (s : Setup). s.harts) (c.in-Ok-Ended.ensures.setup ∙ c.turns.invariant.setup) in
    let good : All (IsGoodRecord c.args.version after.setup.harts) (touch_records c.args.version ts)
    =
    rw c.all-in-Ok-Ended.ensures at (c.in-Ok-note_touches.ensures.good after.setup.harts
    (rw c.all-in-Ok-Ended.ensures c.run_on.ensures.theirs)) in
    let x = follows_touches g.O.Observer.given c.args.version c.args.guest.now c.turns.guest after
    (ended_run end)
    c.args.observer.now c.turns.observer c.note_touches.new.observer c.args.files.now
    c.args.outputs.now c.turns.outputs c.note_touches.new.outputs c.args.speller.now.writer
    c.turns.speller.writer c.note_touches.new.speller.writer
    (g.S.Shelf.outside c.show_steps.new.shelf) (g.S.Shelf.outside c.turns.shelf)
    (g.S.Shelf.outside c.note_touches.new.shelf) ts c.turns.invariant
    (rw c.in-Ok-Ended.field-0-is at c.in-Ok-Ended.ensures.run)
    (rw c.all-in-Ok-Ended.ensures at c.in-Ok-note_touches.ensures.given)
    (subst (λ (n : ℕ). All (IsGoodRecord c.args.version n) (touch_records c.args.version ts)) harts
    good)
    (λ items put before on. rw c.all-in-Ok-Ended.ensures at (c.in-Ok-note_touches.ensures.noted
    c.args.guest.now.setup.harts items put before on))
    c.in-Ok-Ended.ensures.setup
    (rw c.in-Ok-Ended.field-0-is at c.in-Ok-Ended.ensures.counts).1 c.note_touches.ensures.count
    c.in-Ok-note_touches.ensures.begun in
    let same : (rest_of c.args.guest.now).events ≡ x.events = all_seen x.events
    (rest_of c.args.guest.now) (ended_run end) end x.goes refl in
    subst (λ (l : List RunEvent). All (IsGoodRecord c.args.version c.args.guest.now.setup.harts)
    (records_in c.args.version l))
    (sym same) x.good

pub returns-in-Ok-note_touches-clause-noted : goal.returns-in-Ok-note_touches-clause-noted
returns-in-Ok-note_touches-clause-noted g c = λ earlier before on.
    let after = c.run_on.new.self in
    let ts = c.run_on.new.touches in
    let end : Ending = ending_with c.in-Ok-Ended.outcome after.config in
    let harts : after.setup.harts ≡ c.args.guest.now.setup.harts =
    ap (λ (s : Setup). s.harts) (c.in-Ok-Ended.ensures.setup ∙ c.turns.invariant.setup) in
    let good : All (IsGoodRecord c.args.version after.setup.harts) (touch_records c.args.version ts)
    =
    rw c.all-in-Ok-Ended.ensures at (c.in-Ok-note_touches.ensures.good after.setup.harts
    (rw c.all-in-Ok-Ended.ensures c.run_on.ensures.theirs)) in
    let x = follows_touches g.O.Observer.given c.args.version c.args.guest.now c.turns.guest after
    (ended_run end)
    c.args.observer.now c.turns.observer c.note_touches.new.observer c.args.files.now
    c.args.outputs.now c.turns.outputs c.note_touches.new.outputs c.args.speller.now.writer
    c.turns.speller.writer c.note_touches.new.speller.writer
    (g.S.Shelf.outside c.show_steps.new.shelf) (g.S.Shelf.outside c.turns.shelf)
    (g.S.Shelf.outside c.note_touches.new.shelf) ts c.turns.invariant
    (rw c.in-Ok-Ended.field-0-is at c.in-Ok-Ended.ensures.run)
    (rw c.all-in-Ok-Ended.ensures at c.in-Ok-note_touches.ensures.given)
    (subst (λ (n : ℕ). All (IsGoodRecord c.args.version n) (touch_records c.args.version ts)) harts
    good)
    (λ items put before on. rw c.all-in-Ok-Ended.ensures at (c.in-Ok-note_touches.ensures.noted
    c.args.guest.now.setup.harts items put before on))
    c.in-Ok-Ended.ensures.setup
    (rw c.in-Ok-Ended.field-0-is at c.in-Ok-Ended.ensures.counts).1 c.note_touches.ensures.count
    c.in-Ok-note_touches.ensures.begun in
    let same : (rest_of c.args.guest.now).events ≡ x.events = all_seen x.events
    (rest_of c.args.guest.now) (ended_run end) end x.goes refl in
    subst (λ (l : List RunEvent). AreNoted c.args.version c.args.guest.now.setup.harts (earlier
    ++ records_in c.args.version l)
    (output_in l) c.args.files.now c.note_touches.new.outputs
    c.note_touches.new.speller.writer before
    (g.S.Shelf.outside c.note_touches.new.shelf)) (sym same)
    (x.noted earlier before (rw c.show_steps.ensures on))

pub returns-in-Err-note_touches-clause-cut : goal.returns-in-Err-note_touches-clause-cut
returns-in-Err-note_touches-clause-cut g c = λ earlier before on.
    let after = c.run_on.new.self in
    let ts = c.run_on.new.touches in
    let end : Ending = ending_with c.in-Ok-Ended.outcome after.config in
    let harts = c.args.guest.now.setup.harts in
    let x = c.turns.invariant in
    cut_touches c.args.version harts earlier c.args.files.now x.events ts (rest_of c.args.guest.now)
    (rest_of c.turns.guest) (ended_run end) before (g.S.Shelf.outside c.note_touches.new.shelf)
    c.in-Err-note_touches.error x.goes (rw c.in-Ok-Ended.field-0-is at c.in-Ok-Ended.ensures.run)
    (rw c.all-in-Ok-Ended.ensures at (c.in-Err-note_touches.ensures.cut harts
    (earlier ++ records_in c.args.version x.events) (output_in x.events) before
    (x.noted earlier before (rw c.show_steps.ensures on))))
