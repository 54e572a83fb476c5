-- Steps of which nothing is seen but accesses: what they count, and the run behind them.
use Rattle.std.proofs.Common.{◌≡◌, ◌∙◌, ℕ, suc, ◌+◌, ◌<◌, ◌≤◌, Bool, true, false, List, []}
use Rattle.std.proofs.Common.{◌∷◌, ◌++◌, length, map, refl, sym, ap, Result, Ok, Err}
use Rattle.std.proofs.Common.{Option, None}
use Rattle.std.proofs.Common.{append_assoc, arith, subst}
use Rattle.std.proofs.lemmas.List.{append-nil, length-append, map-append}
use Rattle.std.proofs.lemmas.List.Elements.{All-append, All-cons, All-nil}
use Rattle.std.specs.Prelude.{IfOk, IsFalse, IsOk, IsTrue, OnErr}
use Rattle.base.specs.declared.faults.NoMemory.{NoMemory}
use Rattle.base.specs.declared.ending.Ending.{Ending}
use Rattle.base.specs.declared.ending.Outcome.{Outcome}
use Rattle.guest.specs.declared.turn.Event.{Event}
use Rattle.guest.specs.declared.setup.Setup.{Setup}
use Rattle.guest.specs.declared.turn.Touched.{Touched}
use Rattle.guest.specs.declared.turn.Turn.{Turn}
use Rattle.guest.specs.declared.turn.Turn.TheVariants.{Ran, Ended}
use Rattle.guest.specs.declared.turn.Event.TheVariants.{Quiet}
use Rattle.guest.specs.Configs.{Config, Fits}
use Rattle.guest.specs.GuestCalls.{RunEvent, quiet, touch, alloc, free, output, ran}
use Rattle.guest.specs.Turns.{AreTurns, turn_of, wants_memory}
use Rattle.guest.specs.Runs.{ended_run, ending_with, led_by, led_with, rest_with, run_of}
use Rattle.guest.specs.Runs.{touch_in, touches_in}
use Rattle.guest.specs.SeenTurns.{AreOfHarts, AreTouches, ComesTo, CountsOn, HasPassed, IsLedTo}
use Rattle.guest.specs.SeenTurns.{accesses_in}
use Rattle.guest.specs.SeenTurns.{event_of, seen, seen_among, seen_in, turn_seen}
use Rattle.guest.proofs.RunSteps.{rest_ran, run_over, run_ran}
use Rattle.guest.proofs.TurnCounts.{at-most-one, touches-seen}
use Rattle.guest.proofs.TurnsCounted.{Counted, Step, turn_one}

-- ---- accesses among events

pub touches_none : AreTouches [] []
touches_none = refl

seen-append : (xs ys : List RunEvent) → seen_among (xs ++ ys) ≡ seen_among xs ++ seen_among ys
seen-append [] ys = refl
seen-append (x ∷ xs) ys =
    ap (λ (l : List RunEvent). seen_in x ++ l) (seen-append xs ys)
    ∙ sym (append_assoc (seen_in x) (seen_among xs) (seen_among ys))

pub touches_all : (xs ys : List RunEvent) (ts us : List Touched) → AreTouches xs ts
    → AreTouches ys us
    → AreTouches (xs ++ ys) (ts ++ us)
touches_all xs ys ts us one two =
    seen-append xs ys
    ∙ ap (λ (l : List RunEvent). l ++ seen_among ys) one
    ∙ ap (λ (l : List RunEvent). map event_of ts ++ l) two
    ∙ sym (map-append event_of ts us)

-- an event has an access or none, so that there are as many as were put by

seen-touches : (events : List RunEvent) → touches_in events ≡ touches_in (seen_among events)
seen-touches [] = refl
seen-touches (quiet ∷ events) = seen-touches events
seen-touches (touch a pc ∷ events) = ap (λ l. a ∷ l) (seen-touches events)
seen-touches (alloc at size sites ∷ events) = seen-touches events
seen-touches (free at ∷ events) = seen-touches events
seen-touches (output at bytes ∷ events) = seen-touches events

touches-put : (ts : List Touched) → length (touches_in (map event_of ts)) ≡ length ts
touches-put [] = refl
touches-put (t ∷ ts) = ap (λ (n : ℕ). suc n) (touches-put ts)

pub touches_count : (events : List RunEvent) (ts : List Touched) → AreTouches events ts
    → length (touches_in events) ≡ length ts
touches_count events ts touched =
    ap length (seen-touches events) ∙ ap (λ (l : List RunEvent). length (touches_in l)) touched
    ∙ touches-put ts

one-touch : (e : RunEvent) → length (touch_in e) ≤ 1
one-touch quiet = omega arith
one-touch (touch a pc) = omega arith
one-touch (alloc at size sites) = omega arith
one-touch (free at) = omega arith
one-touch (output at bytes) = omega arith

pub touches_few : (events : List RunEvent) → length (touches_in events) ≤ length events
touches_few [] = omega arith
touches_few (e ∷ events) =
    omega (
      arith,
      one-touch e,
      touches_few events,
      length-append (touch_in e) (touches_in events),
    )

-- ---- turns, one more and many more

pub turns_more : (s : Setup) (events : List RunEvent) (c x d : Config) (e : RunEvent)
    → AreTurns s events c x → turn_of s x ≡ ran e d → AreTurns s (events ++ e ∷ []) c d
turns_more s [] c x d e same turn = (d, ap (λ (y : Config). turn_of s y) same ∙ turn, refl)
turns_more s (f ∷ events) c x d e passed turn =
    (passed.0, passed.1, turns_more s events passed.0 x d e passed.2 turn)

pub turns_all : (s : Setup) (xs ys : List RunEvent) (c x d : Config) → AreTurns s xs c x
    → AreTurns s ys x d
    → AreTurns s (xs ++ ys) c d
turns_all s [] ys c x d same more = subst (λ (y : Config). AreTurns s ys y d) (sym same) more
turns_all s (e ∷ xs) ys c x d passed more =
    (passed.0, passed.1, turns_all s xs ys passed.0 x d passed.2 more)

-- each is counted, and so is its access
pub record Passed (s : Setup) (events : List RunEvent) (c d : Config) : Type 0 where
  pub steps : d.steps ≡ c.steps + length events
  pub accesses : d.accesses ≡ c.accesses + length (touches_in events)
  pub room : d.steps ≤ s.budget

pub turns_count : (s : Setup) (events : List RunEvent) (c d : Config) → AreTurns s events c d
    → c.steps ≤ s.budget
    → Passed s events c d
turns_count s [] c d same room =
    let steps : d.steps ≡ c.steps = ap (λ (x : Config). x.steps) (sym same) in
    let accesses : d.accesses ≡ c.accesses = ap (λ (x : Config). x.accesses) (sym same) in
    record { steps = omega arith; accesses = omega arith; room = omega arith }
turns_count s (e ∷ events) c d passed room =
    let one : Step s c e passed.0 = rw passed.1 at (turn_one s c room) in
    let later : Passed s events passed.0 d = turns_count s events passed.0 d passed.2
    (omega (arith, one.steps, one.room)) in
    record {
      steps = omega (arith, one.steps, later.steps);
      accesses = omega (
        arith,
        one.accesses,
        later.accesses,
        length-append (touch_in e) (touches_in events),
      );
      room = later.room;
    }

-- the run begins with them
pub turns_run : (s : Setup) (events : List RunEvent) (c d : Config) → AreTurns s events c d
    → c.steps ≤ s.budget
    → run_of s c ≡ led_with events (run_of s d)
turns_run s [] c d same room = ap (λ (x : Config). run_of s x) same
turns_run s (e ∷ events) c d passed room =
    let one : Step s c e passed.0 = rw passed.1 at (turn_one s c room) in
    run_ran s c e passed.0 passed.1 room
    ∙ ap (led_by e) (turns_run s events passed.0 d passed.2 (omega (arith, one.steps, one.room)))

-- ---- some were made, and it may go on

pub record Passing (s : Setup) (until : ℕ) (c d : Config) (touches : List Touched) : Type 0 where
  pub so_far : HasPassed s until touches c d
  pub counts : Passed s so_far.events c d
  pub fits : Fits s.harts d
  pub within : d.accesses ≤ d.steps
  pub theirs : AreOfHarts s.harts touches

pub passing_start : (s : Setup) (until : ℕ) (c : Config) → Fits s.harts c → c.steps ≤ s.budget
    → c.accesses ≤ c.steps
    → Passing s until c c []
passing_start s until c fits room within = record {
  so_far = record { events = []; touched = touches_none; passed = refl; early = λ h. h };
  counts = turns_count s [] c c refl room;
  fits = fits;
  within = within;
  theirs = All-nil (λ (t : Touched). t.access.hart < s.harts);
}

-- some more were made
pub passing_all : (s : Setup) (until : ℕ) (c x d : Config) (touches more : List Touched)
    (events : List RunEvent) → Passing s until c x touches → AreTurns s events x d
    → AreTouches events more → AreOfHarts s.harts more → Fits s.harts d
    → (x.steps < until → d.steps < until)
    → Passing s until c d (touches ++ more)
passing_all s until c x d touches more events before made touched theirs fits early =
    let all : AreTurns s (before.so_far.events ++ events) c d =
    turns_all s before.so_far.events events c x d before.so_far.passed made in
    let since : Passed s events x d = turns_count s events x d made before.counts.room in
    let room : c.steps ≤ s.budget = omega (arith, before.counts.steps, before.counts.room) in
    record {
      so_far = record {
        events = before.so_far.events ++ events;
        touched = touches_all before.so_far.events events touches more before.so_far.touched
            touched;
        passed = all;
        early = λ h. early (before.so_far.early h);
      };
      counts = turns_count s (before.so_far.events ++ events) c d all room;
      fits = fits;
      within = omega (
        arith,
        before.within,
        since.steps,
        since.accesses,
        touches_few events,
      );
      theirs = All-append (λ (t : Touched). t.access.hart < s.harts) touches more before.theirs
          theirs;
    }

-- one more was made of which nothing is seen
pub passing_on : (s : Setup) (until : ℕ) (c x d : Config) (touches : List Touched)
    → Passing s until c x touches → ran quiet d ≡ turn_of s x → Fits s.harts d → d.steps < until
    → Passing s until c d touches
passing_on s until c x d touches before made fits early =
    subst (Passing s until c d) (append-nil touches)
    (passing_all s until c x d touches [] (quiet ∷ []) before (d, sym made, refl) refl
    (All-nil (λ (t : Touched). t.access.hart < s.harts)) fits (λ _. early))

-- one more was made, whose access is put by
pub passing_touch : (s : Setup) (until : ℕ) (c x d : Config) (touches : List Touched) (t : Touched)
    → Passing s until c x touches → ran (event_of t) d ≡ turn_of s x → Fits s.harts d
    → d.steps < until → t.access.hart < s.harts
    → Passing s until c d (touches ++ t ∷ [])
passing_touch s until c x d touches t before made fits early its =
    passing_all s until c x d touches (t ∷ []) (event_of t ∷ []) before (d, sym made, refl) refl
    (All-cons (λ (x : Touched). x.access.hart < s.harts) t [] its
    (All-nil (λ (x : Touched). x.access.hart < s.harts))) fits (λ _. early)

pub step_one : (s : Setup) (x d : Config) (e : RunEvent) → x.steps ≤ s.budget
    → ran e d ≡ turn_of s x
    → Step s x e d
step_one s x d e room made = rw (← made) at (turn_one s x room)

-- ---- a turn behind them, by its answer

pub record Taken (s : Setup) (until : ℕ) (c d : Config) (touches : List Touched)
    (r : Result Turn NoMemory) : Type 0 where
  pub turn : IfOk r
      (λ t. (x : Config) × HasPassed s until touches c x × (turn_seen t d ≡ turn_of s x))
  pub passed : OnErr r (HasPassed s until touches c d)
  pub settled : OnErr r (IsTrue (wants_memory d (turn_of s d)))

refused_settled : (b : Bool) → (IsFalse b → false ≡ true) → IsTrue b
refused_settled true h = refl
refused_settled false h = h refl

pub taken : (s : Setup) (until : ℕ) (c x d : Config) (touches : List Touched)
    (r : Result Turn NoMemory) → Passing s until c x touches
    → IfOk r (λ t. turn_seen t d ≡ turn_of s x) → OnErr r (d ≡ x)
    → (IsFalse (wants_memory x (turn_of s x)) → IsOk r)
    → Taken s until c d touches r
taken s until c x d touches (Ok t) before turn same settled =
    record { turn = (x, before.so_far, turn); passed = tt; settled = tt }
taken s until c x d touches (Err e) before turn same settled = record {
  turn = tt;
  passed = subst (HasPassed s until touches c) (sym same) before.so_far;
  settled = rw same (refused_settled (wants_memory x (turn_of s x)) settled);
}

pub quiet_answer : (s : Setup) (x d : Config) (r : Result Turn NoMemory)
    → IfOk r (λ t. turn_seen t d ≡ turn_of s x) → r ≡ Ok (Ran Quiet) → ran quiet d ≡ turn_of s x
quiet_answer s x d r turn silent = rw silent at turn

-- what is known behind some, of a turn or where memory was refused for it
pub record Behind (s : Setup) (until : ℕ) (c d : Config) : Type 0 where
  pub room : d.steps ≤ s.budget
  pub bound : c.steps < until → d.steps ≤ until
  pub within : c.accesses ≤ c.steps → d.accesses ≤ d.steps

counted-on : (s : Setup) (until : ℕ) (c x : Config) (touches : List Touched) (t : Turn) (d : Config)
    → HasPassed s until touches c x → c.steps ≤ s.budget
    → Counted s x (turn_seen t d) → Behind s until c d × CountsOn c touches t d
counted-on s until c x touches (Ran e) d h room one =
    let n : length (touch_in (seen d.memory e)) ≡ accesses_in e = touches-seen d.memory e in
    let counts : Passed s h.events c x = turns_count s h.events c x h.passed room in
    let many : length (touches_in h.events) ≡ length touches = touches_count h.events touches
    h.touched in
    let few : length (touches_in h.events) ≤ length h.events = touches_few h.events in
    let accesses : d.accesses ≡ c.accesses + length touches + accesses_in e =
    omega (arith, one.accesses, counts.accesses, n, many) in (
      record {
        room = omega (arith, one.steps, one.room);
        bound = λ k. omega (arith, one.steps, h.early k);
        within = λ k. omega (
          arith,
          k,
          accesses,
          many,
          few,
          at-most-one e,
          one.steps,
          counts.steps,
        );
      },
      (omega (arith, one.steps, counts.steps), accesses),
    )
counted-on s until c x touches (Ended o) d h room one =
    let counts : Passed s h.events c x = turns_count s h.events c x h.passed room in
    let many : length (touches_in h.events) ≡ length touches = touches_count h.events touches
    h.touched in
    let few : length (touches_in h.events) ≤ length h.events = touches_few h.events in (
      record {
        room = one.steps;
        bound = λ k. omega (arith, one.most, h.early k);
        within = λ k. omega (
          arith,
          k,
          few,
          one.least,
          one.accesses,
          counts.steps,
          counts.accesses,
        );
      },
      (
        omega (arith, one.least, counts.steps),
        omega (arith, one.accesses, counts.accesses, many),
      ),
    )

pub behind : (s : Setup) (until : ℕ) (c x : Config) (touches : List Touched) (t : Turn) (d : Config)
    → HasPassed s until touches c x → c.steps ≤ s.budget → turn_seen t d ≡ turn_of s x
    → Behind s until c d × CountsOn c touches t d
behind s until c x touches t d h room turn =
    let counts : Passed s h.events c x = turns_count s h.events c x h.passed room in
    counted-on s until c x touches t d h room (rw turn (turn_one s x counts.room))

-- what was made, and what is known behind it
pub record Came (s : Setup) (until : ℕ) (c : Config) (touches : List Touched) (t : Turn)
    (d : Config) : Type 0 where
  pub before : Config
  pub passed : HasPassed s until touches c before
  pub made : turn_seen t d ≡ turn_of s before
  pub known : Behind s until c d
  pub counts : CountsOn c touches t d

pub came : (s : Setup) (until : ℕ) (c : Config) (touches : List Touched) (t : Turn) (d : Config)
    → ((x : Config) × HasPassed s until touches c x × (turn_seen t d ≡ turn_of s x))
    → c.steps ≤ s.budget → Came s until c touches t d
came s until c touches t d turn room =
    let b = behind s until c turn.0 touches t d turn.1 room turn.2 in
    record {
      before = turn.0;
      passed = turn.1;
      made = turn.2;
      known = b.0;
      counts = b.1;
    }

pub comes_to : (s : Setup) (until : ℕ) (c : Config) (touches : List Touched) (t : Turn)
    (d : Config) → Came s until c touches t d → ComesTo s c touches t d
comes_to s until c touches t d x = record {
  events = x.passed.events;
  touched = x.passed.touched;
  before = x.before;
  passed = x.passed.passed;
  made = x.made;
}

pub behind_refused : (s : Setup) (until : ℕ) (c d : Config) (touches : List Touched)
    → HasPassed s until touches c d → c.steps ≤ s.budget
    → Behind s until c d
behind_refused s until c d touches h room =
    let counts : Passed s h.events c d = turns_count s h.events c d h.passed room in
    let few : length (touches_in h.events) ≤ length h.events = touches_few h.events in
    record {
      room = counts.room;
      bound = λ k. omega (arith, h.early k);
      within = λ k. omega (arith, k, few, counts.steps, counts.accesses);
    }

-- ---- the run that is left, which has not ended

rest-turns : (s : Setup) (events : List RunEvent) (c d : Config) (o : Option Ending) → o ≡ None
    → AreTurns s events c d → c.steps ≤ s.budget
    → rest_with s c o ≡ led_with events (rest_with s d o)
rest-turns s events c d o none passed room = rw none (turns_run s events c d passed room)

pub rest_passed : (s : Setup) (until : ℕ) (c d : Config) (touches : List Touched)
    (o : Option Ending) → o ≡ None → HasPassed s until touches c d → c.steps ≤ s.budget
    → IsLedTo (rest_with s c o) touches (rest_with s d o)
rest_passed s until c d touches o none h room = record {
  events = h.events;
  touched = h.touched;
  led = rest-turns s h.events c d o none h.passed room;
}

pub rest_came : (s : Setup) (until : ℕ) (c x : Config) (touches : List Touched) (o : Option Ending)
    (e : Event) (d : Config) → o ≡ None → HasPassed s until touches c x
    → turn_seen (Ran e) d ≡ turn_of s x → c.steps ≤ s.budget
    → IsLedTo (rest_with s c o) touches (led_by (seen d.memory e) (rest_with s d o))
rest_came s until c x touches o e d none h made room =
    let so_far : Passed s h.events c x = turns_count s h.events c x h.passed room in
    record {
      events = h.events;
      touched = h.touched;
      led = rest-turns s h.events c x o none h.passed room
          ∙ ap (led_with h.events) (rest_ran s x o (seen d.memory e) d none made so_far.room);
    }

pub rest_ended : (s : Setup) (until : ℕ) (c x : Config) (touches : List Touched)
    (o : Option Ending) (out : Outcome) (d : Config) → o ≡ None → HasPassed s until touches c x
    → turn_seen (Ended out) d ≡ turn_of s x → c.steps ≤ s.budget
    → IsLedTo (rest_with s c o) touches (ended_run (ending_with out d))
rest_ended s until c x touches o out d none h made room = record {
  events = h.events;
  touched = h.touched;
  led = rest-turns s h.events c x o none h.passed room
      ∙ ap (led_with h.events) (rw none (run_over s x out d (sym made)));
}
