-- Steps that a hart makes on its own are turns of the run.
use Rattle.std.proofs.Common.{◌≡◌, ◌∙◌, ℕ, zero, suc, ◌+◌, ◌-◌, ◌<◌, ◌≤◌, ◌^◌, Bool, List, [], ◌∷◌}
use Rattle.std.proofs.Common.{◌++◌, length, Option, Some, None, inl, inr, refl, sym, ap, set, subst}
use Rattle.std.proofs.Common.{append_assoc, arith, get_or, get_or-set_same}
use Rattle.std.proofs.lemmas.List.{append-nil, get_or_past, length-append, length-set, set-get_or}
use Rattle.std.proofs.lemmas.List.{set-set}
use Rattle.std.proofs.lemmas.List.Elements.{All-append, All-cons, All-head, All-nil, All-tail}
use Rattle.std.proofs.lemmas.Bool.{cases_lt}
use Rattle.std.proofs.lemmas.Option.{get_or_from_slice_get, slice_get_read}
use Rattle.std.specs.List.{All}
use Rattle.base.specs.Touch.{Touch}
use Rattle.rv32_decode.specs.declared.instruction.Instr.{Instr}
use Rattle.rv32_hart.specs.Space.{Space}
use Rattle.rv32_hart.specs.Registers.{Registers}
use Rattle.rv32_hart.specs.Effect.{IsOwnStep, Machine, machine, outcome, stepped}
use Rattle.rv32_hart.specs.declared.step_end.StepEnd.TheVariants.{Next}
use Rattle.hart_scheduler.specs.Choices.{AreOf, Plan, choice, plan_after, plan_after_all}
use Rattle.guest.specs.declared.phase.HartPhase.{HartPhase}
use Rattle.guest.specs.declared.phase.HartPhase.TheVariants.{Free, Runnable}
use Rattle.guest.specs.declared.setup.Setup.{Setup}
use Rattle.guest.specs.declared.turn.Touched.{Touched}
use Rattle.guest.specs.Phases.{phase_of}
use Rattle.guest.specs.CallLists.{calls_after}
use Rattle.guest.specs.Configs.{CanStep, Config, Fits, calls_of, noted, state_of, unused}
use Rattle.guest.specs.GuestCalls.{RunEvent, quiet, ran, touch}
use Rattle.guest.specs.OwnSteps.{AreSteps, HasGone, HasPut, HasStepped, IsAt, IsStep, event_at}
use Rattle.guest.specs.OwnSteps.{gone_ahead}
use Rattle.guest.specs.Runs.{touch_in, touches_in}
use Rattle.guest.specs.Turns.{AreTurns, chosen, hart_turn, machine_of, made, runnable_in, turn_of}
use Rattle.guest.specs.Turns.{with_machine}
use Rattle.guest.proofs.AtCall.{read_state, turn-at-next}
use Rattle.guest.proofs.CallFits.{harts_after}
use Rattle.guest.proofs.ChosenTurn.{turn_made}
use Rattle.guest.proofs.OwnAccesses.{own_access}
use Rattle.guest.proofs.PassedTurns.{Passing, passing_all, touches_all, touches_count, touches_few}
use Rattle.guest.proofs.PassedTurns.{touches_none}

-- ---- configurations behind steps

-- a configuration with the machine and the calls of a hart
abbrev pub built : ℕ → Machine → List ℕ → Plan → ℕ → ℕ → Config → Config
built hart x calls plan steps accesses c = record c {
  memory = x.memory;
  states = set c.states hart x.state;
  held = x.held;
  calls = set c.calls hart calls;
  plan = plan;
  steps = steps;
  accesses = accesses;
}

-- one configuration stated in two ways
same_built : (hart : ℕ) (x : Machine) (c : Config) (calls calls' : List ℕ) (plan plan' : Plan)
    (steps steps' accesses accesses' : ℕ) → calls ≡ calls' → plan ≡ plan' → steps ≡ steps'
    → accesses ≡ accesses'
    → built hart x calls plan steps accesses c ≡ built hart x calls' plan' steps' accesses' c
same_built hart x c calls calls' plan plan' steps steps' accesses accesses' a b n k =
    ap (λ (l : List ℕ). built hart x l plan steps accesses c) a
    ∙ ap (λ (p : Plan). built hart x calls' p steps accesses c) b
    ∙ ap (λ (m : ℕ). built hart x calls' plan' m accesses c) n
    ∙ ap (λ (m : ℕ). built hart x calls' plan' steps' m c) k

-- the latter of two is left
built_again : (hart : ℕ) (x y : Machine) (c : Config) (calls later : List ℕ) (plan plan' : Plan)
    (steps steps' accesses accesses' : ℕ)
    → built hart y later plan' steps' accesses' (built hart x calls plan steps accesses c)
    ≡ built hart y later plan' steps' accesses' c
built_again hart x y c calls later plan plan' steps steps' accesses accesses' =
    ap
    (λ (states : List Registers).
    record c {
      memory = y.memory;
      states = states;
      held = y.held;
      calls = set (set c.calls hart calls) hart later;
      plan = plan';
      steps = steps';
      accesses = accesses';
    })
    (set-set c.states hart x.state y.state)
    ∙ ap
    (λ (lists : List (List ℕ)).
    record c {
      memory = y.memory;
      states = set c.states hart y.state;
      held = y.held;
      calls = lists;
      plan = plan';
      steps = steps';
      accesses = accesses';
    })
    (set-set c.calls hart calls later)

-- no step leaves all
none-built : (hart : ℕ) (c : Config) (y : Machine) (later : List ℕ) (steps accesses : ℕ)
    → machine_of hart c ≡ y → calls_of c hart ≡ later → c.steps ≡ steps → c.accesses ≡ accesses
    → c ≡ built hart y later c.plan steps accesses c
none-built hart c y later steps accesses is calls n k =
    sym
    (ap (λ (x : Machine). built hart x later c.plan steps accesses c) (sym is)
    ∙ same_built hart (machine_of hart c) c later (calls_of c hart) c.plan c.plan steps c.steps
    accesses c.accesses (sym calls) refl (sym n) (sym k)
    ∙ ap
    (λ (states : List Registers).
    record c { states = states; calls = set c.calls hart (calls_of c hart) })
    (set-get_or c.states hart unused)
    ∙ ap (λ (lists : List (List ℕ)). record c { calls = lists }) (set-get_or c.calls hart []))

-- ---- one step is one turn

made-gone : (hart : ℕ) (c : Config) (i : Instr) (e : RunEvent) (y : Machine) (later : List ℕ)
    (a : Option Touch) → calls_after i (state_of c hart).pc (calls_of c hart) ≡ later
    → e ≡ event_at (state_of c hart).pc a
    → made (state_of c hart).pc a
    (noted hart i (state_of c hart).pc (with_machine hart y (chosen c)))
    ≡ ran e (gone_ahead hart (e ∷ []) y later c)
made-gone hart c i e y later None calls seen =
    subst
    (λ (f : RunEvent). made (state_of c hart).pc None
    (noted hart i (state_of c hart).pc (with_machine hart y (chosen c)))
    ≡ ran f (gone_ahead hart (f ∷ []) y later c))
    (sym seen)
    (ap (λ (d : Config). ran quiet d)
    (same_built hart y c (calls_after i (state_of c hart).pc (calls_of c hart)) later
    (plan_after (runnable_in c) c.plan) (plan_after (runnable_in c) c.plan) (c.steps + 1)
    (c.steps + 1) c.accesses (c.accesses + 0) calls refl refl (omega arith)))
made-gone hart c i e y later (Some a) calls seen =
    subst
    (λ (f : RunEvent). made (state_of c hart).pc (Some a)
    (noted hart i (state_of c hart).pc (with_machine hart y (chosen c)))
    ≡ ran f (gone_ahead hart (f ∷ []) y later c))
    (sym seen)
    (ap (λ (d : Config). ran (touch a (state_of c hart).pc) d)
    (same_built hart y c (calls_after i (state_of c hart).pc (calls_of c hart)) later
    (plan_after (runnable_in c) c.plan) (plan_after (runnable_in c) c.plan) (c.steps + 1)
    (c.steps + 1) (c.accesses + 1) (c.accesses + 1) calls refl refl refl))

one-turn : (s : Setup) (hart : ℕ) (c : Config) (e : RunEvent) (y : Machine) (later : List ℕ)
    → IsStep hart e (machine_of hart c) (calls_of c hart) y later
    → choice (runnable_in c) c.plan ≡ Some hart → phase_of c.phases hart ≡ Runnable
    → c.steps < s.budget
    → turn_of s c ≡ ran e (gone_ahead hart (e ∷ []) y later c)
one-turn s hart c e y later step next runs left =
    sym (turn_made s c hart (sym next) runs left)
    ∙ sym (turn-at-next s hart (chosen c) step.instr step.access y step.effect)
    ∙ made-gone hart c step.instr e y later step.access step.noted step.seen

-- ---- and many are many

after-shift : (runnable : List Bool) (k : ℕ) (plan : Plan)
    → plan_after_all runnable k (plan_after runnable plan) ≡ plan_after_all runnable (suc k) plan
after-shift runnable zero plan = refl
after-shift runnable (suc k) plan = ap (plan_after runnable) (after-shift runnable k plan)

gone-gone : (hart : ℕ) (e : RunEvent) (events : List RunEvent) (c : Config) (z y : Machine)
    (between later : List ℕ)
    → gone_ahead hart events y later (gone_ahead hart (e ∷ []) z between c)
    ≡ gone_ahead hart (e ∷ events) y later c
gone-gone hart e events c z y between later =
    let plan = plan_after (runnable_in c) c.plan in
    let one : ℕ = c.accesses + length (touches_in (e ∷ [])) in
    built_again hart z y c between later plan
    (plan_after_all (runnable_in c) (length events) plan) (c.steps + 1)
    (c.steps + 1 + length events) one (one + length (touches_in events))
    ∙ same_built hart y c later later (plan_after_all (runnable_in c) (length events) plan)
    (plan_after_all (runnable_in c) (suc (length events)) c.plan) (c.steps + 1 + length events)
    (c.steps + length (e ∷ events)) (one + length (touches_in events))
    (c.accesses + length (touches_in (e ∷ events))) refl
    (after-shift (runnable_in c) (length events) c.plan) (omega arith)
    (omega (
      arith,
      length-append (touch_in e) (touches_in events),
      length-append (touch_in e) [],
    ))

pub own_turns : (s : Setup) (hart : ℕ) (events : List RunEvent) (c : Config) (y : Machine)
    (later : List ℕ) → hart < length c.states → hart < length c.calls
    → phase_of c.phases hart ≡ Runnable → AreOf (runnable_in c) c.plan (length events) hart
    → c.steps + length events ≤ s.budget
    → AreSteps hart events (machine_of hart c) (calls_of c hart) y later
    → AreTurns s events c (gone_ahead hart events y later c)
own_turns s hart [] c y later states calls runs sure room steps =
    none-built hart c y later (c.steps + 0) (c.accesses + 0) steps.0 steps.1 (omega arith)
    (omega arith)
own_turns s hart (e ∷ events) c y later states calls runs sure room steps =
    let z : Machine = steps.0 in
    let between : List ℕ = steps.1 in
    let d : Config = gone_ahead hart (e ∷ []) z between c in
    let at : machine_of hart d ≡ z =
    ap (λ (r : Registers). machine r z.memory z.held) (get_or-set_same c.states hart z.state unused
    states) in
    let had : calls_of d hart ≡ between = get_or-set_same c.calls hart between [] calls in
    let P : Machine → Type 0 = λ x. AreSteps hart events x between y later in
    let Q : List ℕ → Type 0 = λ k. AreSteps hart events (machine_of hart d) k y later in
    let more : AreSteps hart events (machine_of hart d) (calls_of d hart) y later =
    subst Q (sym had) (subst P (sym at) steps.3) in
    let later_sure : AreOf (runnable_in d) d.plan (length events) hart = λ k below.
    ap (choice (runnable_in c)) (after-shift (runnable_in c) k c.plan)
    ∙ sure (suc k) (omega (arith, below)) in
    let in_states : hart < length d.states =
    omega (arith, length-set c.states hart z.state, states) in
    let in_calls : hart < length d.calls = omega (arith, length-set c.calls hart between, calls) in
    let rest = own_turns s hart events d y later in_states in_calls runs later_sure
    (omega (arith, room)) more in (
      d,
      one-turn s hart c e z between steps.2 (sure 0 (omega arith)) runs (omega (arith, room)),
      subst (AreTurns s events d) (gone-gone hart e events c z y between later) rest,
    )

-- ---- steps, one after another

steps_all : (hart : ℕ) (xs ys : List RunEvent) (x y z : Machine) (k l m : List ℕ)
    → AreSteps hart xs x k y l → AreSteps hart ys y l z m
    → AreSteps hart (xs ++ ys) x k z m
steps_all hart [] ys x y z k l m same more =
    let P : Machine → Type 0 = λ w. AreSteps hart ys w l z m in
    let Q : List ℕ → Type 0 = λ j. AreSteps hart ys x j z m in
    subst Q (sym same.1) (subst P (sym same.0) more)
steps_all hart (e ∷ xs) ys x y z k l m steps more = (
  steps.0,
  steps.1,
  steps.2,
  steps_all hart xs ys steps.0 y z steps.1 l m steps.3 more,
)

pub stepped_none : (hart : ℕ) (x : Machine) (calls : List ℕ) (touches : List Touched)
    → HasStepped hart 0 x calls touches x calls touches
stepped_none hart x calls touches = record {
  events = [];
  counted = refl;
  made = (refl, refl);
  more = [];
  put = sym (append-nil touches);
  touched = touches_none;
  theirs = All-nil (λ (t : Touched). t.access.hart ≡ hart);
  harts = refl;
}

pub stepped_all : (hart n m : ℕ) (x y z : Machine) (k l j : List ℕ) (t u v : List Touched)
    → HasStepped hart n x k t y l u → HasStepped hart m y l u z j v
    → HasStepped hart (n + m) x k t z j v
stepped_all hart n m x y z k l j t u v one two = record {
  events = one.events ++ two.events;
  counted = omega (arith, length-append one.events two.events, one.counted, two.counted);
  made = steps_all hart one.events two.events x y z k l j one.made two.made;
  more = one.more ++ two.more;
  put = two.put ∙ ap (λ (w : List Touched). w ++ two.more) one.put
      ∙ append_assoc t one.more two.more;
  touched = touches_all one.events two.events one.more two.more one.touched two.touched;
  theirs = All-append (λ (w : Touched). w.access.hart ≡ hart) one.more two.more one.theirs
      two.theirs;
  harts = two.harts ∙ one.harts;
}

-- an instruction that reaches the registers alone
pub stepped_own : (hart pc : ℕ) (old new : Registers) (m m' : Space) (h h' : List (Option ℕ))
    (i : Instr) (k l : List ℕ) (t : List Touched) → IsOwnStep hart m h old i new → m' ≡ m → h' ≡ h
    → pc ≡ old.pc → l ≡ calls_after i pc k
    → HasStepped hart 1 (machine old m h) k t (machine new m' h') l t
stepped_own hart pc old new m m' h h' i k l t own memory held at noted =
    let P : Space → Type 0 = λ w. HasStepped hart 1 (machine old m h) k t (machine new w h') l t in
    let Q : List (Option ℕ) → Type 0 =
    λ w. HasStepped hart 1 (machine old m h) k t (machine new m w) l t in
    subst P (sym memory)
    (subst Q (sym held)
    (record {
      events = quiet ∷ [];
      counted = refl;
      made = (
        machine new m h,
        l,
        record {
          instr = i;
          access = None;
          effect = own;
          noted = sym (noted ∙ ap (λ (p : ℕ). calls_after i p k) at);
          seen = refl;
        },
        (refl, refl),
      );
      more = [];
      put = sym (append-nil t);
      touched = refl;
      theirs = All-nil (λ (w : Touched). w.access.hart ≡ hart);
      harts = refl;
    }))

-- one with an access
pub stepped_touch : (hart pc : ℕ) (x y : Machine) (i : Instr) (a : Touch) (k l : List ℕ)
    (t u : List Touched) → outcome (Next i (Some a)) y ≡ stepped hart x
    → length y.held ≡ length x.held → pc ≡ x.state.pc → l ≡ calls_after i pc k
    → u ≡ t ++ record { access = a; pc = pc } ∷ []
    → HasStepped hart 1 x k t y l u
stepped_touch hart pc x y i a k l t u effect harts at noted put = record {
  events = touch a pc ∷ [];
  counted = refl;
  made = (
    y,
    l,
    record {
      instr = i;
      access = Some a;
      effect = effect;
      noted = sym (noted ∙ ap (λ (p : ℕ). calls_after i p k) at);
      seen = ap (touch a) at;
    },
    (refl, refl),
  );
  more = record { access = a; pc = pc } ∷ [];
  put = put;
  touched = refl;
  theirs = All-cons (λ (w : Touched). w.access.hart ≡ hart) (record { access = a; pc = pc }) []
      (own_access hart x y i a effect) (All-nil (λ (w : Touched). w.access.hart ≡ hart));
  harts = harts;
}

-- one without
pub stepped_other : (hart pc : ℕ) (x y : Machine) (i : Instr) (k l : List ℕ) (t : List Touched)
    → outcome (Next i None) y ≡ stepped hart x → length y.held ≡ length x.held → pc ≡ x.state.pc
    → l ≡ calls_after i pc k
    → HasStepped hart 1 x k t y l t
stepped_other hart pc x y i k l t effect harts at noted = record {
  events = quiet ∷ [];
  counted = refl;
  made = (
    y,
    l,
    record {
      instr = i;
      access = None;
      effect = effect;
      noted = sym (noted ∙ ap (λ (p : ℕ). calls_after i p k) at);
      seen = refl;
    },
    (refl, refl),
  );
  more = [];
  put = sym (append-nil t);
  touched = refl;
  theirs = All-nil (λ (w : Touched). w.access.hart ≡ hart);
  harts = harts;
}

pub gone_none : (hart most : ℕ) (c : Config) (touches : List Touched)
    → HasGone hart most c touches c touches
unfolding stepped_none
gone_none hart most c touches = record {
  count = 0;
  few = omega arith;
  machine = machine_of hart c;
  calls = calls_of c hart;
  stepped = stepped_none hart (machine_of hart c) (calls_of c hart) touches;
  after = none-built hart c (machine_of hart c) (calls_of c hart) (c.steps + 0) (c.accesses + 0)
      refl refl (omega arith) (omega arith);
}

-- how many choices are sure of the hart that is next
pub sure_room : (runnable : List Bool) (plan : Plan) (hart sure n k : ℕ)
    → choice runnable plan ≡ Some hart → AreOf runnable plan sure hart → n ≤ sure - 1
    → k < n + 1 → choice runnable (plan_after_all runnable k plan) ≡ Some hart
sure_room runnable plan hart sure n zero next own few below = next
sure_room runnable plan hart sure n (suc k) next own few below =
    own (suc k) (omega (arith, few, below))

-- ---- the hart is next again, and a step is left

all-harts : (runnable : List Bool) (n : ℕ) (plan : Plan)
    → (plan_after_all runnable n plan).harts ≡ plan.harts
all-harts runnable zero plan = refl
all-harts runnable (suc n) plan =
    let before = plan_after_all runnable n plan in
    harts_after (choice runnable before) runnable before ∙ all-harts runnable n plan

pub record Ahead (s : Setup) (hart until : ℕ) (c : Config) (touches : List Touched) (d : Config)
    (all : List Touched) : Type 0 where
  pub puts : HasPut s hart c touches d all
  pub at : IsAt s hart d
  pub steps : c.steps ≤ d.steps
  pub early : c.steps < until → d.steps < until

gone-at : (s : Setup) (hart n most : ℕ) (c : Config) (events : List RunEvent) (y : Machine)
    (later : List ℕ) → IsAt s hart c → AreOf (runnable_in c) c.plan (most + 1) hart
    → c.steps + most < s.budget → length events ≡ n → n ≤ most → length y.held ≡ length c.held
    → IsAt s hart (gone_ahead hart events y later c)
gone-at s hart n most c events y later at sure room is few held = record {
  fits = record {
    states = length-set c.states hart y.state ∙ at.fits.states;
    held = held ∙ at.fits.held;
    phases = at.fits.phases;
    calls = length-set c.calls hart later ∙ at.fits.calls;
    plan = all-harts (runnable_in c) (length events) c.plan ∙ at.fits.plan;
  };
  next = sure (length events) (omega (arith, is, few));
  runs = at.runs;
  left = omega (arith, room, is, few);
}

pub ahead : (s : Setup) (hart until most : ℕ) (c : Config) (touches : List Touched) (d : Config)
    (all : List Touched) → IsAt s hart c → hart < length c.phases
    → AreOf (runnable_in c) c.plan (most + 1) hart → c.steps + most < s.budget
    → (c.steps < until → c.steps + most < until) → HasGone hart most c touches d all
    → Ahead s hart until c touches d all
ahead s hart until most c touches d all at inside sure room early gone =
    let P : Config → Type 0 = λ x. Ahead s hart until c touches x all in
    let way = gone.stepped in
    let counted : length way.events ≡ gone.count = way.counted in
    let few : gone.count ≤ most = gone.few in
    let e : Config = gone_ahead hart way.events gone.machine gone.calls c in
    let there : Ahead s hart until c touches e all = record {
      puts = record {
        events = way.events;
        passed = own_turns s hart way.events c gone.machine gone.calls
            (omega (arith, inside, at.fits.states, at.fits.phases))
            (omega (arith, inside, at.fits.calls, at.fits.phases)) at.runs
            (λ k below. sure k (omega (arith, below, counted, few)))
            (omega (arith, room, counted, few)) way.made;
        more = way.more;
        put = way.put;
        touched = way.touched;
        theirs = way.theirs;
      };
      at = gone-at s hart gone.count most c way.events gone.machine gone.calls at sure room counted
          few way.harts;
      steps = omega arith;
      early = λ h. omega (arith, early h, counted, few);
    } in
    subst P (sym gone.after) there

runs-inside : (phases : List HartPhase) (hart : ℕ) → phase_of phases hart ≡ Runnable
    → hart < length phases
runs-inside phases hart runs =
    elim (cases_lt hart (length phases)) [
      | inl inside ↦ inside
      | inr past ↦
          let free : phase_of phases hart ≡ Free = get_or_past phases hart Free past in
          absurd (cc)
    ]

-- so it can make a step
pub can_step : (s : Setup) (hart : ℕ) (c : Config) → IsAt s hart c → c.steps + 1 < 2 ^ 64
    → CanStep hart c
can_step s hart c at few = record {
  states = at.fits.states ∙ sym at.fits.phases;
  held = at.fits.held ∙ sym at.fits.phases;
  calls = at.fits.calls ∙ sym at.fits.phases;
  inside = runs-inside c.phases hart at.runs;
  runs = at.runs;
  steps = few;
}

pub turn_at : (s : Setup) (hart : ℕ) (c : Config) → IsAt s hart c
    → hart_turn s hart (chosen c) ≡ turn_of s c
turn_at s hart c at = turn_made s c hart (sym at.next) at.runs at.left

pub gone_steps : (hart most : ℕ) (c : Config) (touches : List Touched) (d : Config)
    (all : List Touched) → HasGone hart most c touches d all
    → d.steps ≤ c.steps + most
gone_steps hart most c touches d all gone =
    let e : d.steps ≡ c.steps + length gone.stepped.events =
    ap (λ (x : Config). x.steps) gone.after in
    omega (arith, e, gone.stepped.counted, gone.few)

-- accesses of one of so many harts
pub of_harts : (hart harts : ℕ) (touches : List Touched) → hart < harts
    → All (λ t. t.access.hart ≡ hart) touches
    → All (λ t. t.access.hart < harts) touches
of_harts hart harts [] below theirs = All-nil (λ (w : Touched). w.access.hart < harts)
of_harts hart harts (t ∷ touches) below theirs =
    let P : Touched → Type 0 = λ w. w.access.hart ≡ hart in
    let its : t.access.hart ≡ hart = All-head P t touches theirs in
    All-cons (λ (w : Touched). w.access.hart < harts) t touches
    (subst (λ (n : ℕ). n < harts) (sym its) below)
    (of_harts hart harts touches below (All-tail P t touches theirs))

-- they go on what was made before
pub passing_ahead : (s : Setup) (hart until : ℕ) (c x d : Config) (touches all : List Touched)
    → Passing s until c x touches → HasPut s hart x touches d all → hart < s.harts
    → Fits s.harts d → (x.steps < until → d.steps < until)
    → Passing s until c d all
passing_ahead s hart until c x d touches all before put below fits early =
    subst (Passing s until c d) (sym put.put)
    (passing_all s until c x d touches put.more put.events before put.passed put.touched
    (of_harts hart s.harts put.more below put.theirs) fits early)

-- the configuration behind them, by its parts
pub gone_own : (hart place most made : ℕ) (c : Config) (old new : Registers) (k l : List ℕ)
    (m : Space) (h : List (Option ℕ)) (t u : List Touched) (plan : Plan) (accesses : ℕ)
    → place ≡ hart → hart < length c.states → hart < length c.calls
    → old ≡ get_or c.states place old → k ≡ get_or c.calls place k
    → HasStepped hart made (machine old c.memory c.held) k t (machine new m h) l u → made ≤ most
    → plan ≡ plan_after_all (runnable_in c) made c.plan
    → accesses ≡ c.accesses + (length u - length t)
    → HasGone hart most c t
    (record c {
      memory = m;
      states = set c.states place new;
      held = h;
      calls = set c.calls place l;
      plan = plan;
      steps = c.steps + made;
      accesses = accesses;
    })
    u
gone_own hart place most made c old new k l m h t u plan accesses same in_states in_calls state calls
    all few planned counted =
    let y : Machine = machine new m h in
    let is_old : old ≡ state_of c hart = read_state c hart place old same in_states state in
    let at : k ≡ get_or c.calls hart k = rw same at calls in
    let is_calls : k ≡ calls_of c hart =
    sym (get_or_from_slice_get c.calls hart k []
    (slice_get_read c.calls (length c.calls) hart k refl in_calls at)) in
    let P : Registers → Type 0 = λ r. HasStepped hart made (machine r c.memory c.held) k t y l u in
    let Q : List ℕ → Type 0 = λ j. HasStepped hart made (machine_of hart c) j t y l u in
    let way : HasStepped hart made (machine_of hart c) (calls_of c hart) t y l u =
    subst Q is_calls (subst P is_old all) in
    let put : length u ≡ length t + length way.more =
    ap length way.put ∙ length-append t way.more in
    let touched : length (touches_in way.events) ≡ length way.more =
    touches_count way.events way.more way.touched in
    record {
      count = made;
      few = few;
      machine = y;
      calls = l;
      stepped = way;
      after = ap (λ (p : ℕ).
          record c {
            memory = m;
            states = set c.states p new;
            held = h;
            calls = set c.calls p l;
            plan = plan;
            steps = c.steps + made;
            accesses = accesses;
          }) same
          ∙ same_built hart y c l l plan
          (plan_after_all (runnable_in c) (length way.events) c.plan) (c.steps + made)
          (c.steps + length way.events) accesses (c.accesses + length (touches_in way.events)) refl
          (planned ∙ ap (λ (n : ℕ). plan_after_all (runnable_in c) n c.plan) (sym way.counted))
          (omega (arith, way.counted))
          (omega (arith, counted, put, touched));
    }

-- there are no more accesses than steps
pub few_put : (hart made : ℕ) (x y : Machine) (k l : List ℕ) (t u : List Touched)
    → HasStepped hart made x k t y l u → length u - length t ≤ made
few_put hart made x y k l t u all =
    let put : length u ≡ length t + length all.more =
    ap length all.put ∙ length-append t all.more in
    omega (
      arith,
      put,
      touches_count all.events all.more all.touched,
      touches_few all.events,
      all.counted,
    )
