-- The turn of a hart, by what its step was: at an ECALL the step leaves all, and the turn is that
-- of the call.
use Rattle.std.proofs.Common.{◌≡◌, ◌∙◌, ℕ, ◌<◌, List, length, Option, refl, sym, ap, set, get_or}
use Rattle.std.proofs.lemmas.List.{set-get_or}
use Rattle.std.proofs.lemmas.Option.{slice_get_read, get_or_from_slice_get}
use Rattle.rv32_hart.specs.Space.{Space}
use Rattle.rv32_hart.specs.Registers.{Registers}
use Rattle.rv32_hart.specs.Effect.{Machine, machine, outcome, stepped}
use Rattle.rv32_hart.specs.declared.step_end.StepEnd.TheVariants.{Call, Next, Trap}
use Rattle.base.specs.declared.ending.Cause.{Cause}
use Rattle.base.specs.declared.ending.Outcome.TheVariants.{Trap as Trapped}
use Rattle.guest.specs.declared.setup.Setup.{Setup}
use Rattle.guest.specs.Configs.{Config, noted, unused, state_of}
use Rattle.guest.specs.GuestCalls.{RunTurn, call_turn, over}
use Rattle.guest.specs.Turns.{machine_of, made, with_machine, hart_turn}
use Rattle.base.specs.Touch.{Touch}
use Rattle.rv32_decode.specs.declared.instruction.Instr.{Instr}

put-back : (hart : ℕ) (c : Config) (x : Machine) → x ≡ machine_of hart c → with_machine hart x c ≡ c
put-back hart c x h = ap (λ (y : Machine). with_machine hart y c) h
    ∙ ap (λ (states : List Registers). record c { states = states })
    (set-get_or c.states hart unused)

turn-at-call : (s : Setup) (hart : ℕ) (c : Config) (x : Machine) → outcome Call x
    ≡ stepped hart (machine_of hart c)
    → hart_turn s hart c ≡ call_turn s hart c
turn-at-call s hart c x h = rw (← h) refl

-- what was read at a hart's place is its registers
pub read_state : (c : Config) (hart place : ℕ) (old : Registers) → place ≡ hart
    → hart < length c.states → old ≡ get_or c.states place old
    → old ≡ state_of c hart
read_state c hart place old same inside read =
    let at : old ≡ get_or c.states hart old = rw same at read in
    sym (get_or_from_slice_get c.states hart old unused
    (slice_get_read c.states (length c.states) hart old refl inside at))

-- a step that left all as it was leaves the whole configuration
pub whole_left : (hart place : ℕ) (c : Config) (old new : Registers) (m : Space)
    (held : List (Option ℕ))
    → place ≡ hart → hart < length c.states → old ≡ get_or c.states place old → machine new m held
    ≡ machine old c.memory c.held
    → record c { states = set c.states place new; memory = m; held = held } ≡ c
whole_left hart place c old new m held same inside read left =
    let is_old : old ≡ state_of c hart = read_state c hart place old same inside read in
    let before : machine old c.memory c.held ≡ machine_of hart c =
    ap (λ (r : Registers). machine r c.memory c.held) is_old in
    let moved : set c.states place new ≡ set c.states hart new = ap (λ (k : ℕ). set c.states k new)
    same in
    ap (λ (states : List Registers). record c { states = states; memory = m; held = held }) moved
    ∙ put-back hart c (machine new m held)
    (left ∙ before)

pub called : (s : Setup) (hart place : ℕ) (c : Config) (old new : Registers) (m : Space)
    (held : List (Option ℕ)) (t : RunTurn)
    → place ≡ hart → hart < length c.states → old ≡ get_or c.states place old
    → outcome Call (machine new m held) ≡ stepped hart (machine old c.memory c.held)
    → machine new m held ≡ machine old c.memory c.held
    → t ≡ call_turn s hart (record c { states = set c.states place new; memory = m; held = held })
    → t ≡ hart_turn s hart c
called s hart place c old new m held t same inside read effect left turn =
    let is_old : old ≡ state_of c hart = read_state c hart place old same inside read in
    let before : machine old c.memory c.held ≡ machine_of hart c =
    ap (λ (r : Registers). machine r c.memory c.held) is_old in
    turn ∙ ap (λ (d : Config). call_turn s hart d)
    (whole_left hart place c old new m held same inside read left)
    ∙ sym (turn-at-call s hart c (machine new m held)
    (effect ∙ ap (λ (x : Machine). stepped hart x) before))

pub turn-at-next : (s : Setup) (hart : ℕ) (c : Config) (i : Instr) (a : Option Touch) (x : Machine)
    → outcome (Next i a) x ≡ stepped hart (machine_of hart c)
    → made (state_of c hart).pc a (noted hart i (state_of c hart).pc (with_machine hart x c))
    ≡ hart_turn s hart c
turn-at-next s hart c i a x h = rw (← h) refl

-- a step that made an instruction, by its parts
pub next_made : (s : Setup) (hart place pc : ℕ) (c : Config) (old new : Registers) (m : Space)
    (held : List (Option ℕ)) (i : Instr) (a : Option Touch)
    → place ≡ hart → hart < length c.states → old ≡ get_or c.states place old
    → outcome (Next i a) (machine new m held) ≡ stepped hart (machine old c.memory c.held)
    → pc ≡ (state_of c hart).pc
    → made pc a
    (noted hart i pc (record c { states = set c.states place new; memory = m; held = held }))
    ≡ hart_turn s hart c
next_made s hart place pc c old new m held i a same inside read effect at =
    let is_old : old ≡ state_of c hart = read_state c hart place old same inside read in
    let before : machine old c.memory c.held ≡ machine_of hart c =
    ap (λ (r : Registers). machine r c.memory c.held) is_old in
    ap (λ (k : ℕ). made pc a
    (noted hart i pc (record c { states = set c.states k new; memory = m; held = held }))) same
    ∙ ap (λ (p : ℕ). made p a (noted hart i p (with_machine hart (machine new m held) c))) at
    ∙ turn-at-next s hart c i a (machine new m held)
    (effect ∙ ap (λ (x : Machine). stepped hart x) before)

turn-at-trap : (s : Setup) (hart : ℕ) (c : Config) (cause : Cause) (x : Machine)
    → outcome (Trap cause) x ≡ stepped hart (machine_of hart c)
    → over (Trapped hart (state_of c hart).pc cause) c ≡ hart_turn s hart c
turn-at-trap s hart c cause x h = rw (← h) refl

-- a trap, by the parts of what it left as it was
pub trapped : (s : Setup) (hart place pc : ℕ) (c d : Config) (old new : Registers) (m : Space)
    (held : List (Option ℕ)) (cause : Cause)
    → place ≡ hart → hart < length c.states → old ≡ get_or c.states place old
    → outcome (Trap cause) (machine new m held) ≡ stepped hart (machine old c.memory c.held)
    → machine new m held ≡ machine old c.memory c.held
    → pc ≡ (state_of c hart).pc
    → d ≡ record c { states = set c.states place new; memory = m; held = held }
    → over (Trapped hart pc cause) d ≡ hart_turn s hart c
trapped s hart place pc c d old new m held cause same inside read effect left at stays =
    let is_old : old ≡ state_of c hart = read_state c hart place old same inside read in
    let before : machine old c.memory c.held ≡ machine_of hart c =
    ap (λ (r : Registers). machine r c.memory c.held) is_old in
    ap (λ (x : Config). over (Trapped hart pc cause) x)
    (stays ∙ whole_left hart place c old new m held same inside read left)
    ∙ ap (λ (p : ℕ). over (Trapped hart p cause) c) at
    ∙ turn-at-trap s hart c cause (machine new m held)
    (effect ∙ ap (λ (x : Machine). stepped hart x) before)
