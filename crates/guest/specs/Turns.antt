-- One turn of a guest: it is judged whether the run is over, and else a hart makes one step.
use Rattle.std.specs.Prelude.{◌≡◌, ℕ, ◌+◌, Bool, false, not, ◌&&◌, if◌then◌else◌, nat_lt}
use Rattle.std.specs.Prelude.{List, [], ◌∷◌, map}
use Rattle.std.specs.Prelude.{Option, None, Some, slice_set}
use Rattle.base.specs.Touch.{Touch}
use Rattle.base.specs.declared.ending.Outcome.TheVariants.{Exit, Budget, Deadlock}
use Rattle.base.specs.declared.ending.Outcome.TheVariants.{Trap as Trapped}
use Rattle.rv32_hart.specs.Effect.{Machine, machine, stepped}
use Rattle.rv32_hart.specs.declared.step_end.StepEnd.{StepEnd}
use Rattle.rv32_hart.specs.declared.step_end.StepEnd.TheVariants.{Next, Call, Trap}
use Rattle.guest.specs.Phases.{is_runnable}
use Rattle.guest.specs.ThreadCalls.{finished_code}
use Rattle.hart_scheduler.specs.Choices.{choice, plan_after}
use Rattle.guest.specs.declared.setup.Setup.{Setup}
use Rattle.guest.specs.Configs.{Config, state_of, noted, counted}
use Rattle.guest.specs.GuestCalls.{RunEvent, quiet, touch, alloc, free, output, RunTurn, ran, over}
use Rattle.guest.specs.GuestCalls.{quietly, call_turn}
use Rattle.guest.specs.Notes.{Noted, is_noted}

-- what a step of a hart sees, and the configuration that the step leaves
abbrev pub machine_of : ℕ → Config → Machine
machine_of hart c = machine (state_of c hart) c.memory c.held

abbrev pub with_machine : ℕ → Machine → Config → Config
with_machine hart x c = record c {
  memory = x.memory;
  states = slice_set c.states hart x.state;
  held = x.held;
}

-- a step of an instruction with its access, if it made one
abbrev pub made : ℕ → Option Touch → Config → RunTurn
made pc None c = quietly c
made pc (Some a) c = ran (touch a pc) (counted (record c { accesses = c.accesses + 1 }))

-- the hart's call list sees each instruction that is made; a trap ends the run, and is no step
abbrev pub after_step : Setup → ℕ → Config → StepEnd → Machine → RunTurn
after_step s hart c (Next instr a) x =
    made (state_of c hart).pc a
    (noted hart instr (state_of c hart).pc (with_machine hart x c))
after_step s hart c Call x = call_turn s hart c
after_step s hart c (Trap cause) x = over (Trapped hart (state_of c hart).pc cause) c

-- a hart's instruction
abbrev pub hart_turn : Setup → ℕ → Config → RunTurn
hart_turn s hart c =
    let o = stepped hart (machine_of hart c) in
    after_step s hart c o.end o.machine

-- the harts that can run
abbrev pub runnable_in : Config → List Bool
runnable_in c = map is_runnable c.phases

-- this hart is the one that the schedule chooses
abbrev pub IsNext : ℕ → Config → Type 0
IsNext hart c = choice (runnable_in c) c.plan ≡ Some hart

-- the choice of a hart is made
abbrev pub chosen : Config → Config
chosen c = record c { plan = plan_after (runnable_in c) c.plan }

abbrev pub turn_with : Setup → Config → Option ℕ → RunTurn
turn_with s c None = over Deadlock c
turn_with s c (Some hart) = if nat_lt c.steps s.budget then hart_turn s hart (chosen c)
    else over Budget c

abbrev pub turn_unless : Setup → Config → Option ℕ → RunTurn
turn_unless s c (Some code) = over (Exit code) c
turn_unless s c None = turn_with s c (choice (runnable_in c) c.plan)

-- A turn: all harts have ended, or none can run, or all steps that the run may take are taken, or
-- else the hart that is next carries out an instruction.
unfoldable pub turn_of : Setup → Config → RunTurn
turn_of s c = turn_unless s c (finished_code c.phases)

-- steps of which these events are seen lead from one configuration to another
abbrev pub AreTurns : Setup → List RunEvent → Config → Config → Type 0
AreTurns s [] c d = c ≡ d
AreTurns s (e ∷ events) c d =
    (x : Config) × (turn_of s c ≡ ran e x) × AreTurns s events x d

-- whether an event is a block for which memory may be wanted, with what was noted before and behind
-- it: all but one that is noted where a noted block lives
abbrev pub is_new_block : Noted → Noted → RunEvent → Bool
is_new_block before behind quiet = false
is_new_block before behind (touch a pc) = false
is_new_block before behind (alloc at size sites) =
    not (nat_lt before.made behind.made && is_noted before at)
is_new_block before behind (free at) = false
is_new_block before behind (output at bytes) = false

-- whether a turn from a configuration may want memory, which none does that ends the run
abbrev pub wants_memory : Config → RunTurn → Bool
wants_memory c (ran e d) = is_new_block c.notes d.notes e
wants_memory c (over o d) = false
