-- The configurations of a guest's run: all that its steps change.
use Rattle.std.specs.Prelude.{◌≡◌, ℕ, ◌+◌, ◌-◌, ◌*◌, ◌<◌, ◌^◌, List, [], length, replicate, Option}
use Rattle.std.specs.Prelude.{Bool, false, None, slice_index_or, slice_set}
use Rattle.rv32_hart.specs.Space.{Space}
use Rattle.rv32_hart.specs.Registers.{Registers, started, reg, with_reg, advanced}
use Rattle.guest.specs.declared.phase.HartPhase.{HartPhase}
use Rattle.guest.specs.declared.phase.HartPhase.TheVariants.{Runnable}
use Rattle.guest.specs.Phases.{first_phases, phase_of}
use Rattle.guest.specs.Heaps.{Heap}
use Rattle.guest.specs.Notes.{Noted, none_noted}
use Rattle.guest.specs.CallLists.{calls_after}
use Rattle.rv32_decode.specs.declared.instruction.Instr.{Instr}
use Rattle.hart_scheduler.specs.Choices.{Plan}
use Rattle.guest.specs.declared.setup.Setup.{Setup}

-- The memory; the registers, the reservation, the phase and the call list of each hart; the heap,
-- and the blocks that are noted beside it; what the schedule has still to say; the steps and the
-- accesses so far; and whether the latest spawn was refused because no hart was free.
pub record Config : Type 0 where
  pub memory : Space
  pub states : List Registers
  pub held : List (Option ℕ)
  pub phases : List HartPhase
  pub calls : List (List ℕ)
  pub heap : Heap
  pub notes : Noted
  pub plan : Plan
  pub steps : ℕ
  pub accesses : ℕ
  pub lacks_hart : Bool

-- where a hart's stack ends
abbrev pub stack_end : Setup → ℕ → ℕ
stack_end s hart = s.top - hart * s.stack

-- a hart that never ran
abbrev pub unused : Registers
unused = started 0 0 0 0

-- hart 0 is at the entry, with its stack's end in x2, and all other registers are zero; no block
-- was made
abbrev pub first_config : Setup → Space → Heap → ℕ → Plan → Config
first_config s memory heap entry plan = record {
  memory = memory;
  states = slice_set (replicate s.harts unused) 0 (started entry (stack_end s 0) 0 0);
  held = replicate s.harts None;
  phases = first_phases s.harts;
  calls = replicate s.harts [];
  heap = heap;
  notes = none_noted;
  plan = plan;
  steps = 0;
  accesses = 0;
  lacks_hart = false;
}

-- a hart's registers
abbrev pub state_of : Config → ℕ → Registers
state_of c hart = slice_index_or c.states hart unused

-- what a hart's register holds
abbrev pub value_in : Config → ℕ → ℕ → ℕ
value_in c hart r = reg (state_of c hart) r

-- a hart with other registers
abbrev pub with_state : ℕ → Registers → Config → Config
with_state hart s c = record c { states = slice_set c.states hart s }

-- a value in a hart's register
abbrev pub with_value : ℕ → ℕ → ℕ → Config → Config
with_value hart r v c = with_state hart (with_reg (state_of c hart) r v) c

-- a value in x10 of a hart
abbrev pub given : ℕ → ℕ → Config → Config
given hart v c = with_value hart 10 v c

-- a hart goes on behind its ECALL
abbrev pub passed : ℕ → Config → Config
passed hart c = with_state hart (advanced (state_of c hart)) c

-- a hart goes on with an answer
abbrev pub answered : ℕ → ℕ → Config → Config
answered hart v c = with_state hart (advanced (with_reg (state_of c hart) 10 v)) c

-- where a hart's calls were made that it hasn't returned from, the newest first
abbrev pub calls_of : Config → ℕ → List ℕ
calls_of c hart = slice_index_or c.calls hart []

abbrev pub with_calls : ℕ → List ℕ → Config → Config
with_calls hart calls c = record c { calls = slice_set c.calls hart calls }

-- a hart made an instruction at an address
abbrev pub noted : ℕ → Instr → ℕ → Config → Config
noted hart instr pc c = with_calls hart (calls_after instr pc (calls_of c hart)) c

-- a step more
abbrev pub counted : Config → Config
counted c = record c { steps = c.steps + 1 }

-- each list has one entry for each hart, and the schedule is for so many
pub record Fits (harts : ℕ) (c : Config) : Type 0 where
  pub states : length c.states ≡ harts
  pub held : length c.held ≡ harts
  pub phases : length c.phases ≡ harts
  pub calls : length c.calls ≡ harts
  pub plan : c.plan.harts ≡ harts

-- a hart that can make a step
pub record CanStep (hart : ℕ) (c : Config) : Type 0 where
  pub states : length c.states ≡ length c.phases
  pub held : length c.held ≡ length c.phases
  pub calls : length c.calls ≡ length c.phases
  pub inside : hart < length c.phases
  pub runs : phase_of c.phases hart ≡ Runnable
  pub steps : c.steps + 1 < 2 ^ 64
