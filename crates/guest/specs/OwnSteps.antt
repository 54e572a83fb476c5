-- Steps that a hart makes on its own while its turns are sure: they change its registers and its
-- calls, the memory and the reservations.
use Rattle.std.specs.Prelude.{◌≡◌, ℕ, ◌+◌, ◌<◌, ◌≤◌, List, [], ◌∷◌, ◌++◌, length, Option, None, Some}
use Rattle.std.specs.Prelude.{slice_set}
use Rattle.std.specs.List.{All}
use Rattle.base.specs.Touch.{Touch}
use Rattle.rv32_decode.specs.declared.instruction.Instr.{Instr}
use Rattle.rv32_hart.specs.Effect.{Machine, outcome, stepped}
use Rattle.rv32_hart.specs.declared.step_end.StepEnd.TheVariants.{Next}
use Rattle.hart_scheduler.specs.Choices.{plan_after_all}
use Rattle.guest.specs.declared.phase.HartPhase.TheVariants.{Runnable}
use Rattle.guest.specs.declared.setup.Setup.{Setup}
use Rattle.guest.specs.declared.turn.Touched.{Touched}
use Rattle.guest.specs.Phases.{phase_of}
use Rattle.guest.specs.CallLists.{calls_after}
use Rattle.guest.specs.Configs.{Config, Fits, calls_of}
use Rattle.guest.specs.GuestCalls.{RunEvent, quiet, touch}
use Rattle.guest.specs.Runs.{touches_in}
use Rattle.guest.specs.SeenTurns.{AreTouches}
use Rattle.guest.specs.Turns.{AreTurns, IsNext, machine_of, runnable_in}

-- what is seen of an instruction at a pc
abbrev pub event_at : ℕ → Option Touch → RunEvent
event_at pc None = quiet
event_at pc (Some a) = touch a pc

-- an instruction is made that leads from one machine and its calls to others
pub record IsStep (hart : ℕ) (e : RunEvent) (x : Machine) (calls : List ℕ) (y : Machine)
    (later : List ℕ) : Type 0 where
  pub instr : Instr
  pub access : Option Touch
  pub effect : outcome (Next instr access) y ≡ stepped hart x
  pub noted : calls_after instr x.state.pc calls ≡ later
  pub seen : e ≡ event_at x.state.pc access

-- steps of which these events are seen do
abbrev pub AreSteps : ℕ → List RunEvent → Machine → List ℕ → Machine → List ℕ → Type 0
AreSteps hart [] x calls y later = (x ≡ y) × (calls ≡ later)
AreSteps hart (e ∷ events) x calls y later =
    (z : Machine) × (between : List ℕ) × IsStep hart e x calls z between
    × AreSteps hart events z between y later

-- so many steps were made, and their accesses put behind others
pub record HasStepped (hart count : ℕ) (x : Machine) (calls : List ℕ) (touches : List Touched)
    (y : Machine) (later : List ℕ) (all : List Touched) : Type 0 where
  pub events : List RunEvent
  pub counted : length events ≡ count
  pub made : AreSteps hart events x calls y later
  pub more : List Touched
  pub put : all ≡ touches ++ more
  pub touched : AreTouches events more
  pub theirs : All (λ t. t.access.hart ≡ hart) more
  pub harts : length y.held ≡ length x.held

-- the configuration behind them, each of which is a turn of the hart
abbrev pub gone_ahead : ℕ → List RunEvent → Machine → List ℕ → Config → Config
gone_ahead hart events y later c = record c {
  memory = y.memory;
  states = slice_set c.states hart y.state;
  held = y.held;
  calls = slice_set c.calls hart later;
  plan = plan_after_all (runnable_in c) (length events) c.plan;
  steps = c.steps + length events;
  accesses = c.accesses + length (touches_in events);
}

-- so many or fewer were made
pub record HasGone (hart most : ℕ) (c : Config) (touches : List Touched) (d : Config)
    (all : List Touched) : Type 0 where
  pub count : ℕ
  pub few : count ≤ most
  pub machine : Machine
  pub calls : List ℕ
  pub stepped : HasStepped hart count (machine_of hart c) (calls_of c hart) touches machine calls all
  pub after : d ≡ gone_ahead hart stepped.events machine calls c

-- so they are turns, of which nothing is seen but these accesses of the hart
pub record HasPut (s : Setup) (hart : ℕ) (c : Config) (touches : List Touched) (d : Config)
    (all : List Touched) : Type 0 where
  pub events : List RunEvent
  pub passed : AreTurns s events c d
  pub more : List Touched
  pub put : all ≡ touches ++ more
  pub touched : AreTouches events more
  pub theirs : All (λ t. t.access.hart ≡ hart) more

-- it is this hart's turn, and a step is left
pub record IsAt (s : Setup) (hart : ℕ) (c : Config) : Type 0 where
  pub fits : Fits s.harts c
  pub next : IsNext hart c
  pub runs : phase_of c.phases hart ≡ Runnable
  pub left : c.steps < s.budget
