-- Whole runs.
use Rattle.std.specs.Prelude.{◌≡◌, ℕ, zero, suc, ◌-◌, ◌≤◌, List, [], ◌∷◌, ◌++◌, length, Option}
use Rattle.std.specs.Prelude.{None, Some}
use Rattle.base.specs.Touch.{Touch}
use Rattle.base.specs.declared.ending.Ending.{Ending}
use Rattle.base.specs.declared.ending.Outcome.{Outcome}
use Rattle.base.specs.declared.ending.Outcome.TheVariants.{Budget}
use Rattle.guest.specs.declared.setup.Setup.{Setup}
use Rattle.guest.specs.Configs.{Config}
use Rattle.guest.specs.GuestCalls.{RunEvent, quiet, touch, alloc, free, output, RunTurn, ran, over}
use Rattle.guest.specs.Turns.{turn_of}

-- what is seen of each step, and the end
pub record Run : Type 0 where
  pub events : List RunEvent
  pub ending : Ending

-- a run with a step in front
abbrev pub led_by : RunEvent → Run → Run
led_by e r = record r { events = e ∷ r.events }

-- a run with steps in front of which these events are seen
abbrev pub led_with : List RunEvent → Run → Run
led_with events r = record r { events = events ++ r.events }

-- the end at a configuration, with what was counted so far
abbrev pub ending_with : Outcome → Config → Ending
ending_with o c = record { outcome = o; steps = c.steps; accesses = c.accesses }

-- a run without steps
abbrev pub ended_run : Ending → Run
ended_run e = record { events = []; ending = e }

-- the last turn of a run, and a turn that the run goes on after
abbrev pub last_turn : Config → RunTurn → Run
last_turn c (ran e d) = ended_run (ending_with Budget c)
last_turn c (over o d) = ended_run (ending_with o d)

abbrev pub followed : (Config → Run) → RunTurn → Run
followed later (ran e d) = led_by e (later d)
followed later (over o d) = ended_run (ending_with o d)

-- The run from a configuration on: each configuration is judged, and is the last one or makes one
-- step to the next. The number is that of the steps which the budget leaves, so that the last turn
-- is none that makes a step.
abbrev pub run_for : Setup → ℕ → Config → Run
run_for s zero c = last_turn c (turn_of s c)
run_for s (suc n) c = followed (λ d. run_for s n d) (turn_of s c)

abbrev pub run_of : Setup → Config → Run
run_of s c = run_for s (s.budget - c.steps) c

-- the accesses, in their order
abbrev pub touch_in : RunEvent → List Touch
touch_in quiet = []
touch_in (touch a pc) = a ∷ []
touch_in (alloc at size sites) = []
touch_in (free at) = []
touch_in (output at bytes) = []

abbrev pub touches_in : List RunEvent → List Touch
touches_in [] = []
touches_in (e ∷ events) = touch_in e ++ touches_in events

abbrev pub touches_of : Run → List Touch
touches_of r = touches_in r.events

-- the same, each with the pc of its instruction
abbrev pub sited_in : RunEvent → List (Touch × ℕ)
sited_in quiet = []
sited_in (touch a pc) = (a, pc) ∷ []
sited_in (alloc at size sites) = []
sited_in (free at) = []
sited_in (output at bytes) = []

abbrev pub sited_among : List RunEvent → List (Touch × ℕ)
sited_among [] = []
sited_among (e ∷ events) = sited_in e ++ sited_among events

abbrev pub sited_of : Run → List (Touch × ℕ)
sited_of r = sited_among r.events

-- the bytes that are put out, in their order
abbrev pub bytes_in : RunEvent → List ℕ
bytes_in quiet = []
bytes_in (touch a pc) = []
bytes_in (alloc at size sites) = []
bytes_in (free at) = []
bytes_in (output at bytes) = bytes

abbrev pub output_in : List RunEvent → List ℕ
output_in [] = []
output_in (e ∷ events) = bytes_in e ++ output_in events

abbrev pub output_of : Run → List ℕ
output_of r = output_in r.events

-- a run of at most so many steps, whose end states how many accesses it made
pub record IsShort (s : Setup) (r : Run) : Type 0 where
  pub events : length r.events ≤ s.budget
  pub steps : r.ending.steps ≤ s.budget
  pub accesses : r.ending.accesses ≡ length (touches_of r)

-- a run so far: its setup, its configuration, and its end once it has ended
pub record Progress : Type 0 where
  pub setup : Setup
  pub config : Config
  pub ending : Option Ending

-- what the run still gives
abbrev pub rest_with : Setup → Config → Option Ending → Run
rest_with s c None = run_of s c
rest_with s c (Some e) = ended_run e

abbrev pub rest_of : Progress → Run
rest_of p = rest_with p.setup p.config p.ending
