-- What a caller sees of a guest and of its turns.
use Rattle.std.specs.Prelude.{◌≡◌, ℕ, ◌+◌, ◌<◌, ◌≤◌, ◌%◌, ◌^◌, Option, None, Some, List, [], ◌∷◌}
use Rattle.std.specs.Prelude.{◌++◌, length, map}
use Rattle.std.specs.List.{All}
use Rattle.base.specs.declared.ending.Ending.{Ending}
use Rattle.base.specs.declared.ending.Outcome.{Outcome}
use Rattle.base.specs.declared.ending.Outcome.TheVariants.{Exit, Budget, Deadlock, Trap}
use Rattle.base.specs.declared.ending.Outcome.TheVariants.{Part}
use Rattle.rv32_hart.specs.Space.{Space, bytes_at, AllMapped}
use Rattle.guest.specs.declared.turn.Event.{Event}
use Rattle.guest.specs.declared.turn.Event.TheVariants.{Quiet, Touch, Alloc, Free, Output}
use Rattle.guest.specs.declared.turn.Touched.{Touched}
use Rattle.guest.specs.declared.turn.Turn.{Turn}
use Rattle.guest.specs.declared.turn.Turn.TheVariants.{Ran, Ended}
use Rattle.guest.specs.declared.setup.Setup.{Setup}
use Rattle.guest.specs.Configs.{Config}
use Rattle.guest.specs.GuestCalls.{RunEvent, quiet, touch, alloc, free, output, RunTurn, ran, over}
use Rattle.guest.specs.Turns.{AreTurns, turn_of}
use Rattle.guest.specs.Runs.{Run, ending_with, led_by, led_with, ended_run, Progress, rest_of}

-- what is seen of a step that leaves this memory
abbrev pub seen : Space → Event → RunEvent
seen m Quiet = quiet
seen m (Touch a pc) = touch a pc
seen m (Alloc addr size sites) = alloc addr size sites
seen m (Free addr) = free addr
seen m (Output addr len) = output addr (bytes_at m addr len)

-- a turn with this answer, which leaves this configuration
abbrev pub turn_seen : Turn → Config → RunTurn
turn_seen (Ran e) c = ran (seen c.memory e) c
turn_seen (Ended o) c = over o c

-- a run that begins with a turn, and goes on as the new one does
abbrev pub begun_with : Turn → Progress → Run
begun_with (Ran e) new = led_by (seen new.config.memory e) (rest_of new)
begun_with (Ended o) new = ended_run (ending_with o new.config)

-- the end that is known after a turn
abbrev pub ending_after : Turn → Config → Option Ending
ending_after (Ran e) c = None
ending_after (Ended o) c = Some (ending_with o c)

abbrev pub accesses_in : Event → ℕ
accesses_in Quiet = 0
accesses_in (Touch a pc) = 1
accesses_in (Alloc addr size sites) = 0
accesses_in (Free addr) = 0
accesses_in (Output addr len) = 0

-- a step is counted, and so is its access; the end leaves the memory as it was
abbrev pub Counts : Config → Turn → Config → Type 0
Counts old (Ran e) new = (new.steps ≡ old.steps + 1) × (new.accesses ≡ old.accesses + accesses_in e)
Counts old (Ended o) new = new.memory ≡ old.memory

-- the event of an access that was put by
abbrev pub event_of : Touched → RunEvent
event_of t = touch t.access t.pc

-- the events but those of steps of which nothing is seen
abbrev pub seen_in : RunEvent → List RunEvent
seen_in quiet = []
seen_in e = e ∷ []

abbrev pub seen_among : List RunEvent → List RunEvent
seen_among [] = []
seen_among (e ∷ events) = seen_in e ++ seen_among events

-- nothing is seen of these steps but these accesses, in their order
abbrev pub AreTouches : List RunEvent → List Touched → Type 0
AreTouches events touches = seen_among events ≡ map event_of touches

-- some steps of which nothing is seen but these accesses, none of them at so many steps or more
pub record HasPassed (s : Setup) (until : ℕ) (touches : List Touched) (c d : Config) : Type 0 where
  pub events : List RunEvent
  pub touched : AreTouches events touches
  pub passed : AreTurns s events c d
  pub early : c.steps < until → d.steps < until

-- some such steps, and then a turn with this answer
pub record ComesTo (s : Setup) (c : Config) (touches : List Touched) (turn : Turn) (d : Config) :
    Type 0 where
  pub events : List RunEvent
  pub touched : AreTouches events touches
  pub before : Config
  pub passed : AreTurns s events c before
  pub made : turn_seen turn d ≡ turn_of s before

-- a run that begins with such steps, and then is this one
pub record IsLedTo (whole : Run) (touches : List Touched) (rest : Run) : Type 0 where
  pub events : List RunEvent
  pub touched : AreTouches events touches
  pub led : whole ≡ led_with events rest

-- the steps are counted, and so are their accesses
abbrev pub CountsOn : Config → List Touched → Turn → Config → Type 0
CountsOn old touches (Ran e) new =
    (old.steps < new.steps)
    × (new.accesses ≡ old.accesses + length touches + accesses_in e)
CountsOn old touches (Ended o) new =
    (old.steps ≤ new.steps) × (new.accesses ≡ old.accesses + length touches)

-- there are never more accesses than steps, nor more steps than the run may take
pub record IsWithin (p : Progress) : Type 0 where
  pub accesses : p.config.accesses ≤ p.config.steps
  pub steps : p.config.steps ≤ p.setup.budget

-- a code is a word; a trap is that of one of so many harts, at an address that is a multiple of 4;
-- a run is whole
abbrev pub IsEndOf : ℕ → Outcome → Type 0
IsEndOf harts (Exit code) = code < 2 ^ 32
IsEndOf harts Budget = Unit {0}
IsEndOf harts Deadlock = Unit {0}
IsEndOf harts (Trap hart pc cause) = (hart < harts) × (pc < 2 ^ 32) × (pc % 4 ≡ 0)
IsEndOf harts Part = ⊥

-- a turn is a step that makes an access
abbrev pub MakesAccess : Turn → Type 0
MakesAccess (Ran Quiet) = ⊥
MakesAccess (Ran (Touch a pc)) = Unit {0}
MakesAccess (Ran (Alloc addr size sites)) = ⊥
MakesAccess (Ran (Free addr)) = ⊥
MakesAccess (Ran (Output addr len)) = ⊥
MakesAccess (Ended o) = ⊥

-- each access is that of one of so many harts
abbrev pub AreOfHarts : ℕ → List Touched → Type 0
AreOfHarts harts touches = All (λ t. t.access.hart < harts) touches

-- an access is that of one of so many harts; 1 to 4096 bytes are put out, which can be read in the
-- memory
abbrev pub IsSeen : ℕ → Turn → Config → Type 0
IsSeen harts (Ran Quiet) c = Unit {0}
IsSeen harts (Ran (Touch a pc)) c = a.hart < harts
IsSeen harts (Ran (Alloc addr size sites)) c = Unit {0}
IsSeen harts (Ran (Free addr)) c = Unit {0}
IsSeen harts (Ran (Output addr len)) c = (1 ≤ len) × (len ≤ 4096) × AllMapped c.memory addr len
IsSeen harts (Ended o) c = IsEndOf harts o
