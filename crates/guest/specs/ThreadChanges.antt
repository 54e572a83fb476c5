-- What a caller sees of each call: what changed, that all else stays, and when each answer comes.
use Rattle.std.specs.Prelude.{◌≡◌, ◌≢◌, ℕ, ◌<◌, ◌≤◌, ◌⊎◌, true, false, List, length}
use Rattle.std.specs.List.{list_any}
use Rattle.guest.specs.declared.phase.HartPhase.{HartPhase}
use Rattle.guest.specs.declared.phase.HartPhase.TheVariants.{Free, Runnable, Joining, Ended}
use Rattle.guest.specs.declared.phase.JoinEnd.{JoinEnd}
use Rattle.guest.specs.declared.phase.JoinEnd.TheVariants.{Bad, Done, Waits}
use Rattle.guest.specs.Phases.{phase_of, is_free, is_joining, is_over, is_runnable}
use Rattle.guest.specs.Phases.{is_waiting_at}
use Rattle.guest.specs.ThreadCalls.{waiters_below}

-- no other hart than this one has another phase
pub record ChangesOnly (hart : ℕ) (old new : List HartPhase) : Type 0 where
  pub harts : length new ≡ length old
  pub others : (k : ℕ) → k ≢ hart → phase_of new k ≡ phase_of old k

-- this hart can run, and no other can
pub record RunsAlone (phases : List HartPhase) (hart : ℕ) : Type 0 where
  pub runs : phase_of phases hart ≡ Runnable
  pub others : (k : ℕ) → k ≢ hart → is_runnable (phase_of phases k) ≡ false

-- spawn: this hart was the lowest free one and now can run
pub record Starts (old new : List HartPhase) (hart : ℕ) : Type 0 where
  pub there : hart < length old
  pub free : phase_of old hart ≡ Free
  pub lowest : (k : ℕ) → k < hart → is_free (phase_of old k) ≡ false
  pub runs : phase_of new hart ≡ Runnable
  pub others : ChangesOnly hart old new

-- spawn answers None: no hart is free, and nothing changed
pub record StartsNone (old new : List HartPhase) : Type 0 where
  pub full : (k : ℕ) → k < length old → is_free (phase_of old k) ≡ false
  pub same : new ≡ old

-- why a hart can't be joined: there is none of that number, it is hart 0, the caller, free, or
-- joined already
abbrev pub IsBadTarget : List HartPhase → ℕ → ℕ → Type 0
IsBadTarget phases caller target =
    (length phases ≤ target) ⊎ ((target ≡ 0) ⊎ ((target ≡ caller)
    ⊎ ((phase_of phases target ≡ Free) ⊎ (list_any (is_joining target) phases ≡ true))))

pub record CanJoin (phases : List HartPhase) (caller target : ℕ) : Type 0 where
  pub there : target < length phases
  pub later : target ≢ 0
  pub other : target ≢ caller
  pub taken : is_free (phase_of phases target) ≡ false
  pub alone : (k : ℕ) → is_joining target (phase_of phases k) ≡ false

-- join answers `Done`: the hart had ended with this code, and now is free
pub record JoinsEnded (old new : List HartPhase) (caller target code : ℕ) : Type 0 where
  pub can : CanJoin old caller target
  pub ended : phase_of old target ≡ Ended code
  pub free : phase_of new target ≡ Free
  pub others : ChangesOnly target old new

-- join answers `Waits`: the hart goes on, and the caller is joining it
pub record JoinsLater (old new : List HartPhase) (caller target : ℕ) : Type 0 where
  pub can : CanJoin old caller target
  pub goes_on : is_over (phase_of old target) ≡ false
  pub joining : phase_of new caller ≡ Joining target
  pub others : ChangesOnly caller old new

abbrev pub Joins : List HartPhase → List HartPhase → ℕ → ℕ → JoinEnd → Type 0
Joins old new caller target Bad = IsBadTarget old caller target × (new ≡ old)
Joins old new caller target (Done code) = JoinsEnded old new caller target code
Joins old new caller target Waits = JoinsLater old new caller target

-- wake: of the harts that wait at the address, those with fewer than `most` below them can run,
-- and all others stay
pub record WakesLowest (old new : List HartPhase) (addr most : ℕ) : Type 0 where
  pub harts : length new ≡ length old
  pub woken : (k : ℕ) → is_waiting_at addr (phase_of old k) ≡ true
      → waiters_below old addr k < most → phase_of new k ≡ Runnable
  pub later : (k : ℕ) → most ≤ waiters_below old addr k → phase_of new k ≡ phase_of old k
  pub others : (k : ℕ) → is_waiting_at addr (phase_of old k) ≡ false
      → phase_of new k ≡ phase_of old k

-- exit answers None: no hart joins the caller, whose code is kept
pub record ExitsAlone (old new : List HartPhase) (caller code : ℕ) : Type 0 where
  pub unjoined : (k : ℕ) → is_joining caller (phase_of old k) ≡ false
  pub ended : phase_of new caller ≡ Ended code
  pub others : ChangesOnly caller old new

-- exit answers the hart that joined the caller: it can run, and the caller is free
pub record ExitsJoined (old new : List HartPhase) (caller joiner : ℕ) : Type 0 where
  pub joined : phase_of old joiner ≡ Joining caller
  pub runs : phase_of new joiner ≡ Runnable
  pub free : phase_of new caller ≡ Free
  pub harts : length new ≡ length old
  pub others : (k : ℕ) → k ≢ caller → k ≢ joiner → phase_of new k ≡ phase_of old k
