-- What `Threads` keeps beside the phases.
use Rattle.std.specs.Prelude.{◌≡◌, ℕ, Bool, List, map, count_by, Option}
use Rattle.guest.specs.declared.phase.HartPhase.{HartPhase}
use Rattle.guest.specs.Phases.{is_runnable, lone_runnable}
use Rattle.guest.specs.ThreadsSound.{IsSound}

-- the harts that can run are marked and counted, and the only one is known
pub record IsKept (phases : List HartPhase) (marks : List Bool) (running : ℕ) (lone : Option ℕ) :
    Type 0 where
  pub sound : IsSound phases
  pub marked : marks ≡ map is_runnable phases
  pub counted : running ≡ count_by is_runnable phases
  pub known : lone ≡ lone_runnable phases
