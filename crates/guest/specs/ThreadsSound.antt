-- What is true of the phases of harts after each call.
use Rattle.std.specs.Prelude.{◌≡◌, ℕ, ◌<◌, ◌≤◌, true, false, List, length}
use Rattle.guest.specs.declared.phase.HartPhase.{HartPhase}
use Rattle.guest.specs.Phases.{phase_of, is_free, is_joining, is_over}

-- There are 1 to 256 harts. Hart 0 is never free. A hart that is joined isn't hart 0, goes on, and
-- is joined by one hart alone.
pub record IsSound (phases : List HartPhase) : Type 0 where
  pub some : 0 < length phases
  pub most : length phases ≤ 256
  pub first : is_free (phase_of phases 0) ≡ false
  pub unjoined : (k : ℕ) → is_joining 0 (phase_of phases k) ≡ false
  pub goes_on : (k hart : ℕ) → is_joining hart (phase_of phases k) ≡ true
      → is_over (phase_of phases hart) ≡ false
  pub once : (j k hart : ℕ) → is_joining hart (phase_of phases j) ≡ true
      → is_joining hart (phase_of phases k) ≡ true → j ≡ k
