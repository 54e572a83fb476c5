-- What is known of the hart that is next.
use Rattle.std.proofs.Common.{◌≡◌, ◌∙◌, ℕ, zero, suc, false, List, [], ◌∷◌, map, None, refl, ap}
use Rattle.std.proofs.Math.ListN.{get_or-map}
use Rattle.std.specs.List.{list_all}
use Rattle.guest.specs.declared.phase.HartPhase.{HartPhase}
use Rattle.guest.specs.declared.phase.HartPhase.TheVariants.{Free, Runnable}
use Rattle.guest.specs.Phases.{phase_of, is_over, is_runnable}
use Rattle.guest.specs.ThreadChanges.{RunsAlone}
use Rattle.hart_scheduler.specs.Choices.{IsLone, is_runnable as is_marked}
use Rattle.guest.specs.ThreadCalls.{finished_code}
use Rattle.guest.proofs.Mapped.{and_false}

-- where a hart can run, the program has not finished
not-all : (phases : List HartPhase) (hart : ℕ) → is_over (phase_of phases hart) ≡ false
    → list_all is_over phases ≡ false
not-all [] hart h = cc
not-all (p ∷ phases) zero h = rw h refl
not-all (p ∷ phases) (suc k) h = rw (not-all phases k h) (and_false (is_over p))

pub not_finished : (phases : List HartPhase) (hart : ℕ) → phase_of phases hart ≡ Runnable
    → finished_code phases ≡ None
not_finished phases hart runs = rw (not-all phases hart (ap is_over runs)) refl

marked-at : (phases : List HartPhase) (k : ℕ) → is_marked (map is_runnable phases) k
    ≡ is_runnable (phase_of phases k)
marked-at phases k = get_or-map is_runnable phases k Free

-- the only hart that can run is the only one that is marked
pub lone-marked : (phases : List HartPhase) (hart : ℕ) → RunsAlone phases hart
    → IsLone (map is_runnable phases) hart
lone-marked phases hart alone = record {
  runs = marked-at phases hart ∙ ap is_runnable alone.runs;
  others = λ k other. marked-at phases k ∙ alone.others k other;
}
