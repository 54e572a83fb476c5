-- The only hart that can run, and how many can.
use Rattle.std.proofs.Common.{◌≡◌, ℕ, ◌+◌, ◌-◌, ◌<◌, ◌≤◌, false, cond, List, length, get_or}
use Rattle.std.proofs.Common.{set, Option, None, Some, refl, ap, ◌∙◌}
use Rattle.std.proofs.Common.{sym, arith, inl, inr, nat_eq}
use Rattle.std.specs.List.{count_by, position}
use Rattle.std.specs.Option.{IfSome}
use Rattle.std.proofs.lemmas.Bool.{cases_Bool, cases_lt, eqb-true, eq-eqb}
use Rattle.std.proofs.lemmas.Option.{none-some}
use Rattle.std.proofs.lemmas.List.{get_or_past, get_or_read}
use Rattle.std.proofs.lemmas.List.Quantifiers.{position-Some}
use Rattle.std.proofs.lemmas.List.Sums.{count_by-le-length, get_or-le-sum_by, sum_by-set}
use Rattle.guest.specs.declared.phase.HartPhase.{HartPhase}
use Rattle.guest.specs.declared.phase.HartPhase.TheVariants.{Free, Runnable, Joining, Waiting}
use Rattle.guest.specs.declared.phase.HartPhase.TheVariants.{Ended}
use Rattle.guest.specs.Phases.{phase_of, is_runnable, lone_runnable}
use Rattle.guest.specs.ThreadChanges.{RunsAlone}
use Rattle.guest.proofs.ThreadPlaces.{other_at}
use Rattle.guest.proofs.ThreadAnswers.{runnable_since}

idle : (phase : HartPhase) → cond (is_runnable phase) 1 0 ≤ 0 → is_runnable phase ≡ false
idle Free few = refl
idle Runnable few = absurd (omega (arith, few))
idle (Joining hart) few = refl
idle (Waiting addr) few = refl
idle (Ended code) few = refl

-- a change of one hart's phase counts that hart alone anew
pub count-set : (phases : List HartPhase) (hart : ℕ) (phase : HartPhase) → hart < length phases
    → count_by is_runnable (set phases hart phase) + cond (is_runnable (phase_of phases hart)) 1 0
    ≡ count_by is_runnable phases + cond (is_runnable phase) 1 0
count-set phases hart phase within = sum_by-set (λ p. cond (is_runnable p) 1 0) phases hart phase
    Free within

pub counts-hart : (phases : List HartPhase) (hart : ℕ) → hart < length phases
    → cond (is_runnable (phase_of phases hart)) 1 0 ≤ count_by is_runnable phases
counts-hart phases hart within = get_or-le-sum_by (λ p. cond (is_runnable p) 1 0) phases hart Free
    within

none_runs : (phases : List HartPhase) → count_by is_runnable phases ≡ 0 → (k : ℕ)
    → is_runnable (phase_of phases k) ≡ false
none_runs phases none k =
    elim (cases_lt k (length phases)) [
      | inl within ↦ idle (phase_of phases k) (omega (arith, counts-hart phases k within, none))
      | inr past ↦ rw (get_or_past phases k Free past) refl
    ]

-- where one hart is counted, no other than the first that is found can run
alone : (phases : List HartPhase) (hart : ℕ) → count_by is_runnable phases ≡ 1
    → position is_runnable phases ≡ Some hart
    → RunsAlone phases hart
alone phases hart one found =
    let first = position-Some is_runnable phases hart Free found in
    let left : count_by is_runnable (set phases hart Free) + cond
    (is_runnable (phase_of phases hart)) 1 0 ≡ count_by is_runnable phases
    + 0 =
    count-set phases hart Free first.0 in
    let left_one : count_by is_runnable (set phases hart Free) + 1
    ≡ count_by is_runnable phases + 0 = rw first.1 at left in
    let none : count_by is_runnable (set phases hart Free) ≡ 0 = omega (arith, left_one, one) in
    record {
      runs = runnable_since _ first.1;
      others = λ k other. rw (other_at phases hart Free first.0 k other) at
          (none_runs (set phases hart Free) none k);
    }

pub lone_alone : (phases : List HartPhase) (hart : ℕ) → lone_runnable phases ≡ Some hart
    → RunsAlone phases hart
lone_alone phases hart is =
    elim (cases_Bool (nat_eq (count_by is_runnable phases) 1)) [
      | inl one ↦ alone phases hart (eqb-true _ 1 one) (rw one at is)
      | inr other ↦ absurd (none-some hart (rw other at is))
    ]

-- how many can run after a change, by what the code counts
pub record Counted (phases : List HartPhase) (running ran runs place : ℕ) (phase : HartPhase) : Type
    0 where
  pub had : ran ≤ running
  pub most : running ≤ length phases
  pub after : running - ran + runs ≡ count_by is_runnable (set phases place phase)

pub count_after : (phases : List HartPhase) (running ran runs place : ℕ) (old phase : HartPhase)
    → place < length phases → running ≡ count_by is_runnable phases → old ≡ get_or phases place old
    → ran ≡ cond (is_runnable old) 1 0 → runs ≡ cond (is_runnable phase) 1 0
    → Counted phases running ran runs place phase
count_after phases running ran runs place old phase within counted read ran_is runs_is =
    let at : old ≡ phase_of phases place = get_or_read phases place old within read Free in
    let ran_one : ran ≡ cond (is_runnable (phase_of phases place)) 1 0 =
    rw ran_is (ap (λ (p : HartPhase). cond (is_runnable p) 1 0) at) in
    let moved : count_by is_runnable (set phases place phase) + cond
    (is_runnable (phase_of phases place)) 1 0 ≡ count_by is_runnable phases
    + cond (is_runnable phase) 1 0 =
    count-set phases place phase within in
    let had : cond (is_runnable (phase_of phases place)) 1 0 ≤ count_by is_runnable phases =
    counts-hart phases place within in
    let most : count_by is_runnable phases ≤ length phases = count_by-le-length is_runnable
    phases in
    record {
      had = omega (arith, had, counted, ran_one);
      most = omega (arith, most, counted);
      after = omega (arith, moved, had, counted, ran_one, runs_is);
    }

-- the first that is found is the only one where one is counted
pub lone_found : (phases : List HartPhase) (running : ℕ) (o : Option ℕ) → running
    ≡ count_by is_runnable phases → running ≡ 1
    → o ≡ position is_runnable phases → o ≡ lone_runnable phases
lone_found phases running o counted one found =
    rw (eq-eqb (count_by is_runnable phases) 1 (sym counted ∙ one)) found

pub lone_answer : (phases : List HartPhase) (o : Option ℕ) → o ≡ lone_runnable phases
    → IfSome o (RunsAlone phases)
lone_answer phases None is = tt
lone_answer phases (Some hart) is = lone_alone phases hart (sym is)
