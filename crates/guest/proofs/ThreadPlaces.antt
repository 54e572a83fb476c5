-- Phases by hart: what a changed list has at a hart, and what a search for a phase determines of
-- each hart.
use Rattle.std.proofs.Common.{◌≡◌, ◌≢◌, ℕ, zero, suc, ◌<◌, ◌≤◌, ◌∙◌, Bool, false, cond, List, []}
use Rattle.std.proofs.Common.{◌∷◌, length, set, refl, arith, inl, inr}
use Rattle.std.proofs.Common.{nat_eq, nat_lt, None, Some, get_or-set_same, get_or-set_other}
use Rattle.std.proofs.lemmas.Bool.{eq-eqb, ne_eqb, cases_Bool, cases_eq, cases_lt, or_parts}
use Rattle.std.proofs.lemmas.Bool.{ltb-false}
use Rattle.std.proofs.lemmas.List.{get_or_past}
use Rattle.std.proofs.lemmas.List.Sums.{fails_before_first}
use Rattle.std.specs.List.{list_any, position, position_or_len}
use Rattle.guest.specs.declared.phase.HartPhase.{HartPhase}
use Rattle.guest.specs.declared.phase.HartPhase.TheVariants.{Free}
use Rattle.guest.specs.Phases.{phase_of}

-- the phase of a hart after one hart's phase was set
phase_of-set : (phases : List HartPhase) (hart : ℕ) (phase : HartPhase) → hart < length phases
    → (k : ℕ)
    → phase_of (set phases hart phase) k ≡ cond (nat_eq k hart) phase (phase_of phases k)
phase_of-set phases hart phase within k =
    elim (cases_eq k hart) [
      | inl same ↦ rw (same, eq-eqb hart hart refl) (get_or-set_same phases hart phase Free within)
      | inr other ↦ rw (ne_eqb k hart other) (get_or-set_other phases hart k phase Free other)
    ]

-- the hart whose phase was set has it, and each other hart keeps its own
pub same_at : (phases : List HartPhase) (hart : ℕ) (phase : HartPhase) → hart < length phases
    → (k : ℕ) → k ≡ hart
    → phase_of (set phases hart phase) k ≡ phase
same_at phases hart phase within k same = phase_of-set phases hart phase within k
    ∙ rw (eq-eqb k hart same) refl

pub other_at : (phases : List HartPhase) (hart : ℕ) (phase : HartPhase) → hart < length phases
    → (k : ℕ) → k ≢ hart
    → phase_of (set phases hart phase) k ≡ phase_of phases k
other_at phases hart phase within k other = phase_of-set phases hart phase within k
    ∙ rw (ne_eqb k hart other) refl

-- where none passes, no hart does
pub none_passes : (p : HartPhase → Bool) → p Free ≡ false → (phases : List HartPhase)
    → list_any p phases ≡ false → (k : ℕ)
    → p (phase_of phases k) ≡ false
none_passes p free [] none k = free
none_passes p free (x ∷ phases) none zero = (or_parts (p x) (list_any p phases) none).0
none_passes p free (x ∷ phases) none (suc k) = none_passes p free phases
    (or_parts (p x) (list_any p phases) none).1 k

-- where no first one is found, no hart passes
pub none_within : (p : HartPhase → Bool) (phases : List HartPhase) → position p phases ≡ None
    → (k : ℕ) → k < length phases
    → p (phase_of phases k) ≡ false
none_within p phases none k within =
    elim (cases_Bool (nat_lt (position_or_len p phases) (length phases))) [
      | inl below ↦ let found : Some (position_or_len p phases) ≡ None = rw below at none in cc
      | inr above ↦
          let past : length phases ≤ position_or_len p phases = ltb-false (position_or_len p phases)
          (length phases) above in
          fails_before_first p phases k Free (omega arith)
    ]

pub none_found : (p : HartPhase → Bool) → p Free ≡ false → (phases : List HartPhase)
    → position p phases ≡ None → (k : ℕ)
    → p (phase_of phases k) ≡ false
none_found p free phases none k =
    elim (cases_lt k (length phases)) [
      | inl within ↦ none_within p phases none k within
      | inr past ↦ rw (get_or_past phases k Free past) free
    ]
