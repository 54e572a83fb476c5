-- The same choices by counting: how many turns in a row a hart has had, with no end to the count.
use Rattle.std.specs.Prelude.{◌≡◌, ℕ, ◌+◌, ◌-◌, Bool, ◌&&◌, nat_eq, nat_lt, if◌then◌else◌, List}
use Rattle.std.specs.Prelude.{refl}
use Rattle.std.proofs.Common.{ap, arith}
use Rattle.std.proofs.lemmas.Bool.Decides.{nat_tests}
use Rattle.std.proofs.lemmas.Bool.{cases_Bool}
use Rattle.std.proofs.Common.{inl, inr}
use Rattle.hart_scheduler.specs.ScheduleParts.{AStreak}
use Rattle.hart_scheduler.specs.Choices.{is_runnable, goes_on, left_with}

-- what is left of the quantum after so many turns in a row
abbrev pub left_after : ℕ → ℕ → ℕ → AStreak
left_after quantum hart turns = record { hart = hart; left = quantum - turns }

-- how many turns in a row a hart has had with this one, after so many of another or the same
abbrev pub turns_after : ℕ → ℕ → ℕ → ℕ
turns_after last turns hart = if nat_eq last hart then turns + 1 else 1

left_or_fewer : (quantum turns : ℕ) → nat_lt 0 (quantum - turns) ≡ nat_lt turns quantum
left_or_fewer quantum turns = grind (arith, nat_tests)

-- a hart goes on just where it has had fewer turns in a row than the quantum
pub goes_on-counted : (runnable : List Bool) (quantum hart turns : ℕ)
    → goes_on runnable (left_after quantum hart turns) ≡
    (is_runnable runnable hart && nat_lt turns quantum)
goes_on-counted runnable quantum hart turns =
    ap (λ (b : Bool). is_runnable runnable hart && b) (left_or_fewer quantum turns)

-- and with each turn what is left is again the quantum without the turns in a row
pub left_with-counted : (quantum last turns hart : ℕ)
    → left_with quantum hart (left_after quantum last turns) ≡ quantum - turns_after last turns hart
left_with-counted quantum last turns hart =
    elim (cases_Bool (nat_eq last hart)) [
      | inl same ↦ rw same (omega arith)
      | inr other ↦ rw other refl
    ]
