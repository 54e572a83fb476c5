-- The phases at the beginning, and when a hart can be joined.
use Rattle.std.proofs.Common.{◌≡◌, ℕ, zero, suc, ◌≤◌, ◌∙◌, Bool, true, false, cond, List, ◌∷◌}
use Rattle.std.proofs.Common.{length, map, set, replicate, Some, refl, ap}
use Rattle.std.proofs.Common.{sym, arith}
use Rattle.std.specs.List.{count_by, position}
use Rattle.std.proofs.lemmas.Bool.{both_ways, lt-ltb}
use Rattle.std.proofs.lemmas.List.{length-set, length-replicate}
use Rattle.std.proofs.lemmas.List.Sums.{sum_by-cons}
use Rattle.guest.specs.declared.phase.HartPhase.{HartPhase}
use Rattle.guest.specs.declared.phase.HartPhase.TheVariants.{Free, Runnable}
use Rattle.guest.specs.Phases.{phase_of, first_phases, is_free, is_joining, is_runnable}
use Rattle.guest.specs.Phases.{lone_runnable}
use Rattle.guest.specs.ThreadsInside.{IsKept}
use Rattle.guest.specs.ThreadsSound.{IsSound}

all_free : (n : ℕ) → map is_runnable (replicate n Free) ≡ replicate n false
all_free zero = refl
all_free (suc n) = ap (λ bs. false ∷ bs) (all_free n)

-- at the beginning hart 0 alone is marked as runnable
pub first_marks : (n : ℕ) → set (replicate n false) 0 true ≡ map is_runnable (first_phases n)
first_marks zero = refl
first_marks (suc n) = ap (λ bs. true ∷ bs) (sym (all_free n))

free_at : (n k target : ℕ) → is_joining target (phase_of (replicate n Free) k) ≡ false
free_at zero k target = refl
free_at (suc n) zero target = refl
free_at (suc n) (suc k) target = free_at n k target

none_joins : (n k target : ℕ) → is_joining target (phase_of (first_phases n) k) ≡ false
none_joins zero k target = refl
none_joins (suc n) zero target = refl
none_joins (suc n) (suc k) target = free_at n k target

first_runs : (n : ℕ) → 1 ≤ n → is_free (phase_of (first_phases n) 0) ≡ false
first_runs zero some = absurd (omega arith)
first_runs (suc n) some = refl

length-first_phases : (n : ℕ) → length (first_phases n) ≡ n
length-first_phases n = length-set (replicate n Free) 0 Runnable ∙ length-replicate n Free

pub first_sound : (n : ℕ) → 1 ≤ n → n ≤ 256 → IsSound (first_phases n)
first_sound n some most = record {
  some = rw (length-first_phases n) some;
  most = rw (length-first_phases n) most;
  first = first_runs n some;
  unjoined = λ k. none_joins n k 0;
  goes_on = λ k hart joins. absurd (both_ways _ (none_joins n k hart) joins);
  once = λ j k hart joins _. absurd (both_ways _ (none_joins n j hart) joins);
}

none_counted : (n : ℕ) → count_by is_runnable (replicate n Free) ≡ 0
none_counted zero = refl
none_counted (suc n) = sum_by-cons (λ p. cond (is_runnable p) 1 0) Free (replicate n Free)
    ∙ omega (arith, none_counted n)

one_counted : (n : ℕ) → 1 ≤ n → count_by is_runnable (first_phases n) ≡ 1
one_counted zero some = absurd (omega arith)
one_counted (suc n) some =
    sum_by-cons (λ p. cond (is_runnable p) 1 0) Runnable (replicate n Free)
    ∙ omega (arith, none_counted n)

first_found : (n : ℕ) → 1 ≤ n → position is_runnable (first_phases n) ≡ Some 0
first_found zero some = absurd (omega arith)
first_found (suc n) some =
    rw (lt-ltb 0 (length (first_phases (suc n))) (omega (arith, length-first_phases (suc n)))) refl

first_lone : (n : ℕ) → 1 ≤ n → Some 0 ≡ lone_runnable (first_phases n)
first_lone n some = rw (one_counted n some) (sym (first_found n some))

-- what is kept at the beginning
pub first_kept : (harts m n first : ℕ) (marks : List Bool) (phases : List HartPhase) → marks
    ≡ replicate m false → phases ≡ replicate n Free
    → m ≡ harts → n ≡ harts → first ≡ 0 → 1 ≤ harts → harts ≤ 256
    → IsKept (set phases 0 Runnable) (set marks 0 true) 1 (Some first)
first_kept harts m n first marks phases unmarked free m_is n_is first_is some most =
    rw (unmarked, free, m_is, n_is, first_is)
    (record {
      sound = first_sound harts some most;
      marked = first_marks harts;
      counted = sym (one_counted harts some);
      known = first_lone harts some;
    })
