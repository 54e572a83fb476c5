-- A run is its first turn, and the run from there.
use Rattle.std.proofs.Common.{◌≡◌, ℕ, zero, suc, ◌+◌, ◌-◌, ◌≤◌, length, Option, None, sym, refl}
use Rattle.std.proofs.Common.{arith}
use Rattle.std.proofs.lemmas.List.{length-append}
use Rattle.base.specs.declared.ending.Ending.{Ending}
use Rattle.base.specs.declared.ending.Outcome.{Outcome}
use Rattle.guest.specs.declared.setup.Setup.{Setup}
use Rattle.guest.specs.Configs.{Config}
use Rattle.guest.specs.GuestCalls.{RunEvent, RunTurn, ran, over}
use Rattle.guest.specs.Turns.{turn_of}
use Rattle.guest.specs.Runs.{Run, ended_run, ending_with, led_by, last_turn, followed, run_for}
use Rattle.guest.specs.Runs.{run_of, touch_in, touches_of, rest_with}
use Rattle.guest.specs.Runs.{IsShort}
use Rattle.guest.proofs.TurnsCounted.{Step, Counted, turn_one}

for-ran : (s : Setup) (n : ℕ) (c : Config) (e : RunEvent) (d : Config) → turn_of s c ≡ ran e d
    → run_for s (suc n) c ≡ led_by e (run_for s n d)
for-ran s n c e d h = rw h refl

pub run_ran : (s : Setup) (c : Config) (e : RunEvent) (d : Config) → turn_of s c ≡ ran e d
    → c.steps ≤ s.budget
    → run_of s c ≡ led_by e (run_of s d)
run_ran s c e d h within =
    let one : Step s c e d = rw h at (turn_one s c within) in
    let left : s.budget - c.steps ≡ suc (s.budget - d.steps) = omega arith in
    rw left (for-ran s (s.budget - d.steps) c e d h)

for-over : (s : Setup) (n : ℕ) (c : Config) (o : Outcome) (d : Config) → turn_of s c ≡ over o d
    → run_for s n c ≡ ended_run (ending_with o d)
for-over s zero c o d h = rw h refl
for-over s (suc n) c o d h = rw h refl

pub run_over : (s : Setup) (c : Config) (o : Outcome) (d : Config) → turn_of s c ≡ over o d
    → run_of s c ≡ ended_run (ending_with o d)
run_over s c o d h = for-over s (s.budget - c.steps) c o d h

-- what is left of a run, which goes on or has ended, begins with the turn that it makes
pub rest_ran : (s : Setup) (c : Config) (o : Option Ending) (e : RunEvent) (d : Config) → o ≡ None
    → ran e d ≡ turn_of s c
    → c.steps ≤ s.budget
    → rest_with s c o ≡ led_by e (rest_with s d o)
rest_ran s c o e d none h within = rw none (run_ran s c e d (sym h) within)

record Short (s : Setup) (c : Config) (n : ℕ) (r : Run) : Type 0 where
  events : length r.events ≤ n
  steps : r.ending.steps ≤ s.budget
  accesses : r.ending.accesses ≡ c.accesses + length (touches_of r)

at-last : (s : Setup) (c : Config) (t : RunTurn) → Counted s c t → Short s c 0 (last_turn c t)
at-last s c (ran e d) one =
    record { events = omega arith; steps = omega (arith, one.room); accesses = omega arith }
at-last s c (over o d) one = record {
  events = omega arith;
  steps = one.steps;
  accesses =
      omega (arith, one.accesses);
}

at-next : (s : Setup) (n : ℕ) (c : Config) (later : Config → Run) (t : RunTurn) → Counted s c t
    → ((d : Config) → d.steps ≤ s.budget → Short s d n (later d))
    → Short s c (suc n) (followed later t)
at-next s n c later (ran e d) one go =
    let rest : Short s d n (later d) = go d (omega (arith, one.room, one.steps)) in
    record {
      events = omega (arith, rest.events);
      steps = rest.steps;
      accesses = omega (
        arith,
        rest.accesses,
        one.accesses,
        length-append (touch_in e)
            (touches_of (later d)),
      );
    }
at-next s n c later (over o d) one go = record {
  events = omega arith;
  steps = one.steps;
  accesses =
      omega (arith, one.accesses);
}

for-short : (s : Setup) (n : ℕ) (c : Config) → c.steps ≤ s.budget → Short s c n (run_for s n c)
for-short s zero c within = at-last s c (turn_of s c) (turn_one s c within)
for-short s (suc n) c within = at-next s n c (λ d. run_for s n d) (turn_of s c)
    (turn_one s c within) (λ d. for-short s n d)

pub run_short : (s : Setup) (c : Config) → c.steps ≡ 0 → c.accesses ≡ 0 → IsShort s (run_of s c)
run_short s c no_steps no_accesses =
    let all : Short s c (s.budget - c.steps) (run_of s c) = for-short s (s.budget - c.steps) c
    (omega arith) in
    record {
      events = omega (arith, all.events);
      steps = all.steps;
      accesses =
          omega (arith, all.accesses);
    }
