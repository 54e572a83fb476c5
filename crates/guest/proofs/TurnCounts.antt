-- What a turn counts, by its answer.
use Rattle.std.proofs.Common.{◌≡◌, ◌+◌, ◌≤◌, length, refl, arith}
use Rattle.rv32_hart.specs.Space.{Space}
use Rattle.guest.specs.declared.setup.Setup.{Setup}
use Rattle.guest.specs.declared.turn.Event.{Event}
use Rattle.guest.specs.declared.turn.Event.TheVariants.{Quiet, Touch, Alloc, Free, Output}
use Rattle.guest.specs.declared.turn.Turn.{Turn}
use Rattle.guest.specs.declared.turn.Turn.TheVariants.{Ran, Ended}
use Rattle.guest.specs.Configs.{Config}
use Rattle.guest.specs.Turns.{turn_of}
use Rattle.guest.specs.Runs.{touch_in}
use Rattle.guest.specs.SeenTurns.{seen, turn_seen, Counts, accesses_in}
use Rattle.guest.proofs.TurnsCounted.{Counted, turn_one}

pub record Made (s : Setup) (c : Config) (t : Turn) (d : Config) : Type 0 where
  pub counts : Counts c t d
  pub accesses : d.accesses ≤ d.steps
  pub steps : d.steps ≤ s.budget

pub touches-seen : (m : Space) (e : Event) → length (touch_in (seen m e)) ≡ accesses_in e
touches-seen m Quiet = refl
touches-seen m (Touch a pc) = refl
touches-seen m (Alloc addr size sites) = refl
touches-seen m (Free addr) = refl
touches-seen m (Output addr len) = refl

pub at-most-one : (e : Event) → accesses_in e ≤ 1
at-most-one Quiet = omega arith
at-most-one (Touch a pc) = omega arith
at-most-one (Alloc addr size sites) = omega arith
at-most-one (Free addr) = omega arith
at-most-one (Output addr len) = omega arith

made-by : (s : Setup) (c : Config) (t : Turn) (d : Config) → Counted s c (turn_seen t d)
    → c.accesses ≤ c.steps → Made s c t d
made-by s c (Ran e) d one within =
    let n : length (touch_in (seen d.memory e)) ≡ accesses_in e = touches-seen d.memory e in
    let accesses : d.accesses ≡ c.accesses + accesses_in e = omega (arith, one.accesses, n) in
    record {
      counts = (one.steps, accesses);
      accesses = omega (arith, one.steps, at-most-one e);
      steps =
          omega (arith, one.steps, one.room);
    }
made-by s c (Ended o) d one within =
    record {
      counts = one.memory;
      accesses = omega (arith, one.accesses, one.least);
      steps =
          one.steps;
    }

pub turn_counts : (s : Setup) (c : Config) (t : Turn) (d : Config) → turn_seen t d ≡ turn_of s c
    → c.accesses ≤ c.steps → c.steps ≤ s.budget
    → Made s c t d
turn_counts s c t d h within room = made-by s c t d (rw h (turn_one s c room)) within
