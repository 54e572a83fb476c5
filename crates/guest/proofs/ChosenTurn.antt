-- A turn, by what the schedule chooses.
use Rattle.std.proofs.Common.{◌≡◌, ℕ, ◌<◌, ◌≤◌, true, false, Option, Some, None, refl, sym, nat_lt}
use Rattle.std.proofs.lemmas.Bool.{lt-ltb, le-ltb}
use Rattle.std.specs.Option.{option_map_or}
use Rattle.base.specs.declared.ending.Outcome.TheVariants.{Exit, Deadlock, Budget}
use Rattle.guest.specs.declared.phase.HartPhase.TheVariants.{Runnable}
use Rattle.guest.specs.Phases.{phase_of}
use Rattle.guest.specs.ThreadCalls.{finished_code}
use Rattle.hart_scheduler.specs.Choices.{choice}
use Rattle.guest.specs.declared.setup.Setup.{Setup}
use Rattle.guest.specs.Configs.{Config}
use Rattle.guest.specs.GuestCalls.{RunTurn, over}
use Rattle.guest.specs.Turns.{chosen, hart_turn, runnable_in, turn_with, turn_unless, turn_of}
use Rattle.guest.proofs.NextHart.{not_finished}

idle : (s : Setup) (c : Config) (o : Option ℕ) → choice (runnable_in c) c.plan ≡ None
    → over (option_map_or Exit o Deadlock) c
    ≡ turn_unless s c o
idle s c None none = rw none refl
idle s c (Some code) none = refl

-- no hart can run
pub turn_idle : (s : Setup) (c : Config) → None ≡ choice (runnable_in c) c.plan
    → over (option_map_or Exit (finished_code c.phases) Deadlock) c ≡ turn_of s c
unfolding turn_of
turn_idle s c none = idle s c (finished_code c.phases) (sym none)

with_made : (s : Setup) (c : Config) (o : Option ℕ) (hart : ℕ) → o ≡ Some hart
    → nat_lt c.steps s.budget ≡ true
    → hart_turn s hart (chosen c) ≡ turn_with s c o
with_made s c o hart some left = rw (some, left) refl

with_spent : (s : Setup) (c : Config) (o : Option ℕ) (hart : ℕ) → o ≡ Some hart
    → nat_lt c.steps s.budget ≡ false
    → over Budget c ≡ turn_with s c o
with_spent s c o hart some left = rw (some, left) refl

unless_not : (s : Setup) (c : Config) (o : Option ℕ) (t : RunTurn) → o ≡ None → t
    ≡ turn_with s c (choice (runnable_in c) c.plan)
    → t ≡ turn_unless s c o
unless_not s c o t none h = rw none h

-- a hart can, and a step is left
pub turn_made : (s : Setup) (c : Config) (hart : ℕ) → Some hart ≡ choice (runnable_in c) c.plan
    → phase_of c.phases hart ≡ Runnable → c.steps < s.budget → hart_turn s hart (chosen c)
    ≡ turn_of s c
unfolding turn_of
turn_made s c hart some runs left =
    let e : choice (runnable_in c) c.plan ≡ Some hart = sym some in
    unless_not s c (finished_code c.phases) _ (not_finished c.phases hart runs)
    (with_made s c (choice (runnable_in c) c.plan) hart e (lt-ltb c.steps s.budget left))

-- a hart can, and no step is left
pub turn_spent : (s : Setup) (c : Config) (hart : ℕ) → Some hart ≡ choice (runnable_in c) c.plan
    → phase_of c.phases hart ≡ Runnable → s.budget ≤ c.steps → over Budget c ≡ turn_of s c
unfolding turn_of
turn_spent s c hart some runs left =
    let e : choice (runnable_in c) c.plan ≡ Some hart = sym some in
    unless_not s c (finished_code c.phases) _ (not_finished c.phases hart runs)
    (with_spent s c (choice (runnable_in c) c.plan) hart e (le-ltb c.steps s.budget left))
