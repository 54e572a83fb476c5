-- What each turn counts: a step and its access, or no more than the budget at the end.
use Rattle.std.proofs.Common.{◌≡◌, ℕ, ◌+◌, ◌<◌, ◌≤◌, Bool, true, false, List, [], ◌∷◌, length}
use Rattle.std.proofs.Common.{Option, Some, None, Result, Ok, Err, refl}
use Rattle.std.proofs.Common.{arith, inl, inr, nat_lt}
use Rattle.std.proofs.lemmas.Bool.{cases_Bool, ltb-true}
use Rattle.std.specs.Prelude.{if◌then◌else◌, nat_eq, ◌||◌, ◌&&◌, ◌%◌, min}
use Rattle.base.specs.Touch.{Touch}
use Rattle.rv32_hart.specs.Space.{page_at, bytes_at}
use Rattle.rv32_hart.specs.Faults.{loaded}
use Rattle.rv32_hart.specs.declared.page.MemFault.{MemFault}
use Rattle.rv32_hart.specs.declared.page.MemFault.TheVariants.{Misaligned, Outside, ReadOnly}
use Rattle.rv32_hart.specs.declared.page.MemFault.TheVariants.{NotExecutable}
use Rattle.rv32_hart.specs.Effect.{Machine, stepped}
use Rattle.rv32_hart.specs.declared.step_end.StepEnd.{StepEnd}
use Rattle.rv32_hart.specs.declared.step_end.StepEnd.TheVariants.{Next, Call, Trap}
use Rattle.guest.specs.declared.phase.JoinEnd.{JoinEnd}
use Rattle.guest.specs.declared.phase.JoinEnd.TheVariants.{Bad, Done, Waits}
use Rattle.guest.specs.ThreadCalls.{exited, joiner_of, join_end, joined, lowest_free, finished_code}
use Rattle.hart_scheduler.specs.Choices.{choice}
use Rattle.guest.specs.declared.setup.Setup.{Setup}
use Rattle.std.specs.List.{list_any}
use Rattle.guest.specs.Heaps.{after_alloc, lives_at}
use Rattle.guest.specs.LeastPlaces.{least_place}
use Rattle.guest.specs.Configs.{Config, state_of, value_in, noted, passed, answered, counted}
use Rattle.guest.specs.GuestCalls.{RunEvent, RunTurn, ran, over, quietly, minus, refused}
use Rattle.guest.specs.GuestCalls.{are_mapped, put_out, written, write_turn}
use Rattle.guest.specs.GuestCalls.{block_answered, alloc_turn, free_turn, given_to, exit_turn}
use Rattle.guest.specs.GuestCalls.{started_with, spawn_turn, joined_with}
use Rattle.guest.specs.GuestCalls.{join_turn, looked, wait_turn, wake_turn, call_turn}
use Rattle.guest.specs.GuestCalls.{noted_unless, note_fault, block_turn, unblock_turn}
use Rattle.guest.specs.Notes.{is_noted}
use Rattle.guest.specs.Turns.{machine_of, with_machine, made, after_step, hart_turn, runnable_in}
use Rattle.guest.specs.Turns.{chosen, turn_with, turn_unless}
use Rattle.guest.specs.Turns.{turn_of}
use Rattle.guest.specs.Runs.{touch_in}

pub record Step (s : Setup) (c : Config) (e : RunEvent) (d : Config) : Type 0 where
  pub room : c.steps < s.budget
  pub steps : d.steps ≡ c.steps + 1
  pub accesses : d.accesses ≡ c.accesses + length (touch_in e)

pub record End (s : Setup) (c d : Config) : Type 0 where
  pub steps : d.steps ≤ s.budget
  pub accesses : d.accesses ≡ c.accesses
  pub memory : d.memory ≡ c.memory
  pub least : c.steps ≤ d.steps
  pub most : d.steps ≤ c.steps + 1

abbrev pub Counted : Setup → Config → RunTurn → Type 0
Counted s c (ran e d) = Step s c e d
Counted s c (over o d) = End s c d

either : (b : Bool) (s : Setup) (c : Config) (t u : RunTurn) → Counted s c t → Counted s c u
    → Counted s c (if b then t else u)
either true s c t u h k = h
either false s c t u h k = k

quiet_one : (s : Setup) (c d : Config) → c.steps < s.budget → d.steps ≡ c.steps → d.accesses
    ≡ c.accesses → Counted s c (quietly d)
quiet_one s c d room steps accesses =
    record { room = room; steps = omega arith; accesses = omega arith }

refused_one : (hart fault : ℕ) (s : Setup) (c : Config) → c.steps < s.budget
    → Counted s c (refused hart fault c)
refused_one hart fault s c room = quiet_one s c (answered hart (minus fault) c) room refl refl

no_touch : (at : ℕ) (bytes : List ℕ) → length (touch_in (put_out at bytes)) ≡ 0
no_touch at [] = refl
no_touch at (b ∷ bytes) = refl

written_one : (hart at len : ℕ) (s : Setup) (c : Config) → c.steps < s.budget
    → Counted s c (written hart at len c)
written_one hart at len s c room =
    either (are_mapped c.memory at len) s c
    (ran (put_out at (bytes_at c.memory at len)) (counted (answered hart len c)))
    (refused hart 14 c)
    (record {
      room = room;
      steps = refl;
      accesses =
          omega (arith, no_touch at (bytes_at c.memory at len));
    })
    (refused_one hart 14 s c room)

write_one : (hart : ℕ) (s : Setup) (c : Config) → c.steps < s.budget
    → Counted s c (write_turn hart c)
write_one hart s c room =
    either (nat_eq (value_in c hart 10) 1 || nat_eq (value_in c hart 10) 2) s c
    (written hart (value_in c hart 11) (min (value_in c hart 12) 4096) c) (refused hart 22 c)
    (written_one hart (value_in c hart 11) (min (value_in c hart 12) 4096) s c room)
    (refused_one hart 22 s c room)

block_one : (hart size : ℕ) (s : Setup) (c d : Config) (o : Option ℕ) → c.steps < s.budget → d.steps
    ≡ c.steps → d.accesses ≡ c.accesses
    → Counted s c (block_answered hart size o d)
block_one hart size s c d None room steps accesses = quiet_one s c (answered hart 0 d) room steps
    accesses
block_one hart size s c d (Some place) room steps accesses =
    record { room = room; steps = omega arith; accesses = omega arith }

alloc_one : (hart : ℕ) (s : Setup) (c : Config) → c.steps < s.budget
    → Counted s c (alloc_turn hart c)
alloc_one hart s c room =
    let size = value_in c hart 10 in
    block_one hart size s c (record c { heap = after_alloc c.heap size (least_place c.heap size) })
    (least_place c.heap size) room refl refl

free_one : (hart : ℕ) (s : Setup) (c : Config) → c.steps < s.budget → Counted s c (free_turn hart c)
free_one hart s c room =
    either (list_any (lives_at (value_in c hart 10)) c.heap.blocks) s c _ (refused hart 22 c)
    (record { room = room; steps = refl; accesses = omega arith }) (refused_one hart 22 s c room)

given_one : (o : Option ℕ) (code : ℕ) (s : Setup) (c d : Config) → c.steps < s.budget → d.steps
    ≡ c.steps → d.accesses ≡ c.accesses
    → Counted s c (quietly (given_to o code d))
given_one None code s c d room steps accesses = quiet_one s c d room steps accesses
given_one (Some joiner) code s c d room steps accesses =
    quiet_one s c (given_to (Some joiner) code d) room steps accesses

exit_one : (hart : ℕ) (s : Setup) (c : Config) → c.steps < s.budget → Counted s c (exit_turn hart c)
exit_one hart s c room =
    given_one (joiner_of c.phases hart) (value_in c hart 10) s c
    (passed hart (record c { phases = exited c.phases hart (value_in c hart 10) })) room refl refl

started_one : (hart pc : ℕ) (s : Setup) (c : Config) (o : Option ℕ) → c.steps < s.budget
    → Counted s c (started_with s hart pc c o)
started_one hart pc s c None room =
    quiet_one s c (answered hart (minus 11) (record c { lacks_hart = true })) room refl refl
started_one hart pc s c (Some new) room =
    record { room = room; steps = refl; accesses = omega arith }

spawn_one : (hart : ℕ) (s : Setup) (c : Config) → c.steps < s.budget
    → Counted s c (spawn_turn s hart c)
spawn_one hart s c room =
    let pc = value_in c hart 10 in
    either (nat_eq (pc % 4) 0 && ((page_at c.memory pc).mapped && (page_at c.memory pc).executable))
    s c
    (started_with s hart pc c (lowest_free c.phases)) (refused hart 22 c)
    (started_one hart pc s c (lowest_free c.phases) room) (refused_one hart 22 s c room)

joined_one : (hart : ℕ) (s : Setup) (c d : Config) (e : JoinEnd) → c.steps < s.budget → d.steps
    ≡ c.steps → d.accesses ≡ c.accesses
    → Counted s c (joined_with hart d e)
joined_one hart s c d Bad room steps accesses = quiet_one s c (answered hart (minus 22) d) room
    steps accesses
joined_one hart s c d (Done code) room steps accesses = quiet_one s c (answered hart code d) room
    steps accesses
joined_one hart s c d Waits room steps accesses = quiet_one s c (passed hart d) room steps accesses

join_one : (hart : ℕ) (s : Setup) (c : Config) → c.steps < s.budget → Counted s c (join_turn hart c)
join_one hart s c room =
    let target = value_in c hart 10 in
    joined_one hart s c (record c { phases = joined c.phases hart target })
    (join_end c.phases hart target) room refl refl

looked_one : (hart addr value : ℕ) (s : Setup) (c : Config) (r : Result ℕ MemFault)
    → c.steps < s.budget
    → Counted s c (looked hart addr value c r)
looked_one hart addr value s c (Ok word) room =
    either (nat_eq word value) s c _ (refused hart 11 c)
    (record { room = room; steps = refl; accesses = omega arith }) (refused_one hart 11 s c room)
looked_one hart addr value s c (Err Misaligned) room = refused_one hart 22 s c room
looked_one hart addr value s c (Err Outside) room = refused_one hart 14 s c room
looked_one hart addr value s c (Err ReadOnly) room = refused_one hart 14 s c room
looked_one hart addr value s c (Err NotExecutable) room = refused_one hart 14 s c room

wait_one : (hart : ℕ) (s : Setup) (c : Config) → c.steps < s.budget → Counted s c (wait_turn hart c)
wait_one hart s c room =
    let addr = value_in c hart 10 in
    looked_one hart addr (value_in c hart 11) s c (loaded c.memory addr 4) room

wake_one : (hart : ℕ) (s : Setup) (c : Config) → c.steps < s.budget → Counted s c (wake_turn hart c)
wake_one hart s c room =
    either (nat_eq (value_in c hart 10 % 4) 0) s c _ (refused hart 22 c)
    (record { room = room; steps = refl; accesses = omega arith }) (refused_one hart 22 s c room)

noted_one : (hart addr size : ℕ) (s : Setup) (c : Config) (o : Option ℕ) → c.steps < s.budget
    → Counted s c (noted_unless hart addr size c o)
noted_one hart addr size s c None room =
    record { room = room; steps = refl; accesses = omega arith }
noted_one hart addr size s c (Some fault) room = refused_one hart fault s c room

block_call_one : (hart : ℕ) (s : Setup) (c : Config) → c.steps < s.budget
    → Counted s c (block_turn hart c)
block_call_one hart s c room =
    let addr = value_in c hart 10 in
    let size = value_in c hart 11 in
    noted_one hart addr size s c (note_fault c addr size) room

unblock_one : (hart : ℕ) (s : Setup) (c : Config) → c.steps < s.budget
    → Counted s c (unblock_turn hart c)
unblock_one hart s c room =
    either (is_noted c.notes (value_in c hart 10)) s c _ (refused hart 22 c)
    (record { room = room; steps = refl; accesses = omega arith }) (refused_one hart 22 s c room)

pub call_one : (hart : ℕ) (s : Setup) (c : Config) → c.steps < s.budget
    → Counted s c (call_turn s hart c)
call_one hart s c room =
    let number = value_in c hart 17 in
    either (nat_eq number 64) s c _ _ (write_one hart s c room)
    (either (nat_eq number 93) s c _ _ (exit_one hart s c room)
    (either (nat_eq number 94) s c _ _
    (record {
      steps = omega arith;
      accesses = refl;
      memory = refl;
      least = omega arith;
      most = omega arith;
    })
    (either (nat_eq number 1024) s c _ _ (alloc_one hart s c room)
    (either (nat_eq number 1025) s c _ _ (free_one hart s c room)
    (either (nat_eq number 1026) s c _ _ (spawn_one hart s c room)
    (either (nat_eq number 1027) s c _ _ (join_one hart s c room)
    (either (nat_eq number 1028) s c _ _ (wait_one hart s c room)
    (either (nat_eq number 1029) s c _ _ (wake_one hart s c room)
    (either (nat_eq number 1030) s c _ _
    (record { room = room; steps = refl; accesses = omega arith })
    (either (nat_eq number 1031) s c _ _ (block_call_one hart s c room)
    (either (nat_eq number 1032) s c _ _ (unblock_one hart s c room)
    (either (nat_eq number 1033) s c _ (refused hart 38 c)
    (record { room = room; steps = refl; accesses = omega arith })
    (refused_one hart 38 s c room)))))))))))))

made_one : (pc : ℕ) (a : Option Touch) (s : Setup) (c d : Config) → c.steps < s.budget → d.steps ≡ c.steps
    → d.accesses ≡ c.accesses
    → Counted s c (made pc a d)
made_one pc None s c d room steps accesses = quiet_one s c d room steps accesses
made_one pc (Some a) s c d room steps accesses =
    record { room = room; steps = omega arith; accesses = omega arith }

-- a config with another plan counts the same
moved_to : (s : Setup) (c : Config) (t : RunTurn) → Counted s (chosen c) t → Counted s c t
moved_to s c (ran e x) h = record { room = h.room; steps = h.steps; accesses = h.accesses }
moved_to s c (over o x) h = record {
  steps = h.steps;
  accesses = h.accesses;
  memory =
      h.memory;
  least = h.least;
  most = h.most;
}

step_one : (hart : ℕ) (s : Setup) (c : Config) (e : StepEnd) (x : Machine) → c.steps < s.budget
    → Counted s c (after_step s hart c e x)
step_one hart s c (Next i a) x room = made_one (state_of c hart).pc a s c
    (noted hart i (state_of c hart).pc (with_machine hart x c)) room refl refl
step_one hart s c Call x room = call_one hart s c room
step_one hart s c (Trap cause) x room =
    record {
      steps = omega arith;
      accesses = refl;
      memory = refl;
      least = omega arith;
      most = omega arith;
    }

with_one : (s : Setup) (c : Config) (o : Option ℕ) → c.steps ≤ s.budget
    → Counted s c (turn_with s c o)
with_one s c None within = record {
  steps = within;
  accesses = refl;
  memory = refl;
  least =
      omega arith;
  most = omega arith;
}
with_one s c (Some hart) within =
    let x = stepped hart (machine_of hart (chosen c)) in
    elim (cases_Bool (nat_lt c.steps s.budget)) [
      | inl more ↦
          rw more (moved_to s c (hart_turn s hart (chosen c))
          (step_one hart s (chosen c) x.end x.machine (ltb-true c.steps s.budget more)))
      | inr all ↦ rw all (record {
        steps = within;
        accesses = refl;
        memory = refl;
        least =
            omega arith;
        most = omega arith;
      })
    ]

unless_one : (s : Setup) (c : Config) (o : Option ℕ) → c.steps ≤ s.budget
    → Counted s c (turn_unless s c o)
unless_one s c (Some code) within = record {
  steps = within;
  accesses = refl;
  memory = refl;
  least =
      omega arith;
  most = omega arith;
}
unless_one s c None within = with_one s c (choice (runnable_in c) c.plan) within

pub turn_one : (s : Setup) (c : Config) → c.steps ≤ s.budget → Counted s c (turn_of s c)
unfolding turn_of
turn_one s c within = unless_one s c (finished_code c.phases) within
