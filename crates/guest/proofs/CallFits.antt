-- After each call there is still one entry for each hart.
use Rattle.std.proofs.Common.{◌≡◌, ℕ, ◌∙◌, Bool, true, false, List, [], length, Option, Some, None}
use Rattle.std.proofs.Common.{Result, Ok, Err, refl, set}
use Rattle.std.specs.Prelude.{if◌then◌else◌, nat_eq, ◌||◌, ◌&&◌, ◌/◌, ◌%◌, ◌^◌, min}
use Rattle.std.proofs.lemmas.List.{length-set}
use Rattle.rv32_hart.specs.Space.{Space, page_at}
use Rattle.rv32_hart.specs.Faults.{loaded}
use Rattle.rv32_hart.specs.declared.page.MemFault.{MemFault}
use Rattle.rv32_hart.specs.declared.page.MemFault.TheVariants.{Misaligned, Outside, ReadOnly}
use Rattle.rv32_hart.specs.declared.page.MemFault.TheVariants.{NotExecutable}
use Rattle.rv32_hart.specs.Registers.{Registers, started, with_reg, advanced}
use Rattle.guest.specs.declared.phase.HartPhase.{HartPhase}
use Rattle.guest.specs.declared.phase.HartPhase.TheVariants.{Waiting}
use Rattle.guest.specs.declared.phase.JoinEnd.{JoinEnd}
use Rattle.guest.specs.declared.phase.JoinEnd.TheVariants.{Bad, Done, Waits}
use Rattle.guest.specs.ThreadCalls.{exited, joiner_of, join_end, joined, lowest_free, spawned}
use Rattle.guest.specs.ThreadCalls.{woken, woken_count}
use Rattle.std.specs.List.{list_any}
use Rattle.guest.specs.Heaps.{Heap, after_alloc, after_free, lives_at}
use Rattle.guest.specs.LeastPlaces.{least_place}
use Rattle.guest.specs.declared.setup.Setup.{Setup}
use Rattle.guest.specs.declared.turn.Turn.{Turn}
use Rattle.guest.specs.declared.turn.Turn.TheVariants.{Ran, Ended}
use Rattle.guest.specs.Configs.{Config, Fits, stack_end, state_of, value_in, with_state, passed}
use Rattle.guest.specs.Configs.{answered, counted, with_value}
use Rattle.guest.specs.GuestCalls.{RunTurn, ran, over, quietly, minus, refused, are_mapped, written}
use Rattle.guest.specs.GuestCalls.{write_turn, block_answered, alloc_turn}
use Rattle.guest.specs.GuestCalls.{free_turn, given_to, exit_turn, started_with, spawn_turn}
use Rattle.guest.specs.GuestCalls.{joined_with, join_turn, looked, wait_turn}
use Rattle.guest.specs.GuestCalls.{wake_turn, steps_turn, call_turn, noted_unless, note_fault}
use Rattle.guest.specs.GuestCalls.{block_turn, unblock_turn}
use Rattle.guest.specs.Notes.{Noted, after_noting, after_dying, is_noted}
use Rattle.std.specs.Option.{option_map_or}
use Rattle.hart_scheduler.specs.Choices.{Plan, choice, plan_with}
use Rattle.guest.specs.Turns.{chosen, runnable_in}
use Rattle.guest.specs.SeenTurns.{turn_seen}
use Rattle.guest.proofs.CallLengths.{length-spawned, length-joined, length-woken, length-exited}

abbrev pub FitsTurn : ℕ → RunTurn → Type 0
FitsTurn h (ran e d) = Fits h d
FitsTurn h (over o d) = Fits h d

either : (b : Bool) (h : ℕ) (t u : RunTurn) → FitsTurn h t → FitsTurn h u
    → FitsTurn h (if b then t else u)
either true h t u f g = f
either false h t u f g = g

fits_counted : (h : ℕ) (c : Config) → Fits h c → Fits h (counted c)
fits_counted h c f = record {
  states = f.states;
  held = f.held;
  phases = f.phases;
  calls =
      f.calls;
  plan = f.plan;
}

fits_state : (h hart : ℕ) (s : Registers) (c : Config) → Fits h c → Fits h (with_state hart s c)
fits_state h hart s c f = record {
  states = length-set c.states hart s ∙ f.states;
  held = f.held;
  phases = f.phases;
  calls = f.calls;
  plan =
      f.plan;
}

fits_phases : (h : ℕ) (phases : List HartPhase) (c : Config) → length phases ≡ length c.phases
    → Fits h c
    → Fits h (record c { phases = phases })
fits_phases h phases c same f = record {
  states = f.states;
  held = f.held;
  phases = same
      ∙ f.phases;
  calls = f.calls;
  plan = f.plan;
}

fits_answered : (h hart v : ℕ) (c : Config) → Fits h c → Fits h (counted (answered hart v c))
fits_answered h hart v c f = fits_counted h (answered hart v c)
    (fits_state h hart (advanced (with_reg (state_of c hart) 10 v)) c f)

fits_passed : (h hart : ℕ) (c : Config) → Fits h c → Fits h (passed hart c)
fits_passed h hart c f = fits_state h hart (advanced (state_of c hart)) c f

fits_refused : (h hart fault : ℕ) (c : Config) → Fits h c → FitsTurn h (refused hart fault c)
fits_refused h hart fault c f = fits_answered h hart (minus fault) c f

fits_written : (h hart at len : ℕ) (c : Config) → Fits h c → FitsTurn h (written hart at len c)
fits_written h hart at len c f =
    either (are_mapped c.memory at len) h _ (refused hart 14 c) (fits_answered h hart len c f)
    (fits_refused h hart 14 c f)

fits_write : (h hart : ℕ) (c : Config) → Fits h c → FitsTurn h (write_turn hart c)
fits_write h hart c f =
    either (nat_eq (value_in c hart 10) 1 || nat_eq (value_in c hart 10) 2) h
    (written hart (value_in c hart 11) (min (value_in c hart 12) 4096) c) (refused hart 22 c)
    (fits_written h hart (value_in c hart 11) (min (value_in c hart 12) 4096) c f)
    (fits_refused h hart 22 c f)

fits_block : (h hart size : ℕ) (o : Option ℕ) (c : Config) → Fits h c
    → FitsTurn h (block_answered hart size o c)
fits_block h hart size None c f = fits_answered h hart 0 c f
fits_block h hart size (Some place) c f = fits_answered h hart place c f

fits_heap : (h : ℕ) (heap : Heap) (c : Config) → Fits h c → Fits h (record c { heap = heap })
fits_heap h heap c f = record {
  states = f.states;
  held = f.held;
  phases = f.phases;
  calls =
      f.calls;
  plan = f.plan;
}

fits_alloc : (h hart : ℕ) (c : Config) → Fits h c → FitsTurn h (alloc_turn hart c)
fits_alloc h hart c f =
    let size = value_in c hart 10 in
    let heap : Heap = after_alloc c.heap size (least_place c.heap size) in
    fits_block h hart size (least_place c.heap size) (record c { heap = heap })
    (fits_heap h heap c f)

fits_free : (h hart : ℕ) (c : Config) → Fits h c → FitsTurn h (free_turn hart c)
fits_free h hart c f =
    let heap : Heap = after_free c.heap (value_in c hart 10) in
    either (list_any (lives_at (value_in c hart 10)) c.heap.blocks) h _ (refused hart 22 c)
    (fits_answered h hart 0 (record c { heap = heap }) (fits_heap h heap c f))
    (fits_refused h hart 22 c f)

fits_given : (h : ℕ) (o : Option ℕ) (code : ℕ) (c : Config) → Fits h c
    → FitsTurn h (quietly (given_to o code c))
fits_given h None code c f = fits_counted h c f
fits_given h (Some joiner) code c f = fits_counted h (given_to (Some joiner) code c)
    (fits_state h joiner (with_reg (state_of c joiner) 10 code) c f)

fits_exit : (h hart : ℕ) (c : Config) → Fits h c → FitsTurn h (exit_turn hart c)
fits_exit h hart c f =
    let code = value_in c hart 10 in
    let d : Config = record c { phases = exited c.phases hart code } in
    fits_given h (joiner_of c.phases hart) code (passed hart d)
    (fits_passed h hart d
    (fits_phases h (exited c.phases hart code) c (length-exited c.phases hart code) f))

fits_started : (h hart pc : ℕ) (s : Setup) (c : Config) (o : Option ℕ) → Fits h c
    → FitsTurn h (started_with s hart pc c o)
fits_started h hart pc s c None f = fits_refused h hart 11 (record c { lacks_hart = true })
    (record {
      states = f.states;
      held = f.held;
      phases = f.phases;
      calls = f.calls;
      plan = f.plan;
    })
fits_started h hart pc s c (Some new) f =
    let state : Registers = started pc (stack_end s new) (value_in c hart 3) (value_in c hart 11) in
    let d : Config = record c {
      states = set c.states new state;
      held = set c.held new None;
      phases = spawned c.phases;
      calls = set c.calls new [];
      lacks_hart = false;
    } in
    fits_answered h hart new d
    (record {
      states = length-set c.states new state ∙ f.states;
      held = length-set c.held new None ∙ f.held;
      phases = length-spawned c.phases ∙ f.phases;
      calls = length-set c.calls new [] ∙ f.calls;
      plan = f.plan;
    })

fits_spawn : (h hart : ℕ) (s : Setup) (c : Config) → Fits h c → FitsTurn h (spawn_turn s hart c)
fits_spawn h hart s c f =
    let pc = value_in c hart 10 in
    either (nat_eq (pc % 4) 0 && ((page_at c.memory pc).mapped && (page_at c.memory pc).executable))
    h
    (started_with s hart pc c (lowest_free c.phases)) (refused hart 22 c)
    (fits_started h hart pc s c (lowest_free c.phases) f) (fits_refused h hart 22 c f)

fits_joined : (h hart : ℕ) (c : Config) (e : JoinEnd) → Fits h c → FitsTurn h (joined_with hart c e)
fits_joined h hart c Bad f = fits_refused h hart 22 c f
fits_joined h hart c (Done code) f = fits_answered h hart code c f
fits_joined h hart c Waits f = fits_counted h (passed hart c) (fits_passed h hart c f)

fits_join : (h hart : ℕ) (c : Config) → Fits h c → FitsTurn h (join_turn hart c)
fits_join h hart c f =
    let target = value_in c hart 10 in
    fits_joined h hart (record c { phases = joined c.phases hart target })
    (join_end c.phases hart target)
    (fits_phases h (joined c.phases hart target) c (length-joined c.phases hart target) f)

fits_looked : (h hart addr value : ℕ) (c : Config) (r : Result ℕ MemFault) → Fits h c
    → FitsTurn h (looked hart addr value c r)
fits_looked h hart addr value c (Ok word) f =
    let d : Config = record c { phases = set c.phases hart (Waiting addr) } in
    either (nat_eq word value) h (quietly (answered hart 0 d)) (refused hart 11 c)
    (fits_answered h hart 0 d
    (fits_phases h (set c.phases hart (Waiting addr)) c
    (length-set c.phases hart (Waiting addr)) f))
    (fits_refused h hart 11 c f)
fits_looked h hart addr value c (Err Misaligned) f = fits_refused h hart 22 c f
fits_looked h hart addr value c (Err Outside) f = fits_refused h hart 14 c f
fits_looked h hart addr value c (Err ReadOnly) f = fits_refused h hart 14 c f
fits_looked h hart addr value c (Err NotExecutable) f = fits_refused h hart 14 c f

fits_wait : (h hart : ℕ) (c : Config) → Fits h c → FitsTurn h (wait_turn hart c)
fits_wait h hart c f = fits_looked h hart (value_in c hart 10) (value_in c hart 11) c
    (loaded c.memory (value_in c hart 10) 4) f

fits_wake : (h hart : ℕ) (c : Config) → Fits h c → FitsTurn h (wake_turn hart c)
fits_wake h hart c f =
    let addr = value_in c hart 10 in
    let most = value_in c hart 11 in
    let d : Config = record c { phases = woken c.phases addr most } in
    either (nat_eq (addr % 4) 0) h (quietly (answered hart (woken_count c.phases addr most) d))
    (refused hart 22 c)
    (fits_answered h hart (woken_count c.phases addr most) d
    (fits_phases h (woken c.phases addr most) c (length-woken c.phases addr most)
    f)) (fits_refused h hart 22 c f)

fits_noting : (h : ℕ) (noted : Noted) (c : Config) → Fits h c → Fits h (record c { notes = noted })
fits_noting h noted c f = record {
  states = f.states;
  held = f.held;
  phases = f.phases;
  calls = f.calls;
  plan = f.plan;
}

fits_noted : (h hart addr size : ℕ) (c : Config) (o : Option ℕ) → Fits h c
    → FitsTurn h (noted_unless hart addr size c o)
fits_noted h hart addr size c None f =
    let noted : Noted = after_noting c.notes addr in
    fits_answered h hart 0 (record c { notes = noted }) (fits_noting h noted c f)
fits_noted h hart addr size c (Some fault) f = fits_refused h hart fault c f

fits_block_call : (h hart : ℕ) (c : Config) → Fits h c → FitsTurn h (block_turn hart c)
fits_block_call h hart c f =
    let addr = value_in c hart 10 in
    let size = value_in c hart 11 in
    fits_noted h hart addr size c (note_fault c addr size) f

fits_unblock : (h hart : ℕ) (c : Config) → Fits h c → FitsTurn h (unblock_turn hart c)
fits_unblock h hart c f =
    let noted : Noted = after_dying c.notes (value_in c hart 10) in
    either (is_noted c.notes (value_in c hart 10)) h _ (refused hart 22 c)
    (fits_answered h hart 0 (record c { notes = noted }) (fits_noting h noted c f))
    (fits_refused h hart 22 c f)

fits_steps : (h hart : ℕ) (c : Config) → Fits h c → FitsTurn h (steps_turn hart c)
fits_steps h hart c f =
    let d : Config = with_value hart 11 (c.steps / 2 ^ 32) c in
    fits_answered h hart (c.steps % 2 ^ 32) d
    (fits_state h hart (with_reg (state_of c hart) 11 (c.steps / 2 ^ 32)) c f)

pub fits_call : (h hart : ℕ) (s : Setup) (c : Config) → Fits h c → FitsTurn h (call_turn s hart c)
fits_call h hart s c f =
    let number = value_in c hart 17 in
    either (nat_eq number 64) h _ _ (fits_write h hart c f)
    (either (nat_eq number 93) h _ _ (fits_exit h hart c f)
    (either (nat_eq number 94) h _ _ (fits_counted h (passed hart c) (fits_passed h hart c f))
    (either (nat_eq number 1024) h _ _ (fits_alloc h hart c f)
    (either (nat_eq number 1025) h _ _ (fits_free h hart c f)
    (either (nat_eq number 1026) h _ _ (fits_spawn h hart s c f)
    (either (nat_eq number 1027) h _ _ (fits_join h hart c f)
    (either (nat_eq number 1028) h _ _ (fits_wait h hart c f)
    (either (nat_eq number 1029) h _ _ (fits_wake h hart c f)
    (either (nat_eq number 1030) h _ _ (fits_answered h hart hart c f)
    (either (nat_eq number 1031) h _ _ (fits_block_call h hart c f)
    (either (nat_eq number 1032) h _ _ (fits_unblock h hart c f)
    (either (nat_eq number 1033) h _ (refused hart 38 c) (fits_steps h hart c f)
    (fits_refused h hart 38 c f)))))))))))))

fits-of : (h : ℕ) (t : Turn) (c : Config) → FitsTurn h (turn_seen t c) → Fits h c
fits-of h (Ran e) c f = f
fits-of h (Ended o) c f = f

-- after a call with this answer, which left this configuration
pub fits_seen : (h hart : ℕ) (s : Setup) (c : Config) (t : Turn) (d : Config) → turn_seen t d
    ≡ call_turn s hart c → Fits h c → Fits h d
fits_seen h hart s c t d e f = fits-of h t d (rw e (fits_call h hart s c f))

-- a choice is one for as many harts
pub harts_after : (o : Option ℕ) (runnable : List Bool) (plan : Plan)
    → (option_map_or (plan_with runnable plan) o plan).harts ≡ plan.harts
harts_after None runnable plan = refl
harts_after (Some hart) runnable plan = refl

pub fits_chosen : (h : ℕ) (c : Config) → Fits h c → Fits h (chosen c)
fits_chosen h c f = record {
  states = f.states;
  held = f.held;
  phases = f.phases;
  calls = f.calls;
  plan = harts_after (choice (runnable_in c) c.plan) (runnable_in c) c.plan ∙ f.plan;
}

-- after a step, which keeps the number of reservations
pub fits_stepped : (h place : ℕ) (c : Config) (new : Registers) (m : Space)
    (held : List (Option ℕ)) → length held ≡ length c.held → Fits h c
    → Fits h (record c { states = set c.states place new; memory = m; held = held })
fits_stepped h place c new m held same f = record {
  states = length-set c.states place new ∙ f.states;
  held = same ∙ f.held;
  phases = f.phases;
  calls = f.calls;
  plan = f.plan;
}

-- after a call that comes behind one
pub fits_called : (h hart place : ℕ) (s : Setup) (c : Config) (new : Registers) (m : Space)
    (held : List (Option ℕ)) (t : Turn) (d : Config)
    → turn_seen t d ≡ call_turn s hart
    (record c { states = set c.states place new; memory = m; held = held }) → length held
    ≡ length c.held
    → Fits h c → Fits h d
fits_called h hart place s c new m held t d e same f =
    fits_seen h hart s (record c { states = set c.states place new; memory = m; held = held }) t d e
    (fits_stepped h place c new m held same f)
