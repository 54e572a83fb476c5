-- The calls of a guest. A call's number stands in x17, what it is given in x10, x11 and x12, and
-- its answer in x10.
use Rattle.std.specs.Prelude.{ℕ, ◌-◌, ◌/◌, ◌%◌, ◌^◌, Bool, not, ◌&&◌, ◌||◌, nat_eq, nat_lt, min, List}
use Rattle.std.specs.Prelude.{if◌then◌else◌, [], ◌∷◌, Option, None, Some, Result, Ok, Err, slice_set}
use Rattle.std.specs.Prelude.{true, false}
use Rattle.std.specs.List.{list_all, list_any, range_with_len}
use Rattle.base.specs.Touch.{Touch}
use Rattle.base.specs.declared.ending.Outcome.{Outcome}
use Rattle.base.specs.declared.ending.Outcome.TheVariants.{Exit}
use Rattle.rv32_hart.specs.Space.{Space, page_at, bytes_at}
use Rattle.rv32_hart.specs.Faults.{loaded}
use Rattle.rv32_hart.specs.declared.page.MemFault.{MemFault}
use Rattle.rv32_hart.specs.declared.page.MemFault.TheVariants.{Misaligned, Outside, ReadOnly}
use Rattle.rv32_hart.specs.declared.page.MemFault.TheVariants.{NotExecutable}
use Rattle.rv32_hart.specs.Registers.{started}
use Rattle.guest.specs.declared.phase.HartPhase.TheVariants.{Waiting}
use Rattle.guest.specs.declared.phase.JoinEnd.{JoinEnd}
use Rattle.guest.specs.declared.phase.JoinEnd.TheVariants.{Bad, Done, Waits}
use Rattle.guest.specs.ThreadCalls.{exited, joiner_of, join_end, joined, lowest_free, spawned}
use Rattle.guest.specs.ThreadCalls.{woken, woken_count}
use Rattle.guest.specs.declared.setup.Setup.{Setup}
use Rattle.guest.specs.Heaps.{after_alloc, after_free, lives_at}
use Rattle.guest.specs.CallLists.{last_four}
use Rattle.guest.specs.Notes.{most_noted, after_noting, after_dying, is_noted}
use Rattle.guest.specs.LeastPlaces.{least_place}
use Rattle.guest.specs.Configs.{Config, stack_end, value_in, calls_of, given, passed, answered}
use Rattle.guest.specs.Configs.{counted, with_value}

-- What is seen of a step: nothing, the access that it made, with the pc of its instruction, the
-- block that it made, by its address, its size and the last calls of its hart, the block that it
-- freed, or the bytes that it put out, from an address on.
pub data RunEvent : Type 0 where
  quiet : RunEvent
  touch : Touch → ℕ → RunEvent
  alloc : ℕ → ℕ → List ℕ → RunEvent
  free : ℕ → RunEvent
  output : ℕ → List ℕ → RunEvent

-- a turn is a step to another configuration, or the end of the run at one
pub data RunTurn : Type 0 where
  ran : RunEvent → Config → RunTurn
  over : Outcome → Config → RunTurn

-- a step of which nothing is seen, to this configuration
abbrev pub quietly : Config → RunTurn
quietly c = ran quiet (counted c)

-- a number below zero, as a word
abbrev pub minus : ℕ → ℕ
minus n = 2 ^ 32 - n

-- a call that is refused answers with the fault's number, and does nothing else
abbrev pub refused : ℕ → ℕ → Config → RunTurn
refused hart fault c = quietly (answered hart (minus fault) c)

-- ---- write

abbrev pub are_mapped : Space → ℕ → ℕ → Bool
are_mapped m at len = list_all (λ a. (page_at m a).mapped) (range_with_len at len)

-- no bytes are not seen
abbrev pub put_out : ℕ → List ℕ → RunEvent
put_out at [] = quiet
put_out at (b ∷ bytes) = output at (b ∷ bytes)

-- the bytes from an address on are put out
abbrev pub written : ℕ → ℕ → ℕ → Config → RunTurn
written hart at len c =
    if are_mapped c.memory at len then ran (put_out at (bytes_at c.memory at len))
    (counted (answered hart len c))
    else refused hart 14 c

-- to the file 1 or 2, of so many bytes from an address on, of which it takes 4096 at most
abbrev pub write_turn : ℕ → Config → RunTurn
write_turn hart c =
    let file = value_in c hart 10 in
    if nat_eq file 1 || nat_eq file 2 then written hart (value_in c hart 11)
    (min (value_in c hart 12) 4096) c
    else refused hart 22 c

-- ---- alloc and free

-- the answer once a block is made, 0 where there is no place for it
abbrev pub block_answered : ℕ → ℕ → Option ℕ → Config → RunTurn
block_answered hart size None c = quietly (answered hart 0 c)
block_answered hart size (Some place) c =
    ran (alloc place size (last_four (calls_of c hart))) (counted (answered hart place c))

-- a block is made at the least place that the heap has for it
abbrev pub allocated : ℕ → ℕ → Config → Option ℕ → RunTurn
allocated hart size c place =
    block_answered hart size place (record c { heap = after_alloc c.heap size place })

abbrev pub alloc_turn : ℕ → Config → RunTurn
alloc_turn hart c =
    let size = value_in c hart 10 in
    allocated hart size c (least_place c.heap size)

-- the live block that begins at an address
abbrev pub free_turn : ℕ → Config → RunTurn
free_turn hart c =
    let addr = value_in c hart 10 in
    if list_any (lives_at addr) c.heap.blocks
    then ran (free addr) (counted (answered hart 0 (record c { heap = after_free c.heap addr })))
    else refused hart 22 c

-- ---- exit and exit_group

-- a hart that joins the caller gets its code
abbrev pub given_to : Option ℕ → ℕ → Config → Config
given_to None code c = c
given_to (Some joiner) code c = given joiner code c

abbrev pub exit_turn : ℕ → Config → RunTurn
exit_turn hart c =
    let code = value_in c hart 10 in
    quietly (given_to (joiner_of c.phases hart) code
    (passed hart (record c { phases = exited c.phases hart code })))

abbrev pub exit_group_turn : ℕ → Config → RunTurn
exit_group_turn hart c = over (Exit (value_in c hart 10)) (counted (passed hart c))

-- ---- spawn

-- the hart starts with the caller's x3, has no reservation, and has made no call; whether none was
-- free is kept
abbrev pub started_with : Setup → ℕ → ℕ → Config → Option ℕ → RunTurn
started_with s hart pc c None = refused hart 11 (record c { lacks_hart = true })
started_with s hart pc c (Some new) =
    quietly (answered hart new (record c {
      states = slice_set c.states new
          (started pc (stack_end s new) (value_in c hart 3) (value_in c hart 11));
      held = slice_set c.held new None;
      phases = spawned c.phases;
      calls = slice_set c.calls new [];
      lacks_hart = false;
    }))

-- at an address that can be fetched from, with an argument
abbrev pub spawn_turn : Setup → ℕ → Config → RunTurn
spawn_turn s hart c =
    let pc = value_in c hart 10 in
    if nat_eq (pc % 4) 0 && ((page_at c.memory pc).mapped && (page_at c.memory pc).executable)
    then started_with s hart pc c (lowest_free c.phases)
    else refused hart 22 c

-- ---- join

abbrev pub joined_with : ℕ → Config → JoinEnd → RunTurn
joined_with hart c Bad = refused hart 22 c
joined_with hart c (Done code) = quietly (answered hart code c)
joined_with hart c Waits = quietly (passed hart c)

abbrev pub join_turn : ℕ → Config → RunTurn
join_turn hart c =
    let target = value_in c hart 10 in
    joined_with hart (record c { phases = joined c.phases hart target })
    (join_end c.phases hart target)

-- ---- wait and wake

-- the word is judged as it is loaded
abbrev pub looked : ℕ → ℕ → ℕ → Config → Result ℕ MemFault → RunTurn
looked hart addr value c (Ok word) =
    if nat_eq word value
    then quietly
    (answered hart 0 (record c { phases = slice_set c.phases hart (Waiting addr) }))
    else refused hart 11 c
looked hart addr value c (Err Misaligned) = refused hart 22 c
looked hart addr value c (Err Outside) = refused hart 14 c
looked hart addr value c (Err ReadOnly) = refused hart 14 c
looked hart addr value c (Err NotExecutable) = refused hart 14 c

-- at a word that has still this value
abbrev pub wait_turn : ℕ → Config → RunTurn
wait_turn hart c =
    let addr = value_in c hart 10 in
    looked hart addr (value_in c hart 11) c (loaded c.memory addr 4)

-- so many harts at most
abbrev pub wake_turn : ℕ → Config → RunTurn
wake_turn hart c =
    let addr = value_in c hart 10 in
    let most = value_in c hart 11 in
    if nat_eq (addr % 4) 0
    then quietly
    (answered hart (woken_count c.phases addr most)
    (record c { phases = woken c.phases addr most }))
    else refused hart 22 c

-- ---- block and unblock

-- a block that isn't the heap's is noted
abbrev pub noted_turn : ℕ → ℕ → ℕ → Config → RunTurn
noted_turn hart addr size c =
    ran (alloc addr size (last_four (calls_of c hart)))
    (counted (answered hart 0 (record c { notes = after_noting c.notes addr })))

-- why a block can't be noted: it has no bytes, or not all of them are in memory; or as many were
-- noted as ever are
abbrev pub note_fault : Config → ℕ → ℕ → Option ℕ
note_fault c addr size =
    if not (nat_eq size 0) && are_mapped c.memory addr size
    then (if nat_lt c.notes.made most_noted then None else Some 12)
    else Some 22

abbrev pub noted_unless : ℕ → ℕ → ℕ → Config → Option ℕ → RunTurn
noted_unless hart addr size c None = noted_turn hart addr size c
noted_unless hart addr size c (Some fault) = refused hart fault c

abbrev pub block_turn : ℕ → Config → RunTurn
block_turn hart c =
    let addr = value_in c hart 10 in
    let size = value_in c hart 11 in
    noted_unless hart addr size c (note_fault c addr size)

-- the noted block at an address dies
abbrev pub unblock_turn : ℕ → Config → RunTurn
unblock_turn hart c =
    let addr = value_in c hart 10 in
    if is_noted c.notes addr
    then ran (free addr)
    (counted (answered hart 0 (record c { notes = after_dying c.notes addr })))
    else refused hart 22 c

-- ---- steps

-- how many steps were made before this one: the low word in x10, the high one in x11
abbrev pub steps_turn : ℕ → Config → RunTurn
steps_turn hart c =
    quietly (answered hart (c.steps % 2 ^ 32) (with_value hart 11 (c.steps / 2 ^ 32) c))

-- ---- all calls

abbrev pub call_turn : Setup → ℕ → Config → RunTurn
call_turn s hart c =
    let number = value_in c hart 17 in
    if nat_eq number 64 then write_turn hart c
    else if nat_eq number 93 then exit_turn hart c
    else if nat_eq number 94 then exit_group_turn hart c
    else if nat_eq number 1024 then alloc_turn hart c
    else if nat_eq number 1025 then free_turn hart c
    else if nat_eq number 1026 then spawn_turn s hart c
    else if nat_eq number 1027 then join_turn hart c
    else if nat_eq number 1028 then wait_turn hart c
    else if nat_eq number 1029 then wake_turn hart c
    else if nat_eq number 1030 then quietly (answered hart hart c)
    else if nat_eq number 1031 then block_turn hart c
    else if nat_eq number 1032 then unblock_turn hart c
    else if nat_eq number 1033 then steps_turn hart c
    else refused hart 38 c
