-- What each call of a guest does to the phases, and what it answers.
use Rattle.std.specs.Prelude.{ℕ, Bool, ◌&&◌, not, if◌then◌else◌, nat_eq, nat_lt, List, length, map}
use Rattle.std.specs.Prelude.{take, count_by, min, position, Option, Some, None, slice_set}
use Rattle.std.specs.List.{list_all, list_any, range_with_len}
use Rattle.guest.specs.declared.phase.HartPhase.{HartPhase}
use Rattle.guest.specs.declared.phase.HartPhase.TheVariants.{Free, Runnable, Joining}
use Rattle.guest.specs.declared.phase.HartPhase.TheVariants.{Waiting, Ended}
use Rattle.guest.specs.declared.phase.JoinEnd.{JoinEnd}
use Rattle.guest.specs.declared.phase.JoinEnd.TheVariants.{Bad, Done, Waits}
use Rattle.guest.specs.Phases.{phase_of, is_free, is_joining, is_waiting_at, is_over}
use Rattle.guest.specs.Phases.{ended_code}

-- spawn: the lowest free hart becomes runnable
abbrev pub lowest_free : List HartPhase → Option ℕ
lowest_free phases = position is_free phases

abbrev pub started : List HartPhase → Option ℕ → List HartPhase
started phases None = phases
started phases (Some hart) = slice_set phases hart Runnable

abbrev pub spawned : List HartPhase → List HartPhase
spawned phases = started phases (lowest_free phases)

-- join: a hart can join another one that is neither hart 0 nor free, and that no hart joins
-- already
abbrev pub can_join : List HartPhase → ℕ → ℕ → Bool
can_join phases caller target =
    nat_lt target (length phases) && not (nat_eq target 0) && not (nat_eq target caller) && not
    (is_free (phase_of phases target))
    && not (list_any (is_joining target) phases)

-- what a join of a hart in this phase answers
abbrev pub answer_of_join : HartPhase → JoinEnd
answer_of_join Free = Bad
answer_of_join Runnable = Waits
answer_of_join (Joining hart) = Waits
answer_of_join (Waiting addr) = Waits
answer_of_join (Ended code) = Done code

abbrev pub join_end : List HartPhase → ℕ → ℕ → JoinEnd
join_end phases caller target = if can_join phases caller target then answer_of_join
    (phase_of phases target) else Bad

-- a hart that is done becomes free, and one that joins a hart that goes on waits for it
abbrev pub after_join : List HartPhase → ℕ → ℕ → JoinEnd → List HartPhase
after_join phases caller target Bad = phases
after_join phases caller target (Done code) = slice_set phases target Free
after_join phases caller target Waits = slice_set phases caller (Joining target)

abbrev pub joined : List HartPhase → ℕ → ℕ → List HartPhase
joined phases caller target = after_join phases caller target (join_end phases caller target)

-- how many lower harts than this one wait at the address
abbrev pub waiters_below : List HartPhase → ℕ → ℕ → ℕ
waiters_below phases addr hart = count_by (is_waiting_at addr) (take hart phases)

-- wake: a hart is woken if it waits at the address, and fewer lower harts than `most` do
abbrev pub is_woken : List HartPhase → ℕ → ℕ → ℕ → Bool
is_woken phases addr most hart =
    is_waiting_at addr (phase_of phases hart) && nat_lt (waiters_below phases addr hart) most

-- a hart that is woken becomes runnable, and each other one stays as it is
abbrev pub woken_phase : List HartPhase → ℕ → ℕ → ℕ → HartPhase
woken_phase phases addr most hart = if is_woken phases addr most hart then Runnable else phase_of
    phases hart

abbrev pub woken : List HartPhase → ℕ → ℕ → List HartPhase
woken phases addr most = map (woken_phase phases addr most) (range_with_len 0 (length phases))

abbrev pub woken_count : List HartPhase → ℕ → ℕ → ℕ
woken_count phases addr most = min most (count_by (is_waiting_at addr) phases)

-- exit: where a hart joins the caller, it becomes runnable, and the caller free; else the caller
-- has ended
abbrev pub joiner_of : List HartPhase → ℕ → Option ℕ
joiner_of phases hart = position (is_joining hart) phases

abbrev pub after_exit : List HartPhase → ℕ → ℕ → Option ℕ → List HartPhase
after_exit phases caller code None = slice_set phases caller (Ended code)
after_exit phases caller code (Some joiner) =
    slice_set (slice_set phases joiner Runnable) caller Free

abbrev pub exited : List HartPhase → ℕ → ℕ → List HartPhase
exited phases caller code = after_exit phases caller code (joiner_of phases caller)

-- the run is finished with hart 0's code where every hart is free or has ended
abbrev pub finished_code : List HartPhase → Option ℕ
finished_code phases = if list_all is_over phases then ended_code (phase_of phases 0) else None
