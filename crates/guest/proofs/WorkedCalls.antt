-- The calls on small lists of phases, worked out.
use Rattle.std.proofs.Common.{◌≡◌, List, [], ◌∷◌, refl, Some, None}
use Rattle.guest.specs.declared.phase.HartPhase.{HartPhase}
use Rattle.guest.specs.declared.phase.HartPhase.TheVariants.{Free, Runnable, Joining, Waiting}
use Rattle.guest.specs.declared.phase.HartPhase.TheVariants.{Ended}
use Rattle.guest.specs.declared.phase.JoinEnd.TheVariants.{Bad, Done}
use Rattle.guest.specs.Phases.{first_phases}
use Rattle.guest.specs.ThreadCalls.{spawned, lowest_free, join_end, joined, woken, woken_count}
use Rattle.guest.specs.ThreadCalls.{exited, joiner_of, finished_code}

-- hart 0 runs, 1 is free, 2 runs, 3 has ended with code 7, 4 waits at 64, 5 waits at 68, 6 and 7
-- wait at 64
abbrev crew : List HartPhase
crew = Runnable ∷ Free ∷ Runnable ∷ Ended 7 ∷ Waiting 64 ∷ Waiting 68 ∷ Waiting 64 ∷ Waiting 64 ∷ []

begins : first_phases 3 ≡ Runnable ∷ Free ∷ Free ∷ []
begins = refl

the_lowest_free_hart_starts : spawned (Runnable ∷ Ended 1 ∷ Free ∷ Free ∷ []) ≡ Runnable ∷ Ended 1
    ∷ Runnable ∷ Free ∷ []
the_lowest_free_hart_starts = refl

none_is_free : lowest_free (Runnable ∷ Ended 1 ∷ []) ≡ None
none_is_free = refl

hart_0_is_not_joined : join_end crew 2 0 ≡ Bad
hart_0_is_not_joined = refl

none_joins_itself : join_end crew 2 2 ≡ Bad
none_joins_itself = refl

a_free_hart_is_not_joined : join_end crew 2 1 ≡ Bad
a_free_hart_is_not_joined = refl

no_such_hart : join_end crew 2 8 ≡ Bad
no_such_hart = refl

a_joined_hart_is_not_joined : join_end (Runnable ∷ Runnable ∷ Joining 1 ∷ []) 0 1 ≡ Bad
a_joined_hart_is_not_joined = refl

an_ended_hart_hands_its_code_on : join_end crew 2 3 ≡ Done 7
an_ended_hart_hands_its_code_on = refl

an_ended_hart_becomes_free : joined (Runnable ∷ Ended 7 ∷ []) 0 1 ≡ Runnable ∷ Free ∷ []
an_ended_hart_becomes_free = refl

the_caller_waits_for_the_end : joined (Runnable ∷ Waiting 64 ∷ []) 0 1 ≡ Joining 1 ∷ Waiting 64 ∷ []
the_caller_waits_for_the_end = refl

the_lowest_waiters_wake : woken crew 64 2 ≡ Runnable ∷ Free ∷ Runnable ∷ Ended 7 ∷ Runnable
    ∷ Waiting 68 ∷ Runnable ∷ Waiting 64 ∷ []
the_lowest_waiters_wake = refl

two_wake : woken_count crew 64 2 ≡ 2
two_wake = refl

all_three_wake : woken_count crew 64 9 ≡ 3
all_three_wake = refl

none_wakes : woken crew 64 0 ≡ crew
none_wakes = refl

the_joiner_goes_on : exited (Joining 2 ∷ Free ∷ Runnable ∷ []) 2 5 ≡ Runnable ∷ Free ∷ Free ∷ []
the_joiner_goes_on = refl

the_joiner_is_answered : joiner_of (Joining 2 ∷ Free ∷ Runnable ∷ []) 2 ≡ Some 0
the_joiner_is_answered = refl

the_code_is_kept : exited (Runnable ∷ Free ∷ Runnable ∷ []) 2 5 ≡ Runnable ∷ Free ∷ Ended 5 ∷ []
the_code_is_kept = refl

all_have_ended : finished_code (Ended 3 ∷ Free ∷ Ended 5 ∷ []) ≡ Some 3
all_have_ended = refl

one_waits : finished_code (Ended 3 ∷ Free ∷ Waiting 64 ∷ []) ≡ None
one_waits = refl
