-- The calls change no number of harts.
use Rattle.std.proofs.Common.{◌≡◌, ℕ, ◌∙◌, List, length, Option, Some, None, refl, set}
use Rattle.std.specs.List.{range_with_len}
use Rattle.std.proofs.lemmas.List.{length-set, length-map}
use Rattle.std.proofs.lemmas.List.FromFn.{length-range_with_len}
use Rattle.guest.specs.declared.phase.HartPhase.{HartPhase}
use Rattle.guest.specs.declared.phase.HartPhase.TheVariants.{Free, Runnable, Joining, Ended}
use Rattle.guest.specs.declared.phase.JoinEnd.{JoinEnd}
use Rattle.guest.specs.declared.phase.JoinEnd.TheVariants.{Bad, Done, Waits}
use Rattle.guest.specs.ThreadCalls.{started, lowest_free, spawned, after_join, join_end, joined}
use Rattle.guest.specs.ThreadCalls.{woken_phase, woken, after_exit, joiner_of}
use Rattle.guest.specs.ThreadCalls.{exited}

length-started : (phases : List HartPhase) (o : Option ℕ) → length (started phases o)
    ≡ length phases
length-started phases None = refl
length-started phases (Some hart) = length-set phases hart Runnable

pub length-spawned : (phases : List HartPhase) → length (spawned phases) ≡ length phases
length-spawned phases = length-started phases (lowest_free phases)

length-after_join : (phases : List HartPhase) (caller target : ℕ) (e : JoinEnd)
    → length (after_join phases caller target e) ≡ length phases
length-after_join phases caller target Bad = refl
length-after_join phases caller target (Done code) = length-set phases target Free
length-after_join phases caller target Waits = length-set phases caller (Joining target)

pub length-joined : (phases : List HartPhase) (caller target : ℕ)
    → length (joined phases caller target) ≡ length phases
length-joined phases caller target = length-after_join phases caller target
    (join_end phases caller target)

pub length-woken : (phases : List HartPhase) (addr most : ℕ) → length (woken phases addr most)
    ≡ length phases
length-woken phases addr most = length-map (range_with_len 0 (length phases))
    (woken_phase phases addr most)
    ∙ length-range_with_len 0 (length phases)

length-after_exit : (phases : List HartPhase) (caller code : ℕ) (o : Option ℕ)
    → length (after_exit phases caller code o) ≡ length phases
length-after_exit phases caller code None = length-set phases caller (Ended code)
length-after_exit phases caller code (Some joiner) = length-set (set phases joiner Runnable) caller
    Free ∙ length-set phases joiner Runnable

pub length-exited : (phases : List HartPhase) (caller code : ℕ) → length (exited phases caller code)
    ≡ length phases
length-exited phases caller code = length-after_exit phases caller code (joiner_of phases caller)
