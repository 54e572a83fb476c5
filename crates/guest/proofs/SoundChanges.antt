-- Which changes of one hart's phase keep the phases sound.
use Rattle.std.proofs.Common.{◌≡◌, ◌≢◌, ℕ, ◌<◌, ◌∙◌, Bool, true, false, List, length, set, refl}
use Rattle.std.proofs.Common.{sym, subst, arith, inl, inr, Option, None}
use Rattle.std.proofs.Common.{Some, ap}
use Rattle.std.specs.List.{count_by}
use Rattle.std.proofs.lemmas.Bool.{eqb-true, eqb-false, ne_eqb, cases_Bool, cases_eq, both_ways}
use Rattle.std.proofs.lemmas.Bool.{and_parts, ltb-true, not-true}
use Rattle.std.proofs.lemmas.List.{length-set, map-set}
use Rattle.std.proofs.lemmas.List.Quantifiers.{position-Some}
use Rattle.guest.specs.declared.phase.HartPhase.{HartPhase}
use Rattle.guest.specs.declared.phase.HartPhase.TheVariants.{Free, Runnable, Joining, Waiting}
use Rattle.guest.specs.declared.phase.HartPhase.TheVariants.{Ended}
use Rattle.guest.specs.Phases.{phase_of, is_free, is_joining, is_over, is_runnable, ended_code}
use Rattle.guest.specs.Phases.{lone_runnable}
use Rattle.guest.specs.ThreadCalls.{can_join, joiner_of}
use Rattle.guest.specs.ThreadChanges.{CanJoin}
use Rattle.guest.specs.ThreadsInside.{IsKept}
use Rattle.guest.specs.ThreadsSound.{IsSound}
use Rattle.guest.proofs.ThreadPlaces.{same_at, other_at, none_passes}

-- what a new phase of a hart must be like, so that the phases stay sound
pub record CanTake (phases : List HartPhase) (hart : ℕ) (phase : HartPhase) : Type 0 where
  pub first : hart ≡ 0 → is_free phase ≡ false
  pub goes_on : (k : ℕ) → is_joining hart (phase_of phases k) ≡ true → is_over phase ≡ false
  pub unjoined : is_joining 0 phase ≡ false
  pub joined : (target : ℕ) → is_joining target phase ≡ true → (target ≢ hart)
      × (is_over (phase_of phases target) ≡ false)
      × ((k : ℕ) → is_joining target (phase_of phases k) ≡ false)

first_stays : (phases : List HartPhase) (hart : ℕ) (phase : HartPhase) → IsSound phases
    → hart < length phases → CanTake phases hart phase
    → is_free (phase_of (set phases hart phase) 0) ≡ false
first_stays phases hart phase sound within can =
    elim (cases_eq 0 hart) [
      | inl same ↦ rw (same_at phases hart phase within 0 same) (can.first (sym same))
      | inr other ↦ rw (other_at phases hart phase within 0 other) sound.first
    ]

unjoined_stays : (phases : List HartPhase) (hart : ℕ) (phase : HartPhase) → IsSound phases
    → hart < length phases
    → CanTake phases hart phase → (k : ℕ) → is_joining 0 (phase_of (set phases hart phase) k)
    ≡ false
unjoined_stays phases hart phase sound within can k =
    elim (cases_eq k hart) [
      | inl same ↦ rw (same_at phases hart phase within k same) can.unjoined
      | inr other ↦ rw (other_at phases hart phase within k other) (sound.unjoined k)
    ]

-- a hart that is joined after the change: by an old joiner, or by the hart whose phase is new
over_stays : (phases : List HartPhase) (hart : ℕ) (phase : HartPhase) → IsSound phases
    → hart < length phases → CanTake phases hart phase
    → (k target : ℕ) → is_joining target (phase_of (set phases hart phase) k) ≡ true
    → is_over (phase_of (set phases hart phase) target) ≡ false
over_stays phases hart phase sound within can k target joins =
    elim (cases_eq k hart) [
      | inl same ↦
          let new : is_joining target phase ≡ true = rw (same_at phases hart phase within k same) at
          joins in
          let fact = can.joined target new in
          rw (other_at phases hart phase within target fact.0) fact.1
      | inr other ↦
          let old : is_joining target (phase_of phases k)
          ≡ true = rw (other_at phases hart phase within k other) at joins in
          elim (cases_eq target hart) [
            | inl here ↦
                let here_old : is_joining hart (phase_of phases k) ≡ true = rw here at old in
                rw (same_at phases hart phase within target here) (can.goes_on k here_old)
            | inr there ↦ rw (other_at phases hart phase within target there)
                (sound.goes_on k target old)
          ]
    ]

once_stays : (phases : List HartPhase) (hart : ℕ) (phase : HartPhase) → IsSound phases
    → hart < length phases → CanTake phases hart phase
    → (j k target : ℕ) → is_joining target (phase_of (set phases hart phase) j) ≡ true
    → is_joining target (phase_of (set phases hart phase) k) ≡ true → j ≡ k
once_stays phases hart phase sound within can j k target first second =
    elim (cases_eq j hart) [
      | inl j_new ↦
          let new : is_joining target phase ≡ true = rw (same_at phases hart phase within j j_new)
          at first in
          elim (cases_eq k hart) [
            | inl k_new ↦ j_new ∙ sym k_new
            | inr k_old ↦ absurd (both_ways _ ((can.joined target new).2 k)
                (rw (other_at phases hart phase within k k_old) at second))
          ]
      | inr j_old ↦
          let old : is_joining target (phase_of phases j)
          ≡ true = rw (other_at phases hart phase within j j_old) at first in
          elim (cases_eq k hart) [
            | inl k_new ↦ let new : is_joining target phase
                ≡ true = rw (same_at phases hart phase within k k_new) at second in
                absurd (both_ways _ ((can.joined target new).2 j) old)
            | inr k_old ↦ sound.once j k target old
                (rw (other_at phases hart phase within k k_old) at second)
          ]
    ]

pub keeps : (phases : List HartPhase) (hart : ℕ) (phase : HartPhase) → IsSound phases
    → hart < length phases → CanTake phases hart phase
    → IsSound (set phases hart phase)
keeps phases hart phase sound within can = record {
  some = rw (length-set phases hart phase) sound.some;
  most = rw (length-set phases hart phase) sound.most;
  first = first_stays phases hart phase sound within can;
  unjoined = unjoined_stays phases hart phase sound within can;
  goes_on = over_stays phases hart phase sound within can;
  once = once_stays phases hart phase sound within can;
}

-- a hart can run or wait at any time
pub keeps_runnable : (phases : List HartPhase) (hart : ℕ) → IsSound phases → hart < length phases
    → IsSound (set phases hart Runnable)
keeps_runnable phases hart sound within =
    keeps phases hart Runnable sound within (record {
      first = λ _. refl;
      goes_on = λ _ _. refl;
      unjoined = refl;
      joined = λ target never. absurd (both_ways false refl never);
    })

pub keeps_waiting : (phases : List HartPhase) (hart addr : ℕ) → IsSound phases
    → hart < length phases
    → IsSound (set phases hart (Waiting addr))
keeps_waiting phases hart addr sound within =
    keeps phases hart (Waiting addr) sound within (record {
      first = λ _. refl;
      goes_on = λ _ _. refl;
      unjoined = refl;
      joined = λ target never. absurd (both_ways false refl never);
    })

-- a hart that no other joins can end, and, if it isn't hart 0, become free
pub keeps_ended : (phases : List HartPhase) (hart code : ℕ) → IsSound phases → hart < length phases
    → ((k : ℕ) → is_joining hart (phase_of phases k) ≡ false)
    → IsSound (set phases hart (Ended code))
keeps_ended phases hart code sound within alone =
    keeps phases hart (Ended code) sound within (record {
      first = λ _. refl;
      goes_on = λ k joins. absurd (both_ways _ (alone k) joins);
      unjoined = refl;
      joined = λ target never. absurd (both_ways false refl never);
    })

pub keeps_free : (phases : List HartPhase) (hart : ℕ) → IsSound phases → hart < length phases
    → hart ≢ 0
    → ((k : ℕ) → is_joining hart (phase_of phases k) ≡ false) → IsSound (set phases hart Free)
keeps_free phases hart sound within later alone =
    keeps phases hart Free sound within (record {
      first = λ zero. absurd (later zero);
      goes_on = λ k joins. absurd (both_ways _ (alone k) joins);
      unjoined = refl;
      joined = λ target never. absurd (both_ways false refl never);
    })

-- a hart can join another one that goes on, isn't hart 0 and is joined by none
pub keeps_joining : (phases : List HartPhase) (hart target : ℕ) → IsSound phases
    → hart < length phases → target ≢ 0 → target ≢ hart
    → is_over (phase_of phases target) ≡ false
    → ((k : ℕ) → is_joining target (phase_of phases k) ≡ false)
    → IsSound (set phases hart (Joining target))
keeps_joining phases hart target sound within later other goes alone =
    keeps phases hart (Joining target) sound within (record {
      first = λ _. refl;
      goes_on = λ _ _. refl;
      unjoined = ne_eqb target 0 later;
      joined = λ t same.
          let here : target ≡ t = eqb-true target t same in
          subst (λ (u : ℕ). (u ≢ hart) × (is_over (phase_of phases u) ≡ false)
          × ((k : ℕ) → is_joining u (phase_of phases k) ≡ false)) here
          (other, goes, alone);
    })

-- after the joiner of a hart was made runnable, no hart joins it
pub alone_after : (phases : List HartPhase) (joiner hart : ℕ) → IsSound phases
    → joiner < length phases
    → is_joining hart (phase_of phases joiner) ≡ true → (k : ℕ)
    → is_joining hart (phase_of (set phases joiner Runnable) k) ≡ false
alone_after phases joiner hart sound within joins k =
    elim (cases_eq k joiner) [
      | inl same ↦ rw (same_at phases joiner Runnable within k same) refl
      | inr other ↦
          rw (other_at phases joiner Runnable within k other)
          (elim (cases_Bool (is_joining hart (phase_of phases k))) [
            | inl also ↦ absurd (other (sound.once k joiner hart also joins))
            | inr apart ↦ apart
          ])
    ]

-- a hart that is joined isn't hart 0
pub joined_later : (phases : List HartPhase) (joiner hart : ℕ) → IsSound phases
    → is_joining hart (phase_of phases joiner) ≡ true → hart ≢ 0
joined_later phases joiner hart sound joins zero = both_ways _ (sound.unjoined joiner)
    (rw zero at joins)

-- what it means that a hart can be joined
pub joins : (phases : List HartPhase) (caller target : ℕ) → can_join phases caller target ≡ true
    → CanJoin phases caller target
joins phases caller target can =
    let all = and_parts _ _ can in
    let most = and_parts _ _ all.0 in
    let some = and_parts _ _ most.0 in
    let first = and_parts _ _ some.0 in
    record {
      there = ltb-true target (length phases) first.0;
      later = eqb-false target 0 (not-true _ first.1);
      other = eqb-false target caller (not-true _ some.1);
      taken = not-true _ most.1;
      alone = none_passes (is_joining target) refl phases (not-true _ all.1);
    }

-- a hart that is neither free nor ended goes on
pub goes_on_since : (phase : HartPhase) → is_free phase ≡ false → ended_code phase ≡ None
    → is_over phase ≡ false
goes_on_since Free taken lasts = taken
goes_on_since Runnable taken lasts = refl
goes_on_since (Joining hart) taken lasts = refl
goes_on_since (Waiting addr) taken lasts = refl
goes_on_since (Ended code) taken lasts = cc

-- what is kept after one hart's phase was set
pub set_kept : (marks : List Bool) (phases now : List HartPhase) (running count place hart : ℕ)
    (only o : Option ℕ) (runs : Bool)
    (phase : HartPhase) → IsKept phases marks running only → phases ≡ now → place ≡ hart → runs
    ≡ is_runnable phase
    → (IsSound now → IsSound (set now hart phase)) → count
    ≡ count_by is_runnable (set phases place phase)
    → o ≡ lone_runnable (set phases place phase) → IsKept (set phases place phase)
    (set marks place runs) count o
set_kept marks phases now running count place hart only o runs phase old view at is kept counts
    found = record {
      sound = rw (at, view) (kept (subst IsSound view old.sound));
      marked = rw (old.marked, is) (sym (map-set is_runnable phases place phase));
      counted = counts;
      known = found;
    }

-- where a hart joins this one, it is made runnable first, and then this one can become free
pub keeps_freed : (phases new : List HartPhase) (place joiner hart : ℕ) → IsSound phases
    → hart < length phases
    → Some place ≡ joiner_of phases hart → joiner ≡ place → new ≡ set phases joiner Runnable
    → IsSound new → IsSound (set new hart Free)
keeps_freed phases new place joiner hart sound within found is after sound_new =
    let first = position-Some (is_joining hart) phases place Free (sym found) in
    let there : joiner < length phases = omega (arith, first.0) in
    let joins_it : is_joining hart (phase_of phases joiner) ≡ true = rw is first.1 in
    let same : length new ≡ length phases = ap (λ (xs : List HartPhase). length xs) after
    ∙ length-set phases joiner Runnable in
    keeps_free new hart sound_new (omega arith) (joined_later phases joiner hart sound joins_it)
    (λ k. rw after (alone_after phases joiner hart sound there joins_it k))
