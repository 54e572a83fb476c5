-- What each call returns to its caller, by the phases after it.
use Rattle.std.proofs.Common.{◌≡◌, ◌≢◌, ◌↔◌, ℕ, ◌<◌, ◌∙◌, Bool, true, false, List, length, map}
use Rattle.std.proofs.Common.{get_or, set, refl, sym, ap, arith, None}
use Rattle.std.proofs.Common.{Some}
use Rattle.std.proofs.lemmas.Bool.{eqb-true, both_ways}
use Rattle.std.proofs.lemmas.List.{length-set}
use Rattle.std.proofs.Math.ListN.{get_or-map}
use Rattle.std.proofs.lemmas.List.Quantifiers.{position-Some}
use Rattle.guest.specs.declared.phase.HartPhase.{HartPhase}
use Rattle.guest.specs.declared.phase.HartPhase.TheVariants.{Free, Runnable, Joining, Waiting}
use Rattle.guest.specs.declared.phase.HartPhase.TheVariants.{Ended}
use Rattle.guest.specs.Phases.{phase_of, is_free, is_joining, is_runnable}
use Rattle.guest.specs.ThreadCalls.{lowest_free, joiner_of}
use Rattle.guest.specs.ThreadChanges.{ChangesOnly, Starts, StartsNone, ExitsAlone, ExitsJoined}
use Rattle.guest.proofs.ThreadPlaces.{same_at, other_at, none_within, none_found}

free_since : (phase : HartPhase) → is_free phase ≡ true → phase ≡ Free
free_since Free free = refl
free_since Runnable free = absurd (both_ways _ refl free)
free_since (Joining hart) free = absurd (both_ways _ refl free)
free_since (Waiting addr) free = absurd (both_ways _ refl free)
free_since (Ended code) free = absurd (both_ways _ refl free)

joining_since : (target : ℕ) (phase : HartPhase) → is_joining target phase ≡ true → phase
    ≡ Joining target
joining_since target Free joins_it = absurd (both_ways _ refl joins_it)
joining_since target Runnable joins_it = absurd (both_ways _ refl joins_it)
joining_since target (Joining hart) joins_it = ap (λ (h : ℕ). Joining h)
    (eqb-true hart target joins_it)
joining_since target (Waiting addr) joins_it = absurd (both_ways _ refl joins_it)
joining_since target (Ended code) joins_it = absurd (both_ways _ refl joins_it)

-- a change of one hart's phase changes no other's
pub changes_one : (old new : List HartPhase) (hart : ℕ) (phase : HartPhase) → hart < length old
    → new ≡ set old hart phase
    → ChangesOnly hart old new
changes_one old new hart phase within after = record {
  harts = ap (λ (xs : List HartPhase). length xs) after ∙ length-set old hart phase;
  others = λ k other. rw after (other_at old hart phase within k other);
}

pub has_new : (old new : List HartPhase) (hart : ℕ) (phase : HartPhase) → hart < length old → new
    ≡ set old hart phase
    → phase_of new hart ≡ phase
has_new old new hart phase within after = rw after (same_at old hart phase within hart refl)

pub starts : (old new : List HartPhase) (place hart : ℕ) → Some place ≡ lowest_free old → hart
    ≡ place → new ≡ set old hart Runnable
    → Starts old new hart
starts old new place hart found is after =
    let first = position-Some is_free old place Free (sym found) in
    let there : hart < length old = omega (arith, first.0) in
    record {
      there = there;
      free = rw is (free_since _ first.1);
      lowest = λ k below. first.2 k (omega arith);
      runs = has_new old new hart Runnable there after;
      others = changes_one old new hart Runnable there after;
    }

none_free : (phases : List HartPhase) → None ≡ lowest_free phases → (k : ℕ) → k < length phases
    → is_free (phase_of phases k) ≡ false
none_free phases none k within = none_within is_free phases (sym none) k within

pub starts_none : (old : List HartPhase) → None ≡ lowest_free old → StartsNone old old
starts_none old none = record { full = none_free old none; same = refl }

pub exits_alone : (old new : List HartPhase) (caller code : ℕ) → caller < length old → None
    ≡ joiner_of old caller
    → new ≡ set old caller (Ended code) → ExitsAlone old new caller code
exits_alone old new caller code within none after = record {
  unjoined = none_found (is_joining caller) refl old (sym none);
  ended = has_new old new caller (Ended code) within after;
  others = changes_one old new caller (Ended code) within after;
}

pub exits_joined : (old mid new : List HartPhase) (place joiner caller : ℕ) → caller < length old
    → phase_of old caller ≡ Runnable
    → Some place ≡ joiner_of old caller → joiner ≡ place → mid ≡ set old joiner Runnable → new
    ≡ set mid caller Free
    → ExitsJoined old new caller joiner
exits_joined old mid new place joiner caller within runs found is first second =
    let found_first = position-Some (is_joining caller) old place Free (sym found) in
    let there : joiner < length old = omega (arith, found_first.0) in
    let joins_it : is_joining caller (phase_of old joiner) ≡ true = rw is found_first.1 in
    let one = changes_one old mid joiner Runnable there first in
    let caller_there : caller < length mid = omega (arith, one.harts) in
    let two = changes_one mid new caller Free caller_there second in
    let apart : joiner ≢ caller = λ same.
    both_ways _ (let idle : is_joining caller (phase_of old caller) ≡ false = rw runs refl in
    idle)
    (rw same at joins_it) in
    record {
      joined = joining_since caller _ joins_it;
      runs = two.others joiner apart ∙ has_new old mid joiner Runnable there first;
      free = has_new mid new caller Free caller_there second;
      harts = two.harts ∙ one.harts;
      others = λ k not_caller not_joiner. two.others k not_caller ∙ one.others k not_joiner;
    }

pub runnable_since : (phase : HartPhase) → is_runnable phase ≡ true → phase ≡ Runnable
runnable_since Free runs = absurd (both_ways _ refl runs)
runnable_since Runnable runs = refl
runnable_since (Joining hart) runs = absurd (both_ways _ refl runs)
runnable_since (Waiting addr) runs = absurd (both_ways _ refl runs)
runnable_since (Ended code) runs = absurd (both_ways _ refl runs)

-- a hart is marked exactly where it is runnable
pub marks_answer : (marks : List Bool) (phases : List HartPhase) → marks ≡ map is_runnable phases
    → (k : ℕ)
    → (get_or marks k false ≡ true) ↔ (phase_of phases k ≡ Runnable)
marks_answer marks phases marked k =
    let at : get_or marks k false ≡ is_runnable (phase_of phases k) =
    rw marked (get_or-map is_runnable phases k Free) in
    (λ marks_it. runnable_since _ (sym at ∙ marks_it), λ same. at ∙ ap is_runnable same)
