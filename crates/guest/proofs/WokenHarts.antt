-- The phases while harts are woken one after another, from hart 0 on.
use Rattle.std.proofs.Common.{◌≡◌, ◌≢◌, ℕ, ◌+◌, ◌<◌, ◌≤◌, ◌∙◌, true, false, List, length, set, min}
use Rattle.std.proofs.Common.{refl, sym, ap, arith, inl, inr}
use Rattle.std.proofs.Common.{get_or-set_same, get_or-set_other}
use Rattle.std.specs.List.{count_by}
use Rattle.std.proofs.lemmas.Bool.{cases_Bool, cases_eq, cases_lt, both_ways, lt-ltb, le-ltb}
use Rattle.std.proofs.lemmas.Bool.{and_left, and_right}
use Rattle.std.proofs.lemmas.List.{length-set, ext_get_or, get_or_past, take_all}
use Rattle.std.proofs.lemmas.List.FromFn.{get_or-map-range_with_len}
use Rattle.std.proofs.lemmas.List.Sums.{count_by_more_yes, count_by_more_no}
use Rattle.guest.specs.declared.phase.HartPhase.{HartPhase}
use Rattle.guest.specs.declared.phase.HartPhase.TheVariants.{Free, Runnable}
use Rattle.guest.specs.Phases.{phase_of, is_waiting_at}
use Rattle.guest.specs.ThreadCalls.{waiters_below, is_woken, woken_phase, woken, woken_count}
use Rattle.guest.specs.ThreadChanges.{WakesLowest}
use Rattle.guest.proofs.CallLengths.{length-woken}

-- the harts below a place were woken, those that are to be, and `count` is how many
pub record WakesBelow (old new : List HartPhase) (addr most place count : ℕ) : Type 0 where
  pub same_length : length new ≡ length old
  pub counted : count ≡ min most (waiters_below old addr place)
  pub done : (k : ℕ) → k < place → phase_of new k ≡ woken_phase old addr most k
  pub left : (k : ℕ) → place ≤ k → phase_of new k ≡ phase_of old k

pub wakes_none : (old : List HartPhase) (addr most : ℕ) → WakesBelow old old addr most 0 0
wakes_none old addr most = record {
  same_length = refl;
  counted = omega arith;
  done = λ k below.
      absurd (omega arith);
  left = λ k _. refl;
}

pub woken_at : (old : List HartPhase) (addr most k : ℕ) → is_waiting_at addr (phase_of old k) ≡ true
    → waiters_below old addr k < most
    → woken_phase old addr most k ≡ Runnable
woken_at old addr most k waits few = rw (waits, lt-ltb _ _ few) refl

pub stays_at : (old : List HartPhase) (addr most k : ℕ) → is_woken old addr most k ≡ false
    → woken_phase old addr most k ≡ phase_of old k
stays_at old addr most k stays = rw stays refl

pub wakes_one : (old new : List HartPhase) (addr most place count : ℕ)
    → WakesBelow old new addr most place count → place < length old
    → count < most → is_waiting_at addr (phase_of new place) ≡ true
    → WakesBelow old (set new place Runnable) addr most (place + 1) (count + 1)
wakes_one old new addr most place count so_far within few waits =
    let waits_old : is_waiting_at addr (phase_of old place)
    ≡ true = rw (so_far.left place (omega arith)) at waits in
    let more : waiters_below old addr (place + 1) ≡ waiters_below old addr place + 1 =
    count_by_more_yes (is_waiting_at addr) old place Free within waits_old in
    let counted = so_far.counted in
    let room : waiters_below old addr place < most = omega arith in
    record {
      same_length = length-set new place Runnable ∙ so_far.same_length;
      counted = omega arith;
      done = λ k below.
          elim (cases_eq k place) [
            | inl here ↦
                let there : place < length new = omega (arith, so_far.same_length) in
                rw here (get_or-set_same new place Runnable Free there
                ∙ sym (woken_at old addr most place waits_old room))
            | inr other ↦ get_or-set_other new place k Runnable Free other
                ∙ so_far.done k (omega arith)
          ];
      left = λ k above. let other : k ≢ place = omega arith in get_or-set_other new place k Runnable
          Free other
          ∙ so_far.left k (omega arith);
    }

pub passes_waiter : (old new : List HartPhase) (addr most place count : ℕ)
    → WakesBelow old new addr most place count → place < length old
    → most ≤ count → WakesBelow old new addr most (place + 1) count
passes_waiter old new addr most place count so_far within many =
    let counted = so_far.counted in
    let full : most ≤ waiters_below old addr place = omega arith in
    record {
      same_length = so_far.same_length;
      counted = omega (arith, grows old addr place within);
      done = λ k below.
          elim (cases_eq k place) [
            | inl here ↦ rw here (so_far.left place (omega arith)
                ∙ sym (stays_at old addr most place (and_right _ _ (le-ltb _ _ full))))
            | inr other ↦ so_far.done k (omega arith)
          ];
      left = λ k above. so_far.left k (omega arith);
    }
  where
    grows : (phases : List HartPhase) (addr place : ℕ) → place < length phases
        → waiters_below phases addr place ≤ waiters_below phases addr (place + 1)
    grows phases addr place within =
        elim (cases_Bool (is_waiting_at addr (phase_of phases place))) [
          | inl waits ↦ omega (
            arith,
            count_by_more_yes (is_waiting_at addr) phases place Free
                within waits,
          )
          | inr no_waiter ↦ omega
              (arith, count_by_more_no (is_waiting_at addr) phases place Free within no_waiter)
        ]

pub passes_other : (old new : List HartPhase) (addr most place count : ℕ)
    → WakesBelow old new addr most place count → place < length old
    → is_waiting_at addr (phase_of new place) ≡ false → WakesBelow old new addr most (place + 1)
    count
passes_other old new addr most place count so_far within passes =
    let passes_old : is_waiting_at addr (phase_of old place)
    ≡ false = rw (so_far.left place (omega arith)) at passes in
    let same : waiters_below old addr (place + 1) ≡ waiters_below old addr place =
    count_by_more_no (is_waiting_at addr) old place Free within passes_old in
    let counted = so_far.counted in
    record {
      same_length = so_far.same_length;
      counted = omega arith;
      done = λ k below.
          elim (cases_eq k place) [
            | inl here ↦ rw here (so_far.left place (omega arith)
                ∙ sym (stays_at old addr most place (and_left _ _ passes_old)))
            | inr other ↦ so_far.done k (omega arith)
          ];
      left = λ k above. so_far.left k (omega arith);
    }

-- each hart of the woken list has the phase that it has there
pub phase_of-woken : (phases : List HartPhase) (addr most k : ℕ) → k < length phases
    → phase_of (woken phases addr most) k ≡ woken_phase phases addr most k
phase_of-woken phases addr most k within = get_or-map-range_with_len (woken_phase phases addr most)
    0 (length phases) k k Free within
    (omega arith)

-- once all places were passed, the phases are those of the call, and so is the number
pub wakes_all : (old new : List HartPhase) (addr most place count : ℕ)
    → WakesBelow old new addr most place count → length old ≤ place
    → new ≡ woken old addr most
wakes_all old new addr most place count so_far end =
    ext_get_or Free new (woken old addr most)
    (so_far.same_length ∙ sym (length-woken old addr most)) (λ k below.
    let within : k < length old = omega (arith, so_far.same_length) in
    so_far.done k (omega arith) ∙ sym (phase_of-woken old addr most k within))

pub counts_all : (old new : List HartPhase) (addr most place count : ℕ)
    → WakesBelow old new addr most place count → length old ≤ place
    → count ≡ woken_count old addr most
counts_all old new addr most place count so_far end = so_far.counted
    ∙ ap (λ (low : List HartPhase). min most (count_by (is_waiting_at addr) low))
    (take_all place old end)

pub wakes_lowest : (old new : List HartPhase) (addr most place count : ℕ)
    → WakesBelow old new addr most place count → length old ≤ place
    → WakesLowest old new addr most
wakes_lowest old new addr most place count so_far end = record {
  harts = so_far.same_length;
  woken = λ k waits few.
      elim (cases_lt k place) [
        | inl below ↦ so_far.done k below ∙ woken_at old addr most k waits few
        | inr past ↦
            let none : phase_of old k ≡ Free = get_or_past old k Free (omega arith) in
            let idle : is_waiting_at addr (phase_of old k) ≡ false = rw none refl in
            absurd (both_ways _ idle waits)
      ];
  later = λ k many.
      elim (cases_lt k place) [
        | inl below ↦ so_far.done k below ∙ stays_at old addr most k
            (and_right _ _ (le-ltb _ _ many))
        | inr past ↦ so_far.left k past
      ];
  others = λ k idle.
      elim (cases_lt k place) [
        | inl below ↦ so_far.done k below ∙ stays_at old addr most k (and_left _ _ idle)
        | inr past ↦ so_far.left k past
      ];
}
