-- The least place of a heap for a block, said by a quantifier, is what the search from below finds.
use Rattle.std.proofs.Common.{◌≡◌, ℕ, zero, suc, ◌<◌, ◌≤◌, Bool, true, false, Option, Some, None}
use Rattle.std.proofs.Common.{refl, sym, ap, ◌∙◌, arith, inl, inr}
use Rattle.std.proofs.Common.{subst, true≢false}
use Rattle.std.specs.Prelude.{MatchOption, if◌then◌else◌, nat_lt, not, ◌&&◌}
use Rattle.std.specs.Option.{option_or}
use Rattle.std.proofs.lemmas.Bool.{cases_Bool, cases_eq, ltb-true}
use Rattle.std.proofs.lemmas.Option.{none-some}
use Rattle.std.proofs.lemmas.Bool.Decides.{nat_tests}
use Rattle.guest.specs.Heaps.{Heap, can_stand, IsLeastPlace, HasNoPlace}
use Rattle.guest.specs.Heaps.{after_alloc}
use Rattle.guest.specs.LeastPlaces.{least_below, least_place}
use Rattle.guest.specs.Configs.{Config, value_in}
use Rattle.guest.specs.GuestCalls.{RunTurn, block_answered, allocated, alloc_turn}
use Rattle.guest.specs.Notes.{is_noted}
use Rattle.guest.specs.Turns.{chosen, wants_memory}

below-none : (p : ℕ → Bool) (n : ℕ) → ((i : ℕ) → i < n → p i ≡ false) → least_below p n ≡ None
below-none p zero none = refl
below-none p (suc n) none = rw (below-none p n (λ i l. none i (omega arith)), none n (omega arith))
    refl

below-least : (p : ℕ → Bool) (n i : ℕ) → i < n → p i ≡ true → ((j : ℕ) → p j ≡ true → i ≤ j)
    → least_below p n ≡ Some i
below-least p zero i l e least = absurd (omega (arith, l))
below-least p (suc n) i l e least =
    elim (cases_eq i n) [
      | inl here ↦
          let none_before : (j : ℕ) → j < n → p j ≡ false =
          λ j under. elim (cases_Bool (p j)) [
            | inl passes ↦ absurd (omega (arith, least j passes, here, under))
            | inr fails ↦
                fails
          ] in
          let passes_here : p n ≡ true = subst (λ k. p k ≡ true) here e in
          rw (below-none p n none_before, passes_here, here) refl
      | inr other ↦ rw (below-least p n i (omega arith) e least) refl
    ]

place-below : (h : Heap) (size place : ℕ) → can_stand h size place ≡ true → place < h.end
place-below h size place stands = grind (arith, nat_tests)

pub placed-least : (h : Heap) (size : ℕ) (o : Option ℕ) → MatchOption o (HasNoPlace h size)
    (IsLeastPlace h size) → o ≡ least_place h size
unfolding least_place
placed-least h size None none = sym (below-none (can_stand h size) h.end (λ i l. none i))
placed-least h size (Some place) least =
    sym (below-least (can_stand h size) h.end place (place-below h size place least.0) least.0
    least.1)

-- a block that was made at the heap's place is that of the call
pub block-made : (hart size : ℕ) (c d : Config) (heap : Heap) (place : Option ℕ) (t : RunTurn)
    → t ≡ block_answered hart size place d → d ≡ chosen (record c { heap = heap }) → heap
    ≡ after_alloc c.heap size place
    → size ≡ value_in c hart 10 → place ≡ least_place c.heap size → t ≡ alloc_turn hart (chosen c)
block-made hart size c d heap place t turn took made asked least =
    turn
    ∙ (ap (block_answered hart size place) took
    ∙ (ap (λ (h : Heap). block_answered hart size place (record (chosen c) { heap = h })) made
    ∙ (ap (allocated hart size (chosen c)) least
    ∙ ap (λ (n : ℕ). allocated hart n (chosen c) (least_place c.heap n)) asked)))

or-none : (a b : Option ℕ) → option_or a b ≡ None → (a ≡ None) × (b ≡ None)
or-none None b h = (refl, h)
or-none (Some x) b h = absurd (none-some x (sym h))

no-some : (b : Bool) (n : ℕ) → (if b then Some n else None) ≡ None → b ≡ false
no-some true n h = absurd (none-some n (sym h))
no-some false n h = refl

none-below : (p : ℕ → Bool) (n i : ℕ) → least_below p n ≡ None → i < n → p i ≡ false
none-below p zero i none l = absurd (omega (arith, l))
none-below p (suc n) i none l =
    let parts = or-none (least_below p n) (if p n then Some n else None) none in
    elim (cases_eq i n) [
      | inl here ↦ rw here (no-some (p n) n parts.1)
      | inr other ↦ none-below p n i parts.0 (omega (arith, l))
    ]

-- where the search from below finds no place, there is none
least-none : (h : Heap) (size : ℕ) → least_place h size ≡ None → HasNoPlace h size
unfolding least_place
least-none h size none = λ q.
    elim (cases_Bool (can_stand h size q)) [
      | inl stands ↦ none-below (can_stand h size) h.end q none (place-below h size q stands)
      | inr fails ↦ fails
    ]

-- a block of the heap is no noted one
of-heap : (n : ℕ) (x b : Bool) → b ≡ nat_lt n n → not (b && x) ≡ true
of-heap n x false is = refl
of-heap n x true is = absurd (omega (arith, ltb-true n n (sym is)))

no-block : (hart size : ℕ) (o : Option ℕ) (c : Config)
    → wants_memory c (block_answered hart size o c) ≡ false → o ≡ None
no-block hart size None c h = refl
no-block hart size (Some place) c h =
    absurd (true≢false
    (sym (of-heap c.notes.made (is_noted c.notes place) (nat_lt c.notes.made c.notes.made) refl)
    ∙ h))

-- a call that wants no memory is one whose heap has no place
pub unmade-block : (hart size : ℕ) (c : Config) → size ≡ value_in c hart 10
    → wants_memory c (alloc_turn hart (chosen c)) ≡ false → HasNoPlace c.heap size
unmade-block hart size c asked h =
    rw asked
    (least-none c.heap (value_in c hart 10)
    (no-block hart (value_in c hart 10) (least_place c.heap (value_in c hart 10)) _ h))
