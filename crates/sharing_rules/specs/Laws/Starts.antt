-- Starts, written lines and openings after one access more.
use Rattle.std.proofs.Common.{◌≡◌, ℕ, ◌+◌, ◌*◌, ◌%◌, ◌<◌, ◌≤◌, Bool, true, false, cond, eqb, leb}
use Rattle.std.proofs.Common.{◌&&◌, ◌||◌, List, [], ◌∷◌, ◌++◌, Option, Some, None, length, take}
use Rattle.std.proofs.Common.{refl, sym, ap, ◌∙◌, arith, inl, inr}
use Rattle.std.proofs.lemmas.List.{length-take-le}
use Rattle.std.proofs.lemmas.List.Sums.{sum_by_push}
use Rattle.std.proofs.lemmas.Bool.{false≢true, and_parts, and_from, and_left, le-leb, lt-leb}
use Rattle.std.proofs.lemmas.Bool.Decides.{nat_tests}
use Rattle.std.proofs.Math.Nat.{add-zero}
use Rattle.std.proofs.Math.Bool.{or-false}
use Rattle.std.specs.Prelude.{if◌then◌else◌, is_some, slice_get}
use Rattle.std.specs.Option.{option_or}
use Rattle.base.specs.Touch.{Touch}
use Rattle.sharing_rules.specs.AccessLists.{writes_to}
use Rattle.sharing_rules.specs.Places.{passes_at}
use Rattle.sharing_rules.specs.Observed.{write_count, observed_start, first_write_from}
use Rattle.sharing_rules.specs.Predicted.{is_opening, shifted_opening, doubled_opening}
use Rattle.sharing_rules.specs.Laws.Places.{first_place-empty, first_place-push, first_place-passes}
use Rattle.sharing_rules.specs.Laws.Places.{first_place-within, first_place-least}
use Rattle.sharing_rules.specs.Laws.Lists.{by_push, slice_cases}

pub write_count-push : (inside : ℕ → Bool) (t : List Touch) (a : Touch)
    → write_count inside (t ++ a ∷ []) ≡ write_count inside t + (if writes_to inside a then 1
    else 0)
write_count-push inside t a = sum_by_push (λ (x : Touch). cond (writes_to inside x) 1 0) t a

pub observed_start-push : (T : ℕ) (inside : ℕ → Bool) (t : List Touch) (a : Touch)
    → observed_start T inside (t ++ a ∷ []) ≡ option_or (observed_start T inside t)
    (if writes_to inside a && eqb (write_count inside t + 1) T then Some (length t) else None)
observed_start-push T inside t a = first_place-push
    (λ before b. writes_to inside b && eqb (write_count inside before + 1) T) t a

pub first_write_from-push : (from : ℕ) (inside : ℕ → Bool) (t : List Touch) (a : Touch)
    → first_write_from from inside (t ++ a ∷ []) ≡ option_or (first_write_from from inside t)
    (if leb from (length t) && writes_to inside a then Some (length t) else None)
first_write_from-push from inside t a = first_place-push
    (λ before b. leb from (length before) && writes_to inside b) t a

pub shifted_opening-push : (n T P k : ℕ) (t : List Touch) (a : Touch)
    → shifted_opening n T P k (t ++ a ∷ []) ≡ option_or (shifted_opening n T P k t)
    (if is_opening n T P n k t a then Some (length t) else None)
shifted_opening-push n T P k t a = first_place-push (is_opening n T P n k) t a

pub doubled_opening-push : (n T P k : ℕ) (t : List Touch) (a : Touch)
    → doubled_opening n T P k (t ++ a ∷ []) ≡ option_or (doubled_opening n T P k t)
    (if eqb (k % 2) 1 && is_opening n T P (2 * n) k t a then Some (length t) else None)
doubled_opening-push n T P k t a = first_place-push
    (λ before b. eqb (k % 2) 1 && is_opening n T P (2 * n) k before b) t a

either_some : {X : Type 0} (o : Option X) (b : Bool) (x : X)
    → is_some (option_or o (if b then Some x else None)) ≡ (is_some o || b)
either_some None true x = refl
either_some None false x = refl
either_some (Some y) b x = refl

reaches : (T n : ℕ) (w : Bool) → (leb T n || (w && eqb (n + 1) T)) ≡ leb T
    (n + (if w then 1 else 0))
reaches T n true = grind (arith, nat_tests)
reaches T n false = rw (or-false, add-zero)

-- a line is observed exactly where it has at least T writes
pub observed_start-is_some : (T : ℕ) (inside : ℕ → Bool) (t : List Touch) → 0 < T
    → is_some (observed_start T inside t) ≡ leb T (write_count inside t)
observed_start-is_some T inside t some =
    by_push (λ (t : List Touch). is_some (observed_start T inside t) ≡ leb T (write_count inside t))
    (rw (first_place-empty
    (λ before a. writes_to inside a && eqb (write_count inside before + 1) T))
    (grind (arith, nat_tests)))
    (λ t a ih. rw (observed_start-push T inside t a, either_some, write_count-push inside t a, ih)
    (reaches T (write_count inside t) (writes_to inside a)))
    t

passes_from : (s : ℕ) (inside : ℕ → Bool) (t : List Touch) (i : ℕ) (a : Touch)
    → slice_get t i ≡ Some a → i ≤ length t
    → passes_at (λ before b. leb s (length before) && writes_to inside b) t i ≡
    (leb s i && writes_to inside a)
passes_from s inside t i a e le = rw (e, length-take-le i t le)

-- an observed line's start is its first write from there on
pub observed_start-first_write : (T : ℕ) (inside : ℕ → Bool) (t : List Touch) (s : ℕ)
    → observed_start T inside t ≡ Some s → first_write_from s inside t ≡ Some s
observed_start-first_write T inside t s e =
    let asked : List Touch → Touch → Bool = λ before a. writes_to inside a && eqb
    (write_count inside before + 1) T in
    let later : List Touch → Touch → Bool = λ before a. leb s (length before) && writes_to inside a
    in
    let within : s < length t = first_place-within asked t s e in
    let k = first_place-passes asked t s e in
    elim (slice_cases (slice_get t s)) [
      | inl none ↦ let z : false ≡ true = rw none at k in absurd (false≢true z)
      | inr some ↦
          let z : asked (take s t) some.0 ≡ true = rw some.1 at k in
          let here : passes_at later t s ≡ true = passes_from s inside t s some.0 some.1
          (omega arith) ∙ and_from _ _ (le-leb s s (omega arith)) (and_parts _ _ z).0 in
          first_place-least later t s within here
          (λ j below. elim (slice_cases (slice_get t j)) [
            | inl past ↦ rw past
            | inr there ↦ passes_from s inside t j there.0 there.1 (omega arith)
                ∙ and_left _ _ (lt-leb s j below)
          ])
    ]

one_write : (n : ℕ) (w : Bool) → leb 1 n ≡ false → (w && eqb (n + 1) 1) ≡ (true && w)
one_write n true e = grind (arith, nat_tests)
one_write n false e = refl

-- at threshold 1 a line is observed from its first write on
pub observed_start-one : (inside : ℕ → Bool) (t : List Touch)
    → observed_start 1 inside t ≡ first_write_from 0 inside t
observed_start-one inside t =
    by_push (λ (t : List Touch). observed_start 1 inside t ≡ first_write_from 0 inside t)
    (first_place-empty (λ before a. writes_to inside a && eqb (write_count inside before + 1) 1)
    ∙ sym (first_place-empty (λ before a. leb 0 (length before) && writes_to inside a)))
    (λ t a ih. elim (slice_cases (observed_start 1 inside t)) [
      | inl none ↦
          let few : leb 1 (write_count inside t) ≡ false =
          sym (observed_start-is_some 1 inside t (omega arith)) ∙ ap is_some none in
          rw (
            observed_start-push 1 inside t a,
            first_write_from-push 0 inside t a,
            ← ih,
            none,
            one_write (write_count inside t) (writes_to inside a) few,
            le-leb 0 (length t) (omega arith),
          )
      | inr some ↦ rw (
        observed_start-push 1 inside t a,
        first_write_from-push 0 inside t a,
        ← ih,
        some.1,
      )
    ])
    t
