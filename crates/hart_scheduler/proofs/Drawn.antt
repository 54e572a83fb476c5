-- The runnable harts in order, and the one that a number draws.
use Rattle.std.proofs.Common.{◌≡◌, ℕ, zero, suc, ◌+◌, ◌-◌, ◌%◌, ◌<◌, ◌≤◌, Bool, true}
use Rattle.std.proofs.Common.{false, List, [], ◌∷◌, length, None, refl, sym, ap}
use Rattle.std.proofs.Common.{inl, inr, arith}
use Rattle.std.proofs.lemmas.Bool.{cases_Bool, cases_lt}
use Rattle.std.proofs.lemmas.Nat.{mod_below}
use Rattle.std.proofs.lemmas.Option.{none-some}
use Rattle.std.specs.Prelude.{IsTrue, slice_get}
use Rattle.std.specs.List.{find, filter, range_with_len}
use Rattle.std.specs.Option.{IfSome}
use Rattle.hart_scheduler.specs.Choices.{is_runnable, NoneRunnable, runnable_harts, drawn_hart}

module _ (p : ℕ → Bool) where
  filter-none : (xs : List ℕ) → ((x : ℕ) → p x ≡ false) → filter p xs ≡ []
  filter-none [] miss = refl
  filter-none (x ∷ xs) miss = rw (miss x) (filter-none xs miss)

  -- where none is found, none is left
  none-found : (xs : List ℕ) → length (filter p xs) ≡ 0 → find p xs ≡ None
  none-found [] none = refl
  none-found (x ∷ xs) none =
      elim (cases_Bool (p x)) [
        | inl hit ↦ absurd (let some : suc (length (filter p xs)) ≡ 0 = rw hit at none in
            omega (arith, some))
        | inr miss ↦ rw miss (none-found xs (rw miss at none))
      ]

  passes-at : (xs : List ℕ) (k : ℕ) → IfSome (slice_get (filter p xs) k) (λ x. p x ≡ true)
  passes-at [] k = tt
  passes-at (x ∷ xs) zero =
      elim (cases_Bool (p x)) [
        | inl hit ↦ rw hit hit
        | inr miss ↦ rw miss (passes-at xs zero)
      ]
  passes-at (x ∷ xs) (suc k) =
      elim (cases_Bool (p x)) [
        | inl hit ↦ rw hit (passes-at xs k)
        | inr miss ↦ rw miss (passes-at xs (suc k))
      ]

  filter-hit : (a end : ℕ) → a < end → p a ≡ true → filter p (range_with_len a (end - a))
      ≡ a ∷ filter p (range_with_len (a + 1) (end - (a + 1)))
  filter-hit a end below hit = let e : end - a ≡ suc (end - (a + 1)) = omega arith in
      rw e (rw hit refl)

  filter-miss : (a end : ℕ) → a < end → p a ≡ false → filter p (range_with_len a (end - a))
      ≡ filter p (range_with_len (a + 1) (end - (a + 1)))
  filter-miss a end below miss = let e : end - a ≡ suc (end - (a + 1)) = omega arith in
      rw e (rw miss refl)

-- a list has an element at each place before its end
within-get : (xs : List ℕ) (k : ℕ) → k < length xs → slice_get xs k ≡ None → ⊥
within-get [] k below none = absurd (omega arith)
within-get (x ∷ xs) zero below none = none-some x (sym none)
within-get (x ∷ xs) (suc k) below none = within-get xs k (omega arith) none

-- the runnable harts below an end, from a place on
abbrev pub runnable_from : List Bool → ℕ → ℕ → List ℕ
runnable_from runnable a end = filter (is_runnable runnable) (range_with_len a (end - a))

pub runnable-hit : (runnable : List Bool) (a end : ℕ) → a < end → is_runnable runnable a ≡ true
    → runnable_from runnable a end ≡ a ∷ runnable_from runnable (a + 1) end
runnable-hit runnable a end below hit = filter-hit (is_runnable runnable) a end below hit

pub runnable-miss : (runnable : List Bool) (a end : ℕ) → a < end → is_runnable runnable a ≡ false
    → runnable_from runnable a end ≡ runnable_from runnable (a + 1) end
runnable-miss runnable a end below miss = filter-miss (is_runnable runnable) a end below miss

pub runnable-all : (runnable : List Bool) (end : ℕ) → runnable_from runnable 0 end
    ≡ runnable_harts runnable end
runnable-all runnable end = let e : end - 0 ≡ end = omega arith in
    ap (λ n. filter (is_runnable runnable) (range_with_len 0 n)) e

pub runnable-end : (runnable : List Bool) (a end : ℕ) → end ≤ a → runnable_from runnable a end ≡ []
runnable-end runnable a end past = let e : end - a ≡ 0 = omega arith in
    ap (λ n. filter (is_runnable runnable) (range_with_len a n)) e

-- the hart that a number draws is there where one is runnable, and is runnable
pub no_hart-found : (runnable : List Bool) (harts number : ℕ)
    → drawn_hart runnable harts number ≡ None
    → find (is_runnable runnable) (range_with_len 0 harts) ≡ None
no_hart-found runnable harts number none =
    let able = runnable_harts runnable harts in
    elim (cases_lt 0 (length able)) [
      | inl some ↦ absurd
          (within-get able (number % length able) (mod_below number (length able) some) none)
      | inr empty ↦ none-found (is_runnable runnable) (range_with_len 0 harts) (omega arith)
    ]

pub no_hart-drawn : (runnable : List Bool) (harts number : ℕ) → NoneRunnable runnable
    → drawn_hart runnable harts number ≡ None
no_hart-drawn runnable harts number none =
    let empty : runnable_harts runnable harts ≡ [] =
    filter-none (is_runnable runnable) (range_with_len 0 harts) none in
    ap (λ (xs : List ℕ). slice_get xs (number % length xs)) empty

pub drawn_runs : (runnable : List Bool) (harts number : ℕ)
    → IfSome (drawn_hart runnable harts number) (λ hart. IsTrue (is_runnable runnable hart))
drawn_runs runnable harts number =
    passes-at (is_runnable runnable) (range_with_len 0 harts)
    (number % length (runnable_harts runnable harts))
