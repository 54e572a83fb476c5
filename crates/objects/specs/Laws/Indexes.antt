-- How an index of a list's live items goes on where an item is put behind the list, or dies.
use Rattle.std.proofs.Common.{◌≡◌, ◌≢◌, ℕ, zero, suc, ◌<◌, Bool, true, false, ◌||◌, List, [], ◌∷◌}
use Rattle.std.proofs.Common.{◌++◌}
use Rattle.std.proofs.Common.{length, get_or, map, Option, None, Some, refl, sym, ◌∙◌, ap, inl, inr}
use Rattle.std.proofs.Common.{◌⊎◌, arith, true≢false}
use Rattle.std.specs.Prelude.{slice_set, slice_get, ◌==◌, if◌then◌else◌, IfSome}
use Rattle.std.specs.List.{find, list_any}
use Rattle.std.specs.Ordering.{nat_cmp, is_eq}
use Rattle.std.specs.Cmp.{unsigned_tied}
use Rattle.std.proofs.lemmas.Bool.{cases_Bool}
use Rattle.std.proofs.lemmas.Bool.Decides.{nat_tests}
use Rattle.objects.specs.Indexes.{IsIndex, passes_in}

pub not_same : (a b : ℕ) → a ≢ b → (a == b) ≡ false
not_same a b h = grind (arith, nat_tests)

pub kept_apart : (k q : ℕ) → q ≢ k → is_eq (nat_cmp k q) ≡ false
kept_apart k q apart = unsigned_tied k q ∙ not_same k q (λ e. apart (sym e))

pub never : (b : Bool) → (b ≡ true → ⊥) → b ≡ false
never true h = absurd (h refl)
never false h = refl

module _ {X : Type 0} where
  early_passes : (p : X → Bool) (xs : List X) (x : X) (i : ℕ) → passes_in p xs i ≡ true
      → passes_in p (xs ++ x ∷ []) i ≡ true
  early_passes p [] x i h = absurd (true≢false (sym h))
  early_passes p (y ∷ xs) x zero h = h
  early_passes p (y ∷ xs) x (suc i) h = early_passes p xs x i h

  last_passes : (p : X → Bool) (xs : List X) (x : X) → p x ≡ true
      → passes_in p (xs ++ x ∷ []) (length xs) ≡ true
  last_passes p [] x h = h
  last_passes p (y ∷ xs) x h = last_passes p xs x h

  either_passes : (p : X → Bool) (xs : List X) (x : X) (i : ℕ) → passes_in p (xs ++ x ∷ []) i ≡ true
      → (passes_in p xs i ≡ true) ⊎ ((i ≡ length xs) × (p x ≡ true))
  either_passes p [] x zero h = inr (refl, h)
  either_passes p [] x (suc i) h = absurd (true≢false (sym h))
  either_passes p (y ∷ xs) x zero h = inl h
  either_passes p (y ∷ xs) x (suc i) h = elim
      (either_passes p xs x i h) [ inl l ↦ inl l | inr r ↦ inr (ap suc r.0, r.1) ]

  set_apart : (p : X → Bool) (xs : List X) (k : ℕ) (x : X) (i : ℕ) → i ≢ k
      → passes_in p (slice_set xs k x) i ≡ passes_in p xs i
  set_apart p [] k x i h = refl
  set_apart p (y ∷ xs) zero x zero h = absurd (h refl)
  set_apart p (y ∷ xs) zero x (suc i) h = refl
  set_apart p (y ∷ xs) (suc k) x zero h = refl
  set_apart p (y ∷ xs) (suc k) x (suc i) h = set_apart p xs k x i (λ e. h (ap suc e))

  set_here : (p : X → Bool) (xs : List X) (k : ℕ) (x : X) → p x ≡ false
      → passes_in p (slice_set xs k x) k ≡ false
  set_here p [] k x h = refl
  set_here p (y ∷ xs) zero x h = h
  set_here p (y ∷ xs) (suc k) x h = set_here p xs k x h

  one_lives : (lives : ℕ → X → Bool) → ((q k : ℕ) (x : X) → lives q x ≡ true → lives k x ≡ true → q
      ≡ k)
      → (xs : List X) (i q k : ℕ) → passes_in (lives q) xs i ≡ true → passes_in (lives k) xs i
      ≡ true → q ≡ k
  one_lives lives one [] i q k h g = absurd (true≢false (sym h))
  one_lives lives one (x ∷ xs) zero q k h g = one q k x h g
  one_lives lives one (x ∷ xs) (suc i) q k h g = one_lives lives one xs i q k h g

  -- a place where an item passes is a place of the list
  pub passes_within : (p : X → Bool) (xs : List X) (i : ℕ) → passes_in p xs i ≡ true → i < length xs
  passes_within p [] i h = absurd (true≢false (sym h))
  passes_within p (x ∷ xs) zero h = omega arith
  passes_within p (x ∷ xs) (suc i) h = let rest : i < length xs = passes_within p xs i h in
      omega arith

  pub passes_at : (p : X → Bool) (xs : List X) (i : ℕ) (d : X) → i < length xs → p (get_or xs i d)
      ≡ true → passes_in p xs i ≡ true
  passes_at p [] i d within h = absurd (omega arith)
  passes_at p (x ∷ xs) zero d within h = h
  passes_at p (x ∷ xs) (suc i) d within h = passes_at p xs i d (omega arith) h

  pub any_passes : (p : X → Bool) (xs : List X) (i : ℕ) → passes_in p xs i ≡ true → list_any p xs
      ≡ true
  any_passes p [] i h = h
  any_passes p (x ∷ xs) zero h = rw h refl
  any_passes p (x ∷ xs) (suc i) h = either (p x) (any_passes p xs i h)
    where
      either : (b : Bool) → list_any p xs ≡ true → (b || list_any p xs) ≡ true
      either true e = refl
      either false e = e

  pub none_passes : (p : X → Bool) (xs : List X) → ((i : ℕ) → passes_in p xs i ≡ false)
      → list_any p xs ≡ false
  none_passes p [] h = refl
  none_passes p (x ∷ xs) h = rw (h zero, none_passes p xs (λ i. h (suc i))) refl

  -- what is done to each item that passes changes none, or the one
  pub map_none : (p : X → Bool) (f : X → X) (xs : List X) → ((i : ℕ) → passes_in p xs i ≡ false)
      → map (λ x. if p x then f x else x) xs ≡ xs
  map_none p f [] h = refl
  map_none p f (x ∷ xs) h = rw (h zero, map_none p f xs (λ i. h (suc i))) refl

  pub map_one : (p : X → Bool) (f : X → X) (xs : List X) (k : ℕ) (y d : X)
      → ((i : ℕ) → passes_in p xs i ≡ true → i ≡ k) → passes_in p xs k ≡ true → y
      ≡ f (get_or xs k d)
      → map (λ x. if p x then f x else x) xs ≡ slice_set xs k y
  map_one p f [] k y d one h is = refl
  map_one p f (x ∷ xs) zero y d one h is =
      rw (h, map_none p f xs (λ i. never (passes_in p xs i) (λ e. no_suc i (one (suc i) e)))) (ap (λ
      z. z ∷ xs) (sym is))
    where
      no_suc : (i : ℕ) → suc i ≡ 0 → ⊥
      no_suc i e = omega arith
  map_one p f (x ∷ xs) (suc k) y d one h is =
      let first : p x ≡ false = never (p x) (λ e. no_zero (one zero e)) in
      rw first (ap (λ zs. x ∷ zs) (map_one p f xs k y d (λ i e. less i (one (suc i) e)) h is))
    where
      no_zero : 0 ≡ suc k → ⊥
      no_zero e = omega arith

      less : (i : ℕ) → suc i ≡ suc k → i ≡ k
      less i e = omega arith

  -- the one place of an item that lives at an address, and none where the index has none
  pub only_place : (lives : ℕ → X → Bool) (f : ℕ → Option ℕ) (xs : List X) (k n : ℕ)
      → IsIndex lives f xs → f k ≡ Some n
      → (i : ℕ) → passes_in (lives k) xs i ≡ true → i ≡ n
  only_place lives f xs k n index is i h = let there : f k ≡ Some i = index.has k i h in cc

  pub no_place : (lives : ℕ → X → Bool) (f : ℕ → Option ℕ) (xs : List X) (k : ℕ)
      → IsIndex lives f xs → f k ≡ None
      → (i : ℕ) → passes_in (lives k) xs i ≡ false
  no_place lives f xs k index is i = never (passes_in (lives k) xs i)
      (λ h. (let there : Some i ≡ None = sym (index.has k i h) ∙ is in cc))

module _ {X : Type 0} (lives : ℕ → X → Bool) (f g : ℕ → Option ℕ) (xs : List X) (k : ℕ) where
  -- an item that lives at most where none lived
  pub index-join : (x : X) → ((q : ℕ) → lives q x ≡ true → f q ≡ None)
      → ((q : ℕ) → g q ≡ (if lives q x then Some (length xs) else f q))
      → IsIndex lives f xs → IsIndex lives g (xs ++ x ∷ [])
  index-join x free is index = record { found = found; has = has }
    where
      found : (q i : ℕ) → g q ≡ Some i → passes_in (lives q) (xs ++ x ∷ []) i ≡ true
      found q i e =
          elim (cases_Bool (lives q x)) [
            | inl here ↦
                let there : g q ≡ Some (length xs) = rw here at (is q) in
                let stated : Some (length xs) ≡ Some i = sym there ∙ e in
                let last : length xs ≡ i = cc in
                rw (← last) (last_passes (lives q) xs x here)
            | inr away ↦ let old : g q ≡ f q = rw away at (is q) in early_passes (lives q) xs x i
                (index.found q i (sym old ∙ e))
          ]

      has : (q i : ℕ) → passes_in (lives q) (xs ++ x ∷ []) i ≡ true → g q ≡ Some i
      has q i e =
          elim (either_passes (lives q) xs x i e) [
            | inl was ↦ elim (cases_Bool (lives q x)) [
              | inl here ↦ let no : Some i ≡ None = sym (index.has q i was)
                  ∙ free q here in absurd cc
              | inr away ↦ let old : g q ≡ f q = rw away at (is q) in old ∙ index.has q i was
            ]
            | inr here ↦ let there : g q ≡ Some (length xs) = rw here.1 at (is q) in there
                ∙ ap Some (sym here.0)
          ]

  -- an item that lives at an address where none lived
  pub index-push : (x : X) → ((q : ℕ) → lives q x ≡ true → q ≡ k) → lives k x ≡ true
      → f k ≡ None → g k ≡ Some (length xs) → ((q : ℕ) → q ≢ k → g q ≡ f q)
      → IsIndex lives f xs → IsIndex lives g (xs ++ x ∷ [])
  index-push x only here fresh new others = index-join x
      (λ q lives_there. rw (only q lives_there) fresh) is
    where
      is : (q : ℕ) → g q ≡ (if lives q x then Some (length xs) else f q)
      is q =
          elim (cases_Bool (lives q x)) [
            | inl there ↦ rw there (rw (only q there) new)
            | inr away ↦ rw away (others q
                (λ same. (let a : lives k x ≡ false = rw same at away in true≢false
                (sym here ∙ a))))
          ]

  -- the item that lives at an address dies
  pub index-die : (n : ℕ) (x : X) → ((q k : ℕ) (y : X) → lives q y ≡ true → lives k y ≡ true → q
      ≡ k) → ((q : ℕ) → lives q x ≡ false)
      → f k ≡ Some n → g k ≡ None → ((q : ℕ) → q ≢ k → g q ≡ f q)
      → IsIndex lives f xs → IsIndex lives g (slice_set xs n x)
  index-die n x one dead was gone others index = record { found = found; has = has }
    where
      found : (q i : ℕ) → g q ≡ Some i → passes_in (lives q) (slice_set xs n x) i ≡ true
      found q i e =
          let apart : q ≢ k = λ same. (let b : g k ≡ Some i = rw (sym same) e in let no : Some i
          ≡ None = sym b ∙ gone in cc) in
          let old : passes_in (lives q) xs i ≡ true = index.found q i (sym (others q apart) ∙ e) in
          let elsewhere : i ≢ n = λ same. apart
          (one_lives lives one xs n q k (rw (sym same) old) (index.found k n was)) in
          set_apart (lives q) xs n x i elsewhere ∙ old

      has : (q i : ℕ) → passes_in (lives q) (slice_set xs n x) i ≡ true → g q ≡ Some i
      has q i e =
          let elsewhere : i ≢ n = λ same. (let b : passes_in (lives q) (slice_set xs n x) n
          ≡ true = rw same at e in true≢false (sym b ∙
          set_here (lives q) xs n x (dead q))) in
          let old : f q ≡ Some i = index.has q i (sym (set_apart (lives q) xs n x i elsewhere) ∙ e)
          in
          let apart : q ≢ k = λ same. (let b : f k ≡ Some i = rw (sym same) old in elsewhere (cc))
          in
          others q apart ∙ old

  -- an index that answers as it did
  pub index-same : ((q : ℕ) → g q ≡ f q) → IsIndex lives f xs → IsIndex lives g xs
  index-same same index = record {
    found = λ q i e. index.found q i (sym (same q) ∙ e);
    has = λ q i e. same q ∙ index.has q i e;
  }

pub within_if_some : {X : Type 0} (lives : ℕ → X → Bool) (f : ℕ → Option ℕ) (xs : List X) (k : ℕ)
    → IsIndex lives f xs
    → (old : Option ℕ) → f k ≡ old → IfSome old (λ n. n < length xs)
within_if_some lives f xs k index None is = tt
within_if_some lives f xs k index (Some n) is = passes_within (lives k) xs n (index.found k n is)

-- the first item that passes
pub first_passes : {X : Type 0} (p : X → Bool) (xs : List X) (i : ℕ)
    → ((k : ℕ) → k < i → passes_in p xs k ≡ false) → passes_in p xs i ≡
    true
    → find p xs ≡ slice_get xs i
first_passes p [] i before here = refl
first_passes p (x ∷ xs) zero before here = rw here refl
first_passes p (x ∷ xs) (suc i) before here = rw (before zero (omega arith))
    (first_passes p xs i (λ k h. before (suc k) (omega arith))
    here)

pub no_first : {X : Type 0} (p : X → Bool) (xs : List X)
    → ((k : ℕ) → k < length xs → passes_in p xs k ≡ false) → find p xs ≡ None
no_first p [] none = refl
no_first p (x ∷ xs) none = rw (none zero (omega arith))
    (no_first p xs (λ k h. none (suc k) (omega arith)))

pub passes_from : {X : Type 0} (p : X → Bool) (xs : List X) (i : ℕ) (x : X) → slice_get xs i
    ≡ Some x → p x ≡ true → passes_in p xs i ≡ true
passes_from p xs i x is h = rw is h
