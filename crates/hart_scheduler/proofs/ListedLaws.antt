-- What passing over an entry, and taking one turn of it, does to the harts that a list names.
use Rattle.std.proofs.Common.{◌≡◌, ℕ, zero, suc, ◌+◌, ◌-◌, ◌<◌, ◌≤◌, Bool, true, false, List, []}
use Rattle.std.proofs.Common.{◌∷◌, ◌++◌, length, replicate, drop, set}
use Rattle.std.proofs.Common.{get_or, Some, refl, sym, ◌∙◌, ap, add-one, drop-cons, true≢false}
use Rattle.std.proofs.Common.{arith}
use Rattle.std.proofs.lemmas.Bool.Decides.{nat_tests}
use Rattle.std.specs.Prelude.{◌&&◌, nat_lt}
use Rattle.std.specs.List.{find, after_first, position_or_len}
use Rattle.hart_scheduler.specs.ScheduleParts.{ListEntry}
use Rattle.hart_scheduler.specs.Choices.{is_runnable}
use Rattle.hart_scheduler.specs.Listed.{is_able, harts_from}
use Rattle.hart_scheduler.specs.Texts.{harts_of}
use Rattle.std.proofs.lemmas.List.{drop-set, drop_all}

module _ (p : ℕ → Bool) where
  pub after_first-miss : (x : ℕ) (xs : List ℕ) → p x ≡ false → after_first p (x ∷ xs) ≡ after_first p xs
  after_first-miss x xs miss =
      let e : 1 + position_or_len p xs + 1 ≡ suc (position_or_len p xs + 1) = omega arith in
      rw miss (ap (λ n. drop n (x ∷ xs)) e)

  after_first-hit : (x : ℕ) (xs : List ℕ) → p x ≡ true → after_first p (x ∷ xs) ≡ xs
  after_first-hit x xs hit = rw hit

  find-past : (n x : ℕ) (xs : List ℕ) → p x ≡ false → find p (replicate n x ++ xs) ≡ find p xs
  find-past zero x xs miss = refl
  find-past (suc n) x xs miss = rw miss (find-past n x xs miss)

  after-past : (n x : ℕ) (xs : List ℕ) → p x ≡ false → after_first p (replicate n x ++ xs)
      ≡ after_first p xs
  after-past zero x xs miss = refl
  after-past (suc n) x xs miss = after_first-miss x (replicate n x ++ xs) miss
      ∙ after-past n x xs miss

-- an entry that isn't able makes no difference
module _ (runnable : List Bool) where
  is_counted : (n : ℕ) → nat_lt 0 (suc n) ≡ true
  is_counted n = grind (arith, nat_tests)

  find-unable : (n x : ℕ) (xs : List ℕ) → (nat_lt 0 n && is_runnable runnable x) ≡ false
      → find (is_runnable runnable) (replicate n x ++ xs) ≡ find (is_runnable runnable) xs
  find-unable zero x xs miss = refl
  find-unable (suc n) x xs miss = find-past (is_runnable runnable) (suc n) x xs
      (rw (is_counted n) at miss)

  after-unable : (n x : ℕ) (xs : List ℕ) → (nat_lt 0 n && is_runnable runnable x) ≡ false
      → after_first (is_runnable runnable) (replicate n x ++ xs)
      ≡ after_first (is_runnable runnable) xs
  after-unable zero x xs miss = refl
  after-unable (suc n) x xs miss = after-past (is_runnable runnable) (suc n) x xs
      (rw (is_counted n) at miss)

  -- an able one is found, and one turn of it is used up
  find-able : (n x : ℕ) (xs : List ℕ) → (nat_lt 0 n && is_runnable runnable x) ≡ true
      → find (is_runnable runnable) (replicate n x ++ xs) ≡ Some x
  find-able zero x xs hit = absurd (true≢false (sym hit))
  find-able (suc n) x xs hit = let able : is_runnable runnable x
      ≡ true = rw (is_counted n) at hit in rw able

  after-able : (n x : ℕ) (xs : List ℕ) → (nat_lt 0 n && is_runnable runnable x) ≡ true
      → after_first (is_runnable runnable) (replicate n x ++ xs) ≡ replicate (n - 1) x ++ xs
  after-able zero x xs hit = absurd (true≢false (sym hit))
  after-able (suc n) x xs hit =
      let one : suc n - 1 ≡ n = omega arith in
      after_first-hit (is_runnable runnable) x (replicate n x ++ xs) (rw (is_counted n) at hit)
      ∙ ap (λ m. replicate m x ++ xs) (sym one)

  pub from_place : (entries : List ListEntry) (place : ℕ) (d : ListEntry) → place < length entries
      → harts_from entries place ≡ replicate (get_or entries place d).count
      (get_or entries place d).hart ++ harts_from entries (place + 1)
  from_place entries place d inside = rw (add-one place, drop-cons entries place d inside) refl

  -- the same of the entry at a place
  pub found_past : (entries : List ListEntry) (place : ℕ) (d : ListEntry) → place < length entries
      → is_able runnable (get_or entries place d) ≡ false
      → find (is_runnable runnable) (harts_from entries place) ≡ find (is_runnable runnable)
      (harts_from entries (place + 1))
  found_past entries place d inside miss =
      ap (λ (xs : List ℕ). find (is_runnable runnable) xs) (from_place entries place d inside)
      ∙ find-unable (get_or entries place d).count (get_or entries place d).hart
      (harts_from entries (place + 1)) miss

  pub left_past : (entries : List ListEntry) (place : ℕ) (d : ListEntry) → place < length entries
      → is_able runnable (get_or entries place d) ≡ false
      → after_first (is_runnable runnable) (harts_from entries place)
      ≡ after_first (is_runnable runnable) (harts_from entries (place + 1))
  left_past entries place d inside miss =
      ap (λ (xs : List ℕ). after_first (is_runnable runnable) xs)
      (from_place entries place d inside)
      ∙ after-unable (get_or entries place d).count (get_or entries place d).hart
      (harts_from entries (place + 1)) miss

  pub found_at : (entries : List ListEntry) (place : ℕ) (d : ListEntry) → place < length entries
      → is_able runnable (get_or entries place d)
      ≡ true
      → find (is_runnable runnable) (harts_from entries place) ≡ Some (get_or entries place d).hart
  found_at entries place d inside hit =
      ap (λ (xs : List ℕ). find (is_runnable runnable) xs) (from_place entries place d inside)
      ∙ find-able (get_or entries place d).count (get_or entries place d).hart
      (harts_from entries (place + 1)) hit

  pub left_at : (entries : List ListEntry) (place : ℕ) (d : ListEntry) → place < length entries
      → is_able runnable (get_or entries place d)
      ≡ true
      → after_first (is_runnable runnable) (harts_from entries place)
      ≡ replicate ((get_or entries place d).count - 1)
      (get_or entries place d).hart ++ harts_from entries (place + 1)
  left_at entries place d inside hit =
      ap (λ (xs : List ℕ). after_first (is_runnable runnable) xs)
      (from_place entries place d inside)
      ∙ after-able (get_or entries place d).count (get_or entries place d).hart
      (harts_from entries (place + 1)) hit

  -- one turn of an able entry that is used up leaves what stands after it
  pub taken : (entries : List ListEntry) (place : ℕ) (entry : ListEntry) → place < length entries
      → entry ≡ get_or entries place entry
      → is_able runnable (get_or entries place entry) ≡ true
      → harts_from (set entries place (record { hart = entry.hart; count = entry.count - 1 })) place
      ≡ after_first (is_runnable runnable)
      (harts_from entries place)
  taken entries place entry inside own hit =
      ap (λ (xs : List ListEntry). harts_of xs)
      (drop-set entries place (record { hart = entry.hart; count = entry.count - 1 }) inside)
      ∙ ap (λ (e : ListEntry). replicate (e.count - 1) e.hart ++ harts_from entries (place + 1)) own
      ∙ sym (left_at entries place entry inside hit)

  -- past the last entry there is nothing
  pub nothing_left : (entries : List ListEntry) (place : ℕ) → length entries ≤ place
      → harts_from entries place ≡ after_first (is_runnable runnable) (harts_from entries place)
  nothing_left entries place past =
      let none : harts_from entries place ≡ [] = ap (λ (xs : List ListEntry). harts_of xs)
      (drop_all place entries past) in
      none ∙ sym (ap (λ (xs : List ℕ). after_first (is_runnable runnable) xs) none)
