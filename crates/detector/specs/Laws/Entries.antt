-- What follows from the definitions of the map of entries.
use Rattle.std.specs.Prelude.{◌≡◌, ◌≢◌, ℕ, zero, suc, ◌+◌, ◌<◌, ◌≤◌, ◌^◌, ◌==◌, ◌&&◌, Bool, true}
use Rattle.std.specs.Prelude.{false, if◌then◌else◌, cond, Option, None, Some, is_none, unwrap_or}
use Rattle.std.specs.Prelude.{refl, nat_lt, IfSome}
use Rattle.std.proofs.Common.{sym, ◌∙◌, ap, subst, arith}
use Rattle.std.specs.Ordering.{nat_cmp}
use Rattle.std.specs.Cmp.{nat_cmp_total, unsigned_tied}
use Rattle.std.specs.FinMap as map
use Rattle.std.proofs.lemmas.Bool.Decides.{nat_tests}
use Rattle.detector.specs.declared.line_entry.LineEntry.{LineEntry}
use Rattle.detector.specs.Lending.{ChangesEntry}
use Rattle.detector.specs.Entries.{Entries, IsEntry, blank_entry, entries_below, entries_of}
use Rattle.detector.specs.Entries.{entry_at, is_blank, no_entries, with_entry}

-- what the map keeps of an entry: a blank one is left out
abbrev pub kept : LineEntry → Option LineEntry
kept e = if is_blank e then None else Some e

no_number : (n : ℕ) → (n == 0) ≡ true → n ≡ 0
no_number n e = grind (arith, nat_tests)

none_there : {X : Type 0} (o : Option X) → is_none o ≡ true → o ≡ None
none_there None e = refl
none_there (Some x) e = cc

blank_of_parts : (e : LineEntry) → e.writes ≡ 0 → e.track ≡ None → e.shifted ≡ None
    → e.doubled ≡ None → e ≡ blank_entry
blank_of_parts e w t s d = λ i. record { writes = w i; track = t i; shifted = s i; doubled = d i }

first_true : (a b : Bool) → (a && b) ≡ true → a ≡ true
first_true true b e = refl
first_true false b e = e

second_true : (a b : Bool) → (a && b) ≡ true → b ≡ true
second_true true b e = e
second_true false b e = cc

blank_is : (e : LineEntry) → is_blank e ≡ true → e ≡ blank_entry
blank_is e h =
    let three = first_true _ (is_none e.doubled) h in
    let two = first_true _ (is_none e.shifted) three in
    blank_of_parts e (no_number e.writes (first_true _ (is_none e.track) two))
    (none_there e.track (second_true (e.writes == 0) _ two))
    (none_there e.shifted (second_true _ (is_none e.shifted) three))
    (none_there e.doubled (second_true _ (is_none e.doubled) h))

-- what the map keeps of an entry reads as that entry
pub kept_is : (e : LineEntry) → unwrap_or (kept e) blank_entry ≡ e
kept_is e =
    elim (is_blank e) as (λ b. is_blank e ≡ b → unwrap_or (if b then None else Some e) blank_entry
    ≡ e) [ true ↦ λ h. sym (blank_is e h) | false ↦ λ h. refl ] refl

-- what the map has at each line once one entry was replaced
pub get-with_entry : (m : Entries) (line : ℕ) (e : LineEntry) (q : ℕ)
    → map.get (with_entry m line e) q ≡ if q == line then kept e else map.get m q
get-with_entry m line e q =
    elim (is_blank e) as (λ b. map.get (if b then map.remove m line else map.insert m line e) q
    ≡ if q == line then (if b then None else Some e) else map.get m q) [
      | true ↦ map.get-remove nat_cmp_total m line q ∙ ap (λ t. cond t None (map.get m q))
          (unsigned_tied q line)
      | false ↦ map.get-insert nat_cmp_total m line e q ∙ ap (λ t. cond t (Some e) (map.get m q))
          (unsigned_tied q line)
    ]

chosen : (t : Bool) (e : LineEntry) (o : Option LineEntry)
    → unwrap_or (if t then kept e else o) blank_entry ≡ if t then e else unwrap_or o blank_entry
chosen true e o = kept_is e
chosen false e o = refl

-- the entry of each line once one was replaced
pub entry_at-with_entry : (m : Entries) (line : ℕ) (e : LineEntry) (q : ℕ)
    → entry_at (with_entry m line e) q ≡ if q == line then e else entry_at m q
entry_at-with_entry m line e q = ap (λ o. unwrap_or o blank_entry) (get-with_entry m line e q)
    ∙ chosen (q == line) e (map.get m q)

one_later : (n q : ℕ) (f : ℕ → LineEntry)
    → (if q == n then kept (f n) else if nat_lt q n then kept (f q) else None) ≡ if nat_lt q (suc n)
    then kept (f q) else None
one_later n q f = grind (arith, nat_tests)

none_below : (q : ℕ) (o : Option LineEntry) → None ≡ if nat_lt q 0 then o else None
none_below q o = grind (arith, nat_tests)

-- what the map of the lines below n has at each line
pub get-entries_below : (n : ℕ) (f : ℕ → LineEntry) (q : ℕ)
    → map.get (entries_below n f) q ≡ if nat_lt q n then kept (f q) else None
unfolding entries_below
get-entries_below zero f q = map.get-empty nat_cmp q ∙ none_below q (kept (f q))
get-entries_below (suc n) f q =
    get-with_entry (entries_below n f) n (f n) q ∙ ap (λ o. if q == n then kept (f n) else o)
    (get-entries_below n f q) ∙ one_later n q f

-- the map of all entries has each line's
pub entry_at-entries_of : (f : ℕ → LineEntry) (q : ℕ) → q ≤ 2 ^ 30 → entry_at (entries_of f) q ≡ f q
entry_at-entries_of f q h = kept_up_to (2 ^ 30 + 1) f q (omega arith)
  where
    within : (n q : ℕ) (o : Option LineEntry) → q < n → (if nat_lt q n then o else None) ≡ o
    within n q o h = grind (arith, nat_tests)

    kept_up_to : (n : ℕ) (f : ℕ → LineEntry) (q : ℕ) → q < n → entry_at (entries_below n f) q ≡ f q
    kept_up_to n f q h = ap (λ o. unwrap_or o blank_entry)
        (get-entries_below n f q ∙ within n q (kept (f q)) h) ∙ kept_is (f q)

-- where each line's entry is the same, so is the map
pub same_entries : (f g : ℕ → LineEntry) → ((q : ℕ) → f q ≡ g q) → entries_of f ≡ entries_of g
same_entries f g h = λ i. entries_of (λ q. h q i)

-- where one line's entry is replaced, it is replaced in the map
pub changed_entries : (f g : ℕ → LineEntry) (line : ℕ) (e : LineEntry) → line ≤ 2 ^ 30
    → ((q : ℕ) → g q ≡ if q == line then e else f q)
    → entries_of g ≡ with_entry (entries_of f) line e
changed_entries f g line e small h = changed_below (2 ^ 30 + 1) f g line e (omega arith) h
  where
    swapped : (n q line : ℕ) (e : LineEntry) (f : ℕ → LineEntry) → line < n
        → (if nat_lt q n then kept (if q == line then e else f q) else None) ≡ if q == line
        then kept e else if nat_lt q n then kept (f q) else None
    swapped n q line e f small = grind (arith, nat_tests)

    changed_below : (n : ℕ) (f g : ℕ → LineEntry) (line : ℕ) (e : LineEntry) → line < n
        → ((q : ℕ) → g q ≡ if q == line then e else f q)
        → entries_below n g ≡ with_entry (entries_below n f) line e
    changed_below n f g line e small h = map.same_map nat_cmp_total map.nat_cmp-IsAntisymmetric _ _
        (λ q. get-entries_below n g q ∙ ap (λ x. if nat_lt q n then kept x else None) (h q)
        ∙ swapped n q line e f small
        ∙ sym (get-with_entry (entries_below n f) line e q
        ∙ ap (λ o. if q == line then kept e else o) (get-entries_below n f q)))

-- where each line's entry is blank, the map has none
pub blank_entries : (f : ℕ → LineEntry) → ((q : ℕ) → f q ≡ blank_entry) → entries_of f ≡ no_entries
blank_entries f h = blank_below (2 ^ 30 + 1) f h
  where
    neither : (t : Bool) → (if t then kept blank_entry else None) ≡ None
    neither true = refl
    neither false = refl

    blank_below : (n : ℕ) (f : ℕ → LineEntry) → ((q : ℕ) → f q ≡ blank_entry)
        → entries_below n f ≡ no_entries
    blank_below n f h = map.same_map nat_cmp_total map.nat_cmp-IsAntisymmetric _ _
        (λ q. get-entries_below n f q ∙ ap (λ x. if nat_lt q n then kept x else None) (h q)
        ∙ neither (nat_lt q n) ∙ sym (map.get-empty nat_cmp q))

-- every entry of the map may stand there
pub only_entries_of : (f : ℕ → LineEntry) (q : ℕ) → IfSome (map.get (entries_of f) q) (IsEntry q)
only_entries_of f q = has_below (2 ^ 30 + 1) f q refl
  where
    small : (n q : ℕ) → nat_lt q n ≡ true → n ≡ 2 ^ 30 + 1 → q ≤ 2 ^ 30
    small n q t e = grind (arith, nat_tests)

    not_blank : (e : LineEntry) → is_blank e ≡ false → e ≢ blank_entry
    not_blank e h is = let two : is_blank blank_entry ≡ false = ap is_blank (sym is) ∙ h in cc

    one : (q : ℕ) (e : LineEntry) → q ≤ 2 ^ 30 → IfSome (kept e) (IsEntry q)
    one q e s = elim (is_blank e) as (λ b. is_blank e ≡ b → IfSome (if b then None else Some e)
        (IsEntry q)) [
          | true ↦ λ h. tt
          | false ↦
              λ h. record { in_range = s; not_blank = not_blank e h }
        ] refl

    either : (t : Bool) (q : ℕ) (e : LineEntry) → (t ≡ true → q ≤ 2 ^ 30)
        → IfSome (if t then kept e else None) (IsEntry q)
    either true q e s = one q e (s refl)
    either false q e s = tt

    has_below : (n : ℕ) (f : ℕ → LineEntry) (q : ℕ) → n ≡ 2 ^ 30 + 1
        → IfSome (map.get (entries_below n f) q) (IsEntry q)
    has_below n f q is = subst (λ o. IfSome o (IsEntry q)) (sym (get-entries_below n f q))
        (either (nat_lt q n) q (f q) (λ t. small n q t is))

-- the same, as what a lent entry leaves behind
pub changed : (f g : ℕ → LineEntry) (line : ℕ) (e : LineEntry) → line ≤ 2 ^ 30
    → ((q : ℕ) → g q ≡ if q == line then e else f q)
    → ChangesEntry (entries_of f) (entries_of g) line e
changed f g line e small h =
    let whole : entries_of g ≡ with_entry (entries_of f) line e =
    changed_entries f g line e small h in
    record {
      whole = whole;
      each = λ q. ap (λ m. entry_at m q) whole
          ∙ entry_at-with_entry (entries_of f) line e q;
    }

-- a line that has no write, or is past the last, has no write in the map
pub unwritten : (f : ℕ → LineEntry) (q : ℕ) → (q ≤ 2 ^ 30 → (f q).writes ≡ 0)
    → (entry_at (entries_of f) q).writes ≡ 0
unwritten f q h = unwritten_below (2 ^ 30 + 1) f q (λ l. h (omega arith))
  where
    passed : (n q : ℕ) → nat_lt q n ≡ true → q < n
    passed n q t = grind (arith, nat_tests)

    either : (t : Bool) (e : LineEntry) → (t ≡ true → e.writes ≡ 0)
        → (unwrap_or (if t then kept e else None) blank_entry).writes ≡ 0
    either true e h = ap (λ x. x.writes) (kept_is e) ∙ h refl
    either false e h = refl

    unwritten_below : (n : ℕ) (f : ℕ → LineEntry) (q : ℕ) → (q < n → (f q).writes ≡ 0)
        → (entry_at (entries_below n f) q).writes ≡ 0
    unwritten_below n f q h = ap (λ o. (unwrap_or o blank_entry).writes) (get-entries_below n f q)
        ∙ either (nat_lt q n) (f q) (λ t. h (passed n q t))
