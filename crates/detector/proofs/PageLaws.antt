-- How a write to one place of a page or directory changes what is read at all places.
use Rattle.std.proofs.Common.{◌≡◌, ℕ, zero, suc, ◌+◌, ◌*◌, ◌/◌, ◌%◌, ◌<◌, ◌≤◌, ◌==◌, if◌then◌else◌}
use Rattle.std.proofs.Common.{Bool, true, false, List, [], ◌∷◌, length, Option, Some, slice_get}
use Rattle.std.proofs.Common.{unwrap_or, refl, sym, ◌∙◌, ap, subst, arith, ◌-◌, inl, inr}
use Rattle.std.specs.Prelude.{nat_lt, slice_index_or, slice_set}
use Rattle.std.proofs.Math.Nat.{div-add-mod}
use Rattle.std.proofs.lemmas.Bool.{cases_Bool, eqb-false, ltb-true, cases_lt}
use Rattle.sharing_rules.specs.Laws.Lists.{get-set_other, get-set_same}
use Rattle.std.proofs.lemmas.Bool.Decides.{nat_tests}
use Rattle.std.proofs.lemmas.Option.{slice_get-get_or, slice_get_past}
use Rattle.std.specs.declared.vec.Vec.{Vec}
use Rattle.std.specs.Option.{option_map_or}
use Rattle.detector.specs.declared.line_entry.LineEntry.{LineEntry}
use Rattle.detector.specs.Entries.{blank_entry}
use Rattle.detector.specs.Pages.{items_at, page_entry, NoneWritten, directory_entry}
use Rattle.std.specs.declared.alloc.Global.{Global}
use Rattle.detector.specs.declared.paged_index.PagedIndex.{PagedIndex}
use Rattle.detector.specs.PagedEntries.{paged_entry}

otherwise : {X : Type 0} (t : Bool) (x y : X) → t ≡ false → y ≡ if t then x else y
otherwise true x y e = cc
otherwise false x y e = refl

is_same : (a b : ℕ) → (a == b) ≡ true → a ≡ b
is_same a b e = grind (arith, nat_tests)

-- an element was replaced
pub slice_get-set : {X : Type 0} (xs : List X) (i : ℕ) (x : X) (k : ℕ) → i < length xs
    → slice_get (slice_set xs i x) k ≡ if k == i
    then Some x else slice_get xs k
slice_get-set xs i x k h = elim (cases_Bool (k == i)) [
  | inl here ↦ rw (here, is_same k i here) (get-set_same xs i x h)
  | inr other ↦ rw other (get-set_other xs i k x (eqb-false k i other))
]

-- an entry of a page was replaced
pub page_entry-set : (page : List LineEntry) (i : ℕ) (e : LineEntry) (k : ℕ) → i < length page
    → page_entry (slice_set page i e) k ≡ if k ==
    i then e else page_entry page k
page_entry-set page i e k h = ap (λ o. unwrap_or o blank_entry) (slice_get-set page i e k h)
    ∙ through (k == i) e (slice_get page k)
  where
    through : (t : Bool) (e : LineEntry) (o : Option LineEntry)
        → unwrap_or (if t then Some e else o) blank_entry ≡ if t then e
        else unwrap_or o blank_entry
    through true e o = refl
    through false e o = refl

-- a vector was replaced
pub items_at-set : {X Z : Type 0} (all : List (Vec X Z)) (i : ℕ) (v : Vec X Z) (k : ℕ)
    → i < length all
    → items_at (slice_set all i v) k ≡ if k == i then v.items else items_at all k
items_at-set {X} {Z} all i v k h = ap (λ o. option_map_or (λ w. w.items) o [])
    (slice_get-set all i v k h)
    ∙ through (k == i) v (slice_get all k)
  where
    through : (t : Bool) (v : Vec X Z) (o : Option (Vec X Z))
        → option_map_or (λ w. w.items) (if t then Some v else o) [] ≡ if t
        then v.items else option_map_or (λ w. w.items) o []
    through true v o = refl
    through false v o = refl

-- the vector that stands at a place
pub items_at-held : {X Z : Type 0} (all : List (Vec X Z)) (i : ℕ) (v : Vec X Z) → i < length all → v
    ≡ slice_index_or all i v
    → items_at all i ≡ v.items
items_at-held all i v h is = ap (λ o. option_map_or (λ w. w.items) o [])
    (slice_get-get_or all i v h) ∙ ap (λ w. w.items) (sym is)

-- the vector that was read at a place
pub items_at-read : {X Z : Type 0} (all xs : List (Vec X Z)) (i : ℕ) (v : Vec X Z) → xs ≡ all → true
    ≡ nat_lt i (length xs)
    → v ≡ slice_index_or xs i v → items_at all i ≡ v.items
items_at-read all xs i v same within is =
    ap (λ ys. items_at ys i) (sym same) ∙ items_at-held xs i v
    (ltb-true i (length xs) (sym within)) is

-- the vector that was put at a place
pub items_at-set_same : {X Z : Type 0} (all : List (Vec X Z)) (i : ℕ) (v : Vec X Z) → i < length all
    → items_at (slice_set all i v) i ≡ v.items
items_at-set_same all i v h = items_at-set all i v i h
    ∙ ap (λ t. if t then v.items else items_at all i) (itself i)
  where
    itself : (a : ℕ) → (a == a) ≡ true
    itself a = grind (arith, nat_tests)

-- past the end there is no vector
pub items_at-past : {X Z : Type 0} (all : List (Vec X Z)) (i : ℕ) → length all ≤ i → items_at all i
    ≡ []
items_at-past all i h = ap (λ o. option_map_or (λ w. w.items) o []) (slice_get_past all i h)

-- a vector was replaced by a related one
pub related-set : {X Z : Type 0} (R : List X → List X → Type 0) → ((xs : List X) → R xs xs)
    → (all : List (Vec X Z)) (i : ℕ) (v : Vec X Z)
    → i < length all
    → R (items_at all i) v.items → (b : ℕ) → R (items_at all b) (items_at (slice_set all i v) b)
related-set R alike all i v within h b = subst (R (items_at all b))
    (sym (items_at-set all i v b within)) (picked (b == i) refl)
  where
    picked : (t : Bool) → (b == i) ≡ t → R (items_at all b) (if t then v.items else items_at all b)
    picked true is = subst (λ j. R (items_at all j) v.items) (sym (is_same b i is)) h
    picked false is = alike (items_at all b)

-- two numbers of one block of n are equal where their places in it are
same_rest : (n k p : ℕ) → k / n ≡ p / n → (k % n == p % n) ≡ (k == p)
same_rest n k p e = by_parts k p (k % n) (p % n) (n * (k / n)) (n * (p / n)) (div-add-mod k n)
    (div-add-mod p n) (ap (λ x. n * x) e)
  where
    by_parts : (k p r s a b : ℕ) → a + r ≡ k → b + s ≡ p → a ≡ b → (r == s) ≡ (k == p)
    by_parts k p r s a b ek ep e = grind (arith, nat_tests)

other_block : (n k p : ℕ) → (k / n == p / n) ≡ false → (k == p) ≡ false
other_block n k p e = apart k p (k / n) (p / n) (λ is. ap (λ x. x / n) is) e
  where
    apart : (k p a b : ℕ) → (k ≡ p → a ≡ b) → (a == b) ≡ false → (k == p) ≡ false
    apart k p a b h e = grind (arith, nat_tests)

-- one entry of one of the blocks of n was replaced, where f reads the entries of a block
pub block-set : {X Z : Type 0} (n : ℕ) (f : List X → ℕ → LineEntry) (all : List (Vec X Z))
    (place : ℕ) (v : Vec X Z) (e : LineEntry)
    → place / n < length all
    → ((k : ℕ) → f v.items k ≡ if k == place % n then e else f (items_at all (place / n)) k)
    → (k : ℕ) → f (items_at (slice_set all (place / n) v) (k / n)) (k % n)
    ≡ if k == place then e else f (items_at all (k / n)) (k % n)
block-set {X} n f all place v e within h k =
    ap (λ xs. f xs (k % n)) (items_at-set all (place / n) v (k / n) within)
    ∙ picked (k / n == place / n) refl
  where
    picked : (t : Bool) → (k / n == place / n) ≡ t
        → f (if t then v.items else items_at all (k / n)) (k % n) ≡ if k == place then e
        else f (items_at all (k / n)) (k % n)
    picked true is =
        h (k % n) ∙ ap (λ t. if t then e else f (items_at all (place / n)) (k % n))
        (same_rest n k place (is_same _ _ is))
        ∙ ap (λ b. if k == place then e else f (items_at all b) (k % n))
        (sym (is_same (k / n) (place / n) is))
    picked false is = otherwise (k == place) e (f (items_at all (k / n)) (k % n))
        (other_block n k place is)

-- the entry that stands at a place
pub page_entry-held : (page : List LineEntry) (i : ℕ) (e : LineEntry) → i < length page → e
    ≡ slice_index_or page i e
    → page_entry page i ≡ e
page_entry-held page i e h is = ap (λ o. unwrap_or o blank_entry) (slice_get-get_or page i e h)
    ∙ sym is

-- a place whose vector has an element is not past the end
pub items_at-within : {X Z : Type 0} (all : List (Vec X Z)) (i k : ℕ) → k < length (items_at all i)
    → i < length all
items_at-within [] i k h = absurd (omega arith)
items_at-within (v ∷ vs) zero k h = omega arith
items_at-within (v ∷ vs) (suc i) k h = let rest : i < length vs = items_at-within vs i k h in
    omega arith

-- How a search for the next written line goes from block to block.

-- what is known up to a place of a block, and from there on to another, holds up to that one
pub joined : (f h : ℕ → LineEntry) (from base place to : ℕ)
    → ((q : ℕ) → base ≤ q → q < base + to → f q ≡ h (q - base))
    → NoneWritten f from (base + place) → NoneWritten h place to → NoneWritten f from (base + to)
joined f h from base place to reads before within q above below =
    elim (cases_lt q (base + place)) as (λ _. (f q).writes ≡ 0) [
      | inl l ↦ before q above l
      | inr l ↦ let here : base ≤ q = omega arith in ap (λ e. e.writes) (reads q here below)
          ∙ within (q - base) (omega arith) (omega arith)
    ]

-- the lines of one directory
pub directory_reads : (s : PagedIndex) (number q : ℕ) → number * 262144 ≤ q
    → q < number * 262144 + 262144
    → paged_entry s q ≡ directory_entry (items_at s.directories.items number) (q - number * 262144)
directory_reads s number q above below =
    let block : q / 262144 ≡ number = omega arith in
    let place : q % 262144 ≡ q - number * 262144 = omega arith in
    ap (λ b. directory_entry (items_at s.directories.items b) (q % 262144)) block
    ∙ ap (directory_entry (items_at s.directories.items number)) place

-- what a search of one directory found, in the lines of the whole index
pub searched : (s : PagedIndex) (number place from to : ℕ) (d : Vec (Vec LineEntry Global) Global)
    → number < length s.directories.items → d ≡ slice_index_or s.directories.items number d
    → to ≤ 262144
    → NoneWritten (paged_entry s) from (number * 262144 + place)
    → NoneWritten (directory_entry d.items) place to
    → NoneWritten (paged_entry s) from (number * 262144 + to)
searched s number place from to d within is small =
    joined (paged_entry s) (directory_entry d.items) from (number * 262144) place to
    (λ q above below. directory_reads s number q above (omega arith)
    ∙ ap (λ ps. directory_entry ps (q - number * 262144))
    (items_at-held s.directories.items number d within is))

-- the entry of a line of one directory
pub found_in : (s : PagedIndex) (number n : ℕ) (d : Vec (Vec LineEntry Global) Global)
    → number < length s.directories.items → d ≡ slice_index_or s.directories.items number d
    → n < 262144
    → paged_entry s (number * 262144 + n) ≡ directory_entry d.items n
found_in s number n d within is small =
    let place : number * 262144 + n - number * 262144 ≡ n = omega arith in
    directory_reads s number (number * 262144 + n) (omega arith) (omega arith)
    ∙ ap (λ ps. directory_entry ps (number * 262144 + n - number * 262144))
    (items_at-held s.directories.items number d within is)
    ∙ ap (directory_entry d.items) place
