-- The words of moved accesses.
use Rattle.std.proofs.Common.{◌≡◌, ◌↔◌, ℕ, zero, suc, ◌+◌, ◌%◌, ◌<◌, ◌≤◌, ◌^◌, ◌⊎◌, Bool}
use Rattle.std.proofs.Common.{true, false, not, List, [], ◌∷◌, map, length, get_or, Option, Some, None}
use Rattle.std.proofs.Common.{refl, sym, ap, ◌∙◌, subst, inl, inr, arith, find, cond, filter}
use Rattle.std.specs.Prelude.{◌&&◌, IsTrue, is_some, nat_eq}
use Rattle.std.specs.Option.{option_map_or}
use Rattle.std.specs.List.{All, Contains, list_any}
use Rattle.std.proofs.lemmas.Bool.{cases_Bool, cases_lt}
use Rattle.std.proofs.lemmas.Bool.Decides.{nat_tests}
use Rattle.std.proofs.lemmas.List.{get_or_default}
use Rattle.std.proofs.lemmas.List.Folds.{list_any_at}
use Rattle.std.proofs.lemmas.List.Elements.{All-map, All-weaker}
use Rattle.base.specs.Touch.{IsAllowed, Touch, is_access_size, word_of}
use Rattle.trace_files.specs.declared.move_row.Move.{Move}
use Rattle.trace_files.specs.Moves.{IsFree, KeepsAccesses, KeepsBytes, KeepsWords}
use Rattle.trace_files.specs.Moves.{carried, is_in_place, is_in_range, is_moved, is_taken, moved_addr}
use Rattle.trace_files.specs.Moves.{moved_in, moved_list}
use Rattle.trace_files.specs.Tables.{AreInOrder, IsTable, keeps_rules}
use Rattle.trace_files.proofs.Lookups.{any_find}

-- ---- where an address goes

-- it is in no range and in no place
pub record Stays (table : List Move) (addr : ℕ) : Type 0 where
  pub same : moved_addr table addr ≡ addr
  pub range : (k : ℕ) (d : Move) → k < length table → is_in_range addr (get_or table k d) ≡ false
  pub place : (k : ℕ) (d : Move) → k < length table → is_in_place addr (get_or table k d) ≡ false

-- a move of the table has it in its range
pub record Goes (table : List Move) (addr : ℕ) : Type 0 where
  pub move : Move
  pub at : ℕ
  pub inside : at < length table
  pub there : get_or table at move ≡ move
  pub holds : is_in_range addr move ≡ true
  pub goes : moved_addr table addr ≡ carried addr move

found_at : (p : Move → Bool) (xs : List Move) (m : Move) → find p xs ≡ Some m
    → (k : ℕ) × (k < length xs) × (get_or xs k m ≡ m) × (p m ≡ true)
found_at p [] m is = absurd cc
found_at p (x ∷ xs) m is = elim (cases_Bool (p x)) [
  | inl yes_it ↦
      let same : Some x ≡ Some m =
      sym (ap (λ (b : Bool). cond b (Some x) (find p xs)) yes_it) ∙ is in
      let eq : x ≡ m = cc in
      (zero, omega arith, eq, ap p (sym eq) ∙ yes_it)
  | inr no_it ↦
      let rest = found_at p xs m
      (sym (ap (λ (b : Bool). cond b (Some x) (find p xs)) no_it) ∙ is) in
      (suc rest.0, omega (arith, rest.1), rest.2, rest.3)
]

none_at : (p : Move → Bool) (xs : List Move) → list_any p xs ≡ false
    → (k : ℕ) (d : Move) → k < length xs → p (get_or xs k d) ≡ false
none_at p xs none k d inside = elim (cases_Bool (p (get_or xs k d))) [
  | inl is ↦ let some : list_any p xs ≡ true = list_any_at p xs k d inside is in absurd cc
  | inr is ↦ is
]

and_not_false : (a b : Bool) → (a && not b) ≡ false → b ≡ false → a ≡ false
and_not_false true true is off = absurd cc
and_not_false true false is off = absurd cc
and_not_false false b is off = refl

where_found : (table : List Move) (addr : ℕ) → is_taken table addr ≡ false
    → (o : Option Move) → find (is_in_range addr) table ≡ o
    → Stays table addr ⊎ Goes table addr
unfolding is_taken moved_addr
where_found table addr free None is =
    let unmoved : is_moved table addr ≡ false =
    any_find (is_in_range addr) table ∙ ap is_some is in
    inl (record {
      same = ap (λ (o : Option Move). option_map_or (carried addr) o addr) is;
      range = none_at (is_in_range addr) table unmoved;
      place = none_at (is_in_place addr) table
          (and_not_false (list_any (is_in_place addr) table) (is_moved table addr) free unmoved);
    })
where_found table addr free (Some m) is =
    let at = found_at (is_in_range addr) table m is in
    inr (record {
      move = m;
      at = at.0;
      inside = at.1;
      there = at.2;
      holds = at.3;
      goes = ap (λ (o : Option Move). option_map_or (carried addr) o addr) is;
    })

pub where_of : (table : List Move) (addr : ℕ) → is_taken table addr ≡ false
    → Stays table addr ⊎ Goes table addr
where_of table addr free = where_found table addr free (find (is_in_range addr) table) refl

-- ---- two addresses

rules_of : (table : List Move) (addr : ℕ) → IsTable table → (g : Goes table addr)
    → keeps_rules g.move ≡ true
rules_of table addr is g =
    subst (λ (m : Move). keeps_rules m ≡ true) g.there (is.rules g.at g.move g.inside)

-- it keeps its place in a word
offset_kept : (table : List Move) (addr : ℕ) → IsTable table → Stays table addr ⊎ Goes table addr
    → moved_addr table addr % 4 ≡ addr % 4
offset_kept table addr is (inl s) = ap (λ (n : ℕ). n % 4) s.same
offset_kept table addr is (inr g) =
    let rules = rules_of table addr is g in
    let holds = g.holds in
    let same : carried addr g.move % 4 ≡ addr % 4 = grind (arith, nat_tests) in
    ap (λ (n : ℕ). n % 4) g.goes ∙ same

abbrev SameWords : ℕ → ℕ → ℕ → ℕ → Type 0
SameWords x y a b = (word_of a ≡ word_of b) ↔ (word_of x ≡ word_of y)

-- one stays and one goes: no word has both, before or after
apart_words : (x y : ℕ) (m : Move) → keeps_rules m ≡ true → is_in_range x m ≡ true
    → is_in_range y m ≡ false → is_in_place y m ≡ false
    → ((word_of (carried x m) ≡ word_of y) → ⊥) × ((word_of x ≡ word_of y) → ⊥)
apart_words x y m rules holds out off =
    (λ e. grind (arith, nat_tests), λ e. grind (arith, nat_tests))

-- both go by one move
same_move : (x y : ℕ) (m : Move) → keeps_rules m ≡ true → is_in_range x m ≡ true
    → is_in_range y m ≡ true → SameWords x y (carried x m) (carried y m)
same_move x y m rules one two =
    (λ e. grind (arith, nat_tests), λ e. grind (arith, nat_tests))

-- they go by two moves
two_moves : (x y : ℕ) (m n : Move) → keeps_rules m ≡ true → keeps_rules n ≡ true
    → AreInOrder m n → is_in_range x m ≡ true → is_in_range y n ≡ true
    → ((word_of (carried x m) ≡ word_of (carried y n)) → ⊥) × ((word_of x ≡ word_of y) → ⊥)
two_moves x y m n first second order one two =
    let rising = order.rising in
    let apart = order.apart in
    (λ e. grind (arith, nat_tests), λ e. grind (arith, nat_tests))

never : {P Q : Type 0} → (P → ⊥) × (Q → ⊥) → P ↔ Q
never no_two = (λ p. absurd (no_two.0 p), λ q. absurd (no_two.1 q))

turned_words : (x y a b : ℕ) → SameWords x y a b → SameWords y x b a
turned_words x y a b same = (λ e. sym (same.0 (sym e)), λ e. sym (same.1 (sym e)))

as_moved : (table : List Move) (x y a b : ℕ) → moved_addr table x ≡ a → moved_addr table y ≡ b
    → SameWords x y a b → SameWords x y (moved_addr table x) (moved_addr table y)
as_moved table x y a b one two same =
    subst (λ (v : ℕ). SameWords x y v (moved_addr table y)) (sym one)
    (subst (λ (w : ℕ). SameWords x y a w) (sym two) same)

-- the rows at two places of the table
ordered : (table : List Move) → IsTable table → (x y : ℕ) (g : Goes table x) (h : Goes table y)
    → g.at < h.at → AreInOrder g.move h.move
ordered table is x y g h less =
    let o = is.order g.at h.at g.move less h.inside in
    let there : get_or table h.at g.move ≡ h.move =
    get_or_default table h.at g.move h.move h.inside ∙ h.there in
    subst (λ (m : Move). AreInOrder m h.move) g.there
    (subst (λ (n : Move). AreInOrder (get_or table g.at g.move) n) there o)

one_goes : (table : List Move) → IsTable table → (x y : ℕ) → Goes table x → Stays table y
    → SameWords x y (moved_addr table x) (moved_addr table y)
one_goes table is x y g s =
    let out : is_in_range y g.move ≡ false =
    subst (λ (m : Move). is_in_range y m ≡ false) g.there (s.range g.at g.move g.inside) in
    let off : is_in_place y g.move ≡ false =
    subst (λ (m : Move). is_in_place y m ≡ false) g.there (s.place g.at g.move g.inside) in
    as_moved table x y (carried x g.move) y g.goes s.same
    (never (apart_words x y g.move (rules_of table x is g) g.holds out off))

first_goes : (table : List Move) → IsTable table → (x y : ℕ) (g : Goes table x)
    (h : Goes table y) → g.at < h.at
    → SameWords x y (moved_addr table x) (moved_addr table y)
first_goes table is x y g h less =
    as_moved table x y (carried x g.move) (carried y h.move) g.goes h.goes
    (never (two_moves x y g.move h.move (rules_of table x is g) (rules_of table y is h)
    (ordered table is x y g h less) g.holds h.holds))

both_go : (table : List Move) → IsTable table → (x y : ℕ) → Goes table x → Goes table y
    → SameWords x y (moved_addr table x) (moved_addr table y)
both_go table is x y g h =
    elim (cases_lt g.at h.at) [
      | inl less ↦ first_goes table is x y g h less
      | inr more ↦ elim (cases_lt h.at g.at) [
        | inl above ↦ turned_words y x (moved_addr table y) (moved_addr table x)
            (first_goes table is y x h g above)
        | inr equal ↦
            let same : g.at ≡ h.at = omega (arith, more, equal) in
            let one : g.move ≡ h.move =
            sym g.there ∙ get_or_default table g.at g.move h.move g.inside
            ∙ ap (λ (k : ℕ). get_or table k h.move) same ∙ h.there in
            let holds : is_in_range x h.move ≡ true =
            subst (λ (m : Move). is_in_range x m ≡ true) one g.holds in
            let goes : moved_addr table x ≡ carried x h.move =
            g.goes ∙ ap (carried x) one in
            as_moved table x y (carried x h.move) (carried y h.move) goes h.goes
            (same_move x y h.move (rules_of table y is h) holds h.holds)
      ]
    ]

words_of : (table : List Move) → IsTable table → (x y : ℕ) → Stays table x ⊎ Goes table x
    → Stays table y ⊎ Goes table y → SameWords x y (moved_addr table x) (moved_addr table y)
words_of table is x y (inl s) (inl t) =
    as_moved table x y x y s.same t.same (λ e. e, λ e. e)
words_of table is x y (inl s) (inr h) =
    turned_words y x (moved_addr table y) (moved_addr table x) (one_goes table is y x h s)
words_of table is x y (inr g) (inl t) = one_goes table is x y g t
words_of table is x y (inr g) (inr h) = both_go table is x y g h

-- ---- accesses

free_at : (table : List Move) (accesses : List Touch) → IsFree table accesses → (a : Touch)
    → Contains accesses a → is_taken table a.addr ≡ false
free_at table accesses free a in_it =
    subst (λ (t : Touch). is_taken table t.addr ≡ false) in_it.2 (free in_it.0 a in_it.1)

pub words_kept : (table : List Move) (accesses : List Touch) → IsTable table
    → IsFree table accesses → KeepsWords table accesses
words_kept table accesses is free = λ a b one two.
    words_of table is a.addr b.addr
    (where_of table a.addr (free_at table accesses free a one))
    (where_of table b.addr (free_at table accesses free b two))

-- a byte of an access lies in its word
abbrev Fits : ℕ → ℕ → Type 0
Fits addr size = addr % size ≡ 0 → addr % 4 + size ≤ 4

fits_sized : (addr size : ℕ) → IsTrue (is_access_size size) → Fits addr size
fits_sized addr size sized =
    elim (cases_Bool (nat_eq size 1)) [
      | inl one ↦
          let is : 1 ≡ size = grind (arith, nat_tests) in
          subst (Fits addr) is (λ aligned. omega arith)
      | inr other ↦ elim (cases_Bool (nat_eq size 2)) [
        | inl two ↦
            let is : 2 ≡ size = grind (arith, nat_tests) in
            subst (Fits addr) is (λ aligned. omega (arith, aligned))
        | inr else_it ↦
            let is : 4 ≡ size = grind (arith, nat_tests) in
            subst (Fits addr) is (λ aligned. omega (arith, aligned))
      ]
    ]

fits_word : (a : Touch) → IsAllowed a → a.addr % 4 + a.size ≤ 4
fits_word a allowed =
    let sized = allowed.sized in
    let aligned = allowed.aligned in
    fits_sized a.addr a.size sized aligned

bytes_of : (x y a b i j : ℕ) → SameWords x y a b → a % 4 ≡ x % 4 → b % 4 ≡ y % 4
    → x % 4 + i < 4 → y % 4 + j < 4 → (a + i ≡ b + j) ↔ (x + i ≡ y + j)
bytes_of x y a b i j words one two below under = (
  λ e.
      let same : word_of a ≡ word_of b = omega (arith, e, one, two, below, under) in
      let was = words.0 same in
      omega (arith, e, same, was, one, two, below, under),
  λ e.
      let same : word_of x ≡ word_of y = omega (arith, e, below, under) in
      let now = words.1 same in
      omega (arith, e, same, now, one, two, below, under),
)

pub bytes_kept : (table : List Move) (accesses : List Touch) → IsTable table
    → All IsAllowed accesses → IsFree table accesses → KeepsBytes table accesses
bytes_kept table accesses is allowed free = λ a b i j one two below under.
    let here = where_of table a.addr (free_at table accesses free a one) in
    let there = where_of table b.addr (free_at table accesses free b two) in
    let first = fits_word a (subst IsAllowed one.2 (allowed one.0 a one.1)) in
    let second = fits_word b (subst IsAllowed two.2 (allowed two.0 b two.1)) in
    bytes_of a.addr b.addr (moved_addr table a.addr) (moved_addr table b.addr) i j
    (words_of table is a.addr b.addr here there)
    (offset_kept table a.addr is here) (offset_kept table b.addr is there)
    (omega (arith, first, below)) (omega (arith, second, under))

same_test : (a b x y : ℕ) → ((a ≡ b) ↔ (x ≡ y)) → nat_eq a b ≡ nat_eq x y
same_test a b x y both = elim (cases_Bool (nat_eq x y)) [
  | inl is ↦
      let now : a ≡ b = both.1 (grind (arith, nat_tests)) in
      let other : nat_eq a b ≡ true = grind (arith, nat_tests) in
      other ∙ sym is
  | inr is ↦ elim (cases_Bool (nat_eq a b)) [
    | inl now ↦
        let was : x ≡ y = both.0 (grind (arith, nat_tests)) in
        absurd (grind (arith, nat_tests))
    | inr now ↦ now ∙ sym is
  ]
]

mapped : (f : Touch → Touch) (x : Touch) (xs : List Touch) (b : Bool)
    → cond b (f x ∷ map f xs) (map f xs) ≡ map f (cond b (x ∷ xs) xs)
mapped f x xs true = refl
mapped f x xs false = refl

filter_moved : (p q : Touch → Bool) (f : Touch → Touch) (xs : List Touch)
    → ((k : ℕ) (d : Touch) → k < length xs → p (f (get_or xs k d)) ≡ q (get_or xs k d))
    → filter p (map f xs) ≡ map f (filter q xs)
filter_moved p q f [] same = refl
filter_moved p q f (x ∷ xs) same =
    let rest = filter_moved p q f xs (λ k d inside. same (suc k) d (omega (arith, inside))) in
    (λ i. cond (same zero x (omega arith) i) (f x ∷ rest i) (rest i))
    ∙ mapped f x (filter q xs) (q x)

pub accesses_kept : (table : List Move) (accesses : List Touch) → IsTable table
    → IsFree table accesses → KeepsAccesses table accesses
accesses_kept table accesses is free = λ a in_it.
    filter_moved (λ b. nat_eq (word_of b.addr) (word_of (moved_addr table a.addr)))
    (λ b. nat_eq (word_of b.addr) (word_of a.addr)) (moved_in table) accesses
    (λ k d inside.
    let b = get_or accesses k d in
    same_test (word_of (moved_addr table b.addr)) (word_of (moved_addr table a.addr))
    (word_of b.addr) (word_of a.addr)
    (words_of table is b.addr a.addr (where_of table b.addr (free k d inside))
    (where_of table a.addr (free_at table accesses free a in_it))))

-- ---- the rules of accesses

divides_on : (x y size : ℕ) → IsTrue (is_access_size size) → x % 4 ≡ y % 4 → y % size ≡ 0
    → x % size ≡ 0
divides_on x y size sized same =
    elim (cases_Bool (nat_eq size 1)) [
      | inl one ↦
          let is : 1 ≡ size = grind (arith, nat_tests) in
          subst (λ (s : ℕ). y % s ≡ 0 → x % s ≡ 0) is (λ aligned. omega arith)
      | inr other ↦ elim (cases_Bool (nat_eq size 2)) [
        | inl two ↦
            let is : 2 ≡ size = grind (arith, nat_tests) in
            subst (λ (s : ℕ). y % s ≡ 0 → x % s ≡ 0) is (λ aligned. omega (arith, same, aligned))
        | inr else_it ↦
            let is : 4 ≡ size = grind (arith, nat_tests) in
            subst (λ (s : ℕ). y % s ≡ 0 → x % s ≡ 0) is (λ aligned. omega (arith, same, aligned))
      ]
    ]

-- whether it is moved or not, an address stays below 2^32 and keeps its place in a word
addr_kept : (table : List Move) → IsTable table → (addr : ℕ) → addr < 2 ^ 32
    → (o : Option Move) → find (is_in_range addr) table ≡ o
    → (moved_addr table addr < 2 ^ 32) × (moved_addr table addr % 4 ≡ addr % 4)
unfolding moved_addr
addr_kept table is addr low None found =
    let same : moved_addr table addr ≡ addr =
    ap (λ (o : Option Move). option_map_or (carried addr) o addr) found in
    (subst (λ (n : ℕ). n < 2 ^ 32) (sym same) low, ap (λ (n : ℕ). n % 4) same)
addr_kept table is addr low (Some m) found =
    let at = found_at (is_in_range addr) table m found in
    let rules : keeps_rules m ≡ true =
    subst (λ (n : Move). keeps_rules n ≡ true) at.2 (is.rules at.0 m at.1) in
    let holds = at.3 in
    let goes : moved_addr table addr ≡ carried addr m =
    ap (λ (o : Option Move). option_map_or (carried addr) o addr) found in
    let below : carried addr m < 2 ^ 32 = grind (arith, nat_tests) in
    let same : carried addr m % 4 ≡ addr % 4 = grind (arith, nat_tests) in
    (subst (λ (n : ℕ). n < 2 ^ 32) (sym goes) below, ap (λ (n : ℕ). n % 4) goes ∙ same)

pub allowed_in : (table : List Move) → IsTable table → (a : Touch) → IsAllowed a
    → IsAllowed (moved_in table a)
allowed_in table is a allowed =
    let kept = addr_kept table is a.addr allowed.addr_in_range (find (is_in_range a.addr) table)
    refl in
    record {
      hart_in_range = allowed.hart_in_range;
      addr_in_range = kept.0;
      sized = allowed.sized;
      aligned = divides_on (moved_addr table a.addr) a.addr a.size allowed.sized kept.1
          allowed.aligned;
    }

pub all_allowed : (table : List Move) (accesses : List Touch) → IsTable table
    → All IsAllowed accesses → All IsAllowed (moved_list table accesses)
all_allowed table accesses is allowed =
    All-map IsAllowed (moved_in table) accesses
    (All-weaker IsAllowed (λ a. IsAllowed (moved_in table a)) (allowed_in table is) accesses
    allowed)

pub none_moved : (accesses : List Touch) → moved_list [] accesses ≡ accesses
unfolding moved_addr
none_moved [] = refl
none_moved (a ∷ accesses) = ap (λ (l : List Touch). a ∷ l) (none_moved accesses)
