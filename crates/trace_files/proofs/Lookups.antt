-- What is found of an address in a table.
use Rattle.std.proofs.Common.{◌≡◌, ℕ, ◌+◌, ◌-◌, ◌%◌, ◌<◌, ◌^◌, Bool, true, false, not, List, [], ◌∷◌}
use Rattle.std.proofs.Common.{Option, Some, None, refl, sym, ap, ◌∙◌, arith, cond, find, option_map}
use Rattle.std.specs.Prelude.{◌&&◌, ◌||◌, is_some}
use Rattle.std.specs.Option.{option_map_or}
use Rattle.std.specs.List.{list_all, list_any}
use Rattle.std.proofs.lemmas.Bool.Decides.{nat_tests}
use Rattle.std.proofs.lemmas.List.Folds.{list_all-map}
use Rattle.std.proofs.lemmas.List.Sums.{list_all-from_AllPass}
use Rattle.trace_files.specs.declared.move_row.Move.{Move}
use Rattle.trace_files.specs.Moves.{carried, is_in_place, is_in_range, is_moved, is_taken, moved_addr}
use Rattle.trace_files.specs.Rows.{AreKept, turned}
use Rattle.trace_files.specs.Tables.{IsTable, keeps_rules}

-- ---- tests

some_or : {X : Type 0} (x : X) (b : Bool) (o : Option X) → b || is_some o
    ≡ is_some (cond b (Some x) o)
some_or x true o = refl
some_or x false o = refl

pub any_find : {X : Type 0} (p : X → Bool) (xs : List X) → list_any p xs ≡ is_some (find p xs)
any_find p [] = refl
any_find p (x ∷ xs) =
    ap (λ (b : Bool). p x || b) (any_find p xs) ∙ some_or x (p x) (find p xs)

not_or : (a b : Bool) → a || not b ≡ not (not a && b)
not_or true b = refl
not_or false b = refl

pub any_all : {X : Type 0} (p : X → Bool) (xs : List X)
    → list_any p xs ≡ not (list_all (λ x. not (p x)) xs)
any_all p [] = refl
any_all p (x ∷ xs) =
    ap (λ (b : Bool). p x || b) (any_all p xs) ∙ not_or (p x) (list_all (λ y. not (p y)) xs)

-- ---- an address

-- it lies in a place exactly where a way back begins at it
place_found : (rows places : List Move) → AreKept rows places → (addr : ℕ)
    → list_any (is_in_place addr) rows ≡ is_some (find (is_in_range addr) places)
place_found rows places kept addr =
    any_all (is_in_place addr) rows
    ∙ ap not (sym (kept.same (λ m. not (is_in_range addr m))
    ∙ list_all-map (λ m. not (is_in_range addr m)) turned rows))
    ∙ sym (any_all (is_in_range addr) places)
    ∙ any_find (is_in_range addr) places

taken_found : (rows places : List Move) → AreKept rows places → (addr : ℕ)
    → is_taken rows addr
    ≡ (is_some (find (is_in_range addr) places) && not (is_some (find (is_in_range addr) rows)))
unfolding is_taken
taken_found rows places kept addr =
    λ i. place_found rows places kept addr i && not (any_find (is_in_range addr) rows i)

taken_as : (p r answer taken : Bool) → taken ≡ (p && not r) → p ≡ true → r ≡ not answer
    → answer ≡ taken
taken_as true r true taken is there back = sym (is ∙ ap not back)
taken_as true r false taken is there back = sym (is ∙ ap not back)
taken_as false r answer taken is there back = absurd cc

-- in a place, it is taken exactly where no range holds it
pub taken_there : (rows places : List Move) → AreKept rows places → (addr : ℕ) (answer : Bool)
    → is_some (find (is_in_range addr) places) ≡ true
    → is_some (find (is_in_range addr) rows) ≡ not answer
    → answer ≡ is_taken rows addr
taken_there rows places kept addr answer there back =
    taken_as (is_some (find (is_in_range addr) places)) (is_some (find (is_in_range addr) rows))
    answer (is_taken rows addr) (taken_found rows places kept addr) there back

-- and else it isn't
pub taken_nowhere : (rows places : List Move) → AreKept rows places → (addr : ℕ)
    → is_some (find (is_in_range addr) places) ≡ false → false ≡ is_taken rows addr
taken_nowhere rows places kept addr there =
    sym (taken_found rows places kept addr
    ∙ ap (λ (b : Bool). b && not (is_some (find (is_in_range addr) rows))) there)

of_found : (o : Option Move) (addr place : ℕ) → option_map (carried addr) o ≡ Some place
    → place ≡ option_map_or (carried addr) o addr
of_found None addr place is = absurd cc
of_found (Some m) addr place is = cc

of_none : (o : Option Move) (addr : ℕ) → option_map (carried addr) o ≡ None
    → addr ≡ option_map_or (carried addr) o addr
of_none None addr is = refl
of_none (Some m) addr is = absurd cc

-- where it goes
pub moved_found : (table : List Move) (addr place : ℕ)
    → option_map (carried addr) (find (is_in_range addr) table) ≡ Some place
    → place ≡ moved_addr table addr
unfolding moved_addr
moved_found table addr place is = of_found (find (is_in_range addr) table) addr place is

pub moved_nowhere : (table : List Move) (addr : ℕ)
    → option_map (carried addr) (find (is_in_range addr) table) ≡ None
    → addr ≡ moved_addr table addr
unfolding moved_addr
moved_nowhere table addr is = of_none (find (is_in_range addr) table) addr is

-- the place of a row that holds it ends below 2^32
pub fits_place : (table : List Move) (addr : ℕ) (m : Move) → IsTable table
    → ((test : Move → Bool) → list_all test table ≡ true → test m ≡ true)
    → is_in_range addr m ≡ true → addr - m.from + m.to < 2 ^ 32
fits_place table addr m is within holds =
    let rules : keeps_rules m ≡ true =
    within keeps_rules (list_all-from_AllPass keeps_rules table is.rules) in
    grind (arith, nat_tests)

-- and keeps a byte's place in its word
pub kept_word : (table : List Move) (addr : ℕ) (m : Move) → IsTable table
    → ((test : Move → Bool) → list_all test table ≡ true → test m ≡ true)
    → is_in_range addr m ≡ true → (addr - m.from + m.to) % 4 ≡ addr % 4
kept_word table addr m is within holds =
    let rules : keeps_rules m ≡ true =
    within keeps_rules (list_all-from_AllPass keeps_rules table is.rules) in
    grind (arith, nat_tests)

some_mapped : {X Y : Type 0} (f : X → Y) (o : Option X) (y : Y) → option_map f o ≡ Some y
    → is_some o ≡ true
some_mapped f None y is = absurd cc
some_mapped f (Some x) y is = refl

none_mapped : {X Y : Type 0} (f : X → Y) (o : Option X) → option_map f o ≡ None
    → is_some o ≡ false
none_mapped f None is = refl
none_mapped f (Some x) is = absurd cc

pub moved_there : (table : List Move) (addr place : ℕ)
    → option_map (carried addr) (find (is_in_range addr) table) ≡ Some place
    → true ≡ is_moved table addr
moved_there table addr place is =
    sym (any_find (is_in_range addr) table
    ∙ some_mapped (carried addr) (find (is_in_range addr) table) place is)

pub stays_there : (table : List Move) (addr : ℕ)
    → option_map (carried addr) (find (is_in_range addr) table) ≡ None
    → false ≡ is_moved table addr
stays_there table addr is =
    sym (any_find (is_in_range addr) table
    ∙ none_mapped (carried addr) (find (is_in_range addr) table) is)
