-- One step more over the groups, and over the words that are placed.
use Rattle.std.proofs.Common.{◌≡◌, ◌≢◌, ℕ, suc, ◌+◌, ◌*◌, ◌/◌, ◌%◌, ◌^◌, ◌<◌, ◌≤◌, Bool, cond, false, true, List, []}
use Rattle.std.proofs.Common.{◌∷◌, ◌++◌, Some, map, length, take, get_or, refl, sym, ap, ◌∙◌, arith}
use Rattle.std.proofs.Common.{None, Option, inl, inr, length-append, subst}
use Rattle.std.proofs.lemmas.Bool.{cases_eq, cases_lt, le-ltb, lt-ltb, ne_eqb}
use Rattle.std.proofs.lemmas.List.{length-map, map-append}
use Rattle.std.proofs.lemmas.Option.{none-some, same_Some, slice_get-get_or}
use Rattle.std.proofs.lemmas.Option.{slice_get_past}
use Rattle.std.specs.Option.{option_map_or}
use Rattle.std.specs.Prelude.{IfSome, nat_lt, pos, slice_get, slice_set}
use Rattle.sharing_rules.specs.Laws.Lists.{length-below, slice_get-append_left, slice_get-map-below}
use Rattle.sharing_rules.specs.Laws.Lists.{slice_get-push}
use Rattle.sharing_rules.specs.Places.{below}
use Rattle.sharing_rules.specs.declared.word.Owner.{Owner}
use Rattle.placement.specs.Groups.{area_length, group_count, group_of, group_size}
use Rattle.placement.specs.Groups.{group_start, is_in, many_group, rounded}
use Rattle.placement.specs.Laws.Groups.{one-changed, room-ends, size-before, size-few, size-own}
use Rattle.placement.specs.Laws.Groups.{size-take, size-taken, sizes-push, start-whole}
use Rattle.placement.specs.Laws.Groups.{take-step}
use Rattle.placement.specs.Plans.{ArePlaces, lines_from, place_behind, place_from}

-- a table with a number for each place below a bound
pub long_table : (f : ℕ → ℕ) (m : ℕ) (xs : List ℕ) → xs ≡ map f (below m) → length xs ≡ m
long_table f m xs is = ap length is ∙ length-map (below m) f ∙ length-below m

pub in_table : (f : ℕ → ℕ) (m g : ℕ) (xs : List ℕ) → xs ≡ map f (below m) → g < m
    → slice_get xs g ≡ Some (f g)
in_table f m g xs is low = ap (λ (ys : List ℕ). slice_get ys g) is ∙ slice_get-map-below f m g low

pub read_table : (f : ℕ → ℕ) (m g : ℕ) (xs : List ℕ) → xs ≡ map f (below m) → g < m
    → get_or xs g 0 ≡ f g
read_table f m g xs is low =
    let long = long_table f m xs is in
    same_Some _ _ (sym (slice_get-get_or xs g 0 (omega (arith, long, low)))
    ∙ in_table f m g xs is low)

-- a table that goes on
pub grown_table : (f : ℕ → ℕ) (g x : ℕ) (xs ys : List ℕ) → xs ≡ map f (below (suc g))
    → ys ≡ xs ++ x ∷ [] → x ≡ f (suc g) → ys ≡ map f (below (suc (suc g)))
grown_table f g x xs ys is pushed next =
    pushed ∙ ap (λ (zs : List ℕ). zs ++ x ∷ []) is
    ∙ ap (λ (n : ℕ). map f (below (suc g)) ++ n ∷ []) next
    ∙ sym (map-append f (below (suc g)) (suc g ∷ []))

pub table_push : (f : ℕ → ℕ) (i x : ℕ) (xs ys : List ℕ) → xs ≡ map f (below i)
    → ys ≡ xs ++ x ∷ [] → x ≡ f i → ys ≡ map f (below (suc i))
table_push f i x xs ys is pushed next =
    pushed ∙ ap (λ (zs : List ℕ). zs ++ x ∷ []) is
    ∙ ap (λ (n : ℕ). map f (below i) ++ n ∷ []) next
    ∙ sym (map-append f (below i) (i ∷ []))

-- the sizes of the groups of the words so far, and one word more
pub sizes_few : (os : List Owner) (i g size : ℕ) (xs : List ℕ)
    → xs ≡ map (group_size (take i os)) (below group_count) → g < group_count
    → slice_get xs g ≡ Some size → size ≤ length os
sizes_few os i g size xs is low at =
    let same : size ≡ group_size (take i os) g = same_Some _ _ (sym at
    ∙ in_table (group_size (take i os)) group_count g xs is low) in
    let taken = size-taken os i g in
    let few = size-few os g in
    omega (arith, same, taken, few)

pub sizes_next : (os : List Owner) (i g : ℕ) (o : Owner) (xs ys : List ℕ)
    → slice_get os i ≡ Some o → g ≡ group_of o → g < group_count
    → xs ≡ map (group_size (take i os)) (below group_count)
    → ((size : ℕ) → slice_get xs g ≡ Some size → ys ≡ slice_set xs g (size + 1))
    → ys ≡ map (group_size (take (i + 1) os)) (below group_count)
sizes_next os i g o xs ys at same low is noted =
    let f : ℕ → ℕ = group_size (take i os) in
    noted (f g) (in_table f group_count g xs is low)
    ∙ ap (λ (zs : List ℕ). slice_set zs g (f g + 1)) is
    ∙ ap (λ (k : ℕ). slice_set (map f (below group_count)) k (f k + 1)) same
    ∙ sizes-push (take i os) o (subst (λ (k : ℕ). k < group_count) same low)
    ∙ ap (λ (zs : List Owner). map (group_size zs) (below group_count)) (sym (take-step os i o at))

-- where the next word of a group goes, once some words are placed
abbrev pub next_of : ℕ → ℕ → List Owner → ℕ → ℕ → ℕ
next_of n start os i g = start + group_start n os g + 4 * group_size (take i os) g

-- a place ends with the area or before
pub next_ends : (n start : ℕ) (os : List Owner) (i g : ℕ) → 0 < n → g < group_count
    → next_of n start os i g ≤ start + area_length n os
next_ends n start os i g some low =
    let ends = room-ends n os g some low in
    let taken = size-taken os i g in
    omega (arith, ends, taken)

-- a word that is placed
pub record IsPlaced (n start : ℕ) (os : List Owner) (i place : ℕ) : Type 0 where
  pub is : place ≡ place_from n start os i
  pub fits : place + 4 ≤ start + area_length n os

pub word_placed : (n start : ℕ) (os : List Owner) (i g place : ℕ) (o : Owner) (xs : List ℕ) → 0 < n
    → slice_get os i ≡ Some o → g ≡ group_of o → g < group_count
    → xs ≡ map (next_of n start os i) (below (suc group_count)) → Some place ≡ slice_get xs g
    → IsPlaced n start os i place
word_placed n start os i g place o xs some at same low is taken =
    let here : place ≡ next_of n start os i g = same_Some _ _ (taken
    ∙ in_table (next_of n start os i) (suc group_count) g xs is (omega (arith, low))) in
    let own : next_of n start os i g ≡ start + place_behind n os i o =
    ap (next_of n start os i) same ∙ omega arith in
    let there : place_from n start os i ≡ start + place_behind n os i o =
    ap (λ p. option_map_or (λ w. start + place_behind n os i w) p 0) at in
    let ends = room-ends n os g some low in
    let before : group_size (take i os) g + 1 ≤ group_size os g =
    subst (λ (k : ℕ). group_size (take i os) k + 1 ≤ group_size os k) (sym same)
    (size-before os i o at) in
    record {
      is = here ∙ own ∙ sym there;
      fits = omega (arith, here, ends, before);
    }

pub places_next : (n start : ℕ) (os : List Owner) (i g place : ℕ) (o : Owner) (xs ys : List ℕ)
    → slice_get os i ≡ Some o → g ≡ group_of o → g < group_count
    → xs ≡ map (next_of n start os i) (below (suc group_count)) → Some place ≡ slice_get xs g
    → ys ≡ slice_set xs g (place + 4)
    → ys ≡ map (next_of n start os (i + 1)) (below (suc group_count))
places_next n start os i g place o xs ys at same low is taken noted =
    let f : ℕ → ℕ = next_of n start os i in
    let h : ℕ → ℕ = next_of n start os (i + 1) in
    let here : place ≡ f g = same_Some _ _ (taken
    ∙ in_table f (suc group_count) g xs is (omega (arith, low))) in
    let own : is_in g o ≡ true =
    subst (λ (k : ℕ). is_in k o ≡ true) (sym same) (size-own o) in
    let one : ℕ = 1 in
    let more : group_size (take (i + 1) os) g ≡ group_size (take i os) g + one =
    size-take os i o g at ∙ ap (λ (b : Bool). group_size (take i os) g + cond b 1 0) own in
    let grown : place + 4 ≡ h g = omega (arith, here, more) in
    noted ∙ ap (λ (zs : List ℕ). slice_set zs g (place + 4)) is
    ∙ ap (slice_set (map f (below (suc group_count))) g) grown
    ∙ one-changed f h g (suc group_count) (omega (arith, low)) (λ k other.
    let away : is_in k o ≡ false = ne_eqb (group_of o) k (λ e. other (sym e ∙ sym same)) in
    let zero_more : ℕ = 0 in
    let stays : group_size (take (i + 1) os) k ≡ group_size (take i os) k + zero_more =
    size-take os i o k at ∙ ap (λ (b : Bool). group_size (take i os) k + cond b 1 0) away in
    omega (arith, stays))

-- places of words stay what they are
pub are_places_push : (xs ys : List ℕ) (x : ℕ) → ArePlaces xs → ys ≡ xs ++ x ∷ [] → x % 4 ≡ 0
    → x + 4 ≤ 2 ^ 32 → ArePlaces ys
are_places_push xs ys x all pushed even fits = λ i y at.
    let here : slice_get (xs ++ x ∷ []) i ≡ Some y = ap (λ (zs : List ℕ). slice_get zs i) (sym pushed) ∙ at in
    elim (cases_lt i (length xs)) [
      | inl within ↦ all i y (sym (slice_get-append_left xs (x ∷ []) i within) ∙ here)
      | inr past ↦ elim (cases_eq i (length xs)) [
        | inl last ↦
            let same : x ≡ y = same_Some x y
            (sym (ap (slice_get (xs ++ x ∷ [])) last ∙ slice_get-push xs x) ∙ here) in
            (ap (λ (z : ℕ). z % 4) (sym same) ∙ even, omega (arith, same, fits))
        | inr beyond ↦
            let none : slice_get (xs ++ x ∷ []) i ≡ None =
            slice_get_past (xs ++ x ∷ []) i
            (omega (arith, past, beyond, length-append xs (x ∷ []))) in
            absurd (none-some y (sym none ∙ here))
      ]
    ]

four_times : (k m : ℕ) → (k * (4 * m)) % 4 ≡ 0
four_times k m = let same : k * (4 * m) ≡ 4 * (k * m) = omega arith in omega (arith, same)

pub place_even : (n start : ℕ) (os : List Owner) (i place : ℕ) {o : Owner} → 0 < n → n % 4 ≡ 0
    → start % 4 ≡ 0 → slice_get os i ≡ Some o → place ≡ place_from n start os i → place % 4 ≡ 0
place_even n start os i place {o} some whole even at is =
    let there : place_from n start os i ≡ start + place_behind n os i o =
    ap (λ p. option_map_or (λ w. start + place_behind n os i w) p 0) at in
    let lines = start-whole n os (group_of o) some in
    let begins = lines.whole in
    let size : n ≡ 4 * (n / 4) = omega (arith, whole) in
    let same : group_start n os (group_of o) ≡ lines.lines * (4 * (n / 4)) =
    begins ∙ ap (λ (z : ℕ). lines.lines * z) size in
    let fourth = four_times lines.lines (n / 4) in
    omega (arith, is, there, same, fourth, even)

-- the lines of the words of many harts, as they are read from the tables
pub no_many : (n start size : ℕ) (os : List Owner) → size ≡ group_size os many_group → size ≡ 0
    → None ≡ lines_from n start os
no_many n start size os is none =
    let low : nat_lt 0 (group_size os many_group) ≡ false =
    le-ltb _ _ (omega (arith, is, none)) in
    rw low refl

pub some_many : (n start size begin room : ℕ) (os : List Owner) → size ≡ group_size os many_group
    → size ≢ 0 → begin ≡ start + group_start n os many_group → room ≡ rounded n (4 * size)
    → Some (record { base = pos begin; size = room }) ≡ lines_from n start os
some_many n start size begin room os is some begins rooms =
    let high : nat_lt 0 (group_size os many_group) ≡ true = lt-ltb _ _ (omega (arith, is, some)) in
    rw high
    (ap (λ (z : ℕ). Some (record { base = pos z; size = room })) begins
    ∙ ap (λ (z : ℕ). Some (record { base = pos (start + group_start n os many_group); size = z }))
    (rooms ∙ ap (λ (z : ℕ). rounded n (4 * z)) is))

-- what is read from a table of groups
pub read_entry : (f : ℕ → ℕ) (m g x : ℕ) (xs : List ℕ) → xs ≡ map f (below m) → g < m
    → Some x ≡ slice_get xs g → x ≡ f g
read_entry f m g x xs is low read = same_Some _ _ (read ∙ in_table f m g xs is low)

-- a place that is read
pub read_place : (xs : List ℕ) (i : ℕ) (o : Option ℕ) → o ≡ slice_get xs i → ArePlaces xs
    → IfSome o (λ x. x % 4 ≡ 0) × IfSome o (λ x. x + 4 ≤ 2 ^ 32)
read_place xs i None is all = (tt, tt)
read_place xs i (Some x) is all =
    let one = all i x (sym is) in
    (one.0, one.1)
