-- The groups in the area: where each begins and ends, and the words in each.
use Rattle.std.proofs.Common.{◌≡◌, ℕ, zero, suc, ◌+◌, ◌-◌, ◌*◌, ◌/◌, ◌%◌, ◌^◌, ◌<◌, ◌≤◌, Bool, true, false}
use Rattle.std.proofs.Common.{◌&&◌, leb, ltb, cond, eqb, List, [], ◌∷◌, ◌++◌, Some, map, length, take, refl}
use Rattle.std.proofs.Common.{sym, ap, ◌∙◌, ◌≢◌, arith, inl, inr}
use Rattle.std.proofs.Math.Nat.{add-zero, mod-lt}
use Rattle.std.proofs.lemmas.Bool.{and_parts, cases_eq, cases_lt, eq-eqb, eqb-true}
use Rattle.std.proofs.lemmas.Bool.{leb-true, ltb-true, ne_eqb}
use Rattle.std.proofs.lemmas.List.{length-map, length-set}
use Rattle.std.proofs.lemmas.List.Sums.{sum_by-cons, sum_by_push}
use Rattle.std.proofs.lemmas.Nat.{div-add-mod'}
use Rattle.std.proofs.lemmas.Option.{none-some, same_Some, slice_get_past}
use Rattle.std.specs.Prelude.{slice_get, slice_set}
use Rattle.sharing_rules.specs.Laws.Lists.{all_any, get-set_other, get-set_same, length-below}
use Rattle.sharing_rules.specs.Laws.Lists.{same_by_get}
use Rattle.base.specs.Lines.{is_line_size}
use Rattle.sharing_rules.specs.Laws.Lists.{slice_get-map-below}
use Rattle.sharing_rules.specs.Places.{below}
use Rattle.sharing_rules.specs.declared.word.Owner.{Owner}
use Rattle.sharing_rules.specs.declared.word.Owner.TheVariants as owner
use Rattle.placement.specs.Groups.{area_length, group_count, group_of, group_room, group_size}
use Rattle.placement.specs.Groups.{group_start, is_in, many_group, rounded, untouched_group}

-- a number rounded up to a multiple
pub record IsRounded (n x y : ℕ) : Type 0 where
  pub lines : ℕ
  pub whole : y ≡ lines * n
  pub above : x ≤ y
  pub near : y < x + n

pub rounded-up : (n x : ℕ) → 0 < n → IsRounded n x (rounded n x)
rounded-up n x some =
    let v : ℕ = x + (n - 1) in
    let split : v / n * n + v % n ≡ v = div-add-mod' v n in
    let rest : v % n < n = mod-lt v some in
    record {
      lines = v / n;
      whole = refl;
      above = omega (arith, split, rest, some);
      near = omega (arith, split, rest, some);
    }

-- where the next group begins
pub start-next : (n : ℕ) (os : List Owner) (g : ℕ)
    → group_start n os (suc g) ≡ group_start n os g + group_room n os g
start-next n os g = sum_by_push (group_room n os) (below g) g

pub start-grows : (n : ℕ) (os : List Owner) (g h : ℕ) → g ≤ h
    → group_start n os g ≤ group_start n os h
start-grows n os g zero le =
    let same : g ≡ 0 = omega (arith, le) in
    omega (arith, ap (group_start n os) same)
start-grows n os g (suc h) le =
    elim (cases_eq g (suc h)) [
      | inl same ↦ omega (arith, ap (group_start n os) same)
      | inr other ↦
          let rest = start-grows n os g h (omega (arith, le, other)) in
          let next = start-next n os h in
          omega (arith, rest, next)
    ]

-- each begins with a line
pub record IsMultiple (n x : ℕ) : Type 0 where
  pub lines : ℕ
  pub whole : x ≡ lines * n

pub start-whole : (n : ℕ) (os : List Owner) (g : ℕ) → 0 < n → IsMultiple n (group_start n os g)
start-whole n os zero some = record { lines = 0; whole = omega arith }
start-whole n os (suc g) some =
    let rest = start-whole n os g some in
    let room = rounded-up n (4 * group_size os g) some in
    record {
      lines = rest.lines + room.lines;
      whole =
          let next = start-next n os g in
          let one = rest.whole in
          let other = room.whole in
          omega (arith, next, one, other);
    }

-- one element more of a list
pub take-step : (os : List Owner) (i : ℕ) (o : Owner) → slice_get os i ≡ Some o
    → take (i + 1) os ≡ take i os ++ o ∷ []
take-step [] i o at = absurd (none-some o at)
take-step (p ∷ os) zero o at = ap (λ (x : Owner). x ∷ []) (same_Some p o at)
take-step (p ∷ os) (suc i) o at =
    let next : suc i + 1 ≡ suc (i + 1) = omega arith in
    ap (λ (k : ℕ). take k (p ∷ os)) next ∙ ap (λ (xs : List Owner). p ∷ xs) (take-step os i o at)

-- the words of a group, one more
pub size-push : (os : List Owner) (o : Owner) (g : ℕ)
    → group_size (os ++ o ∷ []) g ≡ group_size os g + cond (is_in g o) 1 0
size-push os o g = sum_by_push (λ x. cond (is_in g x) 1 0) os o

pub size-cons : (o : Owner) (os : List Owner) (g : ℕ)
    → group_size (o ∷ os) g ≡ cond (is_in g o) 1 0 + group_size os g
size-cons o os g = sum_by-cons (λ x. cond (is_in g x) 1 0) o os

pub size-own : (o : Owner) → is_in (group_of o) o ≡ true
size-own o = eq-eqb (group_of o) (group_of o) refl

at_most_one : (b : Bool) → cond b 1 0 ≤ 1
at_most_one true = omega arith
at_most_one false = omega arith

pub size-few : (os : List Owner) (g : ℕ) → group_size os g ≤ length os
size-few [] g = omega arith
size-few (o ∷ os) g =
    let rest = size-few os g in
    let one = at_most_one (is_in g o) in
    omega (arith, rest, one, size-cons o os g)

pub size-taken : (os : List Owner) (i g : ℕ) → group_size (take i os) g ≤ group_size os g
size-taken [] zero g = omega arith
size-taken [] (suc i) g = omega arith
size-taken (o ∷ os) zero g = omega arith
size-taken (o ∷ os) (suc i) g =
    let rest = size-taken os i g in
    omega (arith, rest, size-cons o os g, size-cons o (take i os) g)

-- how many of a group stand before a word of it, with the word itself
pub size-before : (os : List Owner) (i : ℕ) (o : Owner) → slice_get os i ≡ Some o
    → group_size (take i os) (group_of o) + 1 ≤ group_size os (group_of o)
size-before [] i o at = absurd (none-some o at)
size-before (p ∷ os) zero o at =
    let same : p ≡ o = same_Some p o at in
    let one : ℕ = 1 in
    let own : cond (is_in (group_of o) p) 1 0 ≡ one =
    ap (λ (b : Bool). cond b 1 0) (ap (is_in (group_of o)) same ∙ size-own o) in
    omega (arith, own, size-cons p os (group_of o))
size-before (p ∷ os) (suc i) o at =
    let rest = size-before os i o at in
    omega (arith, rest, size-cons p os (group_of o), size-cons p (take i os) (group_of o))

pub group-less : (o : Owner) → ((h : ℕ) → o ≡ owner.One h → h < 256) → group_of o < group_count
unfolding group_count many_group untouched_group
group-less owner.None low = omega arith
group-less (owner.One h) low = let l = low h refl in omega (arith, l)
group-less owner.Many low = omega arith

-- The words of a group end with its room, and that with the area's.
pub room-ends : (n : ℕ) (os : List Owner) (g : ℕ) → 0 < n → g < group_count
    → group_start n os g + 4 * group_size os g ≤ area_length n os
room-ends n os g some low =
    let room = rounded-up n (4 * group_size os g) some in
    let above = room.above in
    let next = start-next n os g in
    let grows = start-grows n os (suc g) group_count (omega (arith, low)) in
    omega (arith, above, next, grows)

-- a table with a number for each group, one of which changes
pub one-changed : (f h : ℕ → ℕ) (g m : ℕ) → g < m → ((k : ℕ) → k ≢ g → h k ≡ f k)
    → slice_set (map f (below m)) g (h g) ≡ map h (below m)
one-changed f h g m low others =
    let long : length (map f (below m)) ≡ m = length-map (below m) f ∙ length-below m in
    let longer : length (map h (below m)) ≡ m = length-map (below m) h ∙ length-below m in
    same_by_get _ _ (λ k. elim (cases_lt k m) [
      | inl within ↦ elim (cases_eq k g) [
        | inl same ↦
            ap (slice_get (slice_set (map f (below m)) g (h g))) same
            ∙ get-set_same (map f (below m)) g (h g) (omega (arith, long, low))
            ∙ ap (λ j. Some (h j)) (sym same) ∙ sym (slice_get-map-below h m k within)
        | inr other ↦
            get-set_other (map f (below m)) g k (h g) other
            ∙ slice_get-map-below f m k within ∙ ap Some (sym (others k other))
            ∙ sym (slice_get-map-below h m k within)
      ]
      | inr past ↦
          slice_get_past _ k (omega (arith, length-set (map f (below m)) g (h g), long, past))
          ∙ sym (slice_get_past (map h (below m)) k (omega (arith, longer, past)))
    ])

-- the sizes with one word more
pub sizes-push : (os : List Owner) (o : Owner) → group_of o < group_count
    → slice_set (map (group_size os) (below group_count)) (group_of o)
    (group_size os (group_of o) + 1) ≡ map (group_size (os ++ o ∷ [])) (below group_count)
sizes-push os o low =
    let more : group_size (os ++ o ∷ []) (group_of o) ≡ group_size os (group_of o) + 1 =
    size-push os o (group_of o)
    ∙ ap (λ (b : Bool). group_size os (group_of o) + cond b 1 0) (size-own o) in
    ap (slice_set (map (group_size os) (below group_count)) (group_of o)) (sym more)
    ∙ one-changed (group_size os) (group_size (os ++ o ∷ [])) (group_of o) group_count low
    (λ k other. size-push os o k
    ∙ ap (λ (b : Bool). group_size os k + cond b 1 0)
    (ne_eqb (group_of o) k (λ e. other (sym e))) ∙ add-zero (group_size os k))

-- and one word more of those before a word
pub size-take : (os : List Owner) (i : ℕ) (o : Owner) (g : ℕ) → slice_get os i ≡ Some o
    → group_size (take (i + 1) os) g ≡ group_size (take i os) g + cond (is_in g o) 1 0
size-take os i o g at =
    ap (λ (xs : List Owner). group_size xs g) (take-step os i o at) ∙ size-push (take i os) o g

-- no group begins far behind the first
pub start-few : (n : ℕ) (os : List Owner) (g : ℕ) → 0 < n → n ≤ 1024 → length os ≤ 2 ^ 23
    → group_start n os g ≤ g * 2 ^ 26
start-few n os zero some few short = omega arith
start-few n os (suc g) some few short =
    let rest = start-few n os g some few short in
    let next = start-next n os g in
    let size = size-few os g in
    let room = rounded-up n (4 * group_size os g) some in
    let near = room.near in
    omega (arith, rest, next, size, near, few, short)

pub count-few : group_count ≤ 512
unfolding group_count
count-few = omega arith

-- a line has whole words, and not too many
pub record IsLineSize (n : ℕ) : Type 0 where
  pub some : 0 < n
  pub few : n ≤ 1024
  pub whole : n % 4 ≡ 0

pub line-sized : (n : ℕ) → is_line_size n ≡ true → IsLineSize n
line-sized n is =
    let all = all_any (λ m. ltb 0 m && (leb m 1024 && eqb (m % 4) 0)) n
    (4 ∷ 8 ∷ 16 ∷ 32 ∷ 64 ∷ 128 ∷ 256 ∷ 512 ∷ 1024 ∷ []) refl is in
    let parts = and_parts (ltb 0 n) _ all in
    let rest = and_parts (leb n 1024) _ parts.1 in
    record {
      some = ltb-true 0 n parts.0;
      few = leb-true n 1024 rest.0;
      whole = eqb-true (n % 4) 0 rest.1;
    }

-- more words have no fewer of a group
pub size-grows : (os : List Owner) (i j g : ℕ) → i ≤ j
    → group_size (take i os) g ≤ group_size (take j os) g
size-grows [] zero zero g le = omega arith
size-grows [] zero (suc j) g le = omega arith
size-grows [] (suc i) zero g le = absurd (omega (arith, le))
size-grows [] (suc i) (suc j) g le = omega arith
size-grows (o ∷ os) zero j g le =
    let none : group_size (take 0 (o ∷ os)) g ≡ 0 = refl in
    omega (arith, none)
size-grows (o ∷ os) (suc i) zero g le = absurd (omega (arith, le))
size-grows (o ∷ os) (suc i) (suc j) g le =
    let rest = size-grows os i j g (omega (arith, le)) in
    omega (arith, rest, size-cons o (take i os) g, size-cons o (take j os) g)
