-- Where the places of a plan lie: no two are one, none is a word that is touched, and no line has
-- words of two groups.
use Rattle.std.proofs.Common.{◌≡◌, ◌≢◌, ℕ, suc, ◌+◌, ◌-◌, ◌*◌, ◌/◌, ◌<◌, ◌≤◌, Bool, cond, List}
use Rattle.std.proofs.Common.{[], ◌∷◌, Some, take, sym, ap, ◌∙◌, arith, inl}
use Rattle.std.proofs.Common.{inr}
use Rattle.std.proofs.Math.Nat.{mod-lt}
use Rattle.std.proofs.lemmas.Bool.{cases_eq, cases_lt}
use Rattle.std.proofs.lemmas.Nat.{div-add-mod'}
use Rattle.std.specs.List.{AllByRecursion}
use Rattle.std.specs.Option.{option_map_or}
use Rattle.std.specs.Prelude.{slice_get}
use Rattle.base.specs.Touch.{Touch, word_of}
use Rattle.sharing_rules.specs.declared.word.Owner.{Owner}
use Rattle.placement.specs.Groups.{group_of, group_size, group_start}
use Rattle.placement.specs.Laws.Groups.{IsMultiple, rounded-up, size-before, start-grows, start-next}
use Rattle.placement.specs.Laws.Groups.{size-grows, size-own, size-take, start-whole}
use Rattle.placement.specs.Plans.{area_start, place, place_behind, place_from}
use Rattle.placement.specs.Words.{Owned, end_of}

-- the place of a word in its group
pub record IsInGroup (n start : ℕ) (os : List Owner) (i : ℕ) (w : Owner) : Type 0 where
  pub low : start + group_start n os (group_of w) ≤ place_from n start os i
  pub high : place_from n start os i + 4 ≤ start + group_start n os (suc (group_of w))

pub in-group : (n start : ℕ) (os : List Owner) (i : ℕ) (w : Owner) → 0 < n
    → slice_get os i ≡ Some w → IsInGroup n start os i w
in-group n start os i w some at =
    let g : ℕ = group_of w in
    let there : place_from n start os i ≡ start + place_behind n os i w =
    ap (λ p. option_map_or (λ v. start + place_behind n os i v) p 0) at in
    let before = size-before os i w at in
    let room = rounded-up n (4 * group_size os g) some in
    let above = room.above in
    let next = start-next n os g in
    record {
      low = omega (arith, there);
      high = omega (arith, there, before, above, next);
    }

-- two numbers on both sides of the beginning of a line
pub lines-apart : (n k a b : ℕ) → 0 < n → a < k * n → k * n ≤ b → a / n < b / n
lines-apart n k a b some below above =
    let split = div-add-mod' a n in
    let other = div-add-mod' b n in
    let rest = mod-lt b some in
    elim (cases_lt (a / n) k) [
      | inl low ↦ elim (cases_lt (b / n) k) [
        | inl none ↦
            let d : ℕ = k - (b / n + 1) in
            let is : k ≡ b / n + 1 + d = omega (arith, none) in
            let same : k * n ≡ b / n * n + n + d * n = ap (λ (z : ℕ). z * n) is ∙ omega arith in
            absurd (omega (arith, same, other, rest, above))
        | inr high ↦ omega (arith, low, high)
      ]
      | inr none ↦
          let d : ℕ = a / n - k in
          let is : a / n ≡ k + d = omega (arith, none) in
          let same : a / n * n ≡ k * n + d * n = ap (λ (z : ℕ). z * n) is ∙ omega arith in
          absurd (omega (arith, same, split, below))
    ]

-- of two groups the words of the one lie on earlier lines than those of the other
pub groups-apart : (n start : ℕ) (os : List Owner) (i j : ℕ) (v w : Owner) → 0 < n
    → IsMultiple n start → slice_get os i ≡ Some v → slice_get os j ≡ Some w
    → group_of v < group_of w → place_from n start os i / n < place_from n start os j / n
groups-apart n start os i j v w some begins at other less =
    let first = in-group n start os i v some at in
    let second = in-group n start os j w some other in
    let high = first.high in
    let low = second.low in
    let grows = start-grows n os (suc (group_of v)) (group_of w) (omega (arith, less)) in
    let whole = start-whole n os (group_of w) some in
    let start_is = begins.whole in
    let group_is = whole.whole in
    lines-apart n (begins.lines + whole.lines) (place_from n start os i) (place_from n start os j)
    some (omega (arith, high, grows, start_is, group_is)) (omega (arith, low, start_is, group_is))

-- words of two groups never share a line
pub no-shared_line : (n start : ℕ) (os : List Owner) (i j : ℕ) (v w : Owner) → 0 < n
    → IsMultiple n start → slice_get os i ≡ Some v → slice_get os j ≡ Some w
    → place_from n start os i / n ≡ place_from n start os j / n → group_of v ≡ group_of w
no-shared_line n start os i j v w some begins at other same =
    elim (cases_eq (group_of v) (group_of w)) [
      | inl is ↦ is
      | inr apart ↦ elim (cases_lt (group_of v) (group_of w)) [
        | inl less ↦
            let before = groups-apart n start os i j v w some begins at other less in
            absurd (omega (arith, before, same))
        | inr more ↦
            let behind = groups-apart n start os j i w v some begins other at
            (omega (arith, more, apart)) in
            absurd (omega (arith, behind, same))
      ]
    ]

-- behind all accesses
pub behind-end : (n : ℕ) (o : Owned) (i : ℕ) (w : Owner) → 0 < n → slice_get o.owners i ≡ Some w
    → o.end ≤ place n o i
behind-end n o i w some at =
    let is = in-group n (area_start n o) o.owners i w some at in
    let low = is.low in
    let round = rounded-up n o.end some in
    let above = round.above in
    omega (arith, low, above)

pub area-whole : (n : ℕ) (o : Owned) → 0 < n → IsMultiple n (area_start n o)
area-whole n o some =
    let round = rounded-up n o.end some in
    record { lines = round.lines; whole = round.whole }

-- in one group a later word has a later place
pub later-place : (n start : ℕ) (os : List Owner) (i j : ℕ) (v w : Owner)
    → slice_get os i ≡ Some v → slice_get os j ≡ Some w → group_of v ≡ group_of w → i < j
    → place_from n start os i < place_from n start os j
later-place n start os i j v w at other same less =
    let first : place_from n start os i ≡ start + place_behind n os i v =
    ap (λ p. option_map_or (λ x. start + place_behind n os i x) p 0) at in
    let second : place_from n start os j ≡ start + place_behind n os j w =
    ap (λ p. option_map_or (λ x. start + place_behind n os j x) p 0) other in
    let moved : place_behind n os j w ≡ group_start n os (group_of v)
    + 4 * group_size (take j os) (group_of v) =
    ap (λ (g : ℕ). group_start n os g + 4 * group_size (take j os) g) (sym same) in
    let one : ℕ = 1 in
    let more : group_size (take (i + 1) os) (group_of v)
    ≡ group_size (take i os) (group_of v) + one =
    size-take os i v (group_of v) at
    ∙ ap (λ (b : Bool). group_size (take i os) (group_of v) + cond b 1 0) (size-own v) in
    let grows = size-grows os (i + 1) j (group_of v) (omega (arith, less)) in
    omega (arith, first, second, moved, more, grows)

-- no two words share a place
pub places-apart : (n start : ℕ) (os : List Owner) (i j : ℕ) (v w : Owner) → 0 < n
    → IsMultiple n start → slice_get os i ≡ Some v → slice_get os j ≡ Some w → i ≢ j
    → place_from n start os i ≢ place_from n start os j
places-apart n start os i j v w some begins at other apart =
    λ same.
    let group = no-shared_line n start os i j v w some begins at other
    (ap (λ (z : ℕ). z / n) same) in
    elim (cases_lt i j) [
      | inl less ↦
          let later = later-place n start os i j v w at other group less in
          absurd (omega (arith, later, same))
      | inr more ↦
          let later = later-place n start os j i w v other at (sym group)
          (omega (arith, more, apart)) in
          absurd (omega (arith, later, same))
    ]

-- no access ends behind the end
pub ends-before : (m : ℕ) (t : List Touch) → end_of t ≤ m
    → AllByRecursion (λ a. word_of a.addr + 4 ≤ m) t
ends-before m [] le = tt
ends-before m (a ∷ t) le = (omega (arith, le), ends-before m t (omega (arith, le)))
