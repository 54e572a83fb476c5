-- Few kept lines hold one address: the observed one, two shifted ones and a doubled one at most.
use Rattle.std.proofs.Common.{◌≡◌, ℕ, ◌+◌, ◌-◌, ◌*◌, ◌/◌, ◌%◌, ◌<◌, ◌≤◌, Bool, true, false, eqb}
use Rattle.std.proofs.Common.{◌&&◌, ◌||◌, pos, List, [], ◌∷◌, Option, Some, None, length, refl, sym}
use Rattle.std.proofs.Common.{ap, ◌∙◌, subst, arith, inl, inr, length-append}
use Rattle.std.proofs.lemmas.Bool.{cases_Bool, cases_lt, false≢true, eqb-true, eqb-false, eq-eqb}
use Rattle.std.proofs.lemmas.Bool.{and_parts, or_cases, or_left, or_right}
use Rattle.std.proofs.lemmas.Int.{ints}
use Rattle.std.proofs.lemmas.List.Elements.{filter-append}
use Rattle.std.proofs.lemmas.Map.Made.{length-le_from_is_member}
use Rattle.std.specs.Prelude.{◌⊎◌, if◌then◌else◌, ◌+ℤ◌, filter, filter_map, int_le, int_lt, is_some}
use Rattle.std.specs.Prelude.{IsTrue}
use Rattle.std.specs.Option.{option_map_or}
use Rattle.std.specs.List.{IsDistinct, list_any}
use Rattle.std.specs.Cmp.{nat_eq_equiv}
use Rattle.base.specs.Levels.{Levels}
use Rattle.base.specs.Lines.{Grid, is_layout, line_number}
use Rattle.base.specs.Ranges.{holds_address}
use Rattle.sharing_rules.specs.AccessLists.{AccessList}
use Rattle.sharing_rules.specs.Lines.{Line, grid_line, native_grid, range_of}
use Rattle.sharing_rules.specs.Listed.{may_predict}
use Rattle.sharing_rules.specs.Observed.{written_lines}
use Rattle.sharing_rules.specs.Opened.{Opened, doubled_ones, even_lower, observed_ones, opened}
use Rattle.sharing_rules.specs.Opened.{opened_doubled, opened_observed, opened_shifted}
use Rattle.sharing_rules.specs.Opened.{predicted_ones, shifted_ones}
use Rattle.sharing_rules.specs.Predicted.{is_native_size}
use Rattle.sharing_rules.specs.Laws.Amounts.{keys, keys-has, length-keys}
use Rattle.sharing_rules.specs.Laws.Arrivals.{each_once-distinct}
use Rattle.sharing_rules.specs.Laws.Bases.{base_number, native-good, next_line}
use Rattle.sharing_rules.specs.Laws.Kinds.{opened_doubled-is, opened_observed-is, opened_shifted-is}
use Rattle.sharing_rules.specs.Laws.Lists.{filter-distinct, slice_cases}
use Rattle.sharing_rules.specs.Laws.Opened.{line_number-positive}
use Rattle.sharing_rules.specs.Laws.OpenedDoubled.{even_lower-is, other_pair}
use Rattle.line_tracks.specs.Laws.WordLines.{held-inside, layout-sized}

-- whether a kept line holds an address
abbrev pub holds : ℕ → Opened → Bool
holds a o = holds_address (range_of o.line) a

-- what a key gives, if it passes
abbrev passing : (Opened → Bool) → (ℕ → Option Opened) → ℕ → Option Opened
passing p h k = if option_map_or p (h k) false then h k else None

filter_passing : (p : Opened → Bool) (h : ℕ → Option Opened) (ks : List ℕ)
    → filter p (filter_map h ks) ≡ filter_map (passing p h) ks
filter_passing p h [] = refl
filter_passing p h (k ∷ ks) =
    elim (slice_cases (h k)) [
      | inl none ↦ rw none (filter_passing p h ks)
      | inr some ↦ elim (cases_Bool (p some.0)) [
        | inl passes ↦ rw (some.1, passes) (ap (λ xs. some.0 ∷ xs) (filter_passing p h ks))
        | inr fails ↦ rw (some.1, fails) (filter_passing p h ks)
      ]
    ]

-- a key that passes gives something that passes
record Passes (p : Opened → Bool) (h : ℕ → Option Opened) (k : ℕ) : Type 0 where
  one : Opened
  given : h k ≡ Some one
  passes : p one ≡ true

passing-is : (p : Opened → Bool) (h : ℕ → Option Opened) (k : ℕ) → is_some (passing p h k) ≡ true
    → Passes p h k
passing-is p h k e =
    elim (slice_cases (h k)) [
      | inl none ↦ let z : false ≡ true = rw none at e in absurd (false≢true z)
      | inr some ↦ elim (cases_Bool (p some.0)) [
        | inl passes ↦ record { one = some.0; given = some.1; passes = passes }
        | inr fails ↦ let z : false ≡ true = rw (some.1, fails) at e in absurd (false≢true z)
      ]
    ]

at_most : (p : Opened → Bool) (h : ℕ → Option Opened) (ks js : List ℕ) → IsDistinct eqb ks
    → ((k : ℕ) → Passes p h k → list_any (eqb k) js ≡ true) → length (filter p (filter_map h ks))
    ≤ length js
at_most p h ks js distinct among =
    let l = length-keys (passing p h) ks in
    let same = ap length (filter_passing p h ks) in
    let le = length-le_from_is_member nat_eq_equiv (keys (passing p h) ks) js
    (filter-distinct eqb (λ k. is_some (passing p h k)) ks distinct)
    (λ q e. among q (passing-is p h q (keys-has (passing p h) ks q e))) in
    omega (arith, l, same, le)

-- the line of the address alone
few_observed : (g : Grid) (T : ℕ) (t : AccessList) (a : ℕ) → g.offset < g.size
    → length (filter (holds a) (observed_ones g T t)) ≤ 1
few_observed g T t a small =
    at_most (holds a) (opened_observed g T t) (written_lines g t)
    (line_number g.size g.offset a ∷ []) (each_once-distinct _)
    (λ k w.
    let is = opened_observed-is g T t k w.one w.given in
    let held : holds_address (range_of (grid_line g k)) a ≡ true =
    ap (λ (l : Line). holds_address (range_of l) a) (sym is.line) ∙ w.passes in
    or_left _ _ (eq-eqb _ _ (sym (eqb-true _ _ (held-inside (grid_line g k) a small held)))))

-- an address from a base on, within two lines
from_base : (b s a : ℕ) → holds_address (record { base = pos b; size = s }) a ≡ true → (b ≤ a)
    × (a < b + s)
from_base b s a h =
    let k = and_parts (int_le (pos b) (pos a)) (int_lt (pos a) (pos b +ℤ pos s)) h in
    let low = k.0 in
    let high = k.1 in
    (grind (arith, ints), grind (arith, ints))

held_from : (o : Opened) (b a : ℕ) → (range_of o.line).base ≡ pos b → holds a o ≡ true → (b ≤ a)
    × (a < b + o.line.size)
held_from o b a base h = from_base b o.line.size a
    (ap (λ z. holds_address (record { base = z; size = o.line.size }) a) (sym base) ∙ h)

nothing_off : (a n : ℕ) → (a + n - 0) / n ≡ (a + n) / n
nothing_off a n = let e : a + n - 0 ≡ a + n = omega arith in ap (λ z. z / n) e

one_of_two : (j k : ℕ) → (j ≡ k) ⊎ (j ≡ k + 1) → list_any (eqb k) (j ∷ ((j - 1) ∷ [])) ≡ true
one_of_two j k (inl same) = or_left _ _ (eq-eqb k j (sym same))
one_of_two j k (inr above) = let below : k ≡ j - 1 = omega (arith, above)
    in or_right (eqb k j) _ (or_left _ _ (eq-eqb k (j - 1) below))

near_line : (n k a : ℕ) → 0 < n → 0 < k → n * (k - 1) ≤ a → a < n * (k - 1) + 2 * n
    → list_any (eqb k) (line_number n 0 a ∷ ((line_number n 0 a - 1) ∷ [])) ≡ true
near_line n k a some positive above below =
    one_of_two (line_number n 0 a) k
    (elim (cases_lt a (n * (k - 1) + n)) [
      | inl lower ↦ inl (nothing_off a n ∙ base_number n k a positive above lower)
      | inr upper ↦
          let next : n * (k + 1 - 1) ≡ n * (k - 1) + n = next_line n k positive in
          inr (nothing_off a n ∙ base_number n (k + 1) a (omega arith) (omega (arith, next, upper))
          (omega (arith, next, below)))
    ])

few_shifted : (n T P : ℕ) (t : AccessList) (a : ℕ) → is_native_size n ≡ true
    → length (filter (holds a) (shifted_ones n T P t)) ≤ 2
few_shifted n T P t a native =
    at_most (holds a) (opened_shifted n T P t) (written_lines (native_grid n) t)
    (line_number n 0 a ∷ ((line_number n 0 a - 1) ∷ [])) (each_once-distinct _)
    (λ k w.
    let is = opened_shifted-is n T P t k w.one native w.given in
    let b = is.base in
    let held = held_from w.one b.0 a b.1 w.passes in
    near_line n k a (native-good n native).some is.number (omega (arith, held.0, b.2.above))
    (omega (arith, held.1, b.2.below, is.size)))

neither : (j k : ℕ) → 0 < j → (j ≡ k → ⊥) → (j ≡ k + 1 → ⊥) → list_any (eqb k) (j ∷ ((j - 1) ∷ []))
    ≡ true → ⊥
neither j k positive one two e =
    elim (or_cases (eqb k j) (eqb k (j - 1) || false) e) [
      | inl same ↦ one (sym (eqb-true k j same))
      | inr f ↦ elim (or_cases (eqb k (j - 1)) false f) [
        | inl below ↦ let z = eqb-true k (j - 1) below in two (omega (arith, z, positive))
        | inr none ↦ false≢true none
      ]
    ]

-- an odd line that is the address's or the one below it is the lower one of its even pair
lower_is : (n k a : ℕ) → 0 < n → k % 2 ≡ 1
    → list_any (eqb k) (line_number n 0 a ∷ ((line_number n 0 a - 1) ∷ [])) ≡ true
    → eqb k (even_lower (line_number n 0 a)) ≡ true
lower_is n k a some odd near =
    let j : ℕ = line_number n 0 a in
    let positive = line_number-positive n a some in
    elim (cases_Bool (eqb (even_lower (line_number n 0 a)) k)) [
      | inl same ↦ eq-eqb _ _ (sym (eqb-true _ _ same))
      | inr other ↦
          let apart = other_pair (line_number n 0 a) (even_lower (line_number n 0 a)) k
          (even_lower-is (line_number n 0 a) positive) other (eq-eqb _ _ odd) in
          absurd (neither (line_number n 0 a) k positive (eqb-false _ _ apart.0)
          (eqb-false _ _ apart.1) near)
    ]

few_doubled : (n T P : ℕ) (t : AccessList) (a : ℕ) → is_native_size n ≡ true
    → length (filter (holds a) (doubled_ones n T P t)) ≤ 1
few_doubled n T P t a native =
    let some = (native-good n native).some in
    at_most (holds a) (opened_doubled n T P t) (written_lines (native_grid n) t)
    (even_lower (line_number n 0 a) ∷ []) (each_once-distinct _)
    (λ k w.
    let is = opened_doubled-is n T P t k w.one native w.given in
    let size : w.one.line.size ≡ 2 * n = ap (λ (l : Line). l.size) is.line in
    let held = held_from w.one (n * (k - 1)) a is.base w.passes in
    let near = near_line n k a some is.number held.0 (omega (arith, held.1, size)) in
    or_left _ _ (lower_is n k a some is.odd near))

-- what a detector of an allowed layout is asked to note: at most four of the kept lines hold an
-- address
pub at_most_four : (g : Grid) (v : Levels) (t : AccessList) (a : ℕ) → is_layout g.size g.offset
    ≡ true → IsTrue (may_predict g v) → length (filter (holds a) (opened g v t)) ≤ 4
at_most_four g v t a allowed may =
    let own = few_observed g v.tracking t a (layout-sized g.size g.offset allowed).0 in
    let split = ap length (filter-append (holds a) (observed_ones g v.tracking t)
    (option_map_or (λ P. predicted_ones g.size v.tracking P t) v.prediction [])) in
    let joined = length-append (filter (holds a) (observed_ones g v.tracking t))
    (filter (holds a) (option_map_or (λ P. predicted_ones g.size v.tracking P t) v.prediction
    [])) in
    elim (slice_cases v.prediction) [
      | inl none ↦
          let nothing : length
          (filter (holds a)
          (option_map_or (λ P. predicted_ones g.size v.tracking P t) v.prediction [])) ≡ 0 =
          ap (λ p. length
          (filter (holds a) (option_map_or (λ P. predicted_ones g.size v.tracking P t) p [])))
          none in
          omega (arith, own, split, joined, nothing)
      | inr some ↦
          let native =
          (and_parts _ _
          (subst (λ p. option_map_or (λ Q. is_native_size g.size && eqb g.offset 0) p true
          ≡ true) some.1 may)).0 in
          let there : length
          (filter (holds a)
          (option_map_or (λ P. predicted_ones g.size v.tracking P t) v.prediction [])) ≡ length
          (filter (holds a) (predicted_ones g.size v.tracking some.0 t)) =
          ap (λ p. length
          (filter (holds a) (option_map_or (λ P. predicted_ones g.size v.tracking P t) p [])))
          some.1 in
          let both = ap length (filter-append (holds a) (shifted_ones g.size v.tracking some.0 t)
          (doubled_ones g.size v.tracking some.0 t)) in
          let sum = length-append (filter (holds a) (shifted_ones g.size v.tracking some.0 t))
          (filter (holds a) (doubled_ones g.size v.tracking some.0 t)) in
          omega (
            arith,
            own,
            split,
            joined,
            there,
            both,
            sum,
            few_shifted g.size v.tracking some.0 t
                a native,
            few_doubled g.size v.tracking some.0 t a native,
          )
    ]
