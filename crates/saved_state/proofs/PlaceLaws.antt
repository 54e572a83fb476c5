-- Where a track that may stand in a state lies, and that no other one is named as it is.
use Rattle.std.proofs.Common.{◌≡◌, ℕ, ◌+◌, ◌-◌, ◌*◌, ◌/◌, ◌%◌, ◌<◌, ◌≤◌, ◌^◌, suc, Bool, true}
use Rattle.std.proofs.Common.{false, eqb, List, [], ◌∷◌, ℤ, pos, negsuc, ◌-ℤ◌, refl, sym, ap, ◌∙◌}
use Rattle.std.proofs.Common.{subst, arith, inl, inr, ◌&&◌, ◌||◌}
use Rattle.std.proofs.lemmas.Bool.{and_parts, cases_Bool, cases_lt, eqb-true, false≢true, ltb-true}
use Rattle.std.proofs.lemmas.Bool.{leb-true}
use Rattle.std.proofs.lemmas.Bool.Decides.{nat_tests}
use Rattle.std.proofs.lemmas.Int.{ints}
use Rattle.std.proofs.lemmas.Nat.{div-add-mod', div-mul-add}
use Rattle.std.proofs.Math.Nat.{div-mul-le_self, mod-lt}
use Rattle.std.specs.Prelude.{int_le, int_lt, is_some, nat_abs, nat_le, nat_lt, None, Some}
use Rattle.std.specs.Prelude.{slice_get}
use Rattle.std.specs.List.{find, list_all, list_any}
use Rattle.std.specs.Ordering.{int_eq}
use Rattle.base.specs.Lines.{Grid, line_number}
use Rattle.base.specs.declared.layout.Range.{Range}
use Rattle.sharing_rules.specs.Lines.{grid_line, range_of, number_of_base}
use Rattle.sharing_rules.specs.Listed.{rank}
use Rattle.sharing_rules.specs.declared.line_kind.LineKind.{LineKind}
use Rattle.sharing_rules.specs.declared.line_kind.LineKind.TheVariants.{Observed, Shifted, Doubled}
use Rattle.line_tracks.specs.TrackValue.{TrackValue}
use Rattle.line_tracks.specs.Placed.{is_placed_before}
use Rattle.saved_state.specs.Units.{is_base, is_line, is_multiple}
use Rattle.detector.specs.Index.{IsReached, IsShaped}
use Rattle.detector.specs.Named.{is_named, line_of_base, track_named}
use Rattle.saved_state.specs.Ready.{AreShaped}
use Rattle.saved_state.specs.Laws.Again.{times_up}
use Rattle.sharing_rules.specs.Laws.Bases.{base_is}
use Rattle.sharing_rules.specs.Laws.Listed.{same_rank}

-- ---- a line that is one of a layout has an address

next_times : (q n : ℕ) → (q + 1) * n ≡ q * n + n
next_times q n = omega arith

last_of_line : (n o k : ℕ) → 0 < n → 0 < k * n + o → o < n → (k * n + o - 1 + n - o) / n ≡ k
last_of_line n o k some there small =
    ap (λ z. z / n) (let is : k * n + o - 1 + n - o ≡ k * n + (n - 1) = omega arith in is)
    ∙ div-mul-add k n (n - 1) (omega arith)

last_address : (n o k : ℕ) → 0 < n → o < n → 2 ^ 32 < k * n + o + 1
    → k ≤ (2 ^ 32 - 1 + n - o) / n → (2 ^ 32 - 1 + n - o) / n ≡ k
last_address n o k some small past low =
    let top = 2 ^ 32 - 1 + n - o in
    elim (cases_lt k (top / n)) [
      | inl more ↦
          let up = times_up (k + 1) (top / n) n top (omega arith) (div-mul-le_self top n) in
          let next = next_times k n in
          absurd (omega (arith, up, next))
      | inr same ↦ omega (arith, same, low)
    ]

pub reached : (g : Grid) (k : ℕ) → g.offset < g.size → is_line g k ≡ true → IsReached g k
reached g k small h =
    let parts = and_parts (nat_lt 0 (k * g.size + g.offset))
    (nat_le k (line_number g.size g.offset (2 ^ 32 - 1))) h in
    let there = ltb-true 0 (k * g.size + g.offset) parts.0 in
    let low = leb-true k (line_number g.size g.offset (2 ^ 32 - 1)) parts.1 in
    elim (cases_lt (k * g.size + g.offset) (2 ^ 32 + 1)) [
      | inl within ↦ (
        k * g.size + g.offset - 1,
        omega arith,
        last_of_line g.size g.offset k (omega arith) there small,
      )
      | inr past ↦ (
        2 ^ 32 - 1,
        omega arith,
        last_address g.size g.offset k (omega arith) small (omega arith) low,
      )
    ]

-- ---- where a track lies by its kind

line_from_base : (g : Grid) (k d : ℕ) (b : ℤ) → d < g.size
    → b ≡ (pos (k * g.size + g.offset + d) -ℤ pos g.size) → number_of_base g b ≡ k
line_from_base g k d b less e =
    ap (number_of_base g) e ∙ ap (λ m. m / g.size) (base_is (k * g.size) g.size g.offset d)
    ∙ div-mul-add k g.size d less

plus_zero : (n : ℕ) → n ≡ n + 0
plus_zero n = omega arith

same_base : (a b : ℤ) → int_eq a b ≡ true → a ≡ b
same_base a b h = grind (arith, ints)

-- a line's own track
pub own_line : (g : Grid) (k : ℕ) (x : TrackValue) → 0 < g.size → is_base g k x ≡ true
    → line_of_base g x.range ≡ k
own_line g k x some h =
    line_from_base g k 0 x.range.base some (sym (same_base (range_of (grid_line g k)).base
    x.range.base h) ∙ ap (λ z. pos z -ℤ pos g.size) (plus_zero (k * g.size + g.offset)))

pub shaped_own : (g : Grid) (k : ℕ) (x : TrackValue) → g.offset < g.size → is_line g k ≡ true
    → is_base g k x ≡ true → x.range.size ≡ g.size → IsShaped g k Observed x.range
shaped_own g k x small line base size = (
  (let b = same_base (range_of (grid_line g k)).base x.range.base base in
      let r : x.range ≡ range_of (grid_line g k) = λ i. record { base = sym b i; size = size i } in
      r),
  reached g k small line,
)

not_negative : (b : ℤ) → int_le (pos 0) b ≡ true → (n : ℕ) × (b ≡ pos n)
not_negative (pos n) h = (n, refl)
not_negative (negsuc n) h = absurd (false≢true h)

-- a base in a line of a native layout
in_native : (g : Grid) (n : ℕ) → 0 < g.size → g.offset ≡ 0
    → pos n ≡ (pos ((n / g.size + 1) * g.size + g.offset + n % g.size) -ℤ pos g.size)
in_native g n some none =
    let split = div-add-mod' n g.size in
    let next = next_times (n / g.size) g.size in
    omega (arith, ints)

pub shaped_shifted : (g : Grid) (x : TrackValue) → 0 < g.size → g.offset ≡ 0
    → int_le (pos 0) x.range.base ≡ true → x.range.size ≡ g.size
    → IsShaped g (line_of_base g x.range) Shifted x.range
shaped_shifted g x some none low size =
    let is = not_negative x.range.base low in
    let n = is.0 in
    let base = is.1 ∙ in_native g n some none in
    let less : n % g.size < g.size = mod-lt n some in
    let line = line_from_base g (n / g.size + 1) (n % g.size) x.range.base less base in
    subst (λ k. IsShaped g k Shifted x.range) (sym line)
    (omega arith, size, (n % g.size, less, base))

-- a base at the beginning of an even pair
even_base : (g : Grid) (n : ℕ) → 0 < g.size → g.offset ≡ 0 → n % (2 * g.size) ≡ 0
    → pos n ≡ (pos ((2 * (n / (2 * g.size)) + 1) * g.size + g.offset) -ℤ pos g.size)
even_base g n some none multiple =
    let split = div-add-mod' n (2 * g.size) in
    let next = next_times (2 * (n / (2 * g.size))) g.size in
    let twice = two_times (n / (2 * g.size)) g.size in
    omega (arith, ints)
  where
    two_times : (q n : ℕ) → 2 * q * n ≡ q * (2 * n)
    two_times q n = grind arith

odd_line : (q : ℕ) → (2 * q + 1) % 2 ≡ 1
odd_line q = omega arith

pub shaped_doubled : (g : Grid) (x : TrackValue) → 0 < g.size → g.offset ≡ 0
    → int_le (pos 0) x.range.base ≡ true → x.range.size ≡ 2 * g.size
    → is_multiple (2 * g.size) x ≡ true → IsShaped g (line_of_base g x.range) Doubled x.range
shaped_doubled g x some none low size multiple =
    let is = not_negative x.range.base low in
    let n = is.0 in
    let even : n % (2 * g.size) ≡ 0 =
    ap (λ b. nat_abs b % (2 * g.size)) (sym is.1)
    ∙ eqb-true (nat_abs x.range.base % (2 * g.size)) 0 multiple in
    let k = 2 * (n / (2 * g.size)) + 1 in
    let base = is.1 ∙ even_base g n some none even in
    let line = line_from_base g k 0 x.range.base some
    (base ∙ ap (λ z. pos z -ℤ pos g.size) (plus_zero (k * g.size + g.offset))) in
    subst (λ j. IsShaped g j Doubled x.range) (sym line)
    (odd_line (n / (2 * g.size)), size, base)

-- ---- no track before it is named as it is

find_none : {X : Type 0} (p : X → Bool) (xs : List X) → list_any p xs ≡ false → find p xs ≡ None
find_none p [] h = refl
find_none p (x ∷ xs) h =
    elim (cases_Bool (p x)) [
      | inl here ↦ absurd (false≢true (sym (rw here at h)))
      | inr other ↦ rw other (find_none p xs (rw other at h))
    ]

pub any_found : {X : Type 0} (p : X → Bool) (xs : List X) → is_some (find p xs) ≡ list_any p xs
any_found p [] = refl
any_found p (x ∷ xs) =
    elim (cases_Bool (p x)) [ inl here ↦ rw here refl | inr other ↦ rw other (any_found p xs) ]

not_before : (a b : ℕ) (p q : ℤ) → a ≡ b → p ≡ q
    → (nat_lt a b || (eqb a b && int_lt p q)) ≡ true → ⊥
not_before a b p q e f h = grind (arith, ints, nat_tests)

-- where each track of a kind and a line has one base, none comes before another
no_other : (g : Grid) (kind : LineKind) (k : ℕ) (x : TrackValue) (before : List TrackValue)
    → x.kind ≡ kind
    → ((r : Range) → IsShaped g k kind r → r.base ≡ x.range.base)
    → ((i : ℕ) (y : TrackValue) → slice_get before i ≡ Some y
    → IsShaped g (line_of_base g y.range) y.kind y.range)
    → list_all (λ y. is_placed_before y x) before ≡ true → track_named g kind k before ≡ None
no_other g kind k x [] of_kind one shaped placed = refl
no_other g kind k x (y ∷ ys) of_kind one shaped placed =
    let parts = and_parts (is_placed_before y x) (list_all (λ z. is_placed_before z x) ys) placed in
    let later = no_other g kind k x ys of_kind one (λ i z e. shaped (suc i) z e) parts.1 in
    elim (cases_Bool (is_named g kind k y)) [
      | inl named ↦
          let n = and_parts (eqb (rank y.kind) (rank kind))
          (eqb (line_of_base g y.range) k) named in
          let ranks = eqb-true (rank y.kind) (rank kind) n.0 in
          let line = eqb-true (line_of_base g y.range) k n.1 in
          let shape : IsShaped g k kind y.range =
          subst (λ j. IsShaped g j kind y.range) line
          (subst (λ c. IsShaped g (line_of_base g y.range) c y.range) (same_rank y.kind kind ranks)
          (shaped 0 y refl)) in
          absurd (not_before (rank y.kind) (rank x.kind) y.range.base x.range.base
          (ranks ∙ sym (ap rank of_kind)) (one y.range shape) parts.0)
      | inr other ↦ rw other later
    ]

pub fresh_own : (g : Grid) (k : ℕ) (x : TrackValue) (before : List TrackValue) → x.kind ≡ Observed
    → IsShaped g k Observed x.range → AreShaped g before
    → list_all (λ y. is_placed_before y x) before ≡ true → track_named g Observed k before ≡ None
fresh_own g k x before of_kind shape shaped placed =
    no_other g Observed k x before of_kind
    (λ r is. ap (λ (q : Range). q.base) (is.0 ∙ sym shape.0)) shaped placed

pub fresh_doubled : (g : Grid) (k : ℕ) (x : TrackValue) (before : List TrackValue) → x.kind ≡ Doubled
    → IsShaped g k Doubled x.range → AreShaped g before
    → list_all (λ y. is_placed_before y x) before ≡ true → track_named g Doubled k before ≡ None
fresh_doubled g k x before of_kind shape shaped placed =
    no_other g Doubled k x before of_kind (λ r is. is.2 ∙ sym shape.2) shaped placed

pub fresh_shifted : (g : Grid) (k : ℕ) (before : List TrackValue)
    → list_any (is_named g Shifted k) before ≡ false → track_named g Shifted k before ≡ None
fresh_shifted g k before none = find_none (is_named g Shifted k) before none
