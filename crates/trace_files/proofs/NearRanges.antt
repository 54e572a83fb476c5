-- Which addresses are near one, by their bounds, and which places have such an address.
use Rattle.std.proofs.Common.{◌≡◌, ◌≢◌, ℕ, ◌+◌, ◌-◌, ◌/◌, ◌^◌, ◌<◌, ◌≤◌, Bool, true, false, leb, not}
use Rattle.std.proofs.Common.{◌&&◌, ◌||◌, eqb, List, length, get_or, take, drop, refl, sym, ap, ◌∙◌, subst}
use Rattle.std.proofs.Common.{arith, inl, inr}
use Rattle.std.proofs.lemmas.Bool.{and_from, and_parts, cases_lt, false≢true, le-leb}
use Rattle.std.proofs.lemmas.Bool.{leb-true, or_cases}
use Rattle.std.proofs.lemmas.Bool.Decides.{nat_tests}
use Rattle.std.proofs.lemmas.List.{get_or-drop, get_or-take, length-drop, length-take}
use Rattle.std.proofs.lemmas.List.{take-append-drop}
use Rattle.std.proofs.lemmas.List.Folds.{list_all-append, list_all-map}
use Rattle.std.proofs.lemmas.List.Sums.{AllPass-from_list_all, list_all-from_AllPass}
use Rattle.std.proofs.lemmas.Nat.{pow_pos}
use Rattle.std.proofs.Math.Bool.{and-false}
use Rattle.std.proofs.Math.Nat.{div-lt_iff_lt-mul, le-div_iff_mul-le}
use Rattle.std.specs.List.{AllWithin, list_all}
use Rattle.base.specs.Touch.{Touch}
use Rattle.sharing_rules.specs.Filtered.{is_near}
use Rattle.trace_files.specs.Moves.{is_in_place, moved_addr}
use Rattle.trace_files.specs.NearMoves.{IsNearFor, comes_from_near, end_beside, first_beside, is_far}
use Rattle.trace_files.specs.NearMoves.{moved_near, near_end, near_from, origin}
use Rattle.trace_files.specs.Rows.{AreKept, AreRising, end_of, turned}
use Rattle.trace_files.specs.declared.move_row.Move.{Move}

-- ---- an address

record IsBetween (k x y : ℕ) : Type 0 where
  above : near_from k x ≤ y
  below : y < near_end k x

near-bounds : (k x y : ℕ) → is_near k y x ≡ true → IsBetween k x y
near-bounds k x y near =
    let n = 2 ^ k in
    let some : 0 < n = pow_pos k in
    let parts = and_parts (leb (y / n) (x / n + 1)) (leb (x / n) (y / n + 1)) near in
    let high : y / n ≤ x / n + 1 = leb-true _ _ parts.0 in
    let low : x / n ≤ y / n + 1 = leb-true _ _ parts.1 in
    record {
      above = (le-div_iff_mul-le {k = n} {x = x / n - 1} {y = y} some).0 (omega (arith, low));
      below = (div-lt_iff_lt-mul {k = n} {x = y} {y = x / n + 2} some).0 (omega (arith, high));
    }

near-inside : (k x y : ℕ) → near_from k x ≤ y → y < near_end k x → is_near k y x ≡ true
near-inside k x y above below =
    let n = 2 ^ k in
    let some : 0 < n = pow_pos k in
    let low = (le-div_iff_mul-le {k = n} {x = x / n - 1} {y = y} some).1 above in
    let high = (div-lt_iff_lt-mul {k = n} {x = y} {y = x / n + 2} some).1 below in
    and_from (leb (y / n) (x / n + 1)) (leb (x / n) (y / n + 1))
    (le-leb _ _ (omega (arith, high))) (le-leb _ _ (omega (arith, low)))

-- ---- a place

-- each byte of a place that is near x under c comes from an address that is near another one
abbrev ComesFromNear : ℕ → ℕ → ℕ → Move → Type 0
ComesFromNear k x addr m = (byte : ℕ) → is_in_place byte m ≡ true
    → is_near (moved_near k) byte x ≡ true → is_near k (origin m byte) addr ≡ true

in-place : (m : Move) (byte : ℕ) → m.to ≤ byte → byte < m.to + m.size
    → is_in_place byte m ≡ true
in-place m byte low high = grind (arith, nat_tests, low, high)

or-on : (b : Bool) → (b || true) ≡ true
or-on true = refl
or-on false = refl

all-come : (k x addr : ℕ) (m : Move) → ComesFromNear k x addr m
    → comes_from_near k x addr m ≡ true
all-come k x addr m comes =
    let c = moved_near k in
    let first = first_beside c x m in
    let end = end_beside c x m in
    let least : m.to ≤ first = omega arith in
    let from : near_from c x ≤ first = omega arith in
    let most : end ≤ m.to + m.size = omega arith in
    let until : end ≤ near_end c x = omega arith in
    let both = is_near k (origin m first) addr && is_near k (origin m (end - 1)) addr in
    elim (cases_lt first end) [
      | inl some ↦
          let one = comes first (in-place m first least (omega (arith, some, most)))
          (near-inside c x first from (omega (arith, some, until))) in
          let last = comes (end - 1)
          (in-place m (end - 1) (omega (arith, some, least)) (omega (arith, some, most)))
          (near-inside c x (end - 1) (omega (arith, some, from)) (omega (arith, some, until))) in
          ap (λ (b : Bool). leb end first || b)
          (and_from (is_near k (origin m first) addr) (is_near k (origin m (end - 1)) addr) one last)
          ∙ or-on (leb end first)
      | inr none ↦ ap (λ (b : Bool). b || both) (le-leb end first none)
    ]

each-comes : (k x addr : ℕ) (m : Move) → comes_from_near k x addr m ≡ true
    → ComesFromNear k x addr m
each-comes k x addr m passes byte placed near =
    let c = moved_near k in
    let first = first_beside c x m in
    let end = end_beside c x m in
    let at = near-bounds c x byte near in
    let low : m.to ≤ byte = grind (arith, nat_tests, placed) in
    let high : byte < m.to + m.size = grind (arith, nat_tests, placed) in
    let from : first ≤ byte = omega (arith, low, at.above) in
    let until : byte < end = omega (arith, high, at.below) in
    elim (or_cases (leb end first)
    (is_near k (origin m first) addr && is_near k (origin m (end - 1)) addr) passes) [
      | inl none ↦
          let no_byte : end ≤ first = leb-true end first none in
          absurd (omega (arith, no_byte, from, until))
      | inr both ↦
          let parts = and_parts (is_near k (origin m first) addr)
          (is_near k (origin m (end - 1)) addr) both in
          let one = near-bounds k addr (origin m first) parts.0 in
          let last = near-bounds k addr (origin m (end - 1)) parts.1 in
          near-inside k addr (origin m byte) (omega (arith, one.above, from, low))
          (omega (arith, last.below, until, low))
    ]

-- ---- a table

both_not : (z l : Bool) → z ≡ false → (not z && not l) ≡ false → l ≡ true
both_not true l some none = absurd cc
both_not false true some none = refl
both_not false false some none = absurd cc

pub nearby : (near : ℕ) (table : List Move) (a : Touch) → IsNearFor near table a
    → is_far near table a.addr ≡ false
unfolding is_far
nearby near table a for =
    let x = moved_addr table a.addr in
    let all : list_all (comes_from_near near x a.addr) table ≡ true =
    list_all-from_AllPass (comes_from_near near x a.addr) table
    (λ k d inside. all-come near x a.addr (get_or table k d) (for k d inside)) in
    ap (λ (b : Bool). not (eqb near 0) && not b) all ∙ and-false (not (eqb near 0))

pub not_far : (near : ℕ) (table : List Move) (a : Touch) → near ≢ 0
    → is_far near table a.addr ≡ false → IsNearFor near table a
unfolding is_far
not_far near table a some none =
    let x = moved_addr table a.addr in
    let zero_not : eqb near 0 ≡ false = grind (arith, nat_tests, some) in
    let all = AllPass-from_list_all (comes_from_near near x a.addr) table
    (both_not (eqb near 0) (list_all (comes_from_near near x a.addr) table) zero_not none) in
    λ k d inside. each-comes near x a.addr (get_or table k d) (all k d inside)

pub never_far : (table : List Move) (addr : ℕ) → is_far 0 table addr ≡ false
unfolding is_far
never_far table addr = refl

pub far_not_near : (near : ℕ) (table : List Move) (a : Touch) → is_far near table a.addr ≡ true
    → IsNearFor near table a → ⊥
far_not_near near table a far for = false≢true (sym (nearby near table a for) ∙ far)

-- ---- the places around an address

-- a place without a byte there passes
passes-beside : (k x addr : ℕ) (m : Move)
    → end_beside (moved_near k) x m ≤ first_beside (moved_near k) x m
    → comes_from_near k x addr m ≡ true
passes-beside k x addr m none =
    let first = first_beside (moved_near k) x m in
    let end = end_beside (moved_near k) x m in
    ap (λ (b : Bool). b || (is_near k (origin m first) addr
    && is_near k (origin m (end - 1)) addr)) (le-leb end first none)

and-on : (b : Bool) → (b && true) ≡ b
and-on true = refl
and-on false = refl

-- what passes before and behind a part needn't be looked at
only-part : (t : Move → Bool) (rows : List Move) (start end : ℕ)
    → list_all t (take start (take end rows)) ≡ true → list_all t (drop end rows) ≡ true
    → list_all t (drop start (take end rows)) ≡ list_all t rows
only-part t rows start end front back =
    let begun = take end rows in
    let part = list_all t (drop start begun) in
    let split : list_all t begun ≡ part =
    ap (list_all t) (sym (take-append-drop start begun))
    ∙ list_all-append t (take start begun) (drop start begun) ∙ ap (λ (b : Bool). b && part) front in
    let whole : list_all t rows ≡ part =
    ap (list_all t) (sym (take-append-drop end rows))
    ∙ list_all-append t begun (drop end rows)
    ∙ ap (λ (b : Bool). list_all t begun && b) back ∙ and-on (list_all t begun) ∙ split in
    sym whole

module _ (k x addr : ℕ) (places : List Move) (rising : AreRising places) (before end : ℕ)
    (in_before : before ≤ length places) (in_end : end ≤ length places)
    (low : AllWithin (λ m. m.from < near_from (moved_near k) x) places 0 before)
    (high : AllWithin (λ m. near_end (moved_near k) x ≤ m.from) places end (length places))
  where
    abbrev passes : Move → Bool
    passes m = comes_from_near k x addr (turned m)

    ends-low : (i : ℕ) (d : Move) → i < before - 1
        → end_of (get_or places i d) ≤ near_from (moved_near k) x
    ends-low i d less =
        let order = rising.order i (before - 1) d less (omega (arith, less, in_before)) in
        let last = low (before - 1) d (omega arith) (omega (arith, less)) in
        omega (arith, order, last)

    pub part-around : list_all passes (drop (before - 1) (take end places))
        ≡ list_all passes places
    part-around =
        only-part passes places (before - 1) end
        (list_all-from_AllPass passes (take (before - 1) (take end places))
        (λ i d inside.
        let long = length-take (before - 1) (take end places) in
        let longer = length-take end places in
        let less : i < before - 1 = omega (arith, inside, long) in
        let under : i < end = omega (arith, inside, long, longer) in
        let is : get_or (take (before - 1) (take end places)) i d ≡ get_or places i d =
        get_or-take (before - 1) (take end places) i d less ∙ get_or-take end places i d under in
        let ends = ends-low i d less in
        subst (λ (m : Move). passes m ≡ true) (sym is)
        (passes-beside k x addr (turned (get_or places i d)) (omega (arith, ends)))))
        (list_all-from_AllPass passes (drop end places)
        (λ i d inside.
        let long = length-drop end places in
        let is : get_or (drop end places) i d ≡ get_or places (end + i) d =
        get_or-drop end places i d in
        let begins = high (end + i) d (omega arith) (omega (arith, inside, long)) in
        subst (λ (m : Move). passes m ≡ true) (sym is)
        (passes-beside k x addr (turned (get_or places (end + i) d)) (omega (arith, begins)))))

-- the ways back, in the order of the places, are judged as the table is
pub by_places : (rows places : List Move) → AreKept rows places → (near addr : ℕ) → near ≢ 0
    → is_far near rows addr
    ≡ not (list_all (λ m. comes_from_near near (moved_addr rows addr) addr (turned m)) places)
unfolding is_far
by_places rows places kept near addr some =
    let t : Move → Bool = comes_from_near near (moved_addr rows addr) addr in
    let zero_not : eqb near 0 ≡ false = grind (arith, nat_tests, some) in
    ap (λ (b : Bool). not b && not (list_all t rows)) zero_not
    ∙ ap not (sym (kept.same (λ m. t (turned m)) ∙ list_all-map (λ m. t (turned m)) turned rows))
