-- How many lines are kept: fewer shifted than observed ones, and at most half as many doubled ones.
use Rattle.std.proofs.Common.{◌≡◌, ℕ, suc, ◌+◌, ◌*◌, ◌%◌, ◌<◌, ◌≤◌, true, false, eqb, ◌||◌, List}
use Rattle.std.proofs.Common.{[], ◌∷◌, ◌++◌, Option, map, length, refl, sym, ap, ◌∙◌, subst, arith}
use Rattle.std.proofs.Common.{inl, inr, length-append, add-one}
use Rattle.std.proofs.lemmas.Bool.{cases_Bool, cases_lt, false≢true, eqb-true, eqb-false, eq-eqb}
use Rattle.std.proofs.lemmas.Bool.{ne_eqb, or_cases, or_left, or_right}
use Rattle.std.proofs.lemmas.List.{length-map}
use Rattle.std.proofs.lemmas.Map.Made.{length-le_from_is_member}
use Rattle.std.specs.Prelude.{filter, filter_map, is_some}
use Rattle.std.specs.List.{AllByRecursion, IsDistinct, list_any}
use Rattle.std.specs.Cmp.{nat_eq_equiv}
use Rattle.base.specs.Touch.{Touch}
use Rattle.sharing_rules.specs.Lines.{is_inside, native_grid, native_line}
use Rattle.sharing_rules.specs.Observed.{observed_start, written_lines}
use Rattle.sharing_rules.specs.Opened.{Opened, doubled_ones, observed_ones, opened_doubled}
use Rattle.sharing_rules.specs.Opened.{opened_observed, opened_shifted, shifted_ones}
use Rattle.sharing_rules.specs.Predicted.{is_native_size}
use Rattle.sharing_rules.specs.Laws.Arrivals.{each_once-distinct}
use Rattle.sharing_rules.specs.Laws.Kinds.{opened_doubled-is}
use Rattle.sharing_rules.specs.Laws.Lists.{filter-distinct, slice_cases}
use Rattle.sharing_rules.specs.Laws.OpenedObserved.{AreObserved, doubled_opening-observed}
use Rattle.sharing_rules.specs.Laws.Opened.{opened_doubled-is_some}
use Rattle.sharing_rules.specs.Laws.OpenedObserved.{opened_observed-written}
use Rattle.sharing_rules.specs.Laws.Opened.{opened_shifted-is_some}
use Rattle.sharing_rules.specs.Laws.OpenedObserved.{shifted_opening-observed}
use Rattle.sharing_rules.specs.Laws.OpenedObserved.{some_is}

-- the keys that give something
abbrev pub keys : (ℕ → Option Opened) → List ℕ → List ℕ
keys h ks = filter (λ k. is_some (h k)) ks

pub length-keys : (h : ℕ → Option Opened) (ks : List ℕ)
    → length (filter_map h ks) ≡ length (keys h ks)
length-keys h [] = refl
length-keys h (k ∷ ks) =
    elim (slice_cases (h k)) [
      | inl none ↦ rw none (length-keys h ks)
      | inr some ↦ rw some.1 (ap suc (length-keys h ks))
    ]

pub keys-has : (h : ℕ → Option Opened) (ks : List ℕ) (k : ℕ) → list_any (eqb k) (keys h ks) ≡ true
    → is_some (h k) ≡ true
keys-has h [] k e = absurd (false≢true e)
keys-has h (j ∷ ks) k e =
    elim (cases_Bool (is_some (h j))) [
      | inl there ↦
          let f : (eqb k j || list_any (eqb k) (keys h ks)) ≡ true = rw there at e in
          elim (or_cases (eqb k j) (list_any (eqb k) (keys h ks)) f) [
            | inl same ↦ ap (λ z. is_some (h z)) (eqb-true k j same) ∙ there
            | inr later ↦ keys-has h ks k later
          ]
      | inr nothing ↦ let f : list_any (eqb k) (keys h ks) ≡ true = rw nothing at e
          in keys-has h ks k f
    ]

has-keys : (h : ℕ → Option Opened) (ks : List ℕ) (k : ℕ) → list_any (eqb k) ks ≡ true
    → is_some (h k) ≡ true → list_any (eqb k) (keys h ks) ≡ true
has-keys h [] k e f = absurd (false≢true e)
has-keys h (j ∷ ks) k e f =
    elim (or_cases (eqb k j) (list_any (eqb k) ks) e) [
      | inl same ↦ let there : is_some (h j) ≡ true = ap (λ z. is_some (h z))
          (sym (eqb-true k j same)) ∙ f in rw there (or_left (eqb k j) _ same)
      | inr later ↦ elim (cases_Bool (is_some (h j))) [
        | inl there ↦ rw there (or_right (eqb k j) _ (has-keys h ks k later f))
        | inr nothing ↦ rw nothing (has-keys h ks k later f)
      ]
    ]

-- the numbers one above
has-suc : (ks : List ℕ) (k : ℕ) → list_any (eqb k) (map suc ks) ≡ true → (j : ℕ)
    × (list_any (eqb j) ks ≡ true) × (k ≡ suc j)
has-suc [] k e = absurd (false≢true e)
has-suc (j ∷ ks) k e =
    elim (or_cases (eqb k (suc j)) (list_any (eqb k) (map suc ks)) e) [
      | inl same ↦ (j, or_left (eqb j j) _ (eq-eqb j j refl), eqb-true k (suc j) same)
      | inr later ↦ let w = has-suc ks k later in (w.0, or_right (eqb w.0 j) _ w.1, w.2)
    ]

above-apart : (j : ℕ) (ks : List ℕ) → AllByRecursion (λ y. eqb j y ≡ false) ks
    → AllByRecursion (λ y. eqb (suc j) y ≡ false) (map suc ks)
above-apart j [] all = tt
above-apart j (k ∷ ks) all = (
  ne_eqb (suc j) (suc k) (λ e. eqb-false j k all.0 (omega (arith, e))),
  above-apart j ks all.1,
)

above-distinct : (ks : List ℕ) → IsDistinct eqb ks → IsDistinct eqb (map suc ks)
unfolding IsDistinct
above-distinct [] d = tt
above-distinct (k ∷ ks) d = (above-apart k ks d.0, above-distinct ks d.1)

all_lacks : (k : ℕ) (ks : List ℕ) → ((q : ℕ) → list_any (eqb q) ks ≡ true → eqb k q ≡ false)
    → AllByRecursion (λ y. eqb k y ≡ false) ks
all_lacks k [] lacks = tt
all_lacks k (j ∷ ks) lacks = (
  lacks j (or_left (eqb j j) _ (eq-eqb j j refl)),
  all_lacks k ks (λ q m. lacks q (or_right (eqb q j) _ m)),
)

all_both : (P : ℕ → Type 0) (xs ys : List ℕ) → AllByRecursion P xs → AllByRecursion P ys
    → AllByRecursion P (xs ++ ys)
all_both P [] ys a b = b
all_both P (x ∷ xs) ys a b = (a.0, all_both P xs ys a.1 b)

both_distinct : (xs ys : List ℕ) → IsDistinct eqb xs → IsDistinct eqb ys
    → ((p q : ℕ) → list_any (eqb p) xs ≡ true → list_any (eqb q) ys ≡ true → eqb p q ≡ false)
    → IsDistinct eqb (xs ++ ys)
unfolding IsDistinct
both_distinct [] ys d e apart = e
both_distinct (x ∷ xs) ys d e apart = (
  all_both (λ y. eqb x y ≡ false) xs ys d.0
      (all_lacks x ys (λ q m. apart x q (or_left (eqb x x) _ (eq-eqb x x refl)) m)),
  both_distinct xs ys d.1 e (λ p q m l. apart p q (or_right (eqb p x) _ m) l),
)

has-append : (xs ys : List ℕ) (q : ℕ) → list_any (eqb q) (xs ++ ys) ≡ true
    → (list_any (eqb q) xs || list_any (eqb q) ys) ≡ true
has-append [] ys q e = e
has-append (x ∷ xs) ys q e = elim (or_cases (eqb q x) (list_any (eqb q) (xs ++ ys)) e) [
  | inl here ↦ or_left _ _ (or_left _ _ here)
  | inr later ↦
      elim (or_cases (list_any (eqb q) xs) (list_any (eqb q) ys) (has-append xs ys q later)) [
        | inl a ↦ or_left _ _ (or_right _ _ a)
        | inr b ↦ or_right _ _ b
      ]
]

-- the least of some numbers
record IsLeast (ks : List ℕ) (m : ℕ) : Type 0 where
  there : list_any (eqb m) ks ≡ true
  least : (q : ℕ) → list_any (eqb q) ks ≡ true → m ≤ q

least_of : (k : ℕ) (ks : List ℕ) → (m : ℕ) × IsLeast (k ∷ ks) m
least_of k [] = (
  k,
  record {
    there = or_left _ _ (eq-eqb k k refl);
    least =
        λ q e. elim (or_cases (eqb q k) false e) [
          | inl s ↦ let f = eqb-true q k s
              in omega (arith, f)
          | inr none ↦ absurd (false≢true none)
        ];
  },
)
least_of k (j ∷ ks) =
    let w = least_of j ks in
    elim (cases_lt k w.0) [
      | inl less ↦ (
        k,
        record {
          there = or_left _ _ (eq-eqb k k refl);
          least = λ q e. elim (or_cases (eqb q k) (list_any (eqb q) (j ∷ ks)) e) [
            | inl s ↦ let f = eqb-true q k s in omega (arith, f)
            | inr l ↦ let f = w.1.least q l
                in omega (arith, f, less)
          ];
        },
      )
      | inr more ↦ (
        w.0,
        record {
          there = or_right (eqb w.0 k) _ w.1.there;
          least = λ q e. elim (or_cases (eqb q k) (list_any (eqb q) (j ∷ ks)) e)
              [ inl s ↦ let f = eqb-true q k s in omega (arith, f, more) | inr l ↦ w.1.least q l ];
        },
      )
    ]

-- numbers that are among others together with those one above them are fewer
fewer_above : (xs ys : List ℕ) → IsDistinct eqb xs
    → ((q : ℕ) → list_any (eqb q) xs ≡ true → (list_any (eqb q) ys ≡ true)
    × (list_any (eqb (suc q)) ys ≡ true)) → 0 < length ys → length xs < length ys
unfolding IsDistinct
fewer_above [] ys d within some = some
fewer_above (x ∷ xs) ys d within some =
    let m = least_of x xs in
    let lacks : (q : ℕ) → list_any (eqb q) (map suc (x ∷ xs)) ≡ true → eqb m.0 q ≡ false = λ q e.
    (let w = has-suc (x ∷ xs) q e in let l = m.1.least w.0 w.1
    in ne_eqb m.0 q (λ z. absurd (omega (arith, l, w.2, z)))) in
    let distinct : IsDistinct eqb (m.0 ∷ map suc (x ∷ xs)) =
    (all_lacks m.0 (map suc (x ∷ xs)) lacks, above-distinct (x ∷ xs) d) in
    let le = length-le_from_is_member nat_eq_equiv (m.0 ∷ map suc (x ∷ xs)) ys distinct
    (λ q e. elim (or_cases (eqb q m.0) (list_any (eqb q) (map suc (x ∷ xs))) e) [
      | inl here ↦ subst (λ z. list_any (eqb z) ys ≡ true) (sym (eqb-true q m.0 here))
          (within m.0 m.1.there).0
      | inr above ↦ let w = has-suc (x ∷ xs) q above in subst (λ z. list_any (eqb z) ys ≡ true)
          (sym w.2) (within w.0 w.1).1
    ]) in
    omega (arith, le, length-map (x ∷ xs) suc)

-- odd ones are at most half as many
half_above : (xs ys : List ℕ) → IsDistinct eqb xs
    → ((q : ℕ) → list_any (eqb q) xs ≡ true → (q % 2 ≡ 1) × (list_any (eqb q) ys ≡ true)
    × (list_any (eqb (suc q)) ys ≡ true)) → 2 * length xs ≤ length ys
half_above xs ys d within =
    let distinct : IsDistinct eqb (xs ++ map suc xs) = both_distinct xs (map suc xs) d
    (above-distinct xs d) (λ p q m l.
    (let w = has-suc xs q l
    in ne_eqb p q (λ z. absurd (omega (arith, (within p m).0, (within w.0 w.1).0, w.2, z))))) in
    let le = length-le_from_is_member nat_eq_equiv (xs ++ map suc xs) ys distinct
    (λ q e. elim (or_cases (list_any (eqb q) xs) (list_any (eqb q) (map suc xs))
    (has-append xs (map suc xs) q e)) [
      | inl here ↦ (within q here).1
      | inr above ↦ let w = has-suc xs q above in subst (λ z. list_any (eqb z) ys ≡ true) (sym w.2)
          (within w.0 w.1).2
    ]) in
    omega (arith, le, length-map xs suc, length-append xs (map suc xs))

-- an observed line is among the keys of the observed ones
observed_key : (n T : ℕ) (t : List Touch) (k : ℕ)
    → is_some (observed_start T (is_inside (native_line n k)) t) ≡ true
    → list_any (eqb k)
    (keys (opened_observed (native_grid n) T t) (written_lines (native_grid n) t)) ≡ true
observed_key n T t k e =
    let s = some_is (observed_start T (is_inside (native_line n k)) t) e in
    let there : is_some (opened_observed (native_grid n) T t k) ≡ true = rw s.1 refl in
    let x = some_is (opened_observed (native_grid n) T t k) there in
    has-keys (opened_observed (native_grid n) T t) (written_lines (native_grid n) t) k
    (opened_observed-written (native_grid n) T t k x.0 x.1) there

both_keys : (n T k : ℕ) (t : List Touch) → AreObserved n T k t
    → (list_any (eqb k)
    (keys (opened_observed (native_grid n) T t) (written_lines (native_grid n) t)) ≡ true)
    × (list_any (eqb (suc k))
    (keys (opened_observed (native_grid n) T t) (written_lines (native_grid n) t)) ≡ true)
both_keys n T k t w = (
  observed_key n T t k w.lower,
  subst (λ z. list_any (eqb z)
      (keys (opened_observed (native_grid n) T t) (written_lines (native_grid n) t)) ≡ true)
      (add-one k) (observed_key n T t (k + 1) w.upper),
)

pub fewer_shifted : (n T P : ℕ) (t : List Touch) → 0 < length (observed_ones (native_grid n) T t)
    → length (shifted_ones n T P t) < length (observed_ones (native_grid n) T t)
fewer_shifted n T P t some =
    let ks = written_lines (native_grid n) t in
    let s = length-keys (opened_shifted n T P t) (written_lines (native_grid n) t) in
    let o = length-keys (opened_observed (native_grid n) T t) (written_lines (native_grid n) t) in
    let less = fewer_above (keys (opened_shifted n T P t) ks)
    (keys (opened_observed (native_grid n) T t) ks)
    (filter-distinct eqb (λ k. is_some (opened_shifted n T P t k)) ks (each_once-distinct _))
    (λ q e. both_keys n T q t
    (shifted_opening-observed n T P q t (sym (opened_shifted-is_some n T P q t)
    ∙ keys-has (opened_shifted n T P t) ks q e)))
    (omega (arith, some, o)) in
    omega (arith, less, s, o)

pub half_doubled : (n T P : ℕ) (t : List Touch) → is_native_size n ≡ true
    → 2 * length (doubled_ones n T P t) ≤ length (observed_ones (native_grid n) T t)
half_doubled n T P t native =
    let ks = written_lines (native_grid n) t in
    let s = length-keys (opened_doubled n T P t) (written_lines (native_grid n) t) in
    let o = length-keys (opened_observed (native_grid n) T t) (written_lines (native_grid n) t) in
    let le = half_above (keys (opened_doubled n T P t) ks)
    (keys (opened_observed (native_grid n) T t) ks)
    (filter-distinct eqb (λ k. is_some (opened_doubled n T P t k)) ks (each_once-distinct _))
    (λ q e.
    let there = keys-has (opened_doubled n T P t) ks q e in
    let x = some_is (opened_doubled n T P t q) there in
    let b = both_keys n T q t
    (doubled_opening-observed n T P q t (sym (opened_doubled-is_some n T P q t) ∙ there)) in
    ((opened_doubled-is n T P t q x.0 native x.1).odd, b.0, b.1)) in
    omega (arith, le, s, o)
