-- What is seen of each hart, where a seat changes and where there are more seats.
use Rattle.std.proofs.Common.{◌≡◌, ℕ, suc, ◌+◌, ◌-◌, ◌*◌, ◌/◌, ◌%◌, ◌<◌, ◌≤◌, ◌^◌, true}
use Rattle.std.proofs.Common.{false, eqb, List, [], ◌∷◌, ◌++◌, length, refl, sym, ap, ◌∙◌}
use Rattle.std.proofs.Common.{subst, arith, inl, inr, None, Some, bit_and}
use Rattle.std.proofs.Math.Nat.{mod-eq_of_lt}
use Rattle.std.proofs.lemmas.Bool.{cases_Bool, cases_eq, eq-eqb, eqb-true, false≢true}
use Rattle.std.proofs.lemmas.List.{get_or-append_right, get_or-replicate, get_or-set_other}
use Rattle.std.proofs.lemmas.List.{get_or-set_same, get_or_append_left, length-append, length-set}
use Rattle.std.proofs.lemmas.List.{take_all}
use Rattle.std.proofs.lemmas.Nat.{and_mask, mod_below, mod-pow-add, pow_pos}
use Rattle.std.proofs.lemmas.Option.{none-some}
use Rattle.std.specs.Map.{lookup}
use Rattle.std.specs.Option.{option_map_or}
use Rattle.std.specs.Prelude.{Option, nat_eq, nat_lt, is_some, replicate, slice_index_or, slice_set}
use Rattle.std.specs.Prelude.{if◌then◌else◌, take, drop}
use Rattle.indexmap.specs.IndexMap.{insert_entry}
use Rattle.misses.specs.MissCounts.{no_visits, visits_of}
use Rattle.misses.specs.Seats.{AreSeated, IsRound, free_seat, is_its, is_open, place_among, seat_of}
use Rattle.misses.specs.Seats.{seen}
use Rattle.misses.specs.declared.line_misses.Visits.{Visits}

-- ---- places

place_is : (k n h : ℕ) → n ≡ 2 ^ k → place_among n h ≡ h % 2 ^ k
place_is k n h e = ap (λ m. bit_and h (m - 1)) e ∙ and_mask h k

place_within : (k n h : ℕ) → n ≡ 2 ^ k → place_among n h < n
place_within k n h e =
    let below : h % 2 ^ k < 2 ^ k = mod_below h (2 ^ k) (pow_pos k) in
    let at : place_among n h ≡ h % 2 ^ k = place_is k n h e in omega (arith, below, at, e)

pub within : (n h : ℕ) → IsRound n → 0 < n → place_among n h < n
within n h (inl none) some = absurd (omega (arith, none, some))
within n h (inr k) some = place_within k.0 n h k.1

-- ---- what a seat says of hart q

abbrev picked : ℕ → ℕ × Visits → Option Visits
picked q e = if eqb q e.0 then Some e.1 else None

no_hart : (q : ℕ) → q < 256 → eqb q 256 ≡ false
no_hart q few =
    elim (cases_Bool (eqb q 256)) [
      | inl same ↦ let is : q ≡ 256 = eqb-true q 256 same in absurd (omega (arith, is, few))
      | inr other ↦ other
    ]

-- ---- a seat that changes
module _ (s : List (ℕ × Visits)) (h : ℕ) (v : Visits) where
  abbrev put : List (ℕ × Visits)
  put = slice_set s (place_among (length s) h) (h, v)

  put_long : length put ≡ length s
  put_long = length-set s (place_among (length s) h) (h, v)

  put_at : (q : ℕ) → seat_of put q
      ≡ slice_index_or put (place_among (length s) q) free_seat
  put_at q = ap (λ n. slice_index_or put (place_among n q) free_seat) put_long

  pub seen_own : place_among (length s) h < length s → seen put h ≡ Some v
  seen_own there =
      ap (picked h) (put_at h ∙ get_or-set_same s (place_among (length s) h) (h, v) free_seat there)
      ∙ rw (eq-eqb h h refl) refl

  seen_other : (q : ℕ) → eqb q h ≡ false → place_among (length s) h < length s
      → (place_among (length s) q ≡ place_among (length s) h → picked q (seat_of s h) ≡ None)
      → seen put q ≡ seen s q
  seen_other q other there unseen =
      elim (cases_eq (place_among (length s) q) (place_among (length s) h)) [
        | inl same ↦
            let now : seat_of put q ≡ (h, v) =
            put_at q ∙ ap (λ i. slice_index_or put i free_seat) same
            ∙ get_or-set_same s (place_among (length s) h) (h, v) free_seat there in
            let before : picked q (seat_of s q) ≡ None =
            ap (λ i. picked q (slice_index_or s i free_seat)) same ∙ unseen same in
            let nobody : picked q (h, v) ≡ None = rw other refl in
            ap (picked q) now ∙ nobody ∙ sym before
        | inr differs ↦ ap (picked q) (put_at q
            ∙ get_or-set_other s (place_among (length s) h) (place_among (length s) q) (h, v)
            free_seat differs)
      ]

-- a hart that sits at its place may sit there again, and so may one where the seat is open: nobody
-- else is seen there
own_seat : (s : List (ℕ × Visits)) (h q : ℕ) → is_its s h ≡ true → eqb q h ≡ false
    → picked q (seat_of s h) ≡ None
own_seat s h q its other =
    let differs : eqb q (seat_of s h).0 ≡ false =
    subst (λ n. eqb q n ≡ false) (eqb-true h (seat_of s h).0 its) other in
    rw differs refl

open_seat : (s : List (ℕ × Visits)) (h q : ℕ) → is_open s h ≡ true → q < 256
    → place_among (length s) q ≡ place_among (length s) h → picked q (seat_of s h) ≡ None
open_seat s h q clear few same =
    elim (cases_Bool (eqb q (seat_of s h).0)) [
      | inl here ↦
          let is : q ≡ (seat_of s h).0 = eqb-true q (seat_of s h).0 here in
          let low : nat_lt (seat_of s h).0 256 ≡ true =
          subst (λ n. nat_lt n 256 ≡ true) is (grind (arith, few)) in
          let there : eqb (place_among (length s) (seat_of s h).0) (place_among (length s) h)
          ≡ true =
          eq-eqb _ _ (ap (place_among (length s)) (sym is) ∙ same) in
          let closed : is_open s h ≡ false =
          elim (cases_Bool (nat_lt 0 (length s))) [
            | inl some ↦ rw (some, low, there) refl
            | inr none ↦ rw none refl
          ] in
          absurd (false≢true (sym closed ∙ clear))
      | inr other ↦ rw other refl
    ]

open_some : (s : List (ℕ × Visits)) (h : ℕ) → is_open s h ≡ true → 0 < length s
open_some [] h clear = absurd (false≢true clear)
open_some (x ∷ xs) h clear = omega arith

-- ---- entries
lookup_own : (es : List (ℕ × Visits)) (h : ℕ) (v : Visits)
    → lookup (eqb h) (insert_entry nat_eq es h v) ≡ Some v
lookup_own [] h v = rw (eq-eqb h h refl) refl
lookup_own (e ∷ es) h v =
    elim (cases_Bool (eqb h e.0)) [
      | inl here ↦ rw here (rw here refl)
      | inr other ↦ rw other (rw other (lookup_own es h v))
    ]

lookup_other : (es : List (ℕ × Visits)) (h q : ℕ) (v : Visits) → eqb q h ≡ false
    → lookup (eqb q) (insert_entry nat_eq es h v) ≡ lookup (eqb q) es
lookup_other [] h q v other = rw other refl
lookup_other (e ∷ es) h q v other =
    elim (cases_Bool (eqb h e.0)) [
      | inl here ↦
          let differs : eqb q e.0 ≡ false =
          subst (λ n. eqb q n ≡ false) (eqb-true h e.0 here) other in
          rw here (rw differs refl)
      | inr apart ↦ rw apart (elim (cases_Bool (eqb q e.0)) [
        | inl found ↦ rw found refl
        | inr missed ↦ rw missed (lookup_other es h q v other)
      ])
    ]

-- ---- the seats of a table
pub seated_none : (s es : List (ℕ × Visits)) → s ≡ [] → es ≡ [] → AreSeated s es
seated_none s es none nobody =
    subst (λ xs. AreSeated xs es) (sym none) (subst (AreSeated []) (sym nobody) (record {
      round = inl refl;
      found = λ h few. let differs : eqb h 256 ≡ false = no_hart h few in rw differs refl;
    }))

-- where the same is seen
pub seated_same : (s n es : List (ℕ × Visits)) → AreSeated s es → IsRound (length n)
    → ((h : ℕ) → h < 256 → seen n h ≡ seen s h) → AreSeated n es
seated_same s n es seated round same = record {
  round = round;
  found = λ h few. same h few ∙ seated.found h few;
}

-- where a hart has other visits
pub seated_next : (s n es : List (ℕ × Visits)) (h : ℕ) (v : Visits) → AreSeated s es
    → IsRound (length n)
    → ((q : ℕ) → q < 256 → seen n q ≡ if eqb q h then Some v else seen s q)
    → AreSeated n (insert_entry nat_eq es h v)
seated_next s n es h v seated round next = record {
  round = round;
  found = λ q few. elim (cases_Bool (eqb q h)) [
    | inl same ↦
        let is : q ≡ h = eqb-true q h same in
        let now : seen n q ≡ Some v = next q few ∙ rw same refl in
        now ∙ sym (subst (λ k. lookup (eqb k) (insert_entry nat_eq es h v) ≡ Some v) (sym is)
        (lookup_own es h v))
    | inr other ↦
        let now : seen n q ≡ seen s q = next q few ∙ rw other refl in
        now ∙ seated.found q few ∙ sym (lookup_other es h q v other)
  ];
}

-- it sits at its place
put_round : (s : List (ℕ × Visits)) (h : ℕ) (v : Visits) → IsRound (length s)
    → IsRound (length (slice_set s (place_among (length s) h) (h, v)))
put_round s h v round = subst IsRound (sym (length-set s (place_among (length s) h) (h, v))) round

put_seen : (s : List (ℕ × Visits)) (h : ℕ) (v : Visits) → place_among (length s) h < length s
    → ((q : ℕ) → q < 256 → eqb q h ≡ false
    → place_among (length s) q ≡ place_among (length s) h → picked q (seat_of s h) ≡ None)
    → (q : ℕ) → q < 256 → seen (slice_set s (place_among (length s) h) (h, v)) q
    ≡ if eqb q h then Some v else seen s q
put_seen s h v there unseen q few =
    elim (cases_Bool (eqb q h)) [
      | inl same ↦
          let is : q ≡ h = eqb-true q h same in
          rw same (subst (λ k. seen (slice_set s (place_among (length s) h) (h, v)) k ≡ Some v)
          (sym is) (seen_own s h v there))
      | inr other ↦ rw other (seen_other s h v q other there (unseen q few other))
    ]

its_some : (s : List (ℕ × Visits)) (h : ℕ) → h < 256 → is_its s h ≡ true → 0 < length s
its_some [] h few its = absurd (false≢true (sym (no_hart h few) ∙ its))
its_some (x ∷ xs) h few its = omega arith

-- a hart that came before
pub seated_put : (s n es : List (ℕ × Visits)) (h : ℕ) (v : Visits) → AreSeated s es → h < 256
    → is_its s h ≡ true → n ≡ slice_set s (place_among (length s) h) (h, v)
    → AreSeated n (insert_entry nat_eq es h v)
seated_put s n es h v seated few its is =
    let there : place_among (length s) h < length s =
    within (length s) h seated.round (its_some s h few its) in
    subst (λ xs. AreSeated xs (insert_entry nat_eq es h v)) (sym is)
    (seated_next s (slice_set s (place_among (length s) h) (h, v)) es h v seated
    (put_round s h v seated.round)
    (put_seen s h v there (λ q low other same. own_seat s h q its other)))

-- one that takes an open seat
pub open_within : (s : List (ℕ × Visits)) (h : ℕ) → IsRound (length s) → is_open s h ≡ true
    → place_among (length s) h < length s
open_within s h round clear = within (length s) h round (open_some s h clear)

pub open_put : (s o n : List (ℕ × Visits)) (h : ℕ) (v : Visits) → IsRound (length s)
    → is_open s h ≡ true → n ≡ slice_set s (place_among (length s) h) (h, v)
    → ((q : ℕ) → q < 256 → seen s q ≡ seen o q)
    → (q : ℕ) → q < 256 → seen n q ≡ if eqb q h then Some v else seen o q
open_put s o n h v round clear is same q few =
    subst (λ xs. seen xs q ≡ if eqb q h then Some v else seen o q) (sym is)
    (put_seen s h v (open_within s h round clear)
    (λ p low other at. open_seat s h p clear low at) q few
    ∙ ap (λ x. if eqb q h then Some v else x) (same q few))

pub put_still_round : (s n : List (ℕ × Visits)) (h : ℕ) (v : Visits) → IsRound (length s)
    → n ≡ slice_set s (place_among (length s) h) (h, v) → IsRound (length n)
put_still_round s n h v round is =
    subst (λ (xs : List (ℕ × Visits)). IsRound (length xs)) (sym is) (put_round s h v round)

-- ---- its visits, and whether it came
pub seen_visits : (s es : List (ℕ × Visits)) (h : ℕ) → AreSeated s es → h < 256
    → (if is_its s h then (seat_of s h).1 else no_visits) ≡ visits_of es h
seen_visits s es h seated few =
    subst (λ (o : Option Visits). (if is_its s h then (seat_of s h).1 else no_visits)
    ≡ option_map_or (λ v. v) o no_visits) (seated.found h few)
    (elim (cases_Bool (is_its s h)) [ inl its ↦ rw its refl | inr other ↦ rw other refl ])

pub unseen : (s : List (ℕ × Visits)) (h : ℕ) → is_its s h ≡ false → seen s h ≡ None
unseen s h apart = rw apart refl

pub never_came : (s es : List (ℕ × Visits)) (h : ℕ) → AreSeated s es → h < 256
    → is_its s h ≡ false → is_some (lookup (eqb h) es) ≡ false
never_came s es h seated few apart =
    ap (λ (o : Option Visits). is_some o) (sym (seated.found h few) ∙ unseen s h apart)

-- ---- more seats
twice : (s : List (ℕ × Visits)) (b r i : ℕ) → b < 2 → r < length s → i ≡ b * length s + r
    → slice_index_or (s ++ s) i free_seat ≡ slice_index_or s r free_seat
twice s b r i few low at =
    elim (cases_eq b 0) [
      | inl none ↦
          let is : i ≡ r = omega (arith, at, ap (λ k. k * length s) none) in
          ap (λ k. slice_index_or (s ++ s) k free_seat) is ∙ get_or_append_left s s free_seat r low
      | inr one ↦
          let b1 : b ≡ 1 = omega (arith, few, one) in
          let is : i ≡ length s + r = omega (arith, at, ap (λ k. k * length s) b1) in
          ap (λ k. slice_index_or (s ++ s) k free_seat) is
          ∙ get_or-append_right s s (length s) (length s + r) free_seat refl (omega arith)
          ∙ ap (λ k. slice_index_or s k free_seat) (omega arith)
    ]

double_seen : (s : List (ℕ × Visits)) (k h : ℕ) → length s ≡ 2 ^ k → seen (s ++ s) h ≡ seen s h
double_seen s k h is =
    let long : length (s ++ s) ≡ 2 ^ suc k = length-append s s ∙ omega (arith, is) in
    let more : suc k ≡ 1 + k = omega arith in
    let wide : place_among (length (s ++ s)) h ≡ h / 2 ^ k % 2 * 2 ^ k + h % 2 ^ k =
    place_is (suc k) (length (s ++ s)) h long ∙ ap (λ e. h % 2 ^ e) more ∙ mod-pow-add h 1 k in
    let low : h % 2 ^ k < 2 ^ k = mod_below h (2 ^ k) (pow_pos k) in
    let at : place_among (length (s ++ s)) h ≡ h / 2 ^ k % 2 * length s + h % 2 ^ k =
    wide ∙ ap (λ n. h / 2 ^ k % 2 * n + h % 2 ^ k) (sym is) in
    ap (picked h) (twice s (h / 2 ^ k % 2) (h % 2 ^ k) (place_among (length (s ++ s)) h)
    (mod_below (h / 2 ^ k) 2 (omega arith)) (subst (λ n. h % 2 ^ k < n) (sym is) low) at
    ∙ ap (λ i. slice_index_or s i free_seat) (sym (place_is k (length s) h is)))

pub all_twice : (s : List (ℕ × Visits)) (n : ℕ) → n ≡ length s
    → s ++ take (n - 0) (drop 0 s) ≡ s ++ s
all_twice s n is =
    ap (λ xs. s ++ xs) (take_all (n - 0) s (omega (arith, is)))

pub doubled_seen : (s n : List (ℕ × Visits)) → IsRound (length s) → 0 < length s → n ≡ s ++ s
    → (h : ℕ) → h < 256 → seen n h ≡ seen s h
doubled_seen s n (inl none) some is h few = absurd (omega (arith, none, some))
doubled_seen s n (inr k) some is h few =
    subst (λ xs. seen xs h ≡ seen s h) (sym is) (double_seen s k.0 h k.1)

pub doubled_round : (s n : List (ℕ × Visits)) → IsRound (length s) → 0 < length s → n ≡ s ++ s
    → IsRound (length n)
doubled_round s n (inl none) some is = absurd (omega (arith, none, some))
doubled_round s n (inr k) some is =
    let long : length (s ++ s) ≡ 2 ^ suc k.0 =
    let one : length s ≡ 2 ^ k.0 = k.1 in length-append s s ∙ omega (arith, one) in
    inr (suc k.0, ap (λ (xs : List (ℕ × Visits)). length xs) is ∙ long)

first_seen : (s : List (ℕ × Visits)) (h : ℕ) → h < 256 → length s ≡ 0
    → seen (replicate 8 free_seat) h ≡ seen s h
first_seen [] h few none =
    let at : place_among 8 h < 8 = place_within 3 8 h refl in
    let differs : eqb h 256 ≡ false = no_hart h few in
    let now : seen (replicate 8 free_seat) h ≡ None =
    ap (picked h) (get_or-replicate 8 (place_among 8 h) free_seat free_seat at) ∙ rw differs refl in
    now ∙ sym (rw differs refl)
first_seen (x ∷ xs) h few none = absurd (omega (arith, none))

pub begun_seen : (s n : List (ℕ × Visits)) → length s ≡ 0 → n ≡ replicate 8 free_seat
    → (h : ℕ) → h < 256 → seen n h ≡ seen s h
begun_seen s n none is h few =
    subst (λ xs. seen xs h ≡ seen s h) (sym is) (first_seen s h few none)

pub begun_round : (n : List (ℕ × Visits)) → length n ≡ 8 → IsRound (length n)
begun_round n is = inr (3, is)

-- ---- 256 seats are enough
pub crowded : (s : List (ℕ × Visits)) (h : ℕ) → IsRound (length s) → h < 256
    → seen s h ≡ None → is_open s h ≡ false → length s < 256
crowded s h (inl none) few absent closed = omega (arith, none)
crowded s h (inr k) few absent closed =
    elim (cases_Bool (nat_lt (length s) 256)) [
      | inl low ↦ grind (arith, low)
      | inr many ↦
          let wide : 256 ≤ 2 ^ k.0 = let is : length s ≡ 2 ^ k.0 = k.1 in grind (arith, many, is) in
          let there : ℕ = (seat_of s h).0 in
          let some : nat_lt 0 (length s) ≡ true = grind (arith, many) in
          elim (cases_Bool (nat_lt there 256)) [
            | inl low ↦ elim (cases_Bool (eqb (place_among (length s) there)
                (place_among (length s) h))) [
                  | inl same ↦
                      let below : there < 256 = grind (arith, low) in
                      let at : place_among (length s) there ≡ there =
                      place_is k.0 (length s) there k.1 ∙ mod-eq_of_lt (omega (arith, below, wide)) in
                      let here : place_among (length s) h ≡ h =
                      place_is k.0 (length s) h k.1 ∙ mod-eq_of_lt (omega (arith, few, wide)) in
                      let its : eqb h there ≡ true =
                      eq-eqb h there (sym here ∙ sym (eqb-true _ _ same) ∙ at) in
                      let found : seen s h ≡ Some (seat_of s h).1 = rw its refl in
                      absurd (none-some (seat_of s h).1 (sym absent ∙ found))
                  | inr apart ↦
                      let clear : is_open s h ≡ true = rw (some, low, apart) refl in
                      absurd (false≢true (sym closed ∙ clear))
                ]
            | inr high ↦
                let clear : is_open s h ≡ true = rw (some, high) refl in
                absurd (false≢true (sym closed ∙ clear))
          ]
    ]
