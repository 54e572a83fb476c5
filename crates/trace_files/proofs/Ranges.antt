-- Ranges that rise: which one holds an address, and where one more goes.
use Rattle.std.proofs.Common.{◌≡◌, ◌≢◌, ℕ, zero, suc, ◌+◌, ◌-◌, ◌<◌, ◌≤◌, Bool, true, false, not, ◌⊎◌, List, []}
use Rattle.std.proofs.Common.{◌∷◌, length, get_or, take, drop, Some, None, cond}
use Rattle.std.proofs.Common.{refl, sym, ap, ◌∙◌, subst, inl, inr, arith, find}
use Rattle.std.specs.Prelude.{◌||◌, nat_eq, nat_le, nat_lt}
use Rattle.std.specs.List.{AllPairs, AllWithin, insert, list_all}
use Rattle.std.specs.List.Sorted.{IsPartitionedBy}
use Rattle.std.proofs.lemmas.Bool.{cases_lt}
use Rattle.std.proofs.lemmas.List.Edits.{get_or-insert_above, get_or-insert_at, get_or-insert_below}
use Rattle.std.proofs.lemmas.List.{get_or_default}
use Rattle.std.proofs.lemmas.List.Edits.{length-insert}
use Rattle.std.proofs.lemmas.List.Elements.{All-append, All-cons, All-drop, All-take}
use Rattle.std.proofs.lemmas.List.Folds.{list_all_at}
use Rattle.std.proofs.lemmas.List.Sums.{list_all-from_AllPass}
use Rattle.std.proofs.lemmas.Bool.Decides.{nat_tests}
use Rattle.trace_files.specs.declared.move_row.Move.{Move}
use Rattle.trace_files.specs.Moves.{is_in_range}
use Rattle.trace_files.specs.Rows.{AreRising, cross, crosses_none, end_of}

-- ---- the first that passes

pub find_none : {X : Type 0} (p : X → Bool) (xs : List X) (d : X)
    → ((k : ℕ) → k < length xs → p (get_or xs k d) ≡ false) → find p xs ≡ None
find_none p [] d fails = refl
find_none p (x ∷ xs) d fails =
    ap (λ (b : Bool). cond b (Some x) (find p xs)) (fails zero (omega arith))
    ∙ find_none p xs d (λ k below. fails (suc k) (omega (arith, below)))

pub find_is : {X : Type 0} (p : X → Bool) (xs : List X) (i : ℕ) (d : X) → i < length xs
    → ((k : ℕ) → k < i → p (get_or xs k d) ≡ false) → p (get_or xs i d) ≡ true
    → find p xs ≡ Some (get_or xs i d)
find_is p [] i d inside fails passes = absurd (omega (arith, inside))
find_is p (x ∷ xs) zero d inside fails passes =
    ap (λ (b : Bool). cond b (Some x) (find p xs)) passes
find_is p (x ∷ xs) (suc i) d inside fails passes =
    ap (λ (b : Bool). cond b (Some x) (find p xs)) (fails zero (omega arith))
    ∙ find_is p xs i d (omega (arith, inside))
    (λ k below. fails (suc k) (omega (arith, below))) passes

-- ---- an address

begins_low : (rows : List Move) → AreRising rows → (i j : ℕ) (d : Move) → i ≤ j → j < length rows
    → (get_or rows i d).from ≤ (get_or rows j d).from
begins_low rows rising i j d low inside =
    elim (cases_lt i j) [
      | inl less ↦ let o = rising.order i j d less inside in omega (arith, o)
      | inr more ↦
          let same : i ≡ j = omega (arith, low, more) in
          subst (λ (k : ℕ). (get_or rows i d).from ≤ (get_or rows k d).from) same (omega arith)
    ]

pub parted : (rows : List Move) (addr : ℕ) → AreRising rows
    → IsPartitionedBy (λ m. nat_le m.from addr) rows
parted rows addr rising = λ i j d low inside is.
    let o = begins_low rows rising i j d low inside in
    grind (arith, nat_tests)

pub parted_below : (rows : List Move) (end : ℕ) → AreRising rows
    → IsPartitionedBy (λ m. nat_lt m.from end) rows
parted_below rows end rising = λ i j d low inside is.
    let o = begins_low rows rising i j d low inside in
    grind (arith, nat_tests)

module _ (rows : List Move) (addr begun : ℕ) (d : Move) (rising : AreRising rows)
    (bound : begun ≤ length rows)
    (below : AllWithin (λ m. m.from ≤ addr) rows 0 begun)
    (above : AllWithin (λ m. addr < m.from) rows begun (length rows))
  where
    later : (k : ℕ) → begun ≤ k → k < length rows → is_in_range addr (get_or rows k d) ≡ false
    later k from inside = let o = above k d from inside in grind (arith, nat_tests)

    earlier : (k : ℕ) → suc k < begun → is_in_range addr (get_or rows k d) ≡ false
    earlier k before =
        let o = rising.order k (begun - 1) d (omega (arith, before)) (omega (arith, before, bound)) in
        let low = below (begun - 1) d (omega arith) (omega (arith, before)) in
        grind (arith, nat_tests)

    pub none_begun : begun ≡ 0 → find (is_in_range addr) rows ≡ None
    none_begun none = find_none (is_in_range addr) rows d
        (λ k inside. later k (omega (arith, none)) inside)

    pub none_holds : begun ≢ 0 → end_of (get_or rows (begun - 1) d) ≤ addr
        → find (is_in_range addr) rows ≡ None
    none_holds some ends = find_none (is_in_range addr) rows d
        (λ k inside. elim (cases_lt k begun) [
          | inr more ↦ later k more inside
          | inl less ↦ elim (cases_lt (suc k) begun) [
            | inl before ↦ earlier k before
            | inr last ↦
                let same : begun - 1 ≡ k = omega (arith, less, last) in
                let out : is_in_range addr (get_or rows (begun - 1) d) ≡ false =
                grind (arith, nat_tests) in
                subst (λ (i : ℕ). is_in_range addr (get_or rows i d) ≡ false) same out
          ]
        ])

    pub last_holds : begun ≢ 0 → addr < end_of (get_or rows (begun - 1) d)
        → find (is_in_range addr) rows ≡ Some (get_or rows (begun - 1) d)
    last_holds some ends =
        let low = below (begun - 1) d (omega arith) (omega (arith, some)) in
        let here : is_in_range addr (get_or rows (begun - 1) d) ≡ true = grind (arith, nat_tests) in
        find_is (is_in_range addr) rows (begun - 1) d (omega (arith, some, bound))
        (λ k before. earlier k (omega (arith, before))) here

-- ---- a range behind others

pub behind_all : (rows : List Move) (at : ℕ) (d : Move) → AreRising rows → 0 < length rows
    → list_all (λ e. nat_le (e.from + e.size) at) rows
    ≡ nat_le (end_of (get_or rows (length rows - 1) d)) at
behind_all rows at d rising some =
    let last = get_or rows (length rows - 1) d in
    elim (cases_lt at (end_of last)) [
      | inl less ↦
          let low : nat_le (end_of last) at ≡ false = grind (arith, nat_tests) in
          list_all_at (λ e. nat_le (e.from + e.size) at) rows (length rows - 1) d
          (omega (arith, some)) low ∙ sym low
      | inr more ↦
          let high : nat_le (end_of last) at ≡ true = grind (arith, nat_tests) in
          list_all-from_AllPass (λ e. nat_le (e.from + e.size) at) rows
          (λ k e inside. elim (cases_lt k (length rows - 1)) [
            | inl before ↦
                let o = rising.order k (length rows - 1) e before (omega (arith, some)) in
                let same = get_or_default rows (length rows - 1) d e (omega (arith, some)) in
                let ends : end_of (get_or rows k e) ≤ at =
                omega (
                  arith,
                  o,
                  more,
                  ap (λ (m : Move). m.from + m.size) same,
                  ap (λ (m : Move). m.from) same,
                ) in
                grind (arith, nat_tests)
            | inr last_one ↦
                let is : length rows - 1 ≡ k = omega (arith, inside, last_one) in
                let same = get_or_default rows (length rows - 1) d e (omega (arith, some)) in
                let ends : end_of (get_or rows (length rows - 1) e) ≤ at =
                omega (arith, more, ap (λ (m : Move). m.from + m.size) same) in
                let passes : nat_le (end_of (get_or rows (length rows - 1) e)) at ≡ true =
                grind (arith, nat_tests) in
                subst (λ (i : ℕ). nat_le (end_of (get_or rows i e)) at ≡ true) is passes
          ]) ∙ sym high
    ]

-- ---- one more range

-- what stands at a place of a list with one more element
at_insert : {X : Type 0} (xs : List X) (i : ℕ) (y d : X) (k : ℕ) → i ≤ length xs
    → ((k < i) × (get_or (insert xs i y) k d ≡ get_or xs k d))
    ⊎ (((k ≡ i) × (get_or (insert xs i y) k d ≡ y))
    ⊎ ((i < k) × (get_or (insert xs i y) k d ≡ get_or xs (k - 1) d)))
at_insert xs i y d k bound =
    elim (cases_lt k i) [
      | inl less ↦ inl (less, get_or-insert_below xs i y d k less bound)
      | inr more ↦ elim (cases_lt i k) [
        | inl above ↦
            let is : k - 1 + 1 ≡ k = omega (arith, above) in
            inr (inr (
              above,
              subst (λ (j : ℕ). get_or (insert xs i y) j d ≡ get_or xs (k - 1) d) is
                  (get_or-insert_above xs i y d (k - 1) (omega (arith, above)) bound),
            ))
        | inr here ↦
            let is : i ≡ k = omega (arith, more, here) in
            inr (inl (
              sym is,
              subst (λ (j : ℕ). get_or (insert xs i y) j d ≡ y) is
                  (get_or-insert_at xs i y d bound),
            ))
      ]
    ]

pairs_insert : {X : Type 0} (R : X → X → Type 0) (xs : List X) (i : ℕ) (y : X) → i ≤ length xs
    → AllPairs R xs
    → ((k : ℕ) (d : X) → k < i → R (get_or xs k d) y)
    → ((k : ℕ) (d : X) → i ≤ k → k < length xs → R y (get_or xs k d))
    → AllPairs R (insert xs i y)
pairs_insert {X} R xs i y bound pairs before behind = λ a b d less inside.
    let long = length-insert xs i y bound in
    let both : (v w : X) → R v w → get_or (insert xs i y) a d ≡ v → get_or (insert xs i y) b d ≡ w
    → R (get_or (insert xs i y) a d) (get_or (insert xs i y) b d) =
    λ v w r one two. subst (λ (x : X). R x (get_or (insert xs i y) b d)) (sym one)
    (subst (λ (x : X). R v x) (sym two) r) in
    elim (at_insert xs i y d a bound) [
      | inl low ↦ elim (at_insert xs i y d b bound) [
        | inl same ↦ both (get_or xs a d) (get_or xs b d)
            (pairs a b d less (omega (arith, same.0, bound))) low.1 same.1
        | inr (inl here) ↦ both (get_or xs a d) y (before a d low.0) low.1 here.1
        | inr (inr high) ↦ both (get_or xs a d) (get_or xs (b - 1) d)
            (pairs a (b - 1) d (omega (arith, low.0, high.0)) (omega (arith, inside, long, high.0)))
            low.1 high.1
      ]
      | inr (inl here) ↦ elim (at_insert xs i y d b bound) [
        | inl low ↦ absurd (omega (arith, here.0, low.0, less))
        | inr (inl same) ↦ absurd (omega (arith, here.0, same.0, less))
        | inr (inr high) ↦ both y (get_or xs (b - 1) d)
            (behind (b - 1) d (omega (arith, high.0)) (omega (arith, inside, long, high.0)))
            here.1 high.1
      ]
      | inr (inr high) ↦ elim (at_insert xs i y d b bound) [
        | inl low ↦ absurd (omega (arith, high.0, low.0, less))
        | inr (inl same) ↦ absurd (omega (arith, high.0, same.0, less))
        | inr (inr higher) ↦ both (get_or xs (a - 1) d) (get_or xs (b - 1) d)
            (pairs (a - 1) (b - 1) d (omega (arith, high.0, less))
            (omega (arith, inside, long, higher.0))) high.1 higher.1
      ]
    ]

module _ (rows : List Move) (m : Move) (place : ℕ) (rising : AreRising rows)
    (some : 0 < m.size) (bound : place ≤ length rows)
    (below : AllWithin (λ e. e.from ≤ m.from) rows 0 place)
    (above : AllWithin (λ e. m.from < e.from) rows place (length rows))
  where
    module _
        (before : (nat_eq place 0 || nat_le (end_of (get_or rows (place - 1) m)) m.from) ≡ true)
        (behind : (nat_le (length rows) place || nat_le (end_of m) (get_or rows place m).from)
        ≡ true)
      where
        ends_low : (k : ℕ) (d : Move) → k < place → end_of (get_or rows k d) ≤ m.from
        ends_low k d less =
            let last : end_of (get_or rows (place - 1) m) ≤ m.from = grind (arith, nat_tests) in
            let same = get_or_default rows (place - 1) m d (omega (arith, less, bound)) in
            let low : end_of (get_or rows (place - 1) d) ≤ m.from =
            omega (arith, last, ap (λ (e : Move). e.from + e.size) same) in
            elim (cases_lt k (place - 1)) [
              | inl first ↦
                  let o = rising.order k (place - 1) d first (omega (arith, less, bound)) in
                  omega (arith, o, low)
              | inr last_one ↦
                  let is : place - 1 ≡ k = omega (arith, less, last_one) in
                  subst (λ (i : ℕ). end_of (get_or rows i d) ≤ m.from) is low
            ]

        begins_high : (k : ℕ) (d : Move) → place ≤ k → k < length rows
            → end_of m ≤ (get_or rows k d).from
        begins_high k d more inside =
            let first : end_of m ≤ (get_or rows place m).from = grind (arith, nat_tests) in
            let same = get_or_default rows place m d (omega (arith, more, inside)) in
            let low = begins_low rows rising place k d more inside in
            omega (arith, first, low, ap (λ (e : Move). e.from) same)

        pub crosses_no : crosses_none rows m ≡ true
        crosses_no = list_all-from_AllPass (λ e. not (cross e m)) rows
            (λ k d inside. elim (cases_lt k place) [
              | inl less ↦
                  let low = ends_low k d less in
                  let no_cross : cross (get_or rows k d) m ≡ false = grind (arith, nat_tests) in
                  ap not no_cross
              | inr more ↦
                  let high = begins_high k d more inside in
                  let no_cross : cross (get_or rows k d) m ≡ false = grind (arith, nat_tests) in
                  ap not no_cross
            ])

        pub rises : AreRising (insert rows place m)
        rises = record {
          some = All-append (λ e. 0 < e.size) (take place rows) (m ∷ drop place rows)
              (All-take (λ e. 0 < e.size) place rows rising.some)
              (All-cons (λ e. 0 < e.size) m (drop place rows) some
              (All-drop (λ e. 0 < e.size) place rows rising.some));
          order = pairs_insert (λ a b. end_of a ≤ b.from) rows place m bound rising.order ends_low
              begins_high;
        }
