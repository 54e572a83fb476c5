-- The written lines of a count: which they are is one list.
use Rattle.std.proofs.Common.{◌≡◌, ℕ, ◌+◌, ◌<◌, ◌≤◌, Bool, true, false, ltb, List, [], ◌∷◌, ◌++◌}
use Rattle.std.proofs.Common.{map, refl, sym, ap, ◌∙◌, subst, arith, inl, inr}
use Rattle.std.proofs.lemmas.Bool.{cases_lt, lt-ltb}
use Rattle.std.proofs.lemmas.Bool.Decides.{nat_tests}
use Rattle.std.specs.Prelude.{nat_lt}
use Rattle.std.specs.Cmp.{IsStrictWeakOrder}
use Rattle.sharing_rules.specs.Members.{IsRising, Member}
use Rattle.sharing_rules.specs.Laws.Kinds.{Member-append, append-Member_left, append-Member_right}
use Rattle.sharing_rules.specs.Laws.Lists.{all_at, all_from_members}
use Rattle.sharing_rules.specs.Laws.Orders.{same_rising}
use Rattle.saved_state.specs.Laws.Lists.{Member-map, map-Member, rising-map}
use Rattle.saved_state.specs.declared.state_parts.CountedLine.{CountedLine}
use Rattle.saved_state.specs.Counted.{AreCounted, count_below, counted_line, has_lower_number}

lower-one_way : (a b : ℕ) → ltb a b ≡ true → ltb b a ≡ false
lower-one_way a b h = grind (arith, nat_tests)

lower-chain : (a b c : ℕ) → ltb a b ≡ false → ltb b c ≡ false → ltb a c ≡ false
lower-chain a b c h k = grind (arith, nat_tests)

has_lower_number-ranks : IsStrictWeakOrder has_lower_number
has_lower_number-ranks = record {
  one_way = λ x y h. lower-one_way x.number y.number h;
  chain = λ x y z h k. lower-chain x.number y.number z.number h k;
}

-- a line that is counted is the line of its number
pub is_line : (count : ℕ → ℕ) (l : CountedLine) → l.writes ≡ count l.number
    → l ≡ counted_line count l.number
is_line count l is = λ i. record { number = l.number; writes = is i }

found_again : (count : ℕ → ℕ) (xs ys : List CountedLine) → AreCounted count xs
    → AreCounted count ys → (l : CountedLine) → Member l xs → Member l ys
found_again count xs ys one other l m =
    let is = one.counted l m in
    subst (λ z. Member z ys) (sym (is_line count l is.1))
    (other.all l.number (subst (λ n. 0 < n) is.1 is.0))

-- one count has one list
pub same_counted : (count : ℕ → ℕ) (xs ys : List CountedLine) → AreCounted count xs
    → AreCounted count ys → xs ≡ ys
same_counted count xs ys one other =
    same_rising has_lower_number has_lower_number-ranks xs ys one.rising other.rising
    (found_again count xs ys one other) (found_again count ys xs other one)

pub counted_alike : (f g : ℕ → ℕ) (lines : List CountedLine) → ((k : ℕ) → f k ≡ g k)
    → AreCounted f lines → AreCounted g lines
counted_alike f g lines same counted =
    subst (λ (h : ℕ → ℕ). AreCounted h lines) (λ i k. same k i) counted

-- an element that comes behind all others, put last
pub rising-push : {X : Type 0} (lt : X → X → Bool) (xs : List X) (x : X) → IsRising lt xs
    → ((y : X) → Member y xs → lt y x ≡ true) → IsRising lt (xs ++ x ∷ [])
rising-push lt [] x rising before = (tt, tt)
rising-push lt (z ∷ xs) x rising before = (
  all_from_members (λ y. lt z y ≡ true) (xs ++ x ∷ [])
      (λ y m. elim (Member-append xs (x ∷ []) y m) [
        | inl front ↦ all_at (λ w. lt z w ≡ true) xs y rising.0 front
        | inr last ↦ elim last [
          | inl is ↦ subst (λ w. lt z w ≡ true) (sym is) (before z (inl refl))
          | inr never ↦ absurd never
        ]
      ]),
  rising-push lt xs x rising.1 (λ y m. before y (inr m)),
)

below_within : (n : ℕ) (count : ℕ → ℕ) (k : ℕ) → k < n → count_below n count k ≡ count k
below_within n count k h = grind (arith, nat_tests)

below_some : (n : ℕ) (count : ℕ → ℕ) (k : ℕ) → 0 < count_below n count k
    → (k < n) × (count_below n count k ≡ count k)
below_some n count k h = (grind (arith, nat_tests), grind (arith, nat_tests))

-- the next written line more
pub counted-push : (count : ℕ → ℕ) (from n : ℕ) (lines : List CountedLine) → from ≤ n → 0 < count n
    → ((q : ℕ) → from ≤ q → q < n → count q ≡ 0) → AreCounted (count_below from count) lines
    → AreCounted (count_below (n + 1) count) (lines ++ counted_line count n ∷ [])
counted-push count from n lines above some none counted = record {
  rising = rising-push has_lower_number lines (counted_line count n) counted.rising (λ x m.
      let is = counted.counted x m in
      let small = below_some from count x.number (subst (λ z. 0 < z) is.1 is.0) in
      lt-ltb x.number n (omega (arith, small.0)));
  counted = λ l m. elim (Member-append lines (counted_line count n ∷ []) l m) [
    | inl before ↦
        let is = counted.counted l before in
        let small = below_some from count l.number (subst (λ z. 0 < z) is.1 is.0) in
        (is.0, is.1 ∙ small.1 ∙ sym (below_within (n + 1) count l.number (omega (arith, small.0))))
    | inr last ↦ elim last [
      | inl is ↦ (
        subst (λ (z : CountedLine). 0 < z.writes) (sym is) some,
        subst (λ (z : CountedLine). z.writes ≡ count_below (n + 1) count z.number) (sym is)
            (sym (below_within (n + 1) count n (omega arith))),
      )
      | inr never ↦ absurd never
    ]
  ];
  all = λ k there.
      let small = below_some (n + 1) count k there in
      let line : counted_line (count_below (n + 1) count) k ≡ counted_line count k =
      ap (λ w. record { number = k; writes = w }) small.1 in
      subst (λ (z : CountedLine). Member z (lines ++ counted_line count n ∷ [])) (sym line)
      (elim (cases_lt k from) [
        | inl early ↦
            let same = below_within from count k early in
            append-Member_left lines (counted_line count n ∷ []) (counted_line count k)
            (subst (λ w. Member (record { number = k; writes = w }) lines) same
            (counted.all k (subst (λ z. 0 < z) (small.1 ∙ sym same) there)))
        | inr late ↦ elim (cases_lt k n) [
          | inl between ↦ absurd (let zero_writes = none k late between in omega (arith, small.1))
          | inr at ↦
              let is : k ≡ n = omega (arith, small.0) in
              append-Member_right lines (counted_line count n ∷ []) (counted_line count k)
              (inl (ap (counted_line count) is))
        ]
      ]);
}

below_all : (n : ℕ) (count : ℕ → ℕ) (k : ℕ) → (n ≤ k → count k ≡ 0)
    → count_below n count k ≡ count k
below_all n count k none = elim (cases_lt k n) [
  | inl early ↦ below_within n count k early
  | inr late ↦ let zero_writes = none late in grind (arith, nat_tests)
]

-- all, where none comes any more
pub counted-whole : (count : ℕ → ℕ) (from : ℕ) (lines : List CountedLine)
    → ((q : ℕ) → from ≤ q → count q ≡ 0) → AreCounted (count_below from count) lines
    → AreCounted count lines
counted-whole count from lines none counted =
    counted_alike (count_below from count) count lines
    (λ k. below_all from count k (λ late. none k late)) counted

-- a line of some numbers is the line of its own
of_number : (count : ℕ → ℕ) (ks : List ℕ) (l : CountedLine)
    → Member l (map (counted_line count) ks)
    → Member l.number ks × (l ≡ counted_line count l.number)
of_number count ks l m =
    let w = Member-map (counted_line count) ks l m in
    let number : l.number ≡ w.0 = ap (λ (z : CountedLine). z.number) w.2 in (
      subst (λ k. Member k ks) (sym number) w.1,
      w.2 ∙ ap (counted_line count) (sym number),
    )

-- the lines of numbers that rise, which are those of the written lines
pub counted-map : (count : ℕ → ℕ) (ks : List ℕ) → IsRising nat_lt ks
    → ((k : ℕ) → Member k ks → 0 < count k) → ((k : ℕ) → 0 < count k → Member k ks)
    → AreCounted count (map (counted_line count) ks)
counted-map count ks rising written all = record {
  rising = rising-map (counted_line count) nat_lt has_lower_number (λ x y less. less) ks rising;
  counted = λ l m.
      let w = of_number count ks l m in
      let is : l.writes ≡ count l.number = ap (λ (z : CountedLine). z.writes) w.1 in
      (subst (λ n. 0 < n) (sym is) (written l.number w.0), is);
  all = λ k some. map-Member (counted_line count) ks k (all k some);
}
