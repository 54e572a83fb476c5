-- What is listed of a list under a layout, with thresholds of 1 and no prediction: its counts are
-- those of the total.
use Rattle.std.proofs.Common.{◌≡◌, ℕ, Bool, false, cond, leb, ltb, List, [], ◌∷◌, refl}
use Rattle.std.proofs.Common.{ap, ◌∙◌, arith, inl, inr, length}
use Rattle.std.proofs.lemmas.Bool.{cases_Bool}
use Rattle.std.proofs.lemmas.Bool.Decides.{nat_tests}
use Rattle.std.proofs.lemmas.List.Sorted.{length_permutation, sum_by-IsPermutation}
use Rattle.std.proofs.lemmas.List.Sums.{length-filter, sum_by-cons}
use Rattle.std.specs.Prelude.{count_by, filter, sum_by}
use Rattle.base.specs.Lines.{Grid}
use Rattle.base.specs.Touch.{Touch}
use Rattle.sharing_rules.specs.Listed.{Finding, comes_before, in_order, listed, tracked}
use Rattle.sharing_rules.specs.Laws.Listed.{tracked-observed}
use Rattle.sharing_rules.specs.Laws.Orders.{in_order-permutes}
use Rattle.sharing_rules.specs.Recounts.{plain_levels}
use Rattle.layout_sweep.specs.Totals.{counted_lines, total_of}

abbrev has_count : Finding → Bool
has_count f = leb 1 f.count

zero_count : (c : ℕ) → leb 1 c ≡ false → c ≡ 0
zero_count c none = grind (arith, nat_tests)

same_test : (c : ℕ) → leb 1 c ≡ ltb 0 c
same_test c = grind (arith, nat_tests)

-- those without a count add nothing
sum-filter : (fs : List Finding) → sum_by (λ (f : Finding). f.count) (filter has_count fs)
    ≡ sum_by (λ (f : Finding). f.count) fs
sum-filter [] = refl
sum-filter (f ∷ fs) =
    let rest = sum-filter fs in
    let whole = sum_by-cons (λ (f : Finding). f.count) f fs in
    elim (cases_Bool (has_count f)) [
      | inl some ↦ rw some
          (omega (arith, rest, whole, sum_by-cons (λ (f : Finding). f.count) f (filter has_count fs)))
      | inr none ↦ let nothing = zero_count f.count none in rw none (omega (arith, rest, whole, nothing))
    ]

count-alike : (fs : List Finding)
    → count_by has_count fs ≡ count_by (λ (f : Finding). ltb 0 f.count) fs
count-alike [] = refl
count-alike (f ∷ fs) =
    let rest = count-alike fs in
    let here : cond (has_count f) 1 0 ≡ cond (ltb 0 f.count) 1 0 =
    ap {B = ℕ} (λ b. cond b 1 0) (same_test f.count) in
    omega (
      arith,
      rest,
      here,
      sum_by-cons (λ (f : Finding). cond (has_count f) 1 0) f fs,
      sum_by-cons (λ (f : Finding). cond (ltb 0 f.count) 1 0) f fs,
    )

pub listed-total : (g : Grid) (t : List Touch)
    → sum_by (λ (f : Finding). f.count) (listed g (plain_levels 1) t) ≡ total_of g t
listed-total g t =
    let xs : List Finding = filter has_count (tracked g (plain_levels 1) t) in
    sum_by-IsPermutation (λ (f : Finding). f.count) xs (in_order comes_before xs)
    (in_order-permutes comes_before xs)
    ∙ sum-filter (tracked g (plain_levels 1) t)
    ∙ ap (sum_by (λ (f : Finding). f.count)) (tracked-observed g (plain_levels 1) t refl)

pub listed-lines : (g : Grid) (t : List Touch)
    → length (listed g (plain_levels 1) t) ≡ counted_lines g t
listed-lines g t =
    let xs : List Finding = filter has_count (tracked g (plain_levels 1) t) in
    length_permutation xs (in_order comes_before xs) (in_order-permutes comes_before xs)
    ∙ length-filter has_count (tracked g (plain_levels 1) t)
    ∙ count-alike (tracked g (plain_levels 1) t)
    ∙ ap (count_by (λ (f : Finding). ltb 0 f.count)) (tracked-observed g (plain_levels 1) t refl)
