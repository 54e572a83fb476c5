-- The orders of the rows are orders.
use Rattle.std.proofs.Common.{◌≡◌, ℕ, ℤ, Bool, true, false, eqb, ltb, ◌&&◌, ◌||◌, arith}
use Rattle.std.proofs.lemmas.Bool.Decides.{nat_tests}
use Rattle.std.proofs.lemmas.Int.{ints}
use Rattle.std.specs.Cmp.{IsStrictWeakOrder}
use Rattle.std.specs.Prelude.{int_lt}
use Rattle.sharing_rules.specs.Lines.{range_of}
use Rattle.invalidations.specs.BlameRows.{is_head_before}
use Rattle.invalidations.specs.Rows.{is_hart_row_before, is_pair_row_before, is_site_row_before}

abbrev by_two : ℕ → ℕ → ℕ → ℕ → Bool
by_two a b c d = ltb a c || (eqb a c && ltb b d)

two-one_way : (a b c d : ℕ) → by_two a b c d ≡ true → by_two c d a b ≡ false
two-one_way a b c d h = grind (arith, nat_tests)

two-chain : (a b c d e f : ℕ) → by_two a b c d ≡ false → by_two c d e f ≡ false
    → by_two a b e f ≡ false
two-chain a b c d e f h i = grind (arith, nat_tests)

abbrev by_three : ℕ → ℕ → ℕ → ℕ → ℕ → ℕ → Bool
by_three n a b m c d = ltb m n || (eqb n m && by_two a b c d)

three-one_way : (n a b m c d : ℕ) → by_three n a b m c d ≡ true → by_three m c d n a b ≡ false
three-one_way n a b m c d h = grind (arith, nat_tests)

three-chain : (n a b m c d k e f : ℕ) → by_three n a b m c d ≡ false
    → by_three m c d k e f ≡ false → by_three n a b k e f ≡ false
three-chain n a b m c d k e f h i = grind (arith, nat_tests)

one-one_way : (a b : ℕ) → ltb a b ≡ true → ltb b a ≡ false
one-one_way a b h = grind (arith, nat_tests)

one-chain : (a b c : ℕ) → ltb a b ≡ false → ltb b c ≡ false → ltb a c ≡ false
one-chain a b c h i = grind (arith, nat_tests)

pub site_rows-ranked : IsStrictWeakOrder is_site_row_before
site_rows-ranked = record {
  one_way = λ x y h. one-one_way x.0 y.0 h;
  chain = λ x y z h i. one-chain x.0 y.0 z.0 h i;
}

pub hart_rows-ranked : IsStrictWeakOrder is_hart_row_before
hart_rows-ranked = record {
  one_way = λ x y h. two-one_way x.0.victim x.0.taker y.0.victim y.0.taker h;
  chain = λ x y z h i. two-chain x.0.victim x.0.taker y.0.victim y.0.taker z.0.victim z.0.taker h
      i;
}

pub pair_rows-ranked : IsStrictWeakOrder is_pair_row_before
pair_rows-ranked = record {
  one_way = λ x y h. three-one_way x.1.taken x.0.victim x.0.taker y.1.taken y.0.victim
      y.0.taker h;
  chain = λ x y z h i. three-chain x.1.taken x.0.victim x.0.taker y.1.taken y.0.victim
      y.0.taker z.1.taken z.0.victim z.0.taker h i;
}

-- by a falling number, then by a rising integer
abbrev by_base : ℕ → ℤ → ℕ → ℤ → Bool
by_base c b d e = ltb d c || (eqb c d && int_lt b e)

base-one_way : (c : ℕ) (b : ℤ) (d : ℕ) (e : ℤ) → by_base c b d e ≡ true → by_base d e c b ≡ false
base-one_way c b d e h = grind (arith, ints, nat_tests)

base-chain : (c : ℕ) (b : ℤ) (d : ℕ) (e : ℤ) (x : ℕ) (z : ℤ) → by_base c b d e ≡ false
    → by_base d e x z ≡ false → by_base c b x z ≡ false
base-chain c b d e x z h i = grind (arith, ints, nat_tests)

pub heads-ranked : IsStrictWeakOrder is_head_before
heads-ranked = record {
  one_way = λ x y h. base-one_way x.invalidations (range_of x.line).base y.invalidations
      (range_of y.line).base h;
  chain = λ x y z h i. base-chain x.invalidations (range_of x.line).base y.invalidations
      (range_of y.line).base z.invalidations (range_of z.line).base h i;
}
