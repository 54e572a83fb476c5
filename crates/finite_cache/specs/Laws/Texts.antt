-- The order of rows is an order, and the counts of a line are put together.
use Rattle.std.proofs.Common.{◌≡◌, ℕ, Bool, true, false, eqb, ltb, ℤ, List, [], ◌∷◌, ◌++◌}
use Rattle.std.proofs.Common.{arith, append_assoc, codes}
use Rattle.std.proofs.lemmas.Bool.Decides.{nat_tests}
use Rattle.std.proofs.lemmas.Int.{ints}
use Rattle.std.specs.Prelude.{◌&&◌, ◌||◌, int_lt}
use Rattle.std.specs.Cmp.{IsStrictWeakOrder}
use Rattle.report.specs.Lines.{rest_of_line}
use Rattle.finite_cache.specs.Texts.{comes_first}

-- by a falling number, then by a rising integer
abbrev keyed : ℕ → ℤ → ℕ → ℤ → Bool
keyed c b d e = ltb d c || (eqb c d && int_lt b e)

keyed-one_way : (c : ℕ) (b : ℤ) (d : ℕ) (e : ℤ) → keyed c b d e ≡ true → keyed d e c b ≡ false
keyed-one_way c b d e h = grind (arith, ints, nat_tests)

keyed-chain : (c : ℕ) (b : ℤ) (d : ℕ) (e : ℤ) (x : ℕ) (z : ℤ) → keyed c b d e ≡ false
    → keyed d e x z ≡ false → keyed c b x z ≡ false
keyed-chain c b d e x z h i = grind (arith, ints, nat_tests)

pub comes_first-ranks : IsStrictWeakOrder comes_first
comes_first-ranks = record {
  one_way = λ x y h. keyed-one_way x.unbounded x.range.base y.unbounded y.range.base h;
  chain = λ x y z h k. keyed-chain x.unbounded x.range.base y.unbounded y.range.base z.unbounded
      z.range.base h k;
}

-- the counts of a line, in three pieces
pub counted_by : (whole b u e : List ℕ)
    → whole ++ (codes " bounded " ++ b) ++ (codes " unbounded " ++ u)
    ++ (codes " evicted " ++ e ++ codes "\n")
    ≡ whole ++ rest_of_line (codes "bounded" ∷ b ∷ codes "unbounded" ∷ u ∷ codes "evicted" ∷ e ∷ [])
counted_by whole b u e = simp append_assoc
