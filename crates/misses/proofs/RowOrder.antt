-- The order of the lines of misses is an order.
use Rattle.std.proofs.Common.{◌≡◌, ℕ, Bool, true, false, eqb, ltb, ℤ}
use Rattle.std.proofs.Common.{arith}
use Rattle.std.proofs.lemmas.Bool.Decides.{nat_tests}
use Rattle.std.proofs.lemmas.Int.{ints}
use Rattle.std.specs.Prelude.{◌&&◌, ◌||◌, int_lt}
use Rattle.std.specs.Cmp.{IsStrictWeakOrder}
use Rattle.sharing_rules.specs.Lines.{range_of}
use Rattle.misses.specs.Texts.{wastes_more}

-- by a falling number, then by another one, then by a rising integer
abbrev keyed : ℕ → ℕ → ℤ → ℕ → ℕ → ℤ → Bool
keyed c k b d l e = ltb d c || (eqb c d && (ltb l k || (eqb k l && int_lt b e)))

keyed-one_way : (c k : ℕ) (b : ℤ) (d l : ℕ) (e : ℤ) → keyed c k b d l e ≡ true
    → keyed d l e c k b ≡ false
keyed-one_way c k b d l e h = grind (arith, ints, nat_tests)

keyed-chain : (c k : ℕ) (b : ℤ) (d l : ℕ) (e : ℤ) (x m : ℕ) (z : ℤ) → keyed c k b d l e ≡ false
    → keyed d l e x m z ≡ false → keyed c k b x m z ≡ false
keyed-chain c k b d l e x m z h i = grind (arith, ints, nat_tests)

pub wastes_more-ranks : IsStrictWeakOrder wastes_more
wastes_more-ranks = record {
  one_way = λ x y h. keyed-one_way x.costs.useless x.costs.useful (range_of x.line).base
      y.costs.useless y.costs.useful (range_of y.line).base h;
  chain = λ x y z h k. keyed-chain x.costs.useless x.costs.useful (range_of x.line).base
      y.costs.useless y.costs.useful (range_of y.line).base z.costs.useless z.costs.useful
      (range_of z.line).base h k;
}
