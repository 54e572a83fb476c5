-- The groups of seven bits that are judged good are those of their number, and a distance is that
-- of the address that it gives.
use Rattle.std.proofs.Common.{◌≡◌, ℕ, zero, suc, ◌+◌, ◌*◌, ◌/◌, ◌%◌, ◌^◌, ◌≤◌, ◌<◌, true, false}
use Rattle.std.proofs.Common.{ltb, List, [], ◌∷◌, length, refl, ap, ◌∙◌}
use Rattle.std.proofs.Common.{arith}
use Rattle.std.proofs.lemmas.Bool.Decides.{nat_tests}
use Rattle.trace_format.specs.Numbers.{address_at, are_groups, distance, group_count, groups}
use Rattle.trace_format.specs.Numbers.{groups_in, number_in}
use Rattle.trace_format.specs.Laws.Bytes.{IsBytes}

pub distance_again : (last z : ℕ) → last < 2 ^ 32 → z < 2 ^ 32 → distance last (address_at last z)
    ≡ z
distance_again last z low small = grind (arith, nat_tests)

pub address_below : (last z : ℕ) → address_at last z < 2 ^ 32
address_below last z = grind (arith, nat_tests)

last_group : (more b : ℕ) → b < 128 → groups_in more (b % 128 + 128 * 0) ≡ b ∷ []
last_group zero b small = let same : b % 128 + 128 * 0
    ≡ b = grind arith in ap (λ (n : ℕ). n ∷ []) same
last_group (suc more) b small =
    let same : b % 128 + 128 * 0 ≡ b = grind arith in
    let last : ltb b 128 ≡ true = grind (arith, nat_tests) in
    rw (same, last) refl

first_group : (more a m : ℕ) → 128 ≤ a → a < 256 → 0 < m → groups_in (suc more) (a % 128 + 128 * m)
    ≡ a ∷ groups_in more m
first_group more a m high small some =
    let z = a % 128 + 128 * m in
    let many : ltb z 128 ≡ false = grind (arith, nat_tests) in
    let low : z % 128 + 128 ≡ a = grind arith in
    let rest : z / 128 ≡ m = grind arith in
    rw (many, low, rest) refl

pub record AreThose (stated : List ℕ) : Type 0 where
  pub same : groups (number_in stated) ≡ stated
  pub small : number_in stated < 2 ^ 32

pub groups_found : (stated : List ℕ) → IsBytes stated → length stated ≡ group_count stated → are_groups stated
    ≡ true → AreThose stated
groups_found [] is len good = absurd (grind (arith, nat_tests))
groups_found (a ∷ []) is len good =
    let low : a < 128 = grind (arith, nat_tests) in
    record { same = last_group 4 a low; small = omega arith }
groups_found (a ∷ b ∷ []) is len good =
    let high : 128 ≤ a = grind (arith, nat_tests) in
    let low : b < 128 = grind (arith, nat_tests) in
    let some : 0 < b = grind (arith, nat_tests) in
    let n1 = b % 128 + 128 * 0 in
    record {
      same = first_group 3 a n1 high (is 0) (omega arith) ∙ ap (λ (xs : List ℕ). a ∷ xs)
          (last_group 3 b low);
      small = omega arith;
    }
groups_found (a ∷ b ∷ c ∷ []) is len good =
    let ha : 128 ≤ a = grind (arith, nat_tests) in
    let hb : 128 ≤ b = grind (arith, nat_tests) in
    let low : c < 128 = grind (arith, nat_tests) in
    let some : 0 < c = grind (arith, nat_tests) in
    let n1 = c % 128 + 128 * 0 in
    let n2 = b % 128 + 128 * n1 in
    record {
      same = first_group 3 a n2 ha (is 0) (omega arith)
          ∙ ap (λ (xs : List ℕ). a ∷ xs) (first_group 2 b n1 hb (is 1) (omega arith)
          ∙ ap (λ (xs : List ℕ). b ∷ xs) (last_group 2 c low));
      small = omega arith;
    }
groups_found (a ∷ b ∷ c ∷ d ∷ []) is len good =
    let ha : 128 ≤ a = grind (arith, nat_tests) in
    let hb : 128 ≤ b = grind (arith, nat_tests) in
    let hc : 128 ≤ c = grind (arith, nat_tests) in
    let low : d < 128 = grind (arith, nat_tests) in
    let some : 0 < d = grind (arith, nat_tests) in
    let n1 = d % 128 + 128 * 0 in
    let n2 = c % 128 + 128 * n1 in
    let n3 = b % 128 + 128 * n2 in
    record {
      same = first_group 3 a n3 ha (is 0) (omega arith)
          ∙ ap (λ (xs : List ℕ). a ∷ xs) (first_group 2 b n2 hb (is 1) (omega arith)
          ∙ ap (λ (xs : List ℕ). b ∷ xs) (first_group 1 c n1 hc (is 2) (omega arith)
          ∙ ap (λ (xs : List ℕ). c ∷ xs) (last_group 1 d low)));
      small = omega arith;
    }
groups_found (a ∷ b ∷ c ∷ d ∷ e ∷ []) is len good =
    let ha : 128 ≤ a = grind (arith, nat_tests) in
    let hb : 128 ≤ b = grind (arith, nat_tests) in
    let hc : 128 ≤ c = grind (arith, nat_tests) in
    let hd : 128 ≤ d = grind (arith, nat_tests) in
    let low : e ≤ 15 = grind (arith, nat_tests) in
    let some : 0 < e = grind (arith, nat_tests) in
    let n1 = e % 128 + 128 * 0 in
    let n2 = d % 128 + 128 * n1 in
    let n3 = c % 128 + 128 * n2 in
    let n4 = b % 128 + 128 * n3 in
    record {
      same = first_group 3 a n4 ha (is 0) (omega arith)
          ∙ ap (λ (xs : List ℕ). a ∷ xs) (first_group 2 b n3 hb (is 1) (omega arith)
          ∙ ap (λ (xs : List ℕ). b ∷ xs) (first_group 1 c n2 hc (is 2) (omega arith)
          ∙ ap (λ (xs : List ℕ). c ∷ xs) (first_group 0 d n1 hd (is 3) (omega arith)
          ∙ ap (λ (xs : List ℕ). d ∷ xs) (last_group 0 e (omega arith)))));
      small = omega arith;
    }
groups_found (a ∷ b ∷ c ∷ d ∷ e ∷ f ∷ rest) is len good = absurd (grind (arith, nat_tests))
