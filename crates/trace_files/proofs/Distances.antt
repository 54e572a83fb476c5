-- How many groups a distance takes at most, beside those of a way through another address.
use Rattle.std.proofs.Common.{◌≡◌, ◌⊎◌, ℕ, ◌+◌, ◌-◌, ◌*◌, ◌%◌, ◌^◌, ◌≤◌, ◌<◌, cond, ltb, length}
use Rattle.std.proofs.Common.{arith}
use Rattle.std.proofs.lemmas.Bool.Decides.{nat_tests}
use Rattle.trace_format.specs.Numbers.{distance, groups}

-- how many groups a number takes
abbrev taken : ℕ → ℕ
taken z =
    cond (ltb z 128) 1 (cond (ltb z 16384) 2 (cond (ltb z 2097152) 3
    (cond (ltb z 268435456) 4 5)))

groups_taken : (z : ℕ) → length (groups z) ≡ taken z
groups_taken z = grind (arith, nat_tests)

few_more : (z a b : ℕ) → z ≤ a + b + 1 → taken z ≤ taken a + taken b + 1
few_more z a b within = grind (arith, nat_tests)

-- a distance as it is recorded, by how far up it is
abbrev stated : ℕ → ℕ
stated up = cond (ltb up (2 ^ 31)) (2 * up) (2 * (2 ^ 32 - up) - 1)

stated_through : (u w s : ℕ) → u < 2 ^ 32 → w < 2 ^ 32 → s < 2 ^ 32
    → ((s ≡ u + w) ⊎ (s + 2 ^ 32 ≡ u + w)) → stated s ≤ stated u + stated w + 1
stated_through u w s low_u low_w low_s is = grind (arith, nat_tests)

-- how far an address is up from another one
abbrev up_from : ℕ → ℕ → ℕ
up_from a b = (b + 2 ^ 32 - a) % 2 ^ 32

up_through : (a b c : ℕ) → a < 2 ^ 32 → b < 2 ^ 32 → c < 2 ^ 32
    → (up_from a c ≡ up_from a b + up_from b c)
    ⊎ (up_from a c + 2 ^ 32 ≡ up_from a b + up_from b c)
up_through a b c low_a low_b low_c = grind (arith, nat_tests)

up_small : (a b : ℕ) → up_from a b < 2 ^ 32
up_small a b = omega arith

-- The way from an address to another takes at most one group more than that through a third.
pub groups_through : (a b c : ℕ) → a < 2 ^ 32 → b < 2 ^ 32 → c < 2 ^ 32
    → length (groups (distance a c))
    ≤ length (groups (distance a b)) + length (groups (distance b c)) + 1
groups_through a b c low_a low_b low_c =
    let few : taken (distance a c) ≤ taken (distance a b) + taken (distance b c) + 1 =
    few_more (distance a c) (distance a b) (distance b c)
    (stated_through (up_from a b) (up_from b c) (up_from a c) (up_small a b) (up_small b c)
    (up_small a c) (up_through a b c low_a low_b low_c)) in
    rw (
      groups_taken (distance a c),
      groups_taken (distance a b),
      groups_taken (distance b c),
    ) few
