-- Names among the bytes of names.
use Rattle.std.proofs.Common.{◌≡◌, ℕ, zero, suc, ◌<◌, ◌≤◌, ◌==◌, List, [], ◌∷◌, true, false, not}
use Rattle.std.proofs.Common.{cond, nat_lt, Option, Some, None, length}
use Rattle.std.proofs.Common.{refl, ap, ◌∙◌, arith}
use Rattle.std.proofs.Math.ListN.{drop_of_length-le}
use Rattle.std.proofs.lemmas.List.Sums.{prefix_len-le-length}
use Rattle.std.proofs.lemmas.Bool.Decides.{nat_tests}
use Rattle.std.specs.List.{position, position_or_len}
use Rattle.std.specs.Option.{unwrap_or}
use Rattle.program_files.specs.Symbols.{ends}

-- no zero byte stands past the end
pub past_the_end : (names : List ℕ) (place : ℕ) → length names < place → ends names place ≡ false
past_the_end names place h =
    let beyond : length names ≤ place = omega arith in
    rw (drop_of_length-le names beyond) refl

-- what ends begins inside
pub begins_inside : (names : List ℕ) (place : ℕ) → ends names place ≡ true → place ≤ length names
begins_inside names zero h = omega arith
begins_inside [] (suc place) h = absurd (cc)
begins_inside (x ∷ names) (suc place) h = let inside = begins_inside names place h in omega arith

found_or_end : (n m : ℕ) → n ≤ m → unwrap_or (cond (nat_lt n m) (Some n) None) m ≡ n
found_or_end n m h = grind (arith, nat_tests)

-- the place of the first zero byte, or the end
pub zero_or_end : (bytes : List ℕ) (r : Option ℕ) → r ≡ position (λ b. b == 0) bytes
    → unwrap_or r (length bytes) ≡ position_or_len (λ b. b == 0) bytes
zero_or_end bytes r h =
    ap (λ o. unwrap_or o (length bytes)) h ∙ found_or_end (position_or_len (λ b. b == 0) bytes)
    (length bytes)
    (prefix_len-le-length (λ b. not (b == 0)) bytes)

pub zero_within : (bytes : List ℕ) → position_or_len (λ b. b == 0) bytes ≤ length bytes
zero_within bytes = prefix_len-le-length (λ b. not (b == 0)) bytes
