-- Numbers that are stated in groups.
use Rattle.std.proofs.Common.{◌≡◌, ℕ, ◌+◌, ◌^◌, ◌<◌, ◌≤◌, true, List, [], ◌∷◌, length, take, drop}
use Rattle.std.proofs.Common.{sym, ap, ◌∙◌, arith}
use Rattle.std.proofs.lemmas.Bool.Decides.{nat_tests}
use Rattle.std.proofs.lemmas.List.{drop-take}
use Rattle.trace_format.specs.Ahead.{HasNumber, HasNumberAt}
use Rattle.trace_format.specs.Numbers.{are_groups, group_count, number_in}

-- The groups of a spelled number below 2^32 state such a number.
pub small_number : (stated : List ℕ) → length stated ≤ 5 → are_groups stated ≡ true
    → number_in stated < 2 ^ 32
small_number [] few good = omega arith
small_number (a ∷ []) few good = omega arith
small_number (a ∷ b ∷ []) few good = omega arith
small_number (a ∷ b ∷ c ∷ []) few good = omega arith
small_number (a ∷ b ∷ c ∷ d ∷ []) few good = omega arith
small_number (a ∷ b ∷ c ∷ d ∷ e ∷ []) few good =
    let small : e ≤ 15 = grind (arith, nat_tests) in
    omega arith
small_number (a ∷ b ∷ c ∷ d ∷ e ∷ f ∷ rest) few good = absurd (omega arith)

-- A number that begins the bytes from a place on stands there in all of them.
pub number_from : (bytes rest : List ℕ) (place number size : ℕ) → rest ≡ drop place bytes
    → length rest + place ≡ length bytes → HasNumber rest number size
    → HasNumberAt bytes place number (place + size)
number_from bytes rest place number size cut long has =
    let same : take size rest ≡ drop place (take (place + size) bytes) =
    ap (λ (xs : List ℕ). take size xs) cut ∙ sym (drop-take place size bytes) in
    record {
      extent = ap (λ (k : ℕ). place + k) (has.extent ∙ ap group_count cut);
      there = omega (arith, long, has.there);
      spelled = ap are_groups (sym same) ∙ has.spelled;
      stated = has.stated ∙ ap number_in same;
    }
