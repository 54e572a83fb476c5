-- What `parse` reads of a numeral.
use Rattle.std.proofs.Common.{◌≡◌, ℕ, ◌<◌, ◌≤◌, ◌^◌, Bool, true, false, List, length, get_or, Some}
use Rattle.std.proofs.Common.{None, Result, Ok, Err, sym, ◌∙◌, ap}
use Rattle.std.proofs.Common.{inl, inr, arith}
use Rattle.std.proofs.lemmas.Bool.{cases_lt, and_parts, and_from, and_right, and_left}
use Rattle.std.proofs.lemmas.Bool.Decides.{nat_tests}
use Rattle.std.proofs.lemmas.List.{get_or_past}
use Rattle.std.proofs.lemmas.Str.{IsUtf8-from_ascii}
use Rattle.std.proofs.lemmas.Str.Parse.{IsNumeralModel, numerals_by_value, parse_digits, digit_at}
use Rattle.std.specs.Char.{is_ascii_digit}
use Rattle.std.specs.List.{list_all}
use Rattle.std.specs.Prelude.{◌&&◌, ◌||◌, not, nat_eq, slice_index, nat_lt, if◌then◌else◌}
use Rattle.std.specs.Result.{OkIff, result_ok}
use Rattle.std.specs.Str.{IsUtf8, IsAscii}
use Rattle.std.specs.Str.Parse.{ParsesUnsigned, digits_value}
use Rattle.std.proofs.Common.{rules}
use Rattle.hart_scheduler.specs.Numbers.{is_numeral, number_of}

pub digits : IsNumeralModel (λ ds. list_all is_ascii_digit ds ≡ true) (digits_value 10)
digits = numerals_by_value _ (search rules)

pub no_number : (text : List ℕ) → is_numeral text ≡ false → number_of text ≡ None
unfolding number_of
no_number text no_numeral = ap (λ (b : Bool). if b then Some (digits_value 10 text) else None)
    (and_left _ _ no_numeral)

pub fitting : (text : List ℕ) → is_numeral text ≡ true → digits_value 10 text < 2 ^ 32
    → number_of text ≡ Some (digits_value 10 text)
unfolding number_of
fitting text numeral fits =
    let small : nat_lt (digits_value 10 text) (2 ^ 32) ≡ true = grind (arith, nat_tests) in
    ap (λ (b : Bool). if b then Some (digits_value 10 text) else None) (and_from _ _ numeral small)

pub too_large : (text : List ℕ) → 2 ^ 32 ≤ digits_value 10 text → number_of text ≡ None
unfolding number_of
too_large text large =
    let small : nat_lt (digits_value 10 text) (2 ^ 32) ≡ false = grind (arith, nat_tests) in
    ap (λ (b : Bool). if b then Some (digits_value 10 text) else None) (and_right _ _ small)

read : {E : Type 0} (text : List ℕ) (r : Result ℕ E) → is_numeral text ≡ true → 0 < length text
    → OkIff r ((0 < length text) × (digits_value 10 text < 2 ^ 32)) (digits_value 10 text)
    → result_ok r ≡ number_of text
read text (Ok x) numeral some h = ap (λ n. Some n) h.1 ∙ sym (fitting text numeral h.0.1)
read text (Err e) numeral some h =
    elim (cases_lt (digits_value 10 text) (2 ^ 32)) [
      | inl small ↦ absurd (h (some, small))
      | inr large ↦ sym (too_large text large)
    ]

pub parsed : {E : Type 0} (text : List ℕ) (r : Result ℕ E) → ParsesUnsigned 32 10 text r
    → is_numeral text ≡ true
    → result_ok r ≡ number_of text
parsed text r h numeral =
    let parts = and_parts (list_all is_ascii_digit text)
    (nat_eq (length text) 1 || (nat_lt 1 (length text) && not (nat_eq (slice_index text 0) 48)))
    numeral in
    let some : 0 < length text = grind (arith, nat_tests) in
    read text r numeral some (parse_digits digits 32 text r h parts.0)

pub utf8 : (text : List ℕ) → is_numeral text ≡ true → IsUtf8 text
utf8 text numeral =
    let all = digits.to text (and_parts _ _ numeral).0 in
    let ascii : IsAscii text = λ i.
    elim (cases_lt i (length text)) [
      | inl inside ↦ let d = digit_at text i all inside in omega (arith, d.1)
      | inr past ↦ let z : get_or text i 0 ≡ 0 = get_or_past text i 0 past in omega (arith, z)
    ] in
    IsUtf8-from_ascii text ascii
