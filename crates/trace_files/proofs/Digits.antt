-- What `parse` makes of the digits of a number.
use Rattle.std.proofs.Common.{rules, ◌≡◌, ℕ, zero, suc, ◌<◌, ◌^◌, Bool, true, false, List, [], ◌∷◌, length}
use Rattle.std.proofs.Common.{drop, get_or, Some, None, Result, Ok, Err, sym, ◌∙◌, ap, subst, refl}
use Rattle.std.proofs.Common.{inl, inr, arith, eqb}
use Rattle.std.proofs.lemmas.Bool.{and_parts, cases_lt}
use Rattle.std.proofs.lemmas.Bool.Decides.{nat_tests}
use Rattle.std.proofs.lemmas.List.{get_or_past}
use Rattle.std.proofs.lemmas.Str.{IsUtf8-from_ascii}
use Rattle.std.proofs.lemmas.Str.Parse.{IsNumeralModel, digit_at, numerals_by_value, parse_digits}
use Rattle.std.specs.Char.{digit_value, is_ascii_digit, is_ascii_hexdigit}
use Rattle.std.specs.List.{list_all}
use Rattle.std.specs.Prelude.{if◌then◌else◌, nat_lt}
use Rattle.std.specs.Result.{OkIff, result_ok}
use Rattle.std.specs.Str.{IsAscii, IsUtf8}
use Rattle.std.specs.Str.Parse.{AllDigits, IsNumeral, ParsesUnsigned, digits_value}
use Rattle.std.specs.Str.Parse.{without_leading_plus}
use Rattle.trace_files.specs.Numerals.{decimal_of, hexadecimal_of, is_decimal, is_hexadecimal}
use Rattle.trace_files.specs.Numerals.{is_marked, number_of, value_in}

-- ---- decimal digits

digits : IsNumeralModel (λ ds. list_all is_ascii_digit ds ≡ true) (digits_value 10)
digits = numerals_by_value _ (search rules)

all_digits : (text : List ℕ) → is_decimal text ≡ true → list_all is_ascii_digit text ≡ true
all_digits text plain = search rules

some_digits : (text : List ℕ) → is_decimal text ≡ true → 0 < length text
some_digits text plain = search rules

of_value : {E : Type 0} (radix : ℕ) (text : List ℕ) (r : Result ℕ E) → 0 < length text
    → OkIff r ((0 < length text) × (digits_value radix text < 2 ^ 64)) (digits_value radix text)
    → result_ok r ≡ value_in radix text
of_value radix text (Ok x) some h =
    let small : nat_lt (digits_value radix text) (2 ^ 64) ≡ true = grind (arith, nat_tests, h.0.1) in
    ap (λ n. Some n) h.1
    ∙ sym (ap (λ (b : Bool). if b then Some (digits_value radix text) else None) small)
of_value radix text (Err e) some h =
    elim (cases_lt (digits_value radix text) (2 ^ 64)) [
      | inl small ↦ absurd (h (some, small))
      | inr large ↦
          let no : nat_lt (digits_value radix text) (2 ^ 64) ≡ false = grind (arith, nat_tests) in
          sym (ap (λ (b : Bool). if b then Some (digits_value radix text) else None) no)
    ]

pub decimal_none : (text : List ℕ) → is_decimal text ≡ false → decimal_of text ≡ None
unfolding decimal_of
decimal_none text other = ap (λ (b : Bool). if b then value_in 10 text else None) other

pub decimal_parsed : {E : Type 0} (text : List ℕ) (r : Result ℕ E) → is_decimal text ≡ true
    → ParsesUnsigned 64 10 text r
    → result_ok r ≡ decimal_of text
unfolding decimal_of
decimal_parsed text r plain parses =
    of_value 10 text r (some_digits text plain)
    (parse_digits digits 64 text r parses (all_digits text plain))
    ∙ sym (ap (λ (b : Bool). if b then value_in 10 text else None) plain)

pub decimal_utf8 : (text : List ℕ) → is_decimal text ≡ true → IsUtf8 text
decimal_utf8 text plain =
    let all = digits.to text (all_digits text plain) in
    let ascii : IsAscii text = λ i.
    elim (cases_lt i (length text)) [
      | inl inside ↦ let d = digit_at text i all inside in omega (arith, d.1)
      | inr past ↦ let z : get_or text i 0 ≡ 0 = get_or_past text i 0 past in omega (arith, z)
    ] in
    IsUtf8-from_ascii text ascii

-- ---- hexadecimal digits

hex_value : (c : ℕ) → is_ascii_hexdigit c ≡ true → digit_value c < 16
hex_value c h = grind (arith, nat_tests)

hex_ascii : (c : ℕ) → is_ascii_hexdigit c ≡ true → c < 128
hex_ascii c h = grind (arith, nat_tests)

no_sign : (c : ℕ) → is_ascii_hexdigit c ≡ true → eqb c 43 ≡ false
no_sign c h = grind (arith, nat_tests)

all_hex : (ds : List ℕ) → list_all is_ascii_hexdigit ds ≡ true → AllDigits 16 ds
all_hex [] h = tt
all_hex (c ∷ cs) h =
    let parts = and_parts (is_ascii_hexdigit c) (list_all is_ascii_hexdigit cs) h in
    (hex_value c parts.0, all_hex cs parts.1)

plain_hex : (ds : List ℕ) → list_all is_ascii_hexdigit ds ≡ true → without_leading_plus ds ≡ ds
plain_hex [] h = refl
plain_hex (c ∷ cs) h =
    rw (no_sign c (and_parts (is_ascii_hexdigit c) (list_all is_ascii_hexdigit cs) h).0) refl

all_hex_digits : (text : List ℕ) → is_hexadecimal text ≡ true
    → list_all is_ascii_hexdigit text ≡ true
all_hex_digits text plain = search rules

some_hex_digits : (text : List ℕ) → is_hexadecimal text ≡ true → 0 < length text
some_hex_digits text plain = search rules

-- an answer that comes by other words of when it comes
by_words : {E : Type 0} (r : Result ℕ E) (P Q : Type 0) (v : ℕ) → (P → Q) → (Q → P)
    → OkIff r P v → OkIff r Q v
by_words (Ok x) P Q v f g h = (f h.0, h.1)
by_words (Err e) P Q v f g h = λ q. h (g q)

pub hexadecimal_none : (text : List ℕ) → is_hexadecimal text ≡ false → hexadecimal_of text ≡ None
unfolding hexadecimal_of
hexadecimal_none text other = ap (λ (b : Bool). if b then value_in 16 text else None) other

pub hexadecimal_parsed : {E : Type 0} (text : List ℕ) (r : Result ℕ E)
    → is_hexadecimal text ≡ true → ParsesUnsigned 64 16 text r
    → result_ok r ≡ hexadecimal_of text
unfolding hexadecimal_of
hexadecimal_parsed text r plain parses =
    let hex = all_hex_digits text plain in
    let some = some_hex_digits text plain in
    let same : OkIff r (IsNumeral 16 text × (digits_value 16 text < 2 ^ 64))
    (digits_value 16 text) =
    subst (λ (ds : List ℕ). OkIff r (IsNumeral 16 ds × (digits_value 16 ds < 2 ^ 64))
    (digits_value 16 ds)) (plain_hex text hex) parses in
    of_value 16 text r some
    (by_words r (IsNumeral 16 text × (digits_value 16 text < 2 ^ 64))
    ((0 < length text) × (digits_value 16 text < 2 ^ 64)) (digits_value 16 text)
    (λ p. (p.0.0, p.1)) (λ q. ((q.0, all_hex text hex), q.1)) same)
    ∙ sym (ap (λ (b : Bool). if b then value_in 16 text else None) plain)

ascii_at : (text : List ℕ) (i : ℕ) → list_all is_ascii_hexdigit text ≡ true → get_or text i 0 < 128
ascii_at [] i all = omega arith
ascii_at (c ∷ cs) zero all = hex_ascii c (and_parts (is_ascii_hexdigit c) (list_all is_ascii_hexdigit cs) all).0
ascii_at (c ∷ cs) (suc i) all =
    ascii_at cs i (and_parts (is_ascii_hexdigit c) (list_all is_ascii_hexdigit cs) all).1

pub hexadecimal_utf8 : (text : List ℕ) → is_hexadecimal text ≡ true → IsUtf8 text
hexadecimal_utf8 text plain =
    IsUtf8-from_ascii text (λ i. ascii_at text i (all_hex_digits text plain))

-- ---- either

pub marked_number : (text : List ℕ) → is_marked text ≡ true
    → number_of text ≡ hexadecimal_of (drop 2 text)
unfolding number_of
marked_number text marked =
    ap (λ (b : Bool). if b then hexadecimal_of (drop 2 text) else decimal_of text) marked

pub unmarked_number : (text : List ℕ) → is_marked text ≡ false
    → number_of text ≡ decimal_of text
unfolding number_of
unmarked_number text marked =
    ap (λ (b : Bool). if b then hexadecimal_of (drop 2 text) else decimal_of text) marked
