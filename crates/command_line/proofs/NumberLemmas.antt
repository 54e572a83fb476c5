-- A text of decimal digits, as `parse` reads it.
use Rattle.std.proofs.Common.{rules, ℕ, ◌<◌, ◌^◌, ◌≡◌, ◌≢◌, true, List, [], ◌∷◌, length, Result, Ok}
use Rattle.std.proofs.Common.{Err, Option, Some, None, ap, arith, eqb, false, refl, inl, inr, subst}
use Rattle.std.proofs.lemmas.Bool.{and_parts, cases_Bool, eq-eqb, eqb-true}
use Rattle.std.proofs.lemmas.Bool.Decides.{nat_tests}
use Rattle.std.specs.Borrow.{Bor}
use Rattle.std.specs.Char.{digit_value, is_ascii_digit, is_ascii_hexdigit}
use Rattle.std.specs.List.{list_all}
use Rattle.std.specs.Option.{MatchOption}
use Rattle.std.specs.Result.{OkIff, result_ok}
use Rattle.std.specs.Str.Parse.{AllDigits, IsNumeral, ParsesUnsigned, digits_value}
use Rattle.std.specs.Str.Parse.{without_leading_plus}
use Rattle.std.proofs.lemmas.Str.Parse.{IsNumeralModel, numerals_by_value, parse_digits}
use Rattle.command_line.specs.Demands.{text_of}
use Rattle.command_line.specs.Numbers.{behind, hexadecimal_of, is_hexadecimal, is_plain}
use Rattle.command_line.specs.Numbers.{number_of}

digits : IsNumeralModel (λ ds. list_all is_ascii_digit ds ≡ true) (digits_value 10)
digits = numerals_by_value _ (search rules)

all_digits : (text : List ℕ) → is_plain text ≡ true → list_all is_ascii_digit text ≡ true
all_digits text plain = search rules

some_digits : (text : List ℕ) → is_plain text ≡ true → 0 < length text
some_digits text plain = search rules

of_answer : {E : Type 0} (text : List ℕ) (r : Result ℕ E) → is_plain text ≡ true
    → OkIff r ((0 < length text) × (digits_value 10 text < 2 ^ 64)) (digits_value 10 text)
    → result_ok r ≡ number_of text
of_answer text (Ok x) plain h = search rules
of_answer text (Err e) plain h = search (rules, some_digits text plain)

-- what `parse` makes of such a text is its number
pub result_ok-number_of : {E : Type 0} (text : List ℕ) (r : Result ℕ E) → is_plain text ≡ true
    → ParsesUnsigned 64 10 text r
    → result_ok r ≡ number_of text
result_ok-number_of text r plain parses = of_answer text r plain
    (parse_digits digits 64 text r parses (all_digits text plain))

-- the same of hexadecimal digits
hex_value : (c : ℕ) → is_ascii_hexdigit c ≡ true → digit_value c < 16
hex_value c h = grind (arith, nat_tests)

no_sign : (c : ℕ) → is_ascii_hexdigit c ≡ true → eqb c 43 ≡ false
no_sign c h = grind (arith, nat_tests)

all_hex : (ds : List ℕ) → list_all is_ascii_hexdigit ds ≡ true → AllDigits 16 ds
all_hex [] h = tt
all_hex (c ∷ cs) h =
    let parts = and_parts (is_ascii_hexdigit c) (list_all is_ascii_hexdigit cs) h in
    (hex_value c parts.0, all_hex cs parts.1)

plain_hex : (ds : List ℕ) → list_all is_ascii_hexdigit ds ≡ true → without_leading_plus ds ≡ ds
plain_hex [] h = refl
plain_hex (c ∷ cs) h =
    rw (no_sign c (and_parts (is_ascii_hexdigit c) (list_all is_ascii_hexdigit cs) h).0) refl

all_hex_digits : (text : List ℕ) → is_hexadecimal text ≡ true
    → list_all is_ascii_hexdigit text ≡ true
all_hex_digits text plain = search rules

some_hex_digits : (text : List ℕ) → is_hexadecimal text ≡ true → 0 < length text
some_hex_digits text plain = search rules

of_hex_answer : {E : Type 0} (text : List ℕ) (r : Result ℕ E) → is_hexadecimal text ≡ true
    → OkIff r ((0 < length text) × (digits_value 16 text < 2 ^ 64)) (digits_value 16 text)
    → result_ok r ≡ hexadecimal_of text
of_hex_answer text (Ok x) plain h = search rules
of_hex_answer text (Err e) plain h = search (rules, some_hex_digits text plain)

-- an answer that comes by other words of when it comes
by_words : {E : Type 0} (r : Result ℕ E) (P Q : Type 0) (v : ℕ) → (P → Q) → (Q → P)
    → OkIff r P v → OkIff r Q v
by_words (Ok x) P Q v f g h = (f h.0, h.1)
by_words (Err e) P Q v f g h = λ q. h (g q)

pub result_ok-hexadecimal_of : {E : Type 0} (text : List ℕ) (r : Result ℕ E)
    → is_hexadecimal text ≡ true → ParsesUnsigned 64 16 text r
    → result_ok r ≡ hexadecimal_of text
result_ok-hexadecimal_of text r plain parses =
    let hex = all_hex_digits text plain in
    let same : OkIff r (IsNumeral 16 text × (digits_value 16 text < 2 ^ 64))
    (digits_value 16 text) =
    subst (λ (ds : List ℕ). OkIff r (IsNumeral 16 ds × (digits_value 16 ds < 2 ^ 64))
    (digits_value 16 ds)) (plain_hex text hex) parses in
    of_hex_answer text r plain
    (by_words r (IsNumeral 16 text × (digits_value 16 text < 2 ^ 64))
    ((0 < length text) × (digits_value 16 text < 2 ^ 64)) (digits_value 16 text)
    (λ p. (p.0.0, p.1)) (λ q. ((q.0, all_hex text hex), q.1)) same)

-- what stands behind a byte
pub behind-stripped : (c : ℕ) (text : List ℕ) (r : Option (Bor (List ℕ)))
    → MatchOption r ((rest : List ℕ) → text ≢ c ∷ rest) (λ x. text ≡ c ∷ x.now)
    → text_of r ≡ behind c text
behind-stripped c [] None h = refl
behind-stripped c (d ∷ text) None h =
    elim (cases_Bool (eqb d c)) [
      | inl e ↦ absurd (h text (ap (λ z. z ∷ text) (eqb-true d c e)))
      | inr e ↦ rw e refl
    ]
behind-stripped c text (Some x) h = rw (h, eq-eqb c c refl) refl
