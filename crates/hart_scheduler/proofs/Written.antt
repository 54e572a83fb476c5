-- A number is read exactly where it is written in decimal, and a line exactly where its two numbers
-- are written with one
-- space between them.
use Rattle.std.proofs.Common.{◌≡◌, ℕ, ◌+◌, ◌<◌, ◌^◌, Bool, true, false, List, [], ◌∷◌, ◌++◌, length}
use Rattle.std.proofs.Common.{take, drop, get_or, Option, Some, None}
use Rattle.std.proofs.Common.{refl, sym, ◌∙◌, ap, inl, inr, arith, suc}
use Rattle.std.proofs.lemmas.Bool.{cases_lt, cases_Bool, and_parts, and_from}
use Rattle.std.proofs.lemmas.Bool.Decides.{nat_tests}
use Rattle.std.proofs.lemmas.Fmt.{digits_decimal, digits_value-decimal, decimal-digits_value}
use Rattle.std.proofs.lemmas.Fmt.{decimal_nonempty, first_decimal}
use Rattle.std.proofs.lemmas.Fmt.{decimal_digit}
use Rattle.std.proofs.lemmas.List.{drop_all}
use Rattle.std.proofs.lemmas.List.Sums.{split_at_first, passes_at_first}
use Rattle.std.proofs.lemmas.Option.{none-some, same_Some}
use Rattle.std.specs.Char.{is_ascii_digit}
use Rattle.std.specs.Fmt.{decimal}
use Rattle.std.specs.List.{list_all, before_first, after_first, position_or_len}
use Rattle.std.specs.Option.{option_map, option_and_then}
use Rattle.std.specs.Prelude.{◌&&◌, ◌||◌, not, nat_eq, nat_lt, slice_index}
use Rattle.std.specs.Str.Parse.{digits_value}
use Rattle.hart_scheduler.specs.ScheduleParts.{ListEntry}
use Rattle.hart_scheduler.specs.Numbers.{is_numeral, number_of}
use Rattle.hart_scheduler.specs.Texts.{is_byte, space, entry_with, entry_of}
use Rattle.hart_scheduler.specs.Spelling.{LinesAreWritten}
use Rattle.hart_scheduler.proofs.Digits.{digits, no_number, fitting, too_large}
use Rattle.hart_scheduler.proofs.Reading.{entry_parts}

abbrev leads_well : List ℕ → Bool
leads_well text = nat_eq (length text)
    1 || (nat_lt 1 (length text) && not (nat_eq (slice_index text 0) 48))

-- a number is written in decimal
decimal-leads : (n : ℕ) → n < 2 ^ 32 → leads_well (decimal n) ≡ true
decimal-leads n small =
    elim (cases_lt 0 n) [
      | inl some ↦
          let first : 48 < get_or (decimal n) 0 0 = first_decimal n some (omega arith) in
          let filled : 0 < length (decimal n) = decimal_nonempty n (omega arith) in
          grind (arith, nat_tests)
      | inr none ↦ let one : decimal n ≡ (48 + n) ∷ [] = decimal_digit n (omega arith) in
          rw one refl
    ]

pub number_of-decimal : (n : ℕ) → n < 2 ^ 32 → number_of (decimal n) ≡ Some n
number_of-decimal n small =
    let all : list_all is_ascii_digit (decimal n) ≡ true = digits_decimal digits n (omega arith) in
    let value : digits_value 10 (decimal n) ≡ n = digits_value-decimal digits n (omega arith) in
    let numeral : is_numeral (decimal n) ≡ true = and_from _ _ all (decimal-leads n small) in
    fitting (decimal n) numeral (omega (arith, value)) ∙ ap (λ m. Some m) value

leads-none : (text : List ℕ) → leads_well text ≡ true → get_or text 0 0 ≡ 48 → length text ≡ 1
leads-none text leads zero = grind (arith, nat_tests)

leads-filled : (text : List ℕ) → leads_well text ≡ true → 0 < length text
leads-filled text leads = grind (arith, nat_tests)

written : (text : List ℕ) (n : ℕ) → is_numeral text ≡ true → digits_value 10 text < 2 ^ 32
    → digits_value 10 text ≡ n → text ≡ decimal n
written text n numeral fits value =
    let parts = and_parts (list_all is_ascii_digit text) (leads_well text) numeral in
    sym (ap (λ m. decimal m) (sym value) ∙ decimal-digits_value digits text parts.0
    (leads-filled text parts.1) (leads-none text parts.1)
    (omega arith))

pub decimal-number_of : (text : List ℕ) (n : ℕ) → number_of text ≡ Some n → text ≡ decimal n
decimal-number_of text n is =
    elim (cases_Bool (is_numeral text)) [
      | inl numeral ↦ elim (cases_lt (digits_value 10 text) (2 ^ 32)) [
        | inl fits ↦ written text n numeral fits
            (same_Some _ _ (sym (fitting text numeral fits) ∙ is))
        | inr large ↦ absurd (none-some n (sym (too_large text large) ∙ is))
      ]
      | inr other ↦ absurd (none-some n (sym (no_number text other) ∙ is))
    ]

-- a text of digits has no space
digit-no_space : (x : ℕ) → is_ascii_digit x ≡ true → is_byte space x ≡ false
digit-no_space x digit = grind (arith, nat_tests)

position-past : (xs ys : List ℕ) → list_all is_ascii_digit xs ≡ true
    → position_or_len (is_byte space) (xs ++ space ∷ ys) ≡ length xs
position-past [] ys all = refl
position-past (x ∷ xs) ys all =
    let parts = and_parts (is_ascii_digit x) (list_all is_ascii_digit xs) all in
    let none : is_byte space x ≡ false = digit-no_space x parts.0 in
    let rest : position_or_len (is_byte space) (xs ++ space ∷ ys) ≡ length xs =
    position-past xs ys parts.1 in
    rw (none, rest) (omega arith)

take-front : (xs ys : List ℕ) → take (length xs) (xs ++ ys) ≡ xs
take-front [] ys = refl
take-front (x ∷ xs) ys = ap (λ (zs : List ℕ). x ∷ zs) (take-front xs ys)

drop-front : (xs ys : List ℕ) → drop (length xs + 1) (xs ++ space ∷ ys) ≡ ys
drop-front [] ys = refl
drop-front (x ∷ xs) ys = let e : length (x ∷ xs) + 1 ≡ suc (length xs + 1) = omega arith in
    rw e (drop-front xs ys)

entry-written : (hart count : ℕ) → hart < 2 ^ 32 → count < 2 ^ 32
    → entry_of (decimal hart ++ space ∷ decimal count) ≡ Some
    (entry_with hart count)
entry-written hart count small few =
    let line = decimal hart ++ space ∷ decimal count in
    let at : position_or_len (is_byte space) line ≡ length (decimal hart) =
    position-past (decimal hart) (decimal count)
    (digits_decimal digits hart (omega arith)) in
    let front : before_first (is_byte space) line ≡ decimal hart = ap (λ n. take n line) at
    ∙ take-front (decimal hart) (space ∷ decimal count) in
    let back : after_first (is_byte space) line ≡ decimal count = ap (λ n. drop (n + 1) line) at
    ∙ drop-front (decimal hart) (decimal count) in
    entry_parts line (Some hart) (Some count)
    (ap (λ (text : List ℕ). number_of text) front ∙ number_of-decimal hart small)
    (ap (λ (text : List ℕ). number_of text) back ∙ number_of-decimal count few)

no_number-empty : number_of [] ≡ None
no_number-empty = no_number [] refl

-- what an entry with a hart and a count was read from
hart_in : (h k : Option ℕ) (hart count : ℕ) → option_and_then (λ n. option_map (entry_with n) k) h
    ≡ Some (entry_with hart count)
    → (h ≡ Some hart) × (k ≡ Some count)
hart_in None k hart count is = absurd (none-some _ is)
hart_in (Some m) None hart count is = absurd (none-some _ is)
hart_in (Some m) (Some n) hart count is = let same : entry_with m n ≡ entry_with hart count =
    same_Some _ _ is
    in (ap (λ (e : ListEntry). Some e.hart) same, ap (λ (e : ListEntry). Some e.count) same)

line-written : (line : List ℕ) (hart count : ℕ) → entry_of line ≡ Some (entry_with hart count)
    → line ≡ decimal hart ++ space ∷ decimal count
line-written line hart count is =
    let p = is_byte space in
    let parts = hart_in (number_of (before_first p line)) (number_of (after_first p line)) hart
    count (sym (entry_parts line _ _ refl refl)
    ∙ is) in
    elim (cases_lt (position_or_len p line) (length line)) [
      | inl some ↦
          let cut : line ≡ before_first p line
          ++ (get_or line (position_or_len p line) 0 ∷ after_first p line) =
          split_at_first p line 0 some in
          let passes : p (get_or line (position_or_len p line) 0)
          ≡ true = passes_at_first p line 0 some in
          let at : get_or line (position_or_len p line) 0 ≡ space = grind (arith, nat_tests) in
          cut ∙ ap (λ (x : ℕ). before_first p line ++ (x ∷ after_first p line)) at
          ∙ ap (λ (xs : List ℕ). xs ++ (space ∷ after_first p line))
          (decimal-number_of _ hart parts.0)
          ∙ ap (λ (xs : List ℕ). decimal hart ++ (space ∷ xs)) (decimal-number_of _ count parts.1)
      | inr none ↦
          let nothing : after_first p line ≡ [] = drop_all (position_or_len p line + 1) line
          (omega arith) in
          absurd (none-some count
          (sym (ap (λ (xs : List ℕ). number_of xs) nothing ∙ no_number-empty) ∙ parts.1))
    ]

pub lines_are_written : LinesAreWritten
lines_are_written = λ line hart count small few. (
  (λ is. line-written line hart count is),
  (λ is. ap (λ (text : List ℕ). entry_of text) is
      ∙ entry-written hart count small few),
)
