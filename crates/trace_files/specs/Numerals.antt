-- The numbers of a table: in decimal, or in hexadecimal behind `0x`.
use Rattle.std.specs.Prelude.{ℕ, ◌^◌, Bool, not, ◌&&◌, nat_eq, nat_le, nat_lt, if◌then◌else◌, List}
use Rattle.std.specs.Prelude.{drop, length, slice_index, Option, Some, None}
use Rattle.std.specs.Char.{is_ascii_digit, is_ascii_hexdigit}
use Rattle.std.specs.List.{list_all}
use Rattle.std.specs.Str.Parse.{digits_value}

-- a zero (48), and then more
abbrev pub has_leading_zero : List ℕ → Bool
has_leading_zero text = nat_lt 1 (length text) && nat_eq (slice_index text 0) 48

-- one decimal digit or more, without leading zeros
abbrev pub is_decimal : List ℕ → Bool
is_decimal text = nat_lt 0 (length text) &&
    (not (has_leading_zero text) && list_all is_ascii_digit text)

-- one to eight hexadecimal digits of either case
abbrev pub is_hexadecimal : List ℕ → Bool
is_hexadecimal text = nat_lt 0 (length text) &&
    (nat_le (length text) 8 && list_all is_ascii_hexdigit text)

-- it begins with `0x` (48 and 120)
abbrev pub is_marked : List ℕ → Bool
is_marked text = nat_lt 1 (length text) &&
    (nat_eq (slice_index text 0) 48 && nat_eq (slice_index text 1) 120)

-- the number that digits of a radix are, where it is below 2^64
abbrev pub value_in : ℕ → List ℕ → Option ℕ
value_in radix text = if nat_lt (digits_value radix text) (2 ^ 64)
    then Some (digits_value radix text) else None

unfoldable pub decimal_of : List ℕ → Option ℕ
decimal_of text = if is_decimal text then value_in 10 text else None

unfoldable pub hexadecimal_of : List ℕ → Option ℕ
hexadecimal_of text = if is_hexadecimal text then value_in 16 text else None

-- the number that a text is: in decimal below 2^64, or `0x` and one to eight hexadecimal digits
unfoldable pub number_of : List ℕ → Option ℕ
number_of text = if is_marked text then hexadecimal_of (drop 2 text) else decimal_of text
