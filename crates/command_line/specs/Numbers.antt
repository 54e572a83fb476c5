-- The numbers of the command line.
use Rattle.std.specs.Prelude.{ℕ, ◌^◌, ◌==◌, nat_le, nat_lt, Bool, not, ◌&&◌, if◌then◌else◌, List, []}
use Rattle.std.specs.Prelude.{◌∷◌, length, slice_index, Option, Some, None, option_and_then}
use Rattle.std.specs.List.{list_all}
use Rattle.std.specs.Char.{is_ascii_digit, is_ascii_hexdigit}
use Rattle.std.specs.Option.{option_map_or}
use Rattle.std.specs.Str.Parse.{digits_value}

-- a zero (48), and then more
abbrev pub has_leading_zero : List ℕ → Bool
has_leading_zero text = nat_lt 1 (length text) && (slice_index text 0 == 48)

-- one decimal digit or more, without leading zeros
abbrev pub is_plain : List ℕ → Bool
is_plain text = nat_lt 0 (length text) &&
    (not (has_leading_zero text) && list_all is_ascii_digit text)

-- the number that a text is: such digits, below 2^64
abbrev pub number_of : List ℕ → Option ℕ
number_of text = if is_plain text && nat_lt (digits_value 10 text) (2 ^ 64)
    then Some (digits_value 10 text) else None

-- the number that hexadecimal digits of either case are, one to eight of them
abbrev pub is_hexadecimal : List ℕ → Bool
is_hexadecimal digits =
    nat_lt 0 (length digits) && (nat_le (length digits) 8 && list_all is_ascii_hexdigit digits)

abbrev pub hexadecimal_of : List ℕ → Option ℕ
hexadecimal_of digits = if is_hexadecimal digits && nat_lt (digits_value 16 digits) (2 ^ 64)
    then Some (digits_value 16 digits) else None

-- what stands behind a byte, and behind `0x` (48 and 120)
abbrev pub behind : ℕ → List ℕ → Option (List ℕ)
behind byte [] = None
behind byte (c ∷ text) = if c == byte then Some text else None

abbrev pub behind_mark : List ℕ → Option (List ℕ)
behind_mark text = option_and_then (behind 120) (behind 48 text)

-- the address that a text is: a number, or `0x` and such digits
abbrev pub address_of : List ℕ → Option ℕ
address_of text = option_map_or hexadecimal_of (behind_mark text) (number_of text)

-- a number, where it is below a bound
abbrev pub below : ℕ → Option ℕ → Option ℕ
below bound number = option_and_then (λ n. if nat_lt n bound then Some n else None) number

-- the address below 2^32 that a text is by `0x` and such digits
abbrev pub marked_address_of : List ℕ → Option ℕ
marked_address_of text = below (2 ^ 32) (option_and_then hexadecimal_of (behind_mark text))

-- the number that an option is given, or the usual one where it isn't given
abbrev pub number_or : ℕ → Option (List ℕ) → Option ℕ
number_or usual given = option_map_or number_of given (Some usual)
