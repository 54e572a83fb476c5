-- How a number is written: in decimal, without leading zeros.
use Rattle.std.specs.Prelude.{ℕ, ◌^◌, Bool, not, ◌&&◌, ◌||◌, nat_eq, nat_lt, if◌then◌else◌, List}
use Rattle.std.specs.Prelude.{length, Option, Some, None, slice_index}
use Rattle.std.specs.Char.{is_ascii_digit}
use Rattle.std.specs.List.{list_all}
use Rattle.std.specs.Str.Parse.{digits_value}

-- one digit, or more of which the first is not 0
abbrev pub is_numeral : List ℕ → Bool
is_numeral text = list_all is_ascii_digit text &&
    (nat_eq (length text) 1 || (nat_lt 1 (length text) && not (nat_eq (slice_index text 0) 48)))

-- the number below 2^32 that a text writes
unfoldable pub number_of : List ℕ → Option ℕ
number_of text = if is_numeral text && nat_lt (digits_value 10 text) (2 ^ 32)
    then Some (digits_value 10 text) else None
