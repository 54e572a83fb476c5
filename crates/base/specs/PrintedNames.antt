-- How a name is printed.
use Rattle.std.specs.Prelude.{ℕ, ◌+◌, ◌/◌, ◌%◌, ◌==◌, Bool, not, ◌&&◌, nat_lt, List, [], ◌∷◌, codes}
use Rattle.std.specs.Prelude.{flat_map, if◌then◌else◌}

-- a byte from 0x21 to 0x7e that is no backslash stands in a name as it is
abbrev pub is_shown : ℕ → Bool
is_shown byte = nat_lt 32 byte && (nat_lt byte 127 && not (byte == 92))

-- a digit of base 16, in lower case
abbrev pub digit_code : ℕ → ℕ
digit_code d = if nat_lt d 10 then d + 48 else d + 87

-- any other byte is a backslash, an x and its two digits
abbrev pub byte_text : ℕ → List ℕ
byte_text byte = if is_shown byte then byte ∷ []
    else (92 ∷ 120 ∷ digit_code (byte / 16) ∷ digit_code (byte % 16) ∷ [])

-- a name; an empty one is `?`
abbrev pub name_text : List ℕ → List ℕ
name_text [] = codes "?"
name_text (byte ∷ bytes) = flat_map byte_text (byte ∷ bytes)
