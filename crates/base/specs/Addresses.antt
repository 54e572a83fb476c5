-- How an address is written.
use Rattle.std.specs.Prelude.{ℕ, ℤ, ◌-◌, List, ◌++◌, length, codes, replicate, unsigned_abs, false}
use Rattle.std.specs.Fmt.{digits, sign_text}
use Rattle.std.specs.Int.{is_negative}

-- in lower-case hexadecimal, with zeros (48) in front up to eight digits
abbrev pub hexadecimal : ℕ → List ℕ
hexadecimal n = replicate (8 - length (digits 16 false n)) 48 ++ digits 16 false n

-- an address: `0x` and its absolute value, and `-` before a negative one
abbrev pub address_text : ℤ → List ℕ
address_text z = sign_text (is_negative z) ++ codes "0x" ++ hexadecimal (unsigned_abs z)
