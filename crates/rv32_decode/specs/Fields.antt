-- The fields of a word of 32 bits, as the RISC-V unprivileged specification numbers their bits,
-- and the immediates that they make up.
use Rattle.std.specs.Prelude.{ℕ, ℤ, pos, negsuc, ◌+◌, ◌-◌, ◌*◌, ◌/◌, ◌%◌, ◌^◌, nat_lt}
use Rattle.std.specs.Prelude.{if◌then◌else◌, ◌-ℤ◌}

-- the bits from `high` down to `low`, as a number
abbrev pub bits : ℕ → ℕ → ℕ → ℕ
bits high low w = w / 2 ^ low % 2 ^ (high + 1 - low)

abbrev pub opcode : ℕ → ℕ
opcode w = bits 6 0 w

abbrev pub rd : ℕ → ℕ
rd w = bits 11 7 w

abbrev pub funct3 : ℕ → ℕ
funct3 w = bits 14 12 w

abbrev pub rs1 : ℕ → ℕ
rs1 w = bits 19 15 w

abbrev pub rs2 : ℕ → ℕ
rs2 w = bits 24 20 w

abbrev pub funct7 : ℕ → ℕ
funct7 w = bits 31 25 w

-- what an atomic instruction does, and in which order with others
abbrev pub funct5 : ℕ → ℕ
funct5 w = bits 31 27 w

abbrev pub order : ℕ → ℕ
order w = bits 26 25 w

-- in two's complement the numbers from `half` up to its double stand for those below zero
abbrev pub signed : ℕ → ℕ → ℤ
signed half n = if nat_lt n half then pos n else (pos n -ℤ pos (2 * half))

-- and the other way: the number below `size` that stands for z
abbrev pub low_bits : ℕ → ℤ → ℕ
low_bits size (pos n) = n
low_bits size (negsuc n) = size - 1 - n

-- the bits of an immediate, and the immediate, of each form
abbrev pub bits_i : ℕ → ℕ
bits_i w = bits 31 20 w

abbrev pub bits_s : ℕ → ℕ
bits_s w = bits 31 25 w * 2 ^ 5 + bits 11 7 w

abbrev pub bits_b : ℕ → ℕ
bits_b w = bits 31 31 w * 2 ^ 12 + bits 7 7 w * 2 ^ 11 + bits 30 25 w * 2 ^ 5 + bits 11 8 w * 2 ^ 1

abbrev pub bits_j : ℕ → ℕ
bits_j w = bits 31 31 w * 2 ^ 20 + bits 19 12 w * 2 ^ 12 + bits 20 20 w * 2 ^ 11 + bits 30 21 w * 2
    ^ 1

abbrev pub imm_i : ℕ → ℤ
imm_i w = signed 2048 (bits_i w)

abbrev pub imm_s : ℕ → ℤ
imm_s w = signed 2048 (bits_s w)

abbrev pub imm_b : ℕ → ℤ
imm_b w = signed 4096 (bits_b w)

abbrev pub imm_u : ℕ → ℕ
imm_u w = bits 31 12 w * 2 ^ 12

abbrev pub imm_j : ℕ → ℤ
imm_j w = signed 1048576 (bits_j w)
