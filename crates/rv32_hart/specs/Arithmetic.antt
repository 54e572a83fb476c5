-- What the operations on registers give, as numbers of 32 bits.
use Rattle.std.specs.Prelude.{ℕ, ℤ, pos, ◌+◌, ◌-◌, ◌*◌, ◌/◌, ◌%◌, ◌^◌, ◌*ℤ◌, if◌then◌else◌, nat_lt}
use Rattle.std.specs.Prelude.{nat_eq, int_lt, int_div, int_rem, bit_and, bit_or, bit_xor}
use Rattle.std.specs.Int.{w32, w64, cast_signed, cast_unsigned, int_shr}
use Rattle.rv32_decode.specs.declared.instruction.AluOp.{AluOp}
use Rattle.rv32_decode.specs.declared.instruction.AluOp.TheVariants.{Add, Sub, Sll, Slt, Sltu, Xor}
use Rattle.rv32_decode.specs.declared.instruction.AluOp.TheVariants.{Srl, Sra, Or, And, Mul, Mulh}
use Rattle.rv32_decode.specs.declared.instruction.AluOp.TheVariants.{Mulhsu, Mulhu, Div, Divu, Rem}
use Rattle.rv32_decode.specs.declared.instruction.AluOp.TheVariants.{Remu}
use Rattle.rv32_decode.specs.declared.instruction.ImmOp.{ImmOp}
use Rattle.rv32_decode.specs.declared.instruction.ImmOp.TheVariants.{Addi, Slti, Sltiu, Xori, Ori}
use Rattle.rv32_decode.specs.declared.instruction.ImmOp.TheVariants.{Andi, Slli, Srli, Srai}
use Rattle.rv32_decode.specs.declared.instruction.AmoOp.{AmoOp}
use Rattle.rv32_decode.specs.declared.instruction.AmoOp.TheVariants as amo_ops

-- a word as a signed number
abbrev pub signed_word : ℕ → ℤ
signed_word a = cast_signed w32 a

-- the upper word of a product
abbrev pub high : ℤ → ℕ
high z = cast_unsigned w64 z / 2 ^ 32

-- shifts use the low five bits; division rounds towards zero, and by zero it gives all ones, and
-- the
-- dividend as remainder
abbrev pub alu : AluOp → ℕ → ℕ → ℕ
alu Add a b = (a + b) % 2 ^ 32
alu Sub a b = (a + (2 ^ 32 - b)) % 2 ^ 32
alu Sll a b = (a * 2 ^ (b % 32)) % 2 ^ 32
alu Slt a b = if int_lt (signed_word a) (signed_word b) then 1 else 0
alu Sltu a b = if nat_lt a b then 1 else 0
alu Xor a b = bit_xor a b
alu Srl a b = a / 2 ^ (b % 32)
alu Sra a b = cast_unsigned w32 (int_shr (signed_word a) (b % 32))
alu Or a b = bit_or a b
alu And a b = bit_and a b
alu Mul a b = (a * b) % 2 ^ 32
alu Mulh a b = high (signed_word a *ℤ signed_word b)
alu Mulhsu a b = high (signed_word a *ℤ pos b)
alu Mulhu a b = a * b / 2 ^ 32
alu Div a b = if nat_eq b 0 then 2 ^ 32 - 1 else cast_unsigned w32
    (int_div (signed_word a) (signed_word b))
alu Divu a b = if nat_eq b 0 then 2 ^ 32 - 1 else (a / b)
alu Rem a b = if nat_eq b 0 then a else cast_unsigned w32 (int_rem (signed_word a) (signed_word b))
alu Remu a b = if nat_eq b 0 then a else (a % b)

-- an operation with an immediate is that with a register that holds it
abbrev pub plain : ImmOp → AluOp
plain Addi = Add
plain Slti = Slt
plain Sltiu = Sltu
plain Xori = Xor
plain Ori = Or
plain Andi = And
plain Slli = Sll
plain Srli = Srl
plain Srai = Sra

-- what an atomic operation stores, from the old word and a register
abbrev pub amo : AmoOp → ℕ → ℕ → ℕ
amo amo_ops.Add a b = (a + b) % 2 ^ 32
amo amo_ops.Swap a b = b
amo amo_ops.Xor a b = bit_xor a b
amo amo_ops.Or a b = bit_or a b
amo amo_ops.And a b = bit_and a b
amo amo_ops.Min a b = if int_lt (signed_word b) (signed_word a) then b else a
amo amo_ops.Max a b = if int_lt (signed_word a) (signed_word b) then b else a
amo amo_ops.Minu a b = if nat_lt b a then b else a
amo amo_ops.Maxu a b = if nat_lt a b then b else a
