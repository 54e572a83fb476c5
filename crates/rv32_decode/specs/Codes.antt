-- The numbers that stand in a word for the choices within a kind of instruction.
use Rattle.std.specs.Prelude.{ℕ}
use Rattle.rv32_decode.specs.declared.instruction.Test.{Test}
use Rattle.rv32_decode.specs.declared.instruction.Test.TheVariants.{Eq, Ne, Lt, Ge, Ltu, Geu}
use Rattle.rv32_decode.specs.declared.instruction.LoadKind.{LoadKind}
use Rattle.rv32_decode.specs.declared.instruction.LoadKind.TheVariants.{Lb, Lh, Lw, Lbu, Lhu}
use Rattle.rv32_decode.specs.declared.instruction.StoreKind.{StoreKind}
use Rattle.rv32_decode.specs.declared.instruction.StoreKind.TheVariants.{Sb, Sh, Sw}
use Rattle.rv32_decode.specs.declared.instruction.ImmOp.{ImmOp}
use Rattle.rv32_decode.specs.declared.instruction.ImmOp.TheVariants.{Addi, Slti, Sltiu, Xori, Ori}
use Rattle.rv32_decode.specs.declared.instruction.ImmOp.TheVariants.{Andi, Slli, Srli, Srai}
use Rattle.rv32_decode.specs.declared.instruction.AluOp.{AluOp}
use Rattle.rv32_decode.specs.declared.instruction.AluOp.TheVariants as alu
use Rattle.rv32_decode.specs.declared.instruction.AmoOp.{AmoOp}
use Rattle.rv32_decode.specs.declared.instruction.AmoOp.TheVariants as amo

-- funct3 of a branch
abbrev pub test_code : Test → ℕ
test_code Eq = 0
test_code Ne = 1
test_code Lt = 4
test_code Ge = 5
test_code Ltu = 6
test_code Geu = 7

-- funct3 of a load
abbrev pub load_code : LoadKind → ℕ
load_code Lb = 0
load_code Lh = 1
load_code Lw = 2
load_code Lbu = 4
load_code Lhu = 5

-- funct3 of a store
abbrev pub store_code : StoreKind → ℕ
store_code Sb = 0
store_code Sh = 1
store_code Sw = 2

-- funct3 of an operation with an immediate
abbrev pub imm_code : ImmOp → ℕ
imm_code Addi = 0
imm_code Slti = 2
imm_code Sltiu = 3
imm_code Xori = 4
imm_code Ori = 6
imm_code Andi = 7
imm_code Slli = 1
imm_code Srli = 5
imm_code Srai = 5

-- funct3 of an operation on registers
abbrev pub alu_code : AluOp → ℕ
alu_code alu.Add = 0
alu_code alu.Sub = 0
alu_code alu.Sll = 1
alu_code alu.Slt = 2
alu_code alu.Sltu = 3
alu_code alu.Xor = 4
alu_code alu.Srl = 5
alu_code alu.Sra = 5
alu_code alu.Or = 6
alu_code alu.And = 7
alu_code alu.Mul = 0
alu_code alu.Mulh = 1
alu_code alu.Mulhsu = 2
alu_code alu.Mulhu = 3
alu_code alu.Div = 4
alu_code alu.Divu = 5
alu_code alu.Rem = 6
alu_code alu.Remu = 7

-- and its funct7
abbrev pub alu_high : AluOp → ℕ
alu_high alu.Sub = 0x20
alu_high alu.Sra = 0x20
alu_high alu.Mul = 1
alu_high alu.Mulh = 1
alu_high alu.Mulhsu = 1
alu_high alu.Mulhu = 1
alu_high alu.Div = 1
alu_high alu.Divu = 1
alu_high alu.Rem = 1
alu_high alu.Remu = 1
alu_high op = 0

-- funct5 of a read, a change and a write in one
abbrev pub amo_code : AmoOp → ℕ
amo_code amo.Add = 0
amo_code amo.Swap = 1
amo_code amo.Xor = 4
amo_code amo.Or = 8
amo_code amo.And = 12
amo_code amo.Min = 16
amo_code amo.Max = 20
amo_code amo.Minu = 24
amo_code amo.Maxu = 28
