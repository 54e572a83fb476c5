-- The instruction table of RV32I, M and A (the RISC-V unprivileged specification): one row an
-- instruction.
use Rattle.std.specs.Prelude.{ℕ, pos, Bool, Option, List, [], ◌∷◌, nat_eq, bit_and, find, filter}
use Rattle.std.specs.Option.{option_map}
use Rattle.rv32_decode.specs.Fields.{bits, rd, rs1, rs2, order, imm_i, imm_s, imm_b, imm_u, imm_j}
use Rattle.rv32_decode.specs.declared.instruction.Instr.{Instr}
use Rattle.rv32_decode.specs.declared.instruction.Instr.TheVariants.{Lui, Auipc, Jal, Jalr, Branch}
use Rattle.rv32_decode.specs.declared.instruction.Instr.TheVariants.{Load, Store, Imm, Op, Fence}
use Rattle.rv32_decode.specs.declared.instruction.Instr.TheVariants.{Ecall, Ebreak, Lr, Sc, Amo}
use Rattle.rv32_decode.specs.declared.instruction.Test.TheVariants.{Eq, Ne, Lt, Ge, Ltu, Geu}
use Rattle.rv32_decode.specs.declared.instruction.LoadKind.TheVariants.{Lb, Lh, Lw, Lbu, Lhu}
use Rattle.rv32_decode.specs.declared.instruction.StoreKind.TheVariants.{Sb, Sh, Sw}
use Rattle.rv32_decode.specs.declared.instruction.ImmOp.TheVariants.{Addi, Slti, Sltiu, Xori, Ori}
use Rattle.rv32_decode.specs.declared.instruction.ImmOp.TheVariants.{Andi, Slli, Srli, Srai}
use Rattle.rv32_decode.specs.declared.instruction.AluOp.TheVariants as alu
use Rattle.rv32_decode.specs.declared.instruction.AmoOp.TheVariants as amo

-- which bits of a word the row looks at, what they are, and the instruction that such a word is
pub record Row : Type 0 where
  pub mask : ℕ
  pub value : ℕ
  pub make : ℕ → Instr

abbrev pub row : ℕ → ℕ → (ℕ → Instr) → Row
row m v f = record { mask = m; value = v; make = f }

-- the word has the row's value in the bits of its mask
abbrev pub meets : ℕ → Row → Bool
meets w r = nat_eq (bit_and w r.mask) r.value

-- The masks are of the opcode (7f), and with it of funct3 (707f), funct7 (fe00707f), funct5
-- (f800707f), funct5 and rs2
-- (f9f0707f), and of the whole word.
unfoldable pub table : List Row
table =
    row 0x0000007f 0x00000037 (λ w. Lui (rd w) (imm_u w))
    ∷ row 0x0000007f 0x00000017 (λ w. Auipc (rd w) (imm_u w))
    ∷ row 0x0000007f 0x0000006f (λ w. Jal (rd w) (imm_j w))
    ∷ row 0x0000707f 0x00000067 (λ w. Jalr (rd w) (rs1 w) (imm_i w))
    ∷ row 0x0000707f 0x00000063 (λ w. Branch Eq (rs1 w) (rs2 w) (imm_b w))
    ∷ row 0x0000707f 0x00001063 (λ w. Branch Ne (rs1 w) (rs2 w) (imm_b w))
    ∷ row 0x0000707f 0x00004063 (λ w. Branch Lt (rs1 w) (rs2 w) (imm_b w))
    ∷ row 0x0000707f 0x00005063 (λ w. Branch Ge (rs1 w) (rs2 w) (imm_b w))
    ∷ row 0x0000707f 0x00006063 (λ w. Branch Ltu (rs1 w) (rs2 w) (imm_b w))
    ∷ row 0x0000707f 0x00007063 (λ w. Branch Geu (rs1 w) (rs2 w) (imm_b w))
    ∷ row 0x0000707f 0x00000003 (λ w. Load Lb (rd w) (rs1 w) (imm_i w))
    ∷ row 0x0000707f 0x00001003 (λ w. Load Lh (rd w) (rs1 w) (imm_i w))
    ∷ row 0x0000707f 0x00002003 (λ w. Load Lw (rd w) (rs1 w) (imm_i w))
    ∷ row 0x0000707f 0x00004003 (λ w. Load Lbu (rd w) (rs1 w) (imm_i w))
    ∷ row 0x0000707f 0x00005003 (λ w. Load Lhu (rd w) (rs1 w) (imm_i w))
    ∷ row 0x0000707f 0x00000023 (λ w. Store Sb (rs1 w) (rs2 w) (imm_s w))
    ∷ row 0x0000707f 0x00001023 (λ w. Store Sh (rs1 w) (rs2 w) (imm_s w))
    ∷ row 0x0000707f 0x00002023 (λ w. Store Sw (rs1 w) (rs2 w) (imm_s w))
    ∷ row 0x0000707f 0x00000013 (λ w. Imm Addi (rd w) (rs1 w) (imm_i w))
    ∷ row 0x0000707f 0x00002013 (λ w. Imm Slti (rd w) (rs1 w) (imm_i w))
    ∷ row 0x0000707f 0x00003013 (λ w. Imm Sltiu (rd w) (rs1 w) (imm_i w))
    ∷ row 0x0000707f 0x00004013 (λ w. Imm Xori (rd w) (rs1 w) (imm_i w))
    ∷ row 0x0000707f 0x00006013 (λ w. Imm Ori (rd w) (rs1 w) (imm_i w))
    ∷ row 0x0000707f 0x00007013 (λ w. Imm Andi (rd w) (rs1 w) (imm_i w))
    ∷ row 0xfe00707f 0x00001013 (λ w. Imm Slli (rd w) (rs1 w) (pos (rs2 w)))
    ∷ row 0xfe00707f 0x00005013 (λ w. Imm Srli (rd w) (rs1 w) (pos (rs2 w)))
    ∷ row 0xfe00707f 0x40005013 (λ w. Imm Srai (rd w) (rs1 w) (pos (rs2 w)))
    ∷ row 0xfe00707f 0x00000033 (λ w. Op alu.Add (rd w) (rs1 w) (rs2 w))
    ∷ row 0xfe00707f 0x40000033 (λ w. Op alu.Sub (rd w) (rs1 w) (rs2 w))
    ∷ row 0xfe00707f 0x00001033 (λ w. Op alu.Sll (rd w) (rs1 w) (rs2 w))
    ∷ row 0xfe00707f 0x00002033 (λ w. Op alu.Slt (rd w) (rs1 w) (rs2 w))
    ∷ row 0xfe00707f 0x00003033 (λ w. Op alu.Sltu (rd w) (rs1 w) (rs2 w))
    ∷ row 0xfe00707f 0x00004033 (λ w. Op alu.Xor (rd w) (rs1 w) (rs2 w))
    ∷ row 0xfe00707f 0x00005033 (λ w. Op alu.Srl (rd w) (rs1 w) (rs2 w))
    ∷ row 0xfe00707f 0x40005033 (λ w. Op alu.Sra (rd w) (rs1 w) (rs2 w))
    ∷ row 0xfe00707f 0x00006033 (λ w. Op alu.Or (rd w) (rs1 w) (rs2 w))
    ∷ row 0xfe00707f 0x00007033 (λ w. Op alu.And (rd w) (rs1 w) (rs2 w))
    ∷ row 0xfe00707f 0x02000033 (λ w. Op alu.Mul (rd w) (rs1 w) (rs2 w))
    ∷ row 0xfe00707f 0x02001033 (λ w. Op alu.Mulh (rd w) (rs1 w) (rs2 w))
    ∷ row 0xfe00707f 0x02002033 (λ w. Op alu.Mulhsu (rd w) (rs1 w) (rs2 w))
    ∷ row 0xfe00707f 0x02003033 (λ w. Op alu.Mulhu (rd w) (rs1 w) (rs2 w))
    ∷ row 0xfe00707f 0x02004033 (λ w. Op alu.Div (rd w) (rs1 w) (rs2 w))
    ∷ row 0xfe00707f 0x02005033 (λ w. Op alu.Divu (rd w) (rs1 w) (rs2 w))
    ∷ row 0xfe00707f 0x02006033 (λ w. Op alu.Rem (rd w) (rs1 w) (rs2 w))
    ∷ row 0xfe00707f 0x02007033 (λ w. Op alu.Remu (rd w) (rs1 w) (rs2 w))
    ∷ row 0x0000707f 0x0000000f (λ w. Fence (rd w) (rs1 w) (bits 31 20 w))
    ∷ row 0xffffffff 0x00000073 (λ w. Ecall)
    ∷ row 0xffffffff 0x00100073 (λ w. Ebreak)
    ∷ row 0xf9f0707f 0x1000202f (λ w. Lr (rd w) (rs1 w) (order w))
    ∷ row 0xf800707f 0x1800202f (λ w. Sc (rd w) (rs1 w) (rs2 w) (order w))
    ∷ row 0xf800707f 0x0000202f (λ w. Amo amo.Add (rd w) (rs1 w) (rs2 w) (order w))
    ∷ row 0xf800707f 0x0800202f (λ w. Amo amo.Swap (rd w) (rs1 w) (rs2 w) (order w))
    ∷ row 0xf800707f 0x2000202f (λ w. Amo amo.Xor (rd w) (rs1 w) (rs2 w) (order w))
    ∷ row 0xf800707f 0x4000202f (λ w. Amo amo.Or (rd w) (rs1 w) (rs2 w) (order w))
    ∷ row 0xf800707f 0x6000202f (λ w. Amo amo.And (rd w) (rs1 w) (rs2 w) (order w))
    ∷ row 0xf800707f 0x8000202f (λ w. Amo amo.Min (rd w) (rs1 w) (rs2 w) (order w))
    ∷ row 0xf800707f 0xa000202f (λ w. Amo amo.Max (rd w) (rs1 w) (rs2 w) (order w))
    ∷ row 0xf800707f 0xc000202f (λ w. Amo amo.Minu (rd w) (rs1 w) (rs2 w) (order w))
    ∷ row 0xf800707f 0xe000202f (λ w. Amo amo.Maxu (rd w) (rs1 w) (rs2 w) (order w))
    ∷ []

-- the rows that a word meets
unfoldable pub rows_of : ℕ → List Row
rows_of w = filter (meets w) table

-- the instruction that a word is: what the row that it meets makes of it, and None where it meets
-- none
unfoldable pub decoded : ℕ → Option Instr
decoded w = option_map (λ r. r.make w) (find (meets w) table)
