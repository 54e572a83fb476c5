-- The instruction of a word that has the fields of a row.
use Rattle.std.proofs.Common.{◌≡◌, ℕ, ℤ, pos, Some, refl, arith, lit<}
use Rattle.rv32_decode.specs.Fields.{bits, opcode, rd, funct3, rs1, rs2, funct5, funct7, order}
use Rattle.rv32_decode.specs.Fields.{imm_i, imm_s, imm_b, imm_u, imm_j}
use Rattle.rv32_decode.specs.Codes.{test_code, load_code, store_code, imm_code, alu_code, alu_high}
use Rattle.rv32_decode.specs.Codes.{amo_code}
use Rattle.rv32_decode.specs.Table.{table, decoded}
use Rattle.rv32_decode.specs.declared.instruction.Instr.TheVariants.{Lui, Auipc, Jal, Jalr, Branch}
use Rattle.rv32_decode.specs.declared.instruction.Instr.TheVariants.{Load, Store, Imm, Op, Fence}
use Rattle.rv32_decode.specs.declared.instruction.Instr.TheVariants.{Ecall}
use Rattle.rv32_decode.specs.declared.instruction.Instr.TheVariants.{Ebreak, Lr, Sc, Amo}
use Rattle.rv32_decode.specs.declared.instruction.Test.{Test}
use Rattle.rv32_decode.specs.declared.instruction.Test.TheVariants.{Eq, Ne, Lt, Ge, Ltu, Geu}
use Rattle.rv32_decode.specs.declared.instruction.LoadKind.{LoadKind}
use Rattle.rv32_decode.specs.declared.instruction.LoadKind.TheVariants.{Lb, Lh, Lw, Lbu, Lhu}
use Rattle.rv32_decode.specs.declared.instruction.StoreKind.{StoreKind}
use Rattle.rv32_decode.specs.declared.instruction.StoreKind.TheVariants.{Sb, Sh, Sw}
use Rattle.rv32_decode.specs.declared.instruction.ImmOp.{ImmOp}
use Rattle.rv32_decode.specs.declared.instruction.ImmOp.TheVariants.{Addi, Slti, Sltiu, Xori, Ori}
use Rattle.rv32_decode.specs.declared.instruction.ImmOp.TheVariants.{Andi, Slli, Srli, Srai}
use Rattle.rv32_decode.specs.declared.instruction.AluOp.{AluOp}
use Rattle.rv32_decode.specs.declared.instruction.AluOp.TheVariants as alu
use Rattle.rv32_decode.specs.declared.instruction.AmoOp.{AmoOp}
use Rattle.rv32_decode.specs.declared.instruction.AmoOp.TheVariants as amo
use Rattle.rv32_decode.proofs.Masks.{and_opcode, and_funct3, and_funct7, and_funct5, and_no_rs2}
use Rattle.rv32_decode.proofs.Masks.{and_all}
use Rattle.rv32_decode.proofs.Meeting.{at}
use Rattle.rv32_decode.proofs.Spelled.{IsPlain}

pub lui_row : (w : ℕ) → opcode w ≡ 0x37 → decoded w ≡ Some (Lui (rd w) (imm_u w))
unfolding table
lui_row w a = at w 0 refl (lit< tt) (omega (arith, and_opcode w))

pub auipc_row : (w : ℕ) → opcode w ≡ 0x17 → decoded w ≡ Some (Auipc (rd w) (imm_u w))
unfolding table
auipc_row w a = at w 1 refl (lit< tt) (omega (arith, and_opcode w))

pub jal_row : (w : ℕ) → opcode w ≡ 0x6f → decoded w ≡ Some (Jal (rd w) (imm_j w))
unfolding table
jal_row w a = at w 2 refl (lit< tt) (omega (arith, and_opcode w))

pub jalr_row : (w : ℕ) → opcode w ≡ 0x67 → funct3 w ≡ 0 → decoded w
    ≡ Some (Jalr (rd w) (rs1 w) (imm_i w))
unfolding table
jalr_row w a b = at w 3 refl (lit< tt) (omega (arith, and_funct3 w))

pub branch_row : (w : ℕ) (t : Test) → opcode w ≡ 0x63 → funct3 w ≡ test_code t → decoded w
    ≡ Some (Branch t (rs1 w) (rs2 w) (imm_b w))
unfolding table
branch_row w Eq a b = at w 4 refl (lit< tt) (omega (arith, and_funct3 w))
branch_row w Ne a b = at w 5 refl (lit< tt) (omega (arith, and_funct3 w))
branch_row w Lt a b = at w 6 refl (lit< tt) (omega (arith, and_funct3 w))
branch_row w Ge a b = at w 7 refl (lit< tt) (omega (arith, and_funct3 w))
branch_row w Ltu a b = at w 8 refl (lit< tt) (omega (arith, and_funct3 w))
branch_row w Geu a b = at w 9 refl (lit< tt) (omega (arith, and_funct3 w))

pub load_row : (w : ℕ) (k : LoadKind) → opcode w ≡ 0x03 → funct3 w ≡ load_code k → decoded w
    ≡ Some (Load k (rd w) (rs1 w) (imm_i w))
unfolding table
load_row w Lb a b = at w 10 refl (lit< tt) (omega (arith, and_funct3 w))
load_row w Lh a b = at w 11 refl (lit< tt) (omega (arith, and_funct3 w))
load_row w Lw a b = at w 12 refl (lit< tt) (omega (arith, and_funct3 w))
load_row w Lbu a b = at w 13 refl (lit< tt) (omega (arith, and_funct3 w))
load_row w Lhu a b = at w 14 refl (lit< tt) (omega (arith, and_funct3 w))

pub store_row : (w : ℕ) (k : StoreKind) → opcode w ≡ 0x23 → funct3 w ≡ store_code k → decoded w
    ≡ Some (Store k (rs1 w) (rs2 w) (imm_s w))
unfolding table
store_row w Sb a b = at w 15 refl (lit< tt) (omega (arith, and_funct3 w))
store_row w Sh a b = at w 16 refl (lit< tt) (omega (arith, and_funct3 w))
store_row w Sw a b = at w 17 refl (lit< tt) (omega (arith, and_funct3 w))

pub imm_row : (w : ℕ) (o : ImmOp) → IsPlain o → opcode w ≡ 0x13 → funct3 w ≡ imm_code o → decoded w
    ≡ Some (Imm o (rd w) (rs1 w) (imm_i w))
unfolding table
imm_row w Addi p a b = at w 18 refl (lit< tt) (omega (arith, and_funct3 w))
imm_row w Slti p a b = at w 19 refl (lit< tt) (omega (arith, and_funct3 w))
imm_row w Sltiu p a b = at w 20 refl (lit< tt) (omega (arith, and_funct3 w))
imm_row w Xori p a b = at w 21 refl (lit< tt) (omega (arith, and_funct3 w))
imm_row w Ori p a b = at w 22 refl (lit< tt) (omega (arith, and_funct3 w))
imm_row w Andi p a b = at w 23 refl (lit< tt) (omega (arith, and_funct3 w))
imm_row w o p a b = absurd p

pub slli_row : (w : ℕ) → opcode w ≡ 0x13 → funct3 w ≡ 1 → funct7 w ≡ 0 → decoded w
    ≡ Some (Imm Slli (rd w) (rs1 w) (pos (rs2 w)))
unfolding table
slli_row w b c d = at w 24 refl (lit< tt) (omega (arith, and_funct7 w))

pub srli_row : (w : ℕ) → opcode w ≡ 0x13 → funct3 w ≡ 5 → funct7 w ≡ 0 → decoded w
    ≡ Some (Imm Srli (rd w) (rs1 w) (pos (rs2 w)))
unfolding table
srli_row w b c d = at w 25 refl (lit< tt) (omega (arith, and_funct7 w))

pub srai_row : (w : ℕ) → opcode w ≡ 0x13 → funct3 w ≡ 5 → funct7 w ≡ 32 → decoded w
    ≡ Some (Imm Srai (rd w) (rs1 w) (pos (rs2 w)))
unfolding table
srai_row w b c d = at w 26 refl (lit< tt) (omega (arith, and_funct7 w))

pub op_row : (w : ℕ) (o : AluOp) → opcode w ≡ 0x33 → funct3 w ≡ alu_code o → funct7 w ≡ alu_high o
    → decoded w ≡ Some (Op o (rd w) (rs1 w) (rs2 w))
unfolding table
op_row w alu.Add b c d = at w 27 refl (lit< tt) (omega (arith, and_funct7 w))
op_row w alu.Sub b c d = at w 28 refl (lit< tt) (omega (arith, and_funct7 w))
op_row w alu.Sll b c d = at w 29 refl (lit< tt) (omega (arith, and_funct7 w))
op_row w alu.Slt b c d = at w 30 refl (lit< tt) (omega (arith, and_funct7 w))
op_row w alu.Sltu b c d = at w 31 refl (lit< tt) (omega (arith, and_funct7 w))
op_row w alu.Xor b c d = at w 32 refl (lit< tt) (omega (arith, and_funct7 w))
op_row w alu.Srl b c d = at w 33 refl (lit< tt) (omega (arith, and_funct7 w))
op_row w alu.Sra b c d = at w 34 refl (lit< tt) (omega (arith, and_funct7 w))
op_row w alu.Or b c d = at w 35 refl (lit< tt) (omega (arith, and_funct7 w))
op_row w alu.And b c d = at w 36 refl (lit< tt) (omega (arith, and_funct7 w))
op_row w alu.Mul b c d = at w 37 refl (lit< tt) (omega (arith, and_funct7 w))
op_row w alu.Mulh b c d = at w 38 refl (lit< tt) (omega (arith, and_funct7 w))
op_row w alu.Mulhsu b c d = at w 39 refl (lit< tt) (omega (arith, and_funct7 w))
op_row w alu.Mulhu b c d = at w 40 refl (lit< tt) (omega (arith, and_funct7 w))
op_row w alu.Div b c d = at w 41 refl (lit< tt) (omega (arith, and_funct7 w))
op_row w alu.Divu b c d = at w 42 refl (lit< tt) (omega (arith, and_funct7 w))
op_row w alu.Rem b c d = at w 43 refl (lit< tt) (omega (arith, and_funct7 w))
op_row w alu.Remu b c d = at w 44 refl (lit< tt) (omega (arith, and_funct7 w))

pub fence_row : (w : ℕ) → opcode w ≡ 0x0f → funct3 w ≡ 0 → decoded w
    ≡ Some (Fence (rd w) (rs1 w) (bits 31 20 w))
unfolding table
fence_row w a b = at w 45 refl (lit< tt) (omega (arith, and_funct3 w))

pub ecall_row : (w : ℕ) → w ≡ 0x73 → decoded w ≡ Some (Ecall)
unfolding table
ecall_row w a = at w 46 refl (lit< tt) (omega (arith, and_all w (omega arith)))

pub ebreak_row : (w : ℕ) → w ≡ 0x100073 → decoded w ≡ Some (Ebreak)
unfolding table
ebreak_row w a = at w 47 refl (lit< tt) (omega (arith, and_all w (omega arith)))

pub lr_row : (w : ℕ) → opcode w ≡ 0x2f → funct3 w ≡ 2 → rs2 w ≡ 0 → funct5 w ≡ 2 → decoded w
    ≡ Some (Lr (rd w) (rs1 w) (order w))
unfolding table
lr_row w b c d e = at w 48 refl (lit< tt) (omega (arith, and_no_rs2 w))

pub sc_row : (w : ℕ) → opcode w ≡ 0x2f → funct3 w ≡ 2 → funct5 w ≡ 3 → decoded w
    ≡ Some (Sc (rd w) (rs1 w) (rs2 w) (order w))
unfolding table
sc_row w b c d = at w 49 refl (lit< tt) (omega (arith, and_funct5 w))

pub amo_row : (w : ℕ) (o : AmoOp) → opcode w ≡ 0x2f → funct3 w ≡ 2 → funct5 w ≡ amo_code o
    → decoded w ≡ Some (Amo o (rd w) (rs1 w) (rs2 w) (order w))
unfolding table
amo_row w amo.Add b c d = at w 50 refl (lit< tt) (omega (arith, and_funct5 w))
amo_row w amo.Swap b c d = at w 51 refl (lit< tt) (omega (arith, and_funct5 w))
amo_row w amo.Xor b c d = at w 52 refl (lit< tt) (omega (arith, and_funct5 w))
amo_row w amo.Or b c d = at w 53 refl (lit< tt) (omega (arith, and_funct5 w))
amo_row w amo.And b c d = at w 54 refl (lit< tt) (omega (arith, and_funct5 w))
amo_row w amo.Min b c d = at w 55 refl (lit< tt) (omega (arith, and_funct5 w))
amo_row w amo.Max b c d = at w 56 refl (lit< tt) (omega (arith, and_funct5 w))
amo_row w amo.Minu b c d = at w 57 refl (lit< tt) (omega (arith, and_funct5 w))
amo_row w amo.Maxu b c d = at w 58 refl (lit< tt) (omega (arith, and_funct5 w))

-- The same, as a function's goal has it.
pub op_is : (w : ℕ) (o : AluOp) (d s t : ℕ) → opcode w ≡ 0x33 → alu_code o ≡ funct3 w → alu_high o
    ≡ funct7 w → d ≡ rd w → s ≡ rs1 w
    → t ≡ rs2 w → Some (Op o d s t) ≡ decoded w
op_is w o d s t a b c e f g = let row = op_row w o a (omega arith) (omega arith) in cc

pub branch_is : (w : ℕ) (t : Test) (s r : ℕ) (z : ℤ) → opcode w ≡ 0x63 → test_code t ≡ funct3 w → s
    ≡ rs1 w → r ≡ rs2 w → z ≡ imm_b w
    → Some (Branch t s r z) ≡ decoded w
branch_is w t s r z a b c d e = let row = branch_row w t a (omega arith) in cc

pub load_is : (w : ℕ) (k : LoadKind) (d s : ℕ) (z : ℤ) → opcode w ≡ 0x03 → load_code k ≡ funct3 w
    → d ≡ rd w → s ≡ rs1 w → z ≡ imm_i w
    → Some (Load k d s z) ≡ decoded w
load_is w k d s z a b c e f = let row = load_row w k a (omega arith) in cc

pub store_is : (w : ℕ) (k : StoreKind) (s r : ℕ) (z : ℤ) → opcode w ≡ 0x23 → store_code k ≡ funct3 w
    → s ≡ rs1 w → r ≡ rs2 w → z ≡ imm_s w
    → Some (Store k s r z) ≡ decoded w
store_is w k s r z a b c d e = let row = store_row w k a (omega arith) in cc

pub lr_is : (w d s r o : ℕ) → opcode w ≡ 0x2f → funct3 w ≡ 2 → r ≡ rs2 w → r ≡ 0 → funct5 w ≡ 2 → d
    ≡ rd w → s ≡ rs1 w → o ≡ order w
    → Some (Lr d s o) ≡ decoded w
lr_is w d s r o a b r' c e f g i = let row = lr_row w a b (omega arith) (omega arith) in cc

pub sc_is : (w d s t o : ℕ) → opcode w ≡ 0x2f → funct3 w ≡ 2 → funct5 w ≡ 3 → d ≡ rd w → s ≡ rs1 w
    → t ≡ rs2 w → o ≡ order w
    → Some (Sc d s t o) ≡ decoded w
sc_is w d s t o a b c e f g i = let row = sc_row w a b (omega arith) in cc

pub amo_is : (w : ℕ) (k : AmoOp) (d s t o : ℕ) → opcode w ≡ 0x2f → funct3 w ≡ 2 → amo_code k
    ≡ funct5 w → d ≡ rd w → s ≡ rs1 w → t ≡ rs2 w
    → o ≡ order w → Some (Amo k d s t o) ≡ decoded w
amo_is w k d s t o a b c e f g i = let row = amo_row w k a b (omega arith) in cc

pub addi_row : (w : ℕ) → opcode w ≡ 0x13 → funct3 w ≡ 0 → decoded w
    ≡ Some (Imm Addi (rd w) (rs1 w) (imm_i w))
addi_row w a b = imm_row w Addi tt a b

pub slti_row : (w : ℕ) → opcode w ≡ 0x13 → funct3 w ≡ 2 → decoded w
    ≡ Some (Imm Slti (rd w) (rs1 w) (imm_i w))
slti_row w a b = imm_row w Slti tt a b

pub sltiu_row : (w : ℕ) → opcode w ≡ 0x13 → funct3 w ≡ 3 → decoded w
    ≡ Some (Imm Sltiu (rd w) (rs1 w) (imm_i w))
sltiu_row w a b = imm_row w Sltiu tt a b

pub xori_row : (w : ℕ) → opcode w ≡ 0x13 → funct3 w ≡ 4 → decoded w
    ≡ Some (Imm Xori (rd w) (rs1 w) (imm_i w))
xori_row w a b = imm_row w Xori tt a b

pub ori_row : (w : ℕ) → opcode w ≡ 0x13 → funct3 w ≡ 6 → decoded w
    ≡ Some (Imm Ori (rd w) (rs1 w) (imm_i w))
ori_row w a b = imm_row w Ori tt a b

pub andi_row : (w : ℕ) → opcode w ≡ 0x13 → funct3 w ≡ 7 → decoded w
    ≡ Some (Imm Andi (rd w) (rs1 w) (imm_i w))
andi_row w a b = imm_row w Andi tt a b

pub ruleset imm_rows = (
  addi_row,
  slti_row,
  sltiu_row,
  xori_row,
  ori_row,
  andi_row,
  slli_row,
  srli_row,
  srai_row,
)

pub ruleset whole_rows = (lui_row, auipc_row, jal_row, jalr_row, fence_row, ecall_row, ebreak_row)
