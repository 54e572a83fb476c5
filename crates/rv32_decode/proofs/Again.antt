-- The word of a valid instruction stands for that instruction.
use Rattle.std.proofs.Common.{◌≡◌, ℕ, ℤ, pos, negsuc, ◌*◌, ◌+◌, ◌^◌, ◌<◌, Some, refl, ap, ◌∙◌}
use Rattle.std.proofs.Common.{arith, lit<}
use Rattle.std.proofs.lemmas.Int.{ints}
use Rattle.rv32_decode.specs.Fields.{rs2, order, imm_i, imm_s, imm_b, imm_u, imm_j, bits_i, bits_s}
use Rattle.rv32_decode.specs.Fields.{bits_b, bits_j, signed, low_bits}
use Rattle.rv32_decode.specs.Codes.{test_code, load_code, store_code, imm_code, alu_code, alu_high}
use Rattle.rv32_decode.specs.Codes.{amo_code}
use Rattle.rv32_decode.specs.Table.{decoded}
use Rattle.rv32_decode.specs.Spelling.{word_of}
use Rattle.rv32_decode.specs.Validity.{IsValid, IsHeld, IsWithin}
use Rattle.rv32_decode.specs.declared.instruction.Instr.{Instr}
use Rattle.rv32_decode.specs.declared.instruction.Instr.TheVariants.{Lui, Auipc, Jal, Jalr, Branch}
use Rattle.rv32_decode.specs.declared.instruction.Instr.TheVariants.{Load, Store, Imm, Op, Fence}
use Rattle.rv32_decode.specs.declared.instruction.Instr.TheVariants.{Ecall}
use Rattle.rv32_decode.specs.declared.instruction.Instr.TheVariants.{Ebreak, Lr, Sc, Amo}
use Rattle.rv32_decode.specs.declared.instruction.Test.{Test}
use Rattle.rv32_decode.specs.declared.instruction.Test.TheVariants.{Eq}
use Rattle.rv32_decode.specs.declared.instruction.LoadKind.{LoadKind}
use Rattle.rv32_decode.specs.declared.instruction.LoadKind.TheVariants.{Lb}
use Rattle.rv32_decode.specs.declared.instruction.StoreKind.{StoreKind}
use Rattle.rv32_decode.specs.declared.instruction.StoreKind.TheVariants.{Sb}
use Rattle.rv32_decode.specs.declared.instruction.ImmOp.{ImmOp}
use Rattle.rv32_decode.specs.declared.instruction.ImmOp.TheVariants.{Addi, Slli, Srli, Srai}
use Rattle.rv32_decode.specs.declared.instruction.AluOp.{AluOp}
use Rattle.rv32_decode.specs.declared.instruction.AluOp.TheVariants as alu
use Rattle.rv32_decode.specs.declared.instruction.AmoOp.{AmoOp}
use Rattle.rv32_decode.specs.declared.instruction.AmoOp.TheVariants as amo
use Rattle.rv32_decode.proofs.Signs.{signed-low_bits, low_bits-below, low_bits-even}
use Rattle.rv32_decode.proofs.Forms.{HasFields, HasImmediate, HasOffset, HasLong, r_fields}
use Rattle.rv32_decode.proofs.Forms.{i_fields, s_fields, b_fields, u_fields}
use Rattle.rv32_decode.proofs.Forms.{j_fields}
use Rattle.rv32_decode.proofs.Spelled.{IsPlain}
use Rattle.rv32_decode.proofs.Found.{lui_row, auipc_row, jal_row, jalr_row, branch_row, load_row}
use Rattle.rv32_decode.proofs.Found.{store_row, imm_row, slli_row, srli_row}
use Rattle.rv32_decode.proofs.Found.{srai_row, op_row, fence_row, ecall_row, ebreak_row, lr_row}
use Rattle.rv32_decode.proofs.Found.{sc_row, amo_row}

-- the codes fit their fields
pub test_small : (t : Test) → test_code t < 8
test_small t = elim t as (λ t. test_code t < 8) [ Eq ↦ lit< tt | _ ↦ lit< tt ]

pub load_small : (k : LoadKind) → load_code k < 8
load_small k = elim k as (λ k. load_code k < 8) [ Lb ↦ lit< tt | _ ↦ lit< tt ]

pub store_small : (k : StoreKind) → store_code k < 8
store_small k = elim k as (λ k. store_code k < 8) [ Sb ↦ lit< tt | _ ↦ lit< tt ]

pub imm_small : (o : ImmOp) → imm_code o < 8
imm_small o = elim o as (λ o. imm_code o < 8) [ Addi ↦ lit< tt | _ ↦ lit< tt ]

pub alu_small : (o : AluOp) → (alu_code o < 8) × (alu_high o < 128)
alu_small o = elim o as (λ o. (alu_code o < 8) × (alu_high o < 128))
    [ alu.Add ↦ (lit< tt, lit< tt) | _ ↦ (lit< tt, lit< tt) ]

pub amo_small : (o : AmoOp) → amo_code o < 32
amo_small o = elim o as (λ o. amo_code o < 32) [ amo.Add ↦ lit< tt | _ ↦ lit< tt ]

-- the immediate whose bits a word has
imm_again : (half n : ℕ) (z : ℤ) → IsWithin half z → n ≡ low_bits (2 * half) z → signed half n ≡ z
imm_again half n z within e = ap (signed half) e ∙ signed-low_bits half z within

lui_again : (w d n : ℕ) → HasLong w 0x37 d n imm_u → decoded w ≡ Some (Lui d n)
lui_again w d n f = let row = lui_row w f.opcode in cc (f.rd, f.bits)

auipc_again : (w d n : ℕ) → HasLong w 0x17 d n imm_u → decoded w ≡ Some (Auipc d n)
auipc_again w d n f = let row = auipc_row w f.opcode in cc (f.rd, f.bits)

jal_again : (w d : ℕ) (z : ℤ) → IsWithin 1048576 z → HasLong w 0x6f d (low_bits 2097152 z) bits_j
    → decoded w ≡ Some (Jal d z)
jal_again w d z within f =
    let same : imm_j w ≡ z = imm_again 1048576 (bits_j w) z within f.bits in
    let row = jal_row w f.opcode in cc (f.rd)

jalr_again : (w d s : ℕ) (z : ℤ) → IsWithin 2048 z → HasImmediate w 0x67 d 0 s (low_bits 4096 z)
    → decoded w ≡ Some (Jalr d s z)
jalr_again w d s z within f =
    let same : imm_i w ≡ z = imm_again 2048 (bits_i w) z within f.bits in
    let row = jalr_row w f.opcode f.funct3 in cc (f.rd, f.rs1)

branch_again : (w : ℕ) (t : Test) (s r : ℕ) (z : ℤ) → IsWithin 4096 z
    → HasOffset w 0x63 (test_code t) s r (low_bits 8192 z) bits_b
    → decoded w ≡ Some (Branch t s r z)
branch_again w t s r z within f =
    let same : imm_b w ≡ z = imm_again 4096 (bits_b w) z within f.bits in
    let row = branch_row w t f.opcode f.funct3 in cc (f.rs1, f.rs2)

load_again : (w : ℕ) (k : LoadKind) (d s : ℕ) (z : ℤ) → IsWithin 2048 z
    → HasImmediate w 0x03 d (load_code k) s (low_bits 4096 z)
    → decoded w ≡ Some (Load k d s z)
load_again w k d s z within f =
    let same : imm_i w ≡ z = imm_again 2048 (bits_i w) z within f.bits in
    let row = load_row w k f.opcode f.funct3 in cc (f.rd, f.rs1)

store_again : (w : ℕ) (k : StoreKind) (s r : ℕ) (z : ℤ) → IsWithin 2048 z
    → HasOffset w 0x23 (store_code k) s r (low_bits 4096 z) bits_s
    → decoded w ≡ Some (Store k s r z)
store_again w k s r z within f =
    let same : imm_s w ≡ z = imm_again 2048 (bits_s w) z within f.bits in
    let row = store_row w k f.opcode f.funct3 in cc (f.rs1, f.rs2)

plain_again : (w : ℕ) (o : ImmOp) (d s : ℕ) (z : ℤ) → IsPlain o → IsWithin 2048 z
    → HasImmediate w 0x13 d (imm_code o) s (low_bits 4096 z)
    → decoded w ≡ Some (Imm o d s z)
plain_again w o d s z p within f =
    let same : imm_i w ≡ z = imm_again 2048 (bits_i w) z within f.bits in
    let row = imm_row w o p f.opcode f.funct3 in cc (f.rd, f.rs1)

slli_again : (w d s n : ℕ) → n < 32 → HasImmediate w 0x13 d 1 s n → decoded w
    ≡ Some (Imm Slli d s (pos n))
slli_again w d s n h f =
    let same : rs2 w ≡ n = omega (arith, f.bits) in
    let row = slli_row w f.opcode f.funct3 (omega (arith, f.bits)) in cc (f.rd, f.rs1)

srli_again : (w d s n : ℕ) → n < 32 → HasImmediate w 0x13 d 5 s n → decoded w
    ≡ Some (Imm Srli d s (pos n))
srli_again w d s n h f =
    let same : rs2 w ≡ n = omega (arith, f.bits) in
    let row = srli_row w f.opcode f.funct3 (omega (arith, f.bits)) in cc (f.rd, f.rs1)

srai_again : (w d s n : ℕ) → n < 32 → HasImmediate w 0x13 d 5 s (2 ^ 10 + n) → decoded w
    ≡ Some (Imm Srai d s (pos n))
srai_again w d s n h f =
    let same : rs2 w ≡ n = omega (arith, f.bits) in
    let row = srai_row w f.opcode f.funct3 (omega (arith, f.bits)) in cc (f.rd, f.rs1)

op_again : (w : ℕ) (o : AluOp) (d s t : ℕ) → HasFields w 0x33 d (alu_code o) s t (alu_high o)
    → decoded w ≡ Some (Op o d s t)
op_again w o d s t f = let row = op_row w o f.opcode f.funct3 f.funct7 in cc (f.rd, f.rs1, f.rs2)

fence_again : (w d s n : ℕ) → HasImmediate w 0x0f d 0 s n → decoded w ≡ Some (Fence d s n)
fence_again w d s n f = let row = fence_row w f.opcode f.funct3 in cc (f.rd, f.rs1, f.bits)

lr_again : (w d s o : ℕ) → o < 4 → HasFields w 0x2f d 2 s 0 (2 * 2 ^ 2 + o) → decoded w
    ≡ Some (Lr d s o)
lr_again w d s o h f =
    let same : order w ≡ o = omega (arith, f.funct7) in
    let row = lr_row w f.opcode f.funct3 f.rs2 (omega (arith, f.funct7)) in cc (f.rd, f.rs1)

sc_again : (w d s t o : ℕ) → o < 4 → HasFields w 0x2f d 2 s t (3 * 2 ^ 2 + o) → decoded w
    ≡ Some (Sc d s t o)
sc_again w d s t o h f =
    let same : order w ≡ o = omega (arith, f.funct7) in
    let row = sc_row w f.opcode f.funct3 (omega (arith, f.funct7)) in cc (f.rd, f.rs1, f.rs2)

amo_again : (w : ℕ) (a : AmoOp) (d s t o : ℕ) → o < 4 → HasFields w 0x2f d 2 s t
    (amo_code a * 2 ^ 2 + o) → decoded w ≡ Some (Amo a d s t o)
amo_again w a d s t o h f =
    let small = amo_small a in
    let same : order w ≡ o = omega (arith, f.funct7) in
    let row = amo_row w a f.opcode f.funct3 (omega (arith, f.funct7)) in cc (f.rd, f.rs1, f.rs2)

pub again : (i : Instr) → IsValid i → IsHeld i → decoded (word_of i) ≡ Some i
again (Lui d n) v h = lui_again _ d n (u_fields 0x37 d n (lit< tt) h.0 h.1 v)
again (Auipc d n) v h = auipc_again _ d n (u_fields 0x17 d n (lit< tt) h.0 h.1 v)
again (Jal d z) v h = jal_again _ d z v.within
    (j_fields 0x6f d (low_bits 2097152 z) (lit< tt) h (low_bits-below 1048576 z v.within)
    (low_bits-even 1048576 z v))
again (Jalr d s z) v h = jalr_again _ d s z v
    (i_fields 0x67 d 0 s (low_bits 4096 z) (lit< tt) h.0 (lit< tt) h.1 (low_bits-below 2048 z v))
again (Branch t s r z) v h = branch_again _ t s r z v.within
    (b_fields 0x63 (test_code t) s r (low_bits 8192 z) (lit< tt) (test_small t) h.0
    h.1 (low_bits-below 4096 z v.within) (low_bits-even 4096 z v))
again (Load k d s z) v h = load_again _ k d s z v
    (i_fields 0x03 d (load_code k) s (low_bits 4096 z) (lit< tt) h.0 (load_small k) h.1
    (low_bits-below 2048 z v))
again (Store k s r z) v h = store_again _ k s r z v
    (s_fields 0x23 (store_code k) s r (low_bits 4096 z) (lit< tt) (store_small k) h.0 h.1
    (low_bits-below 2048 z v))
again (Imm Slli d s (pos n)) v h = let small : n < 32 = omega (arith, ints, v.high) in
    slli_again _ d s n small (i_fields 0x13 d 1 s n (lit< tt) h.0 (lit< tt) h.1 (omega arith))
again (Imm Srli d s (pos n)) v h = let small : n < 32 = omega (arith, ints, v.high) in
    srli_again _ d s n small (i_fields 0x13 d 5 s n (lit< tt) h.0 (lit< tt) h.1 (omega arith))
again (Imm Srai d s (pos n)) v h = let small : n < 32 = omega (arith, ints, v.high) in
    srai_again _ d s n small (i_fields 0x13 d 5 s (2 ^ 10 + n) (lit< tt) h.0 (lit< tt) h.1
    (omega arith))
again (Imm Slli d s (negsuc n)) v h = absurd (omega (arith, ints, v.low))
again (Imm Srli d s (negsuc n)) v h = absurd (omega (arith, ints, v.low))
again (Imm Srai d s (negsuc n)) v h = absurd (omega (arith, ints, v.low))
again (Imm o d s z) v h = plain_again _ o d s z tt v
    (i_fields 0x13 d (imm_code o) s (low_bits 4096 z) (lit< tt) h.0 (imm_small o) h.1
    (low_bits-below 2048 z v))
again (Op o d s t) v h = op_again _ o d s t
    (r_fields 0x33 d (alu_code o) s t (alu_high o) (lit< tt) h.0 (alu_small o).0 h.1 h.2
    (alu_small o).1)
again (Fence d s n) v h = fence_again _ d s n (i_fields 0x0f d 0 s n (lit< tt) h.0 (lit< tt) h.1 v)
again Ecall v h = ecall_row _ refl
again Ebreak v h = ebreak_row _ refl
again (Lr d s o) v h = lr_again _ d s o v
    (r_fields 0x2f d 2 s 0 (2 * 2 ^ 2 + o) (lit< tt) h.0 (lit< tt) h.1 (lit< tt) (omega arith))
again (Sc d s t o) v h = sc_again _ d s t o v
    (r_fields 0x2f d 2 s t (3 * 2 ^ 2 + o) (lit< tt) h.0 (lit< tt) h.1 h.2 (omega arith))
again (Amo a d s t o) v h = let small = amo_small a in amo_again _ a d s t o v
    (r_fields 0x2f d 2 s t (amo_code a * 2 ^ 2 + o) (lit< tt) h.0 (lit< tt) h.1 h.2 (omega arith))
