-- What a row makes of a word that meets it is valid, and is spelled as that word.
use Rattle.std.proofs.Common.{◌≡◌, ℕ, ◌+◌, ◌*◌, ◌^◌, ◌<◌, pos, Option, Some, None, IfSome, List, []}
use Rattle.std.proofs.Common.{◌∷◌, sym, subst, arith, bit_and, find}
use Rattle.std.proofs.Common.{inl, inr}
use Rattle.std.specs.Option.{option_map}
use Rattle.std.specs.List.{AllByRecursion}
use Rattle.std.proofs.lemmas.Bool.{cases_Bool, eqb-true}
use Rattle.std.proofs.lemmas.Int.{ints}
use Rattle.rv32_decode.specs.Fields.{bits, rd, rs1, rs2, order, imm_i, imm_s, imm_b, imm_u, imm_j}
use Rattle.rv32_decode.specs.Fields.{bits_i, bits_s, bits_b, bits_j, low_bits}
use Rattle.rv32_decode.specs.Codes.{test_code, load_code, store_code, imm_code, alu_code, alu_high}
use Rattle.rv32_decode.specs.Codes.{amo_code}
use Rattle.rv32_decode.specs.Table.{Row, meets, table, decoded}
use Rattle.rv32_decode.specs.Spelling.{word_of}
use Rattle.rv32_decode.specs.Validity.{IsValid, IsHeld}
use Rattle.rv32_decode.specs.declared.instruction.Instr.{Instr}
use Rattle.rv32_decode.specs.declared.instruction.Instr.TheVariants.{Lui, Auipc, Jal, Jalr, Branch}
use Rattle.rv32_decode.specs.declared.instruction.Instr.TheVariants.{Load, Store, Imm, Op, Fence}
use Rattle.rv32_decode.specs.declared.instruction.Instr.TheVariants.{Ecall}
use Rattle.rv32_decode.specs.declared.instruction.Instr.TheVariants.{Ebreak, Lr, Sc, Amo}
use Rattle.rv32_decode.specs.declared.instruction.Test.{Test}
use Rattle.rv32_decode.specs.declared.instruction.Test.TheVariants.{Eq, Ne, Lt, Ge, Ltu, Geu}
use Rattle.rv32_decode.specs.declared.instruction.LoadKind.{LoadKind}
use Rattle.rv32_decode.specs.declared.instruction.LoadKind.TheVariants.{Lb, Lh, Lw, Lbu, Lhu}
use Rattle.rv32_decode.specs.declared.instruction.StoreKind.{StoreKind}
use Rattle.rv32_decode.specs.declared.instruction.StoreKind.TheVariants.{Sb, Sh, Sw}
use Rattle.rv32_decode.specs.declared.instruction.ImmOp.{ImmOp}
use Rattle.rv32_decode.specs.declared.instruction.ImmOp.TheVariants.{Addi, Slti, Sltiu, Xori, Ori}
use Rattle.rv32_decode.specs.declared.instruction.ImmOp.TheVariants.{Andi, Slli, Srli, Srai}
use Rattle.rv32_decode.specs.declared.instruction.AluOp.{AluOp}
use Rattle.rv32_decode.specs.declared.instruction.AluOp.TheVariants as alu
use Rattle.rv32_decode.specs.declared.instruction.AmoOp.{AmoOp}
use Rattle.rv32_decode.specs.declared.instruction.AmoOp.TheVariants as amo
use Rattle.rv32_decode.proofs.Masks.{and_opcode, and_funct3, and_funct7, and_funct5, and_no_rs2}
use Rattle.rv32_decode.proofs.Masks.{and_all}
use Rattle.rv32_decode.proofs.Signs.{low_bits-signed, within-signed, even-signed}

pub record Spelled (w : ℕ) (i : Instr) : Type 0 where
  pub valid : IsValid i
  pub held : IsHeld i
  pub word : word_of i ≡ w

abbrev Spells : Row → Type 0
Spells r = (w : ℕ) → w < 2 ^ 32 → bit_and w r.mask ≡ r.value → Spelled w (r.make w)

lui_back : (w : ℕ) → w < 2 ^ 32 → bit_and w 0x7f ≡ 0x37 → Spelled w (Lui (rd w) (imm_u w))
lui_back w h e = record {
  valid = omega arith;
  held = (omega arith, omega arith);
  word =
      omega (arith, and_opcode w);
}

auipc_back : (w : ℕ) → w < 2 ^ 32 → bit_and w 0x7f ≡ 0x17 → Spelled w (Auipc (rd w) (imm_u w))
auipc_back w h e = record {
  valid = omega arith;
  held = (omega arith, omega arith);
  word =
      omega (arith, and_opcode w);
}

jal_back : (w : ℕ) → w < 2 ^ 32 → bit_and w 0x7f ≡ 0x6f → Spelled w (Jal (rd w) (imm_j w))
jal_back w h e =
    let fits : bits_j w < 2097152 = omega arith in
    let low : low_bits 2097152 (imm_j w) ≡ bits_j w = low_bits-signed 1048576 (bits_j w) fits in
    record {
      valid = even-signed 1048576 (bits_j w) fits (omega arith);
      held = omega arith;
      word =
          rw low (omega (arith, and_opcode w));
    }

jalr_back : (w : ℕ) → w < 2 ^ 32 → bit_and w 0x707f ≡ 0x67
    → Spelled w (Jalr (rd w) (rs1 w) (imm_i w))
jalr_back w h e =
    let fits : bits_i w < 4096 = omega arith in
    let low : low_bits 4096 (imm_i w) ≡ bits_i w = low_bits-signed 2048 (bits_i w) fits in
    record {
      valid = within-signed 2048 (bits_i w) fits;
      held = (omega arith, omega arith);
      word =
          rw low (omega (arith, and_funct3 w));
    }

branch_back : (w : ℕ) (t : Test) → w < 2 ^ 32 → bit_and w 0x707f ≡ 0x63 + test_code t * 4096
    → Spelled w (Branch t (rs1 w) (rs2 w) (imm_b w))
branch_back w t h e =
    let fits : bits_b w < 8192 = omega arith in
    let low : low_bits 8192 (imm_b w) ≡ bits_b w = low_bits-signed 4096 (bits_b w) fits in
    record {
      valid = even-signed 4096 (bits_b w) fits (omega arith);
      held = (omega arith, omega arith);
      word = rw low (omega (arith, and_funct3 w));
    }

load_back : (w : ℕ) (k : LoadKind) → w < 2 ^ 32 → bit_and w 0x707f ≡ 0x03 + load_code k * 4096
    → Spelled w (Load k (rd w) (rs1 w) (imm_i w))
load_back w k h e =
    let fits : bits_i w < 4096 = omega arith in
    let low : low_bits 4096 (imm_i w) ≡ bits_i w = low_bits-signed 2048 (bits_i w) fits in
    record {
      valid = within-signed 2048 (bits_i w) fits;
      held = (omega arith, omega arith);
      word =
          rw low (omega (arith, and_funct3 w));
    }

store_back : (w : ℕ) (k : StoreKind) → w < 2 ^ 32 → bit_and w 0x707f ≡ 0x23 + store_code k * 4096
    → Spelled w (Store k (rs1 w) (rs2 w) (imm_s w))
store_back w k h e =
    let fits : bits_s w < 4096 = omega arith in
    let low : low_bits 4096 (imm_s w) ≡ bits_s w = low_bits-signed 2048 (bits_s w) fits in
    record {
      valid = within-signed 2048 (bits_s w) fits;
      held = (omega arith, omega arith);
      word =
          rw low (omega (arith, and_funct3 w));
    }

op_back : (w : ℕ) (o : AluOp) → w < 2 ^ 32 → bit_and w 0xfe00707f
    ≡ 0x33 + alu_code o * 4096 + alu_high o * 33554432
    → Spelled w (Op o (rd w) (rs1 w) (rs2 w))
op_back w o h e = record {
  valid = tt;
  held = (omega arith, omega arith, omega arith);
  word =
      omega (arith, and_funct7 w);
}

fence_back : (w : ℕ) → w < 2 ^ 32 → bit_and w 0x707f ≡ 0x0f
    → Spelled w (Fence (rd w) (rs1 w) (bits 31 20 w))
fence_back w h e = record {
  valid = omega arith;
  held = (omega arith, omega arith);
  word =
      omega (arith, and_funct3 w);
}

lr_back : (w : ℕ) → w < 2 ^ 32 → bit_and w 0xf9f0707f ≡ 0x1000202f
    → Spelled w (Lr (rd w) (rs1 w) (order w))
lr_back w h e = record {
  valid = omega arith;
  held = (omega arith, omega arith);
  word =
      omega (arith, and_no_rs2 w);
}

sc_back : (w : ℕ) → w < 2 ^ 32 → bit_and w 0xf800707f ≡ 0x1800202f
    → Spelled w (Sc (rd w) (rs1 w) (rs2 w) (order w))
sc_back w h e = record {
  valid = omega arith;
  held = (omega arith, omega arith, omega arith);
  word =
      omega (arith, and_funct5 w);
}

amo_back : (w : ℕ) (o : AmoOp) → w < 2 ^ 32 → bit_and w 0xf800707f ≡ 0x202f + amo_code o * 134217728
    → Spelled w (Amo o (rd w) (rs1 w) (rs2 w) (order w))
amo_back w o h e = record {
  valid = omega arith;
  held = (omega arith, omega arith, omega arith);
  word = omega (arith, and_funct5 w);
}

-- an operation whose immediate has twelve bits, as all have but the shifts
abbrev pub IsPlain : ImmOp → Type 0
IsPlain Slli = ⊥
IsPlain Srli = ⊥
IsPlain Srai = ⊥
IsPlain o = Unit {0}

imm_back : (w : ℕ) (o : ImmOp) → w < 2 ^ 32 → IsPlain o → bit_and w 0x707f
    ≡ 0x13 + imm_code o * 4096
    → Spelled w (Imm o (rd w) (rs1 w) (imm_i w))
imm_back w Slli h p e = absurd p
imm_back w Srli h p e = absurd p
imm_back w Srai h p e = absurd p
imm_back w o h p e =
    let low : low_bits 4096 (imm_i w) ≡ bits_i w = low_bits-signed 2048 (bits_i w) (omega arith) in
    record {
      valid = within-signed 2048 (bits_i w) (omega arith);
      held = (omega arith, omega arith);
      word = rw low (omega (arith, and_funct3 w));
    }

slli_back : (w : ℕ) → w < 2 ^ 32 → bit_and w 0xfe00707f ≡ 0x1013
    → Spelled w (Imm Slli (rd w) (rs1 w) (pos (rs2 w)))
slli_back w h e = record {
  valid = record { low = omega (arith, ints); high = omega (arith, ints) };
  held = (omega arith, omega arith);
  word = omega (arith, and_funct7 w);
}

srli_back : (w : ℕ) → w < 2 ^ 32 → bit_and w 0xfe00707f ≡ 0x5013
    → Spelled w (Imm Srli (rd w) (rs1 w) (pos (rs2 w)))
srli_back w h e = record {
  valid = record { low = omega (arith, ints); high = omega (arith, ints) };
  held = (omega arith, omega arith);
  word = omega (arith, and_funct7 w);
}

srai_back : (w : ℕ) → w < 2 ^ 32 → bit_and w 0xfe00707f ≡ 0x40005013
    → Spelled w (Imm Srai (rd w) (rs1 w) (pos (rs2 w)))
srai_back w h e = record {
  valid = record { low = omega (arith, ints); high = omega (arith, ints) };
  held = (omega arith, omega arith);
  word = omega (arith, and_funct7 w);
}

ecall_back : (w : ℕ) → w < 2 ^ 32 → bit_and w 0xffffffff ≡ 0x73 → Spelled w Ecall
ecall_back w h e = record { valid = tt; held = tt; word = omega (arith, and_all w h) }

ebreak_back : (w : ℕ) → w < 2 ^ 32 → bit_and w 0xffffffff ≡ 0x100073 → Spelled w Ebreak
ebreak_back w h e = record { valid = tt; held = tt; word = omega (arith, and_all w h) }

infixr 30 ◌then◌
◌then◌ : {P Q : Type 0} → P → Q → P × Q
◌then◌ p q = (p, q)

rows_spell : AllByRecursion Spells table
unfolding table
rows_spell =
    lui_back
    then auipc_back
    then jal_back
    then jalr_back
    then (λ w. branch_back w Eq)
    then (λ w. branch_back w Ne)
    then (λ w. branch_back w Lt)
    then (λ w. branch_back w Ge)
    then (λ w. branch_back w Ltu)
    then (λ w. branch_back w Geu)
    then (λ w. load_back w Lb)
    then (λ w. load_back w Lh)
    then (λ w. load_back w Lw)
    then (λ w. load_back w Lbu)
    then (λ w. load_back w Lhu)
    then (λ w. store_back w Sb)
    then (λ w. store_back w Sh)
    then (λ w. store_back w Sw)
    then (λ w h. imm_back w Addi h tt)
    then (λ w h. imm_back w Slti h tt)
    then (λ w h. imm_back w Sltiu h tt)
    then (λ w h. imm_back w Xori h tt)
    then (λ w h. imm_back w Ori h tt)
    then (λ w h. imm_back w Andi h tt)
    then slli_back
    then srli_back
    then srai_back
    then (λ w. op_back w alu.Add)
    then (λ w. op_back w alu.Sub)
    then (λ w. op_back w alu.Sll)
    then (λ w. op_back w alu.Slt)
    then (λ w. op_back w alu.Sltu)
    then (λ w. op_back w alu.Xor)
    then (λ w. op_back w alu.Srl)
    then (λ w. op_back w alu.Sra)
    then (λ w. op_back w alu.Or)
    then (λ w. op_back w alu.And)
    then (λ w. op_back w alu.Mul)
    then (λ w. op_back w alu.Mulh)
    then (λ w. op_back w alu.Mulhsu)
    then (λ w. op_back w alu.Mulhu)
    then (λ w. op_back w alu.Div)
    then (λ w. op_back w alu.Divu)
    then (λ w. op_back w alu.Rem)
    then (λ w. op_back w alu.Remu)
    then fence_back
    then ecall_back
    then ebreak_back
    then lr_back
    then sc_back
    then (λ w. amo_back w amo.Add)
    then (λ w. amo_back w amo.Swap)
    then (λ w. amo_back w amo.Xor)
    then (λ w. amo_back w amo.Or)
    then (λ w. amo_back w amo.And)
    then (λ w. amo_back w amo.Min)
    then (λ w. amo_back w amo.Max)
    then (λ w. amo_back w amo.Minu)
    then (λ w. amo_back w amo.Maxu)
    then tt

spelled_by : (rows : List Row) → AllByRecursion Spells rows → (w : ℕ) → w < 2 ^ 32 → (i : Instr)
    → option_map (λ r. r.make w) (find (meets w) rows) ≡ Some i → Spelled w i
spelled_by [] all w h i e = absurd (cc)
spelled_by (r ∷ rows) all w h i e =
    elim (cases_Bool (meets w r)) [
      | inl t ↦ let s : Some (r.make w) ≡ Some i = rw t at e in
          let q : r.make w ≡ i = cc in
          let P : Instr → Type 0 = λ j. Spelled w j in
          subst P q (all.0 w h (eqb-true _ _ t))
      | inr f ↦ spelled_by rows all.1 w h i (rw f at e)
    ]

-- the instruction of a word is valid, and is spelled as the word
pub spelled : (w : ℕ) → w < 2 ^ 32 → (i : Instr) → decoded w ≡ Some i → Spelled w i
unfolding decoded
spelled w h i e = spelled_by table rows_spell w h i e

pub some_spelled : (w : ℕ) (o : Option Instr) → w < 2 ^ 32 → o ≡ decoded w → IfSome o IsValid
    × IfSome o (λ i. word_of i ≡ w)
some_spelled w None h e = (tt, tt)
some_spelled w (Some i) h e = let s = spelled w h i (sym e) in (s.valid, s.word)
