-- The fields of a word that has one of the forms.
use Rattle.std.proofs.Common.{◌≡◌, ℕ, ◌%◌, ◌^◌, ◌<◌, arith}
use Rattle.rv32_decode.specs.Fields.{opcode, rd, funct3, rs1, rs2, funct7, bits_i, bits_s, bits_b}
use Rattle.rv32_decode.specs.Fields.{bits_j, imm_u}
use Rattle.rv32_decode.specs.Spelling.{r_word, i_word, s_word, b_word, u_word, j_word}

pub record HasFields (w op d f s t g : ℕ) : Type 0 where
  pub opcode : opcode w ≡ op
  pub rd : rd w ≡ d
  pub funct3 : funct3 w ≡ f
  pub rs1 : rs1 w ≡ s
  pub rs2 : rs2 w ≡ t
  pub funct7 : funct7 w ≡ g

pub r_fields : (op d f s t g : ℕ) → op < 128 → d < 32 → f < 8 → s < 32 → t < 32 → g < 128
    → HasFields (r_word op d f s t g) op d f s t g
r_fields op d f s t g h1 h2 h3 h4 h5 h6 = record {
  opcode = omega arith;
  rd = omega arith;
  funct3 = omega arith;
  rs1 = omega arith;
  rs2 = omega arith;
  funct7 = omega arith;
}

pub record HasImmediate (w op d f s n : ℕ) : Type 0 where
  pub opcode : opcode w ≡ op
  pub rd : rd w ≡ d
  pub funct3 : funct3 w ≡ f
  pub rs1 : rs1 w ≡ s
  pub bits : bits_i w ≡ n

pub i_fields : (op d f s n : ℕ) → op < 128 → d < 32 → f < 8 → s < 32 → n < 4096
    → HasImmediate (i_word op d f s n) op d f s n
i_fields op d f s n h1 h2 h3 h4 h5 = record {
  opcode = omega arith;
  rd = omega arith;
  funct3 = omega arith;
  rs1 = omega arith;
  bits = omega arith;
}

pub record HasOffset (w op f s t n : ℕ) (bits_of : ℕ → ℕ) : Type 0 where
  pub opcode : opcode w ≡ op
  pub funct3 : funct3 w ≡ f
  pub rs1 : rs1 w ≡ s
  pub rs2 : rs2 w ≡ t
  pub bits : bits_of w ≡ n

pub s_fields : (op f s t n : ℕ) → op < 128 → f < 8 → s < 32 → t < 32 → n < 4096
    → HasOffset (s_word op f s t n) op f s t n bits_s
s_fields op f s t n h1 h2 h3 h4 h5 = record {
  opcode = omega arith;
  funct3 = omega arith;
  rs1 = omega arith;
  rs2 = omega arith;
  bits = omega arith;
}

pub b_fields : (op f s t n : ℕ) → op < 128 → f < 8 → s < 32 → t < 32 → n < 8192 → n % 2 ≡ 0
    → HasOffset (b_word op f s t n) op f s t n bits_b
b_fields op f s t n h1 h2 h3 h4 h5 even = record {
  opcode = omega arith;
  funct3 = omega arith;
  rs1 = omega arith;
  rs2 = omega arith;
  bits = omega arith;
}

pub record HasLong (w op d n : ℕ) (bits_of : ℕ → ℕ) : Type 0 where
  pub opcode : opcode w ≡ op
  pub rd : rd w ≡ d
  pub bits : bits_of w ≡ n

pub u_fields : (op d n : ℕ) → op < 128 → d < 32 → n < 2 ^ 32 → n % 4096 ≡ 0
    → HasLong (u_word op d n) op d n imm_u
u_fields op d n h1 h2 h3 low = record { opcode = omega arith; rd = omega arith; bits = omega arith }

pub j_fields : (op d n : ℕ) → op < 128 → d < 32 → n < 2097152 → n % 2 ≡ 0
    → HasLong (j_word op d n) op d n bits_j
j_fields op d n h1 h2 h3 even =
    record { opcode = omega arith; rd = omega arith; bits = omega arith }
