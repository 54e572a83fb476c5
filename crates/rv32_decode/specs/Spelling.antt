-- The word of an instruction, by the forms of the RISC-V unprivileged specification.
use Rattle.std.specs.Prelude.{ℕ, ℤ, ◌+◌, ◌*◌, ◌^◌}
use Rattle.rv32_decode.specs.Fields.{bits, low_bits}
use Rattle.rv32_decode.specs.Codes.{test_code, load_code, store_code, imm_code, alu_code, alu_high}
use Rattle.rv32_decode.specs.Codes.{amo_code}
use Rattle.rv32_decode.specs.declared.instruction.Instr.{Instr}
use Rattle.rv32_decode.specs.declared.instruction.Instr.TheVariants.{Lui, Auipc, Jal, Jalr, Branch}
use Rattle.rv32_decode.specs.declared.instruction.Instr.TheVariants.{Load, Store, Imm, Op, Fence}
use Rattle.rv32_decode.specs.declared.instruction.Instr.TheVariants.{Ecall, Ebreak, Lr, Sc, Amo}
use Rattle.rv32_decode.specs.declared.instruction.ImmOp.{ImmOp}
use Rattle.rv32_decode.specs.declared.instruction.ImmOp.TheVariants.{Srai}

-- R: opcode, rd, funct3, rs1, rs2, funct7
abbrev pub r_word : ℕ → ℕ → ℕ → ℕ → ℕ → ℕ → ℕ
r_word op d f s t g = op + d * 2 ^ 7 + f * 2 ^ 12 + s * 2 ^ 15 + t * 2 ^ 20 + g * 2 ^ 25

-- I: opcode, rd, funct3, rs1, and the twelve bits of an immediate
abbrev pub i_word : ℕ → ℕ → ℕ → ℕ → ℕ → ℕ
i_word op d f s n = op + d * 2 ^ 7 + f * 2 ^ 12 + s * 2 ^ 15 + n * 2 ^ 20

-- S: opcode, funct3, rs1, rs2, and the twelve bits of an immediate
abbrev pub s_word : ℕ → ℕ → ℕ → ℕ → ℕ → ℕ
s_word op f s t n = r_word op (bits 4 0 n) f s t (bits 11 5 n)

-- B: the same, with thirteen bits of which the lowest is 0
abbrev pub b_word : ℕ → ℕ → ℕ → ℕ → ℕ → ℕ
b_word op f s t n = r_word op (bits 4 1 n * 2 ^ 1 + bits 11 11 n) f s t
    (bits 12 12 n * 2 ^ 6 + bits 10 5 n)

-- U: opcode, rd, and a word of which the low twelve bits are 0
abbrev pub u_word : ℕ → ℕ → ℕ → ℕ
u_word op d n = op + d * 2 ^ 7 + n

-- J: opcode, rd, and twenty-one bits of which the lowest is 0
abbrev pub j_word : ℕ → ℕ → ℕ → ℕ
j_word op d n = op + d * 2 ^ 7 + bits 19 12 n * 2 ^ 12 + bits 11 11 n * 2 ^ 20 + bits 10 1 n * 2 ^
    21 + bits 20 20 n * 2 ^ 31

-- an atomic instruction: funct5, rd, rs1, rs2 and its order
abbrev pub atomic_word : ℕ → ℕ → ℕ → ℕ → ℕ → ℕ
atomic_word g d s t order = r_word 0x2f d 2 s t (g * 2 ^ 2 + order)

-- the twelve bits of an immediate: a right shift that keeps the sign has bit 10 set beside its
-- five
abbrev pub imm_bits : ImmOp → ℤ → ℕ
imm_bits Srai z = 2 ^ 10 + low_bits 4096 z
imm_bits op z = low_bits 4096 z

abbrev pub word_of : Instr → ℕ
word_of (Lui d n) = u_word 0x37 d n
word_of (Auipc d n) = u_word 0x17 d n
word_of (Jal d z) = j_word 0x6f d (low_bits 2097152 z)
word_of (Jalr d s z) = i_word 0x67 d 0 s (low_bits 4096 z)
word_of (Branch test s t z) = b_word 0x63 (test_code test) s t (low_bits 8192 z)
word_of (Load kind d s z) = i_word 0x03 d (load_code kind) s (low_bits 4096 z)
word_of (Store kind s t z) = s_word 0x23 (store_code kind) s t (low_bits 4096 z)
word_of (Imm op d s z) = i_word 0x13 d (imm_code op) s (imm_bits op z)
word_of (Op op d s t) = r_word 0x33 d (alu_code op) s t (alu_high op)
word_of (Fence d s n) = i_word 0x0f d 0 s n
word_of Ecall = 0x00000073
word_of Ebreak = 0x00100073
word_of (Lr d s order) = atomic_word 2 d s 0 order
word_of (Sc d s t order) = atomic_word 3 d s t order
word_of (Amo op d s t order) = atomic_word (amo_code op) d s t order
