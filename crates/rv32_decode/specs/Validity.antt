-- Which instructions have a word: those whose numbers fit the bits that the word has for them.
use Rattle.std.specs.Prelude.{◌≡◌, ℕ, ℤ, pos, ◌%◌, ◌<◌, ◌^◌, ◌≤ℤ◌, ◌<ℤ◌, neg_ℤ, unsigned_abs}
use Rattle.rv32_decode.specs.declared.instruction.Instr.{Instr}
use Rattle.rv32_decode.specs.declared.instruction.Instr.TheVariants.{Lui, Auipc, Jal, Jalr, Branch}
use Rattle.rv32_decode.specs.declared.instruction.Instr.TheVariants.{Load, Store, Imm, Op, Fence}
use Rattle.rv32_decode.specs.declared.instruction.Instr.TheVariants.{Ecall, Ebreak, Lr, Sc, Amo}
use Rattle.rv32_decode.specs.declared.instruction.ImmOp.{ImmOp}
use Rattle.rv32_decode.specs.declared.instruction.ImmOp.TheVariants.{Slli, Srli, Srai}

-- at least -half and below half
pub record IsWithin (half : ℕ) (z : ℤ) : Type 0 where
  pub low : neg_ℤ (pos half) ≤ℤ z
  pub high : z <ℤ pos half

-- the same, and even
pub record IsEvenWithin (half : ℕ) (z : ℤ) : Type 0 where
  pub within : IsWithin half z
  pub even : unsigned_abs z % 2 ≡ 0

-- by how many bits a word may be shifted
pub record IsShift (z : ℤ) : Type 0 where
  pub low : pos 0 ≤ℤ z
  pub high : z <ℤ pos 32

abbrev pub IsImmediate : ImmOp → ℤ → Type 0
IsImmediate Slli z = IsShift z
IsImmediate Srli z = IsShift z
IsImmediate Srai z = IsShift z
IsImmediate op z = IsWithin 2048 z

abbrev pub IsValid : Instr → Type 0
IsValid (Lui d n) = n % 4096 ≡ 0
IsValid (Auipc d n) = n % 4096 ≡ 0
IsValid (Jal d z) = IsEvenWithin 1048576 z
IsValid (Jalr d s z) = IsWithin 2048 z
IsValid (Branch test s t z) = IsEvenWithin 4096 z
IsValid (Load kind d s z) = IsWithin 2048 z
IsValid (Store kind s t z) = IsWithin 2048 z
IsValid (Imm op d s z) = IsImmediate op z
IsValid (Op op d s t) = Unit {0}
IsValid (Fence d s n) = n < 4096
IsValid Ecall = Unit {0}
IsValid Ebreak = Unit {0}
IsValid (Lr d s order) = order < 4
IsValid (Sc d s t order) = order < 4
IsValid (Amo op d s t order) = order < 4

-- what each `Instr` of a program keeps: its registers are below 32, and an upper immediate is a
-- word
abbrev pub IsHeld : Instr → Type 0
IsHeld (Lui d n) = (d < 32) × (n < 2 ^ 32)
IsHeld (Auipc d n) = (d < 32) × (n < 2 ^ 32)
IsHeld (Jal d z) = d < 32
IsHeld (Jalr d s z) = (d < 32) × (s < 32)
IsHeld (Branch test s t z) = (s < 32) × (t < 32)
IsHeld (Load kind d s z) = (d < 32) × (s < 32)
IsHeld (Store kind s t z) = (s < 32) × (t < 32)
IsHeld (Imm op d s z) = (d < 32) × (s < 32)
IsHeld (Op op d s t) = (d < 32) × (s < 32) × (t < 32)
IsHeld (Fence d s n) = (d < 32) × (s < 32)
IsHeld Ecall = Unit {0}
IsHeld Ebreak = Unit {0}
IsHeld (Lr d s order) = (d < 32) × (s < 32)
IsHeld (Sc d s t order) = (d < 32) × (s < 32) × (t < 32)
IsHeld (Amo op d s t order) = (d < 32) × (s < 32) × (t < 32)
