-- A word whose fields no instruction has is none.
use Rattle.std.proofs.Common.{◌≡◌, ℕ, sym, pos, negsuc, Option, None, ◌^◌, ◌<◌, Some, refl, arith}
use Rattle.std.proofs.lemmas.Int.{ints}
use Rattle.rv32_decode.specs.Fields.{opcode, funct3, rs2, funct5, funct7}
use Rattle.rv32_decode.specs.Codes.{test_code, load_code, store_code, alu_code, alu_high, amo_code}
use Rattle.rv32_decode.specs.Table.{decoded}
use Rattle.rv32_decode.specs.declared.instruction.Instr.{Instr}
use Rattle.rv32_decode.specs.declared.instruction.Instr.TheVariants.{Lui, Auipc, Jal, Jalr, Branch}
use Rattle.rv32_decode.specs.declared.instruction.Instr.TheVariants.{Load, Store, Imm, Op, Fence}
use Rattle.rv32_decode.specs.declared.instruction.Instr.TheVariants.{Ecall}
use Rattle.rv32_decode.specs.declared.instruction.Instr.TheVariants.{Ebreak, Lr, Sc, Amo}
use Rattle.rv32_decode.specs.declared.instruction.Test.{Test}
use Rattle.rv32_decode.specs.declared.instruction.LoadKind.{LoadKind}
use Rattle.rv32_decode.specs.declared.instruction.StoreKind.{StoreKind}
use Rattle.rv32_decode.specs.declared.instruction.Test.TheVariants.{Eq, Ne, Lt, Ge, Ltu, Geu}
use Rattle.rv32_decode.specs.declared.instruction.LoadKind.TheVariants.{Lb, Lh, Lw, Lbu, Lhu}
use Rattle.rv32_decode.specs.declared.instruction.StoreKind.TheVariants.{Sb, Sh, Sw}
use Rattle.rv32_decode.specs.declared.instruction.ImmOp.TheVariants.{Slli, Srli, Srai}
use Rattle.rv32_decode.specs.declared.instruction.AluOp.{AluOp}
use Rattle.rv32_decode.specs.declared.instruction.AmoOp.{AmoOp}
use Rattle.rv32_decode.proofs.Signs.{low_bits-below}
use Rattle.rv32_decode.proofs.Spelled.{Spelled, spelled}
use Rattle.rv32_decode.proofs.Again.{test_small, load_small, store_small, alu_small, amo_small}

none_of : (o : Option Instr) → ((i : Instr) → o ≡ Some i → ⊥) → o ≡ None
none_of None h = refl
none_of (Some i) h = absurd (h i refl)

pub none_unless : (w : ℕ) → w < 2 ^ 32 → ((i : Instr) → Spelled w i → ⊥) → decoded w ≡ None
none_unless w h f = none_of (decoded w) (λ i e. f i (spelled w h i e))

-- the opcode of an instruction's word
abbrev word_opcode : Instr → ℕ
word_opcode (Lui d n) = 0x37
word_opcode (Auipc d n) = 0x17
word_opcode (Jal d z) = 0x6f
word_opcode (Jalr d s z) = 0x67
word_opcode (Branch t s r z) = 0x63
word_opcode (Load k d s z) = 0x03
word_opcode (Store k s t z) = 0x23
word_opcode (Imm o d s z) = 0x13
word_opcode (Op o d s t) = 0x33
word_opcode (Fence d s n) = 0x0f
word_opcode Ecall = 0x73
word_opcode Ebreak = 0x73
word_opcode (Lr d s o) = 0x2f
word_opcode (Sc d s t o) = 0x2f
word_opcode (Amo a d s t o) = 0x2f

opcode-spelled : (w : ℕ) (i : Instr) → Spelled w i → opcode w ≡ word_opcode i
opcode-spelled w (Lui d n) q = omega (arith, q.word, q.valid)
opcode-spelled w (Auipc d n) q = omega (arith, q.word, q.valid)
opcode-spelled w i q = omega (arith, q.word)

branchless : (w : ℕ) → opcode w ≡ 0x63 → ((t : Test) → test_code t ≡ funct3 w → ⊥) → (i : Instr)
    → Spelled w i → ⊥
branchless w a f (Branch t s r z) q = f t (omega (arith, q.word, q.held.0, q.held.1, test_small t))
branchless w a f i q = omega (arith, opcode-spelled w i q)

testless : (n : ℕ) → (n ≡ 0 → ⊥) → (n ≡ 1 → ⊥) → (n ≡ 4 → ⊥) → (n ≡ 5 → ⊥) → (n ≡ 6 → ⊥)
    → (n ≡ 7 → ⊥) → (x : Test) → test_code x ≡ n → ⊥
testless n f0 f1 f4 f5 f6 f7 Eq e = f0 (sym e)
testless n f0 f1 f4 f5 f6 f7 Ne e = f1 (sym e)
testless n f0 f1 f4 f5 f6 f7 Lt e = f4 (sym e)
testless n f0 f1 f4 f5 f6 f7 Ge e = f5 (sym e)
testless n f0 f1 f4 f5 f6 f7 Ltu e = f6 (sym e)
testless n f0 f1 f4 f5 f6 f7 Geu e = f7 (sym e)

pub no_branch : (w : ℕ) → w < 2 ^ 32 → opcode w ≡ 0x63 → (funct3 w ≡ 0 → ⊥) → (funct3 w ≡ 1 → ⊥)
    → (funct3 w ≡ 4 → ⊥) → (funct3 w ≡ 5 → ⊥) → (funct3 w ≡ 6 → ⊥) → (funct3 w ≡ 7 → ⊥) → decoded w
    ≡ None
no_branch w h a f0 f1 f4 f5 f6 f7 = none_unless w h
    (branchless w a (testless (funct3 w) f0 f1 f4 f5 f6 f7))

loadless : (w : ℕ) → opcode w ≡ 0x03 → ((k : LoadKind) → load_code k ≡ funct3 w → ⊥) → (i : Instr)
    → Spelled w i → ⊥
loadless w a f (Load k d s z) q = f k (omega (arith, q.word, q.held.0, q.held.1, load_small k))
loadless w a f i q = omega (arith, opcode-spelled w i q)

loadless_kind : (n : ℕ) → (n ≡ 0 → ⊥) → (n ≡ 1 → ⊥) → (n ≡ 2 → ⊥) → (n ≡ 4 → ⊥) → (n ≡ 5 → ⊥)
    → (x : LoadKind) → load_code x ≡ n → ⊥
loadless_kind n f0 f1 f2 f4 f5 Lb e = f0 (sym e)
loadless_kind n f0 f1 f2 f4 f5 Lh e = f1 (sym e)
loadless_kind n f0 f1 f2 f4 f5 Lw e = f2 (sym e)
loadless_kind n f0 f1 f2 f4 f5 Lbu e = f4 (sym e)
loadless_kind n f0 f1 f2 f4 f5 Lhu e = f5 (sym e)

pub no_load : (w : ℕ) → w < 2 ^ 32 → opcode w ≡ 0x03 → (funct3 w ≡ 0 → ⊥) → (funct3 w ≡ 1 → ⊥)
    → (funct3 w ≡ 2 → ⊥)
    → (funct3 w ≡ 4 → ⊥) → (funct3 w ≡ 5 → ⊥) → decoded w ≡ None
no_load w h a f0 f1 f2 f4 f5 = none_unless w h
    (loadless w a (loadless_kind (funct3 w) f0 f1 f2 f4 f5))

storeless : (w : ℕ) → opcode w ≡ 0x23 → ((k : StoreKind) → store_code k ≡ funct3 w → ⊥)
    → (i : Instr) → Spelled w i → ⊥
storeless w a f (Store k s t z) q = f k (omega (arith, q.word, q.held.0, q.held.1, store_small k))
storeless w a f i q = omega (arith, opcode-spelled w i q)

storeless_kind : (n : ℕ) → (n ≡ 0 → ⊥) → (n ≡ 1 → ⊥) → (n ≡ 2 → ⊥) → (x : StoreKind) → store_code x
    ≡ n → ⊥
storeless_kind n f0 f1 f2 Sb e = f0 (sym e)
storeless_kind n f0 f1 f2 Sh e = f1 (sym e)
storeless_kind n f0 f1 f2 Sw e = f2 (sym e)

pub no_store : (w : ℕ) → w < 2 ^ 32 → opcode w ≡ 0x23 → (funct3 w ≡ 0 → ⊥) → (funct3 w ≡ 1 → ⊥)
    → (funct3 w ≡ 2 → ⊥) → decoded w ≡ None
no_store w h a f0 f1 f2 = none_unless w h (storeless w a (storeless_kind (funct3 w) f0 f1 f2))

opless : (w : ℕ) → opcode w ≡ 0x33 → ((o : AluOp) → alu_code o ≡ funct3 w → alu_high o ≡ funct7 w
    → ⊥) → (i : Instr) → Spelled w i → ⊥
opless w a f (Op o d s t) q = f o (omega (arith, q.word, q.held.0, q.held.1, q.held.2, alu_small o))
    (omega (arith, q.word, q.held.0, q.held.1, q.held.2, alu_small o))
opless w a f i q = omega (arith, opcode-spelled w i q)

pub no_op : (w : ℕ) → w < 2 ^ 32 → opcode w ≡ 0x33
    → ((o : AluOp) → alu_code o ≡ funct3 w → alu_high o ≡ funct7 w → ⊥) → decoded w ≡ None
no_op w h a f = none_unless w h (opless w a f)

-- an immediate's word: its code, and what a shift has above
immless : (w : ℕ) → opcode w ≡ 0x13 → (funct3 w ≡ 0 → ⊥) → (funct3 w ≡ 2 → ⊥) → (funct3 w ≡ 3 → ⊥)
    → (funct3 w ≡ 4 → ⊥) → (funct3 w ≡ 6 → ⊥)
    → (funct3 w ≡ 7 → ⊥) → (funct3 w ≡ 1 → funct7 w ≡ 0 → ⊥) → (funct3 w ≡ 5 → funct7 w ≡ 0 → ⊥)
    → (funct3 w ≡ 5 → funct7 w ≡ 32 → ⊥)
    → (i : Instr) → Spelled w i → ⊥
immless w a f0 f2 f3 f4 f6 f7 g1 g5 g6 (Imm Slli d s (pos n)) q = let small : n < 32 =
    omega (arith, ints, q.valid.high) in
    g1 (omega (arith, q.word, q.held.0, q.held.1)) (omega (arith, q.word, q.held.0, q.held.1))
immless w a f0 f2 f3 f4 f6 f7 g1 g5 g6 (Imm Srli d s (pos n)) q = let small : n < 32 =
    omega (arith, ints, q.valid.high) in
    g5 (omega (arith, q.word, q.held.0, q.held.1)) (omega (arith, q.word, q.held.0, q.held.1))
immless w a f0 f2 f3 f4 f6 f7 g1 g5 g6 (Imm Srai d s (pos n)) q = let small : n < 32 =
    omega (arith, ints, q.valid.high) in
    g6 (omega (arith, q.word, q.held.0, q.held.1)) (omega (arith, q.word, q.held.0, q.held.1))
immless w a f0 f2 f3 f4 f6 f7 g1 g5 g6 (Imm Slli d s (negsuc n)) q =
    omega (arith, ints, q.valid.low)
immless w a f0 f2 f3 f4 f6 f7 g1 g5 g6 (Imm Srli d s (negsuc n)) q =
    omega (arith, ints, q.valid.low)
immless w a f0 f2 f3 f4 f6 f7 g1 g5 g6 (Imm Srai d s (negsuc n)) q =
    omega (arith, ints, q.valid.low)
immless w a f0 f2 f3 f4 f6 f7 g1 g5 g6 (Imm o d s z) q =
    omega (arith, q.word, q.held.0, q.held.1, low_bits-below 2048 z q.valid)
immless w a f0 f2 f3 f4 f6 f7 g1 g5 g6 i q = omega (arith, opcode-spelled w i q)

pub no_imm : (w : ℕ) → w < 2 ^ 32 → opcode w ≡ 0x13 → (funct3 w ≡ 0 → ⊥) → (funct3 w ≡ 2 → ⊥)
    → (funct3 w ≡ 3 → ⊥) → (funct3 w ≡ 4 → ⊥)
    → (funct3 w ≡ 6 → ⊥) → (funct3 w ≡ 7 → ⊥) → (funct3 w ≡ 1 → funct7 w ≡ 0 → ⊥)
    → (funct3 w ≡ 5 → funct7 w ≡ 0 → ⊥)
    → (funct3 w ≡ 5 → funct7 w ≡ 32 → ⊥) → decoded w ≡ None
no_imm w h a f0 f2 f3 f4 f6 f7 g1 g5 g6 = none_unless w h (immless w a f0 f2 f3 f4 f6 f7 g1 g5 g6)

-- no atomic instruction
atomicless : (w : ℕ) → opcode w ≡ 0x2f → (funct3 w ≡ 2 → funct5 w ≡ 2 → rs2 w ≡ 0 → ⊥)
    → (funct3 w ≡ 2 → funct5 w ≡ 3 → ⊥)
    → ((o : AmoOp) → funct3 w ≡ 2 → amo_code o ≡ funct5 w → ⊥) → (i : Instr) → Spelled w i → ⊥
atomicless w a f g h (Lr d s o) q = f (omega (arith, q.word, q.valid, q.held.0, q.held.1))
    (omega (arith, q.word, q.valid, q.held.0, q.held.1))
    (omega (arith, q.word, q.valid, q.held.0, q.held.1))
atomicless w a f g h (Sc d s t o) q =
    g (omega (arith, q.word, q.valid, q.held.0, q.held.1, q.held.2))
    (omega (arith, q.word, q.valid, q.held.0, q.held.1, q.held.2))
atomicless w a f g h (Amo c d s t o) q =
    h c (omega (arith, q.word, q.valid, q.held.0, q.held.1, q.held.2))
    (omega (arith, q.word, q.valid, q.held.0, q.held.1, q.held.2, amo_small c))
atomicless w a f g h i q = omega (arith, opcode-spelled w i q)

pub no_atomic : (w : ℕ) → w < 2 ^ 32 → opcode w ≡ 0x2f
    → (funct3 w ≡ 2 → funct5 w ≡ 2 → rs2 w ≡ 0 → ⊥) → (funct3 w ≡ 2 → funct5 w ≡ 3 → ⊥)
    → ((o : AmoOp) → funct3 w ≡ 2 → amo_code o ≡ funct5 w → ⊥) → decoded w ≡ None
no_atomic w h a f g k = none_unless w h (atomicless w a f g k)

pub no_jalr : (w : ℕ) → w < 2 ^ 32 → opcode w ≡ 0x67 → (funct3 w ≡ 0 → ⊥) → decoded w ≡ None
no_jalr w h a f = none_unless w h (jalrless w a f)
  where
    jalrless : (w : ℕ) → opcode w ≡ 0x67 → (funct3 w ≡ 0 → ⊥) → (i : Instr) → Spelled w i → ⊥
    jalrless w a f (Jalr d s z) q = f (omega (arith, q.word, q.held.0, q.held.1))
    jalrless w a f i q = omega (arith, opcode-spelled w i q)

pub no_fence : (w : ℕ) → w < 2 ^ 32 → opcode w ≡ 0x0f → (funct3 w ≡ 0 → ⊥) → decoded w ≡ None
no_fence w h a f = none_unless w h (fenceless w a f)
  where
    fenceless : (w : ℕ) → opcode w ≡ 0x0f → (funct3 w ≡ 0 → ⊥) → (i : Instr) → Spelled w i → ⊥
    fenceless w a f (Fence d s z) q = f (omega (arith, q.word, q.held.0, q.held.1))
    fenceless w a f i q = omega (arith, opcode-spelled w i q)

pub no_system : (w : ℕ) → w < 2 ^ 32 → opcode w ≡ 0x73 → (w ≡ 0x73 → ⊥) → (w ≡ 0x100073 → ⊥)
    → decoded w ≡ None
no_system w h a f g = none_unless w h (systemless w a f g)
  where
    systemless : (w : ℕ) → opcode w ≡ 0x73 → (w ≡ 0x73 → ⊥) → (w ≡ 0x100073 → ⊥) → (i : Instr)
        → Spelled w i → ⊥
    systemless w a f g Ecall q = f (sym q.word)
    systemless w a f g Ebreak q = g (sym q.word)
    systemless w a f g i q = omega (arith, opcode-spelled w i q)

-- an opcode that no row has
pub no_other : (w : ℕ) → w < 2 ^ 32 → (opcode w ≡ 0x37 → ⊥) → (opcode w ≡ 0x17 → ⊥)
    → (opcode w ≡ 0x6f → ⊥) → (opcode w ≡ 0x67 → ⊥)
    → (opcode w ≡ 0x63 → ⊥) → (opcode w ≡ 0x03 → ⊥) → (opcode w ≡ 0x23 → ⊥) → (opcode w ≡ 0x13 → ⊥)
    → (opcode w ≡ 0x33 → ⊥)
    → (opcode w ≡ 0x0f → ⊥) → (opcode w ≡ 0x73 → ⊥) → (opcode w ≡ 0x2f → ⊥) → decoded w ≡ None
no_other w h a b c d e f g j k l m n = none_unless w h (otherless w a b c d e f g j k l m n)
  where
    otherless : (w : ℕ) → (opcode w ≡ 0x37 → ⊥) → (opcode w ≡ 0x17 → ⊥) → (opcode w ≡ 0x6f → ⊥)
        → (opcode w ≡ 0x67 → ⊥)
        → (opcode w ≡ 0x63 → ⊥) → (opcode w ≡ 0x03 → ⊥) → (opcode w ≡ 0x23 → ⊥)
        → (opcode w ≡ 0x13 → ⊥) → (opcode w ≡ 0x33 → ⊥)
        → (opcode w ≡ 0x0f → ⊥) → (opcode w ≡ 0x73 → ⊥) → (opcode w ≡ 0x2f → ⊥) → (i : Instr)
        → Spelled w i → ⊥
    otherless w a b c d e f g j k l m n (Lui x y) q = omega (arith, opcode-spelled w (Lui x y) q)
    otherless w a b c d e f g j k l m n i q = omega (arith, opcode-spelled w i q)
