-- The effect of each instruction on a hart's registers, the memory and the reservations: the
-- RISC-V unprivileged specification's RV32I, with its extensions M and A.
use Rattle.std.specs.Prelude.{◌≡◌, ℕ, ℤ, ◌+◌, ◌*◌, ◌/◌, ◌%◌, ◌^◌, Bool, true, false, not, List}
use Rattle.std.specs.Prelude.{Option, Some, None, Result, Ok, Err, nat_eq, nat_lt, int_lt, if◌then◌else◌}
use Rattle.std.specs.Prelude.{slice_set}
use Rattle.std.specs.Int.{w32, cast_unsigned}
use Rattle.base.specs.Touch.{Touch}
use Rattle.base.specs.declared.access.Kind.{Kind}
use Rattle.base.specs.declared.access.Kind.TheVariants.{Read, Write}
use Rattle.base.specs.declared.ending.Cause.{Cause}
use Rattle.base.specs.declared.ending.Cause.TheVariants.{Illegal, Breakpoint}
use Rattle.base.specs.declared.ending.Cause.TheVariants.{FetchMisaligned, FetchOutside}
use Rattle.base.specs.declared.ending.Cause.TheVariants.{LoadMisaligned, LoadOutside}
use Rattle.base.specs.declared.ending.Cause.TheVariants.{StoreMisaligned, StoreOutside}
use Rattle.rv32_hart.specs.Space.{Space, size_of}
use Rattle.rv32_hart.specs.Faults.{loaded, fetched, store_fault}
use Rattle.rv32_hart.specs.Changes.{stored}
use Rattle.rv32_hart.specs.declared.page.MemFault.{MemFault}
use Rattle.rv32_hart.specs.declared.page.MemFault.TheVariants.{Misaligned}
use Rattle.rv32_decode.specs.Table.{decoded}
use Rattle.rv32_decode.specs.declared.instruction.Instr.{Instr}
use Rattle.rv32_decode.specs.declared.instruction.Instr.TheVariants.{Lui, Auipc, Jal, Jalr, Branch}
use Rattle.rv32_decode.specs.declared.instruction.Instr.TheVariants.{Load, Store, Imm, Op, Fence}
use Rattle.rv32_decode.specs.declared.instruction.Instr.TheVariants.{Ecall, Ebreak, Lr, Sc, Amo}
use Rattle.rv32_decode.specs.declared.instruction.Test.{Test}
use Rattle.rv32_decode.specs.declared.instruction.Test.TheVariants.{Eq, Ne, Lt, Ge, Ltu, Geu}
use Rattle.rv32_decode.specs.declared.instruction.LoadKind.{LoadKind}
use Rattle.rv32_decode.specs.declared.instruction.LoadKind.TheVariants.{Lb, Lh, Lw, Lbu, Lhu}
use Rattle.rv32_decode.specs.declared.instruction.StoreKind.{StoreKind}
use Rattle.rv32_decode.specs.declared.instruction.StoreKind.TheVariants.{Sb, Sh, Sw}
use Rattle.rv32_decode.specs.declared.instruction.AmoOp.{AmoOp}
use Rattle.rv32_hart.specs.Arithmetic.{alu, amo, plain, signed_word}
use Rattle.rv32_hart.specs.Registers.{Registers, reg, with_reg, at_pc, advanced, moved}
use Rattle.rv32_hart.specs.Reserved.{held_by, is_of, word_at, released}
use Rattle.rv32_hart.specs.declared.step_end.StepEnd.{StepEnd}
use Rattle.rv32_hart.specs.declared.step_end.StepEnd.TheVariants.{Next, Call, Trap}

-- what a step sees and changes
pub record Machine : Type 0 where
  pub state : Registers
  pub memory : Space
  pub held : List (Option ℕ)

-- what a step answers, and what it leaves
pub record Outcome : Type 0 where
  pub end : StepEnd
  pub machine : Machine

abbrev pub machine : Registers → Space → List (Option ℕ) → Machine
machine s m h = record { state = s; memory = m; held = h }

abbrev pub outcome : StepEnd → Machine → Outcome
outcome e x = record { end = e; machine = x }

-- the instruction is done, with its access if it has one
abbrev pub goes : Instr → Option Touch → Registers → Space → List (Option ℕ) → Outcome
goes i a s m h = outcome (Next i a) (machine s m h)

-- all stays
abbrev pub traps : Cause → Machine → Outcome
traps cause x = outcome (Trap cause) x

abbrev pub access : ℕ → ℕ → Kind → ℕ → Option Touch
access hart a kind size = Some (record { hart = hart; addr = a; kind = kind; size = size })

-- a value into a register
abbrev pub gives : Instr → ℕ → ℕ → Machine → Outcome
gives i d v x = goes i None (advanced (with_reg x.state d v)) x.memory x.held

-- a jump, with a value into a register; the target is judged before the register is written
abbrev pub jumps : Instr → ℕ → ℕ → ℕ → Machine → Outcome
jumps i d v target x =
    if nat_eq (target % 4) 0 then goes i None (at_pc (with_reg x.state d v) target) x.memory x.held
    else traps FetchMisaligned x

-- whether a branch is taken
abbrev pub holds : Test → ℕ → ℕ → Bool
holds Eq a b = nat_eq a b
holds Ne a b = not (nat_eq a b)
holds Lt a b = int_lt (signed_word a) (signed_word b)
holds Ge a b = not (int_lt (signed_word a) (signed_word b))
holds Ltu a b = nat_lt a b
holds Geu a b = not (nat_lt a b)

-- a jump to a target that writes no register
abbrev pub branches : Instr → ℕ → Machine → Outcome
branches i target x =
    if nat_eq (target % 4) 0 then goes i None (at_pc x.state target) x.memory x.held
    else traps FetchMisaligned x

abbrev pub branch_effect : Instr → Test → ℕ → ℕ → ℤ → Machine → Outcome
branch_effect i t s r z x =
    if holds t (reg x.state s) (reg x.state r) then branches i (moved x.state.pc z) x
    else goes i None (advanced x.state) x.memory x.held

abbrev pub load_size : LoadKind → ℕ
load_size Lb = 1
load_size Lh = 2
load_size Lw = 4
load_size Lbu = 1
load_size Lhu = 2

-- what was loaded as a word: LB and LH extend the sign, LBU and LHU zeros
abbrev pub extended : LoadKind → ℕ → ℕ
extended Lb v = if nat_lt v 128 then v else (v + 0xffffff00)
extended Lh v = if nat_lt v 32768 then v else (v + 0xffff0000)
extended k v = v

abbrev pub store_size : StoreKind → ℕ
store_size Sb = 1
store_size Sh = 2
store_size Sw = 4

abbrev pub load_cause : MemFault → Cause
load_cause Misaligned = LoadMisaligned
load_cause fault = LoadOutside

abbrev pub store_cause : MemFault → Cause
store_cause Misaligned = StoreMisaligned
store_cause fault = StoreOutside

-- after a load that gave this: the value into a register, or the trap
abbrev pub after_load : ℕ → Instr → ℕ → ℕ → ℕ → (ℕ → ℕ) → Machine → Result ℕ MemFault → Outcome
after_load hart i d a size f x (Ok v) = goes i (access hart a Read size)
    (advanced (with_reg x.state d (f v))) x.memory x.held
after_load hart i d a size f x (Err fault) = traps (load_cause fault) x

abbrev pub load_effect : ℕ → Instr → LoadKind → ℕ → ℕ → ℤ → Machine → Outcome
load_effect hart i k d s z x =
    let a = moved (reg x.state s) z in
    after_load hart i d a (load_size k) (extended k) x
    (loaded x.memory a (load_size k))

-- A store with this fault, or none: the value in memory and what the registers become, or the
-- trap. Other harts' reservations of the word end.
abbrev pub after_store : ℕ → Instr → ℕ → ℕ → ℕ → Registers → Machine → Option MemFault → Outcome
after_store hart i a size value s x None = goes i (access hart a Write size) (advanced s)
    (stored x.memory a size value) (released hart (word_at a) x.held)
after_store hart i a size value s x (Some fault) = traps (store_cause fault) x

abbrev pub store_effect : ℕ → Instr → StoreKind → ℕ → ℕ → ℤ → Machine → Outcome
store_effect hart i k s t z x =
    let a = moved (reg x.state s) z in
    after_store hart i a (store_size k) (reg x.state t) x.state x
    (store_fault x.memory a (store_size k))

-- the value of a load that is not refused
abbrev pub value_of : Result ℕ MemFault → ℕ
value_of (Ok v) = v
value_of (Err fault) = 0

-- one write, which gives the old word to a register
abbrev pub amo_effect : ℕ → Instr → AmoOp → ℕ → ℕ → ℕ → Machine → Outcome
amo_effect hart i op d s t x =
    let a = reg x.state s in
    let old = value_of (loaded x.memory a 4) in
    after_store hart i a 4 (amo op old (reg x.state t)) (with_reg x.state d old) x
    (store_fault x.memory a 4)

-- a load that reserves its word
abbrev pub after_lr : ℕ → Instr → ℕ → ℕ → Machine → Result ℕ MemFault → Outcome
after_lr hart i d a x (Ok v) = goes i (access hart a Read 4) (advanced (with_reg x.state d v))
    x.memory (slice_set x.held hart (Some a))
after_lr hart i d a x (Err fault) = traps (load_cause fault) x

abbrev pub lr_effect : ℕ → Instr → ℕ → ℕ → Machine → Outcome
lr_effect hart i d s x = after_lr hart i d (reg x.state s) x
    (loaded x.memory (reg x.state s) 4)

-- The address is judged as a store's first. The store is made, and the register 0, exactly where
-- the hart has reserved the address, and else the register is 1 and there is no access. Either way
-- the hart's reservation ends.
abbrev pub after_sc : ℕ → Instr → ℕ → ℕ → ℕ → Machine → Option MemFault → Outcome
after_sc hart i d a value x None =
    if is_of (held_by x.held hart) a
    then goes i (access hart a Write 4) (advanced (with_reg x.state d 0))
    (stored x.memory a 4 value) (slice_set (released hart a x.held) hart None)
    else goes i None (advanced (with_reg x.state d 1)) x.memory (slice_set x.held hart None)
after_sc hart i d a value x (Some fault) = traps (store_cause fault) x

abbrev pub sc_effect : ℕ → Instr → ℕ → ℕ → ℕ → Machine → Outcome
sc_effect hart i d s t x = after_sc hart i d (reg x.state s) (reg x.state t) x
    (store_fault x.memory (reg x.state s) 4)

-- the effect of an instruction of a hart
abbrev pub effect : ℕ → Instr → Machine → Outcome
effect hart (Lui d n) x = gives (Lui d n) d n x
effect hart (Auipc d n) x = gives (Auipc d n) d ((x.state.pc + n) % 2 ^ 32) x
effect hart (Jal d z) x = jumps (Jal d z) d ((x.state.pc + 4) % 2 ^ 32) (moved x.state.pc z) x
effect hart (Jalr d s z) x = jumps (Jalr d s z) d ((x.state.pc + 4) % 2 ^ 32)
    (moved (reg x.state s) z / 2 * 2) x
effect hart (Branch t s r z) x = branch_effect (Branch t s r z) t s r z x
effect hart (Load k d s z) x = load_effect hart (Load k d s z) k d s z x
effect hart (Store k s t z) x = store_effect hart (Store k s t z) k s t z x
effect hart (Imm o d s z) x = gives (Imm o d s z) d
    (alu (plain o) (reg x.state s) (cast_unsigned w32 z)) x
effect hart (Op o d s t) x = gives (Op o d s t) d (alu o (reg x.state s) (reg x.state t)) x
effect hart (Fence d s n) x = goes (Fence d s n) None (advanced x.state) x.memory x.held
effect hart Ecall x = outcome Call x
effect hart Ebreak x = traps Breakpoint x
effect hart (Lr d s o) x = lr_effect hart (Lr d s o) d s x
effect hart (Sc d s t o) x = sc_effect hart (Sc d s t o) d s t x
effect hart (Amo op d s t o) x = amo_effect hart (Amo op d s t o) op d s t x

abbrev pub after_decode : ℕ → Machine → Option Instr → Outcome
after_decode hart x None = traps Illegal x
after_decode hart x (Some i) = effect hart i x

abbrev pub after_fetch : ℕ → Machine → Result ℕ MemFault → Outcome
after_fetch hart x (Ok w) = after_decode hart x (decoded w)
after_fetch hart x (Err fault) = traps FetchOutside x

-- one step of a hart: the effect of the instruction at its pc
unfoldable pub stepped : ℕ → Machine → Outcome
stepped hart x = after_fetch hart x (fetched x.memory x.state.pc)

-- a step that is not to the next instruction leaves all as it was
abbrev pub LeavesUnlessNext : Machine → StepEnd → Machine → Type 0
LeavesUnlessNext old (Next i a) new = Unit {0}
LeavesUnlessNext old Call new = new ≡ old
LeavesUnlessNext old (Trap c) new = new ≡ old

-- the memory's place, its size and the rights of its pages are as they were
pub record KeepsPages (old new : Space) : Type 0 where
  pub base : new.base ≡ old.base
  pub size : size_of new ≡ size_of old
  pub pages : new.pages ≡ old.pages

-- whether an instruction is for its hart's registers alone
abbrev pub is_own : Instr → Bool
is_own (Load k d s z) = false
is_own (Store k s t z) = false
is_own Ecall = false
is_own Ebreak = false
is_own (Lr d s o) = false
is_own (Sc d s t o) = false
is_own (Amo op d s t o) = false
is_own _ = true

-- this step made an instruction that changed its hart's registers alone
abbrev pub IsOwnStep : ℕ → Space → List (Option ℕ) → Registers → Instr → Registers → Type 0
IsOwnStep hart m h old i new = goes i None new m h ≡ stepped hart (machine old m h)
