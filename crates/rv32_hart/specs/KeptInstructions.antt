-- Instructions that a memory keeps once they were fetched and decoded.
use Rattle.std.specs.Prelude.{◌≡◌, ℕ, ◌*◌, ◌/◌, ◌%◌, List, Option, Some, None, Result, Ok, Err}
use Rattle.std.specs.Prelude.{length, nat_eq, if◌then◌else◌, slice_index_or, slice_set}
use Rattle.base.specs.declared.ending.Cause.{Cause}
use Rattle.base.specs.declared.ending.Cause.TheVariants.{Illegal, FetchOutside}
use Rattle.rv32_decode.specs.Table.{decoded}
use Rattle.rv32_decode.specs.declared.instruction.Instr.{Instr}
use Rattle.rv32_decode.specs.declared.instruction.Instr.TheVariants.{Ecall}
use Rattle.rv32_hart.specs.Space.{Space, IsSpace}
use Rattle.rv32_hart.specs.Faults.{fetched}
use Rattle.rv32_hart.specs.declared.kept.KeptInstr.{KeptInstr}
use Rattle.rv32_hart.specs.declared.page.MemFault.{MemFault}

-- the instruction that a word is, or the trap of a word that is none
abbrev pub instr_in : Option Instr → Result Instr Cause
instr_in (Some i) = Ok i
instr_in None = Err Illegal

-- the instruction of a fetch, or the trap where there is none
abbrev pub instr_of : Result ℕ MemFault → Result Instr Cause
instr_of (Ok word) = instr_in (decoded word)
instr_of (Err fault) = Err FetchOutside

-- the trap where no instruction is
abbrev pub trap_of : Result ℕ MemFault → Cause
trap_of (Ok word) = Illegal
trap_of (Err fault) = FetchOutside

-- the instruction at an address, or the trap where there is none
abbrev pub instr_at : Space → ℕ → Result Instr Cause
instr_at m a = instr_of (fetched m a)

-- a step at an address ends in a trap before it has an instruction
abbrev pub HasNoInstr : Space → ℕ → Type 0
HasNoInstr m a = instr_at m a ≡ Err (trap_of (fetched m a))

-- the place for the instruction at an address
abbrev pub slot_of : ℕ → ℕ
slot_of a = a / 4 % 4096

-- no instruction: the address of one is a multiple of 4
abbrev pub no_instr : KeptInstr
no_instr = record { pc = 1; word = 0; instr = Ecall }

-- kept at a place is the instruction that a fetch at its address gives, and it belongs there
pub record IsKept (m : Space) (place : ℕ) (k : KeptInstr) : Type 0 where
  pub there : slot_of k.pc ≡ place
  pub word : fetched m k.pc ≡ Ok k.word
  pub instr : decoded k.word ≡ Some k.instr

-- a place is empty, or keeps an instruction
abbrev pub IsKeptOrNone : Space → ℕ → KeptInstr → Type 0
IsKeptOrNone m place k = k.pc % 4 ≡ 0 → IsKept m place k

-- the table of a memory
pub record AreKept (m : Space) (kept : List KeptInstr) : Type 0 where
  pub places : length kept ≡ 4096
  pub each : (i : ℕ) → IsKeptOrNone m i (slice_index_or kept i no_instr)

-- what is true of each memory and the instructions that it keeps
pub record IsKeeping (m : Space) (kept : List KeptInstr) : Type 0 where
  pub space : IsSpace m
  pub table : AreKept m kept

-- so many places that are all empty
pub record AreEmpty (kept : List KeptInstr) (n : ℕ) : Type 0 where
  pub places : length kept ≡ n
  pub each : (i : ℕ) → slice_index_or kept i no_instr ≡ no_instr

-- without the instruction of an address's word
abbrev pub without_word : List KeptInstr → ℕ → List KeptInstr
without_word kept a =
    if nat_eq (slice_index_or kept (slot_of a) no_instr).pc (a / 4 * 4)
    then slice_set kept (slot_of a) no_instr else kept
