-- A hart's registers.
use Rattle.std.specs.Prelude.{◌≡◌, ℕ, ℤ, ◌+◌, ◌%◌, ◌^◌, List, length, replicate, nat_eq}
use Rattle.std.specs.Prelude.{if◌then◌else◌, slice_index, slice_set}
use Rattle.std.specs.Int.{w32, cast_unsigned}

pub record Registers : Type 0 where
  pub pc : ℕ
  pub values : List ℕ

-- what is true of each hart's registers
pub record IsHart (s : Registers) : Type 0 where
  pub aligned : s.pc % 4 ≡ 0
  pub all : length s.values ≡ 32
  pub zero : slice_index s.values 0 ≡ 0

-- all zero but the stack pointer x2, the global pointer x3 and the argument x10
abbrev pub started : ℕ → ℕ → ℕ → ℕ → Registers
started pc sp gp arg = record {
  pc = pc;
  values =
      slice_set (slice_set (slice_set (replicate 32 0) 2 sp) 3 gp) 10 arg;
}

-- what a register holds
abbrev pub reg : Registers → ℕ → ℕ
reg s r = slice_index s.values r

-- a value in a register; x0 stays zero
abbrev pub with_reg : Registers → ℕ → ℕ → Registers
with_reg s r v = if nat_eq r 0 then s else record s { values = slice_set s.values r v }

abbrev pub at_pc : Registers → ℕ → Registers
at_pc s target = record s { pc = target }

-- on to the next instruction
abbrev pub advanced : Registers → Registers
advanced s = record s { pc = (s.pc + 4) % 2 ^ 32 }

-- an address moved by a signed number
abbrev pub moved : ℕ → ℤ → ℕ
moved a z = (a + cast_unsigned w32 z) % 2 ^ 32
