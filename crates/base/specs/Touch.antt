-- One access, as contracts see it: an `Access` with its fields open.
use Rattle.std.specs.Prelude.{◌≡◌, ℕ, ◌<◌, ◌/◌, ◌*◌, ◌%◌, ◌^◌, ◌==◌, Bool, true, false, ◌||◌}
use Rattle.std.specs.Prelude.{IsTrue}
use Rattle.base.specs.declared.access.Kind.{Kind}
use Rattle.base.specs.declared.access.Kind.TheVariants.{Read, Write}

pub record Touch : Type 0 where
  pub hart : ℕ
  pub addr : ℕ
  pub kind : Kind
  pub size : ℕ

abbrev pub is_write : Kind → Bool
is_write Read = false
is_write Write = true

-- a byte, a halfword or a word
abbrev pub is_access_size : ℕ → Bool
is_access_size n = (n == 1) || (n == 2) || (n == 4)

-- the word of 4 bytes that holds an address
abbrev pub word_of : ℕ → ℕ
word_of addr = addr / 4 * 4

-- what is true of each access: it lies in one word
pub record IsAllowed (a : Touch) : Type 0 where
  pub hart_in_range : a.hart < 256
  pub addr_in_range : a.addr < 2 ^ 32
  pub sized : IsTrue (is_access_size a.size)
  pub aligned : a.addr % a.size ≡ 0
