-- Access lists: the accesses of a run in order, numbered from 0.
use Rattle.std.specs.Prelude.{ℕ, Bool, ◌&&◌, List}
use Rattle.base.specs.Touch.{Touch, is_write}

abbrev pub AccessList : Type 0
AccessList = List Touch

-- an access, and a write, of a set of addresses
abbrev pub touches : (ℕ → Bool) → Touch → Bool
touches inside a = inside a.addr

abbrev pub writes_to : (ℕ → Bool) → Touch → Bool
writes_to inside a = is_write a.kind && inside a.addr
