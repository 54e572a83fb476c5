-- What is read in one pass where all of it is there: a number in groups, and the pc of an access.
use Rattle.std.specs.Prelude.{◌≡◌, ◌≤◌, ◌+◌, ℕ, List, length, take, drop, Option, Some, Result, Ok}
use Rattle.std.specs.Prelude.{Err, IsTrue}
use Rattle.base.specs.Touch.{Touch}
use Rattle.trace_format.specs.declared.before.Before.{Before}
use Rattle.trace_format.specs.declared.fault.TraceFault.{TraceFault}
use Rattle.trace_format.specs.Numbers.{address_at, are_groups, group_count, number_in}
use Rattle.trace_format.specs.Spelling.{pc_before}

-- a number is stated at the front of some bytes, in so many of them
pub record HasNumber (bytes : List ℕ) (number size : ℕ) : Type 0 where
  pub extent : size ≡ group_count bytes
  pub there : size ≤ length bytes
  pub spelled : IsTrue (are_groups (take size bytes))
  pub stated : number ≡ number_in (take size bytes)

-- a number is stated from a place on, up to an end
pub record HasNumberAt (bytes : List ℕ) (place number end : ℕ) : Type 0 where
  pub extent : end ≡ place + group_count (drop place bytes)
  pub there : end ≤ length bytes
  pub spelled : IsTrue (are_groups (drop place (take end bytes)))
  pub stated : number ≡ number_in (drop place (take end bytes))

-- an access, and the pc at a distance from that of its hart's access before
abbrev pub with_site : Before → ℕ → Result Touch TraceFault → Result (Touch × Option ℕ) TraceFault
with_site before z (Err fault) = Err fault
with_site before z (Ok touch) = Ok (touch, Some (address_at (pc_before before touch.hart) z))
