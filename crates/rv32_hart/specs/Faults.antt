-- The faults of accesses: each access has the first of its list that holds.
use Rattle.std.specs.Prelude.{ℕ, ◌%◌, not, Option, Some, None, Result, Ok, Err, nat_eq}
use Rattle.std.specs.Prelude.{if◌then◌else◌}
use Rattle.rv32_hart.specs.Space.{Space, page_at, number_at}
use Rattle.rv32_hart.specs.declared.page.MemFault.{MemFault}
use Rattle.rv32_hart.specs.declared.page.MemFault.TheVariants.{Misaligned, Outside, ReadOnly}
use Rattle.rv32_hart.specs.declared.page.MemFault.TheVariants.{NotExecutable}

abbrev pub load_fault : Space → ℕ → ℕ → Option MemFault
load_fault m a size =
    if not (nat_eq (a % size) 0) then Some Misaligned
    else if not (page_at m a).mapped then Some Outside
    else None

abbrev pub store_fault : Space → ℕ → ℕ → Option MemFault
store_fault m a size =
    if not (nat_eq (a % size) 0) then Some Misaligned
    else if not (page_at m a).mapped then Some Outside
    else if not (page_at m a).writable then Some ReadOnly
    else None

abbrev pub fetch_fault : Space → ℕ → Option MemFault
fetch_fault m a =
    if not (nat_eq (a % 4) 0) then Some Misaligned
    else if not (page_at m a).mapped then Some Outside
    else if not (page_at m a).executable then Some NotExecutable
    else None

-- a value, or the fault where there is one
abbrev pub unless : {X : Type 0} → Option MemFault → X → Result X MemFault
unless None x = Ok x
unless (Some fault) x = Err fault

-- what a load answers
abbrev pub loaded : Space → ℕ → ℕ → Result ℕ MemFault
loaded m a size = unless (load_fault m a size) (number_at m a size)

-- what a fetch answers
abbrev pub fetched : Space → ℕ → Result ℕ MemFault
fetched m a = unless (fetch_fault m a) (number_at m a 4)
