-- Worked values of the congruence: each is closed by computing.
use Rattle.std.proofs.Common.{◌≡◌, List, [], ◌∷◌, None, refl}
use Rattle.base.specs.declared.access.Kind.TheVariants.{Read, Write}
use Rattle.trace_format.specs.declared.record.TraceRecord.{TraceRecord}
use Rattle.trace_format.specs.declared.record.TraceRecord.TheVariants as records
use Rattle.trace_files.specs.Made.{made_items, number, state}

first_state : state 1 ≡ 7806831264735756412
first_state = refl

first_number : number 0 ≡ 1817669548
first_number = refl

-- a write by hart 4 at 0x10d70, one by hart 3 at 0x105ac, and a read by hart 1 at 0x10cc4
first_accesses : List TraceRecord
first_accesses =
    records.Touch (record { hart = 4; addr = 0x10d70; kind = Write; size = 4 }) None
    ∷ records.Touch (record { hart = 3; addr = 0x105ac; kind = Write; size = 4 }) None
    ∷ records.Touch (record { hart = 1; addr = 0x10cc4; kind = Read; size = 4 }) None ∷ []

three_accesses : made_items 3 ≡ first_accesses
unfolding first_accesses
three_accesses = refl
