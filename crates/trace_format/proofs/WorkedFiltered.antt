-- Worked cases of filtered traces: each is closed by computing.
use Rattle.std.proofs.Common.{◌≡◌, ℕ, List, [], ◌∷◌, ◌++◌, replicate, Some, Result, Ok, Err, refl}
use Rattle.base.specs.declared.access.Kind.TheVariants.{Read, Write}
use Rattle.base.specs.declared.ending.Outcome.TheVariants.{Exit}
use Rattle.trace_format.specs.declared.fault.TraceFault.{TraceFault}
use Rattle.trace_format.specs.declared.fault.TraceFault.TheVariants as faults
use Rattle.trace_format.specs.declared.record.TraceEnd.{TraceEnd}
use Rattle.trace_format.specs.declared.record.TraceRecord.{TraceRecord}
use Rattle.trace_format.specs.declared.record.TraceRecord.TheVariants as records
use Rattle.trace_format.specs.declared.record.Version.TheVariants.{Four}
use Rattle.trace_format.specs.Judging.{header_judged, outcome_judged, plain_judged, record_extent}
use Rattle.trace_format.specs.Judging.{record_judged, short_touch_judged, sited_touch_judged}
use Rattle.trace_format.specs.Reading.{byte_read, ending_of, read_on, reading_of}
use Rattle.trace_format.specs.Spelling.{no_pcs, spell, spell_ending, spell_header, spell_touch}

-- PRDTRC04, a first position, harts, and the logarithm of the size of the regions
unfoldable head : ℕ → ℕ → ℕ → List ℕ
head first harts near = 80 ∷ 82 ∷ 68 ∷ 84 ∷ 82 ∷ 67 ∷ 48 ∷ 52
    ∷ (first ∷ (replicate 7 0 ++ harts ∷ 0 ∷ near ∷ 0 ∷ []))

-- an end with exit 0, no steps, so many accesses, and how many there were
unfoldable ended : ℕ → ℕ → List ℕ
ended n whole = 6 ∷ (replicate 16 0 ++ n ∷ (replicate 7 0 ++ whole ∷ replicate 7 0))

unfoldable an_end : ℕ → ℕ → TraceEnd
an_end n whole = record { outcome = Exit 0; steps = 0; accesses = n; whole = Some whole }

-- a write of hart 0 at 0x1000, a read of hart 1 at 0x1020 near it, and the write again
three : List TraceRecord
three =
    records.Touch (record { hart = 0; addr = 0x1000; kind = Write; size = 4 }) (Some 0x44)
    ∷ records.Touch (record { hart = 1; addr = 0x1020; kind = Read; size = 4 }) (Some 0x48)
    ∷ records.Touch (record { hart = 0; addr = 0x1000; kind = Write; size = 4 }) (Some 0x4c) ∷ []

three_bytes : List ℕ
three_bytes = 0x24 ∷ 0 ∷ 0x80 ∷ 0x40 ∷ 0x88 ∷ 1 ∷ 0x14 ∷ 1 ∷ 0x40 ∷ 0x90 ∷ 1 ∷ 0x24 ∷ 0 ∷ 0x3f ∷ 0x10
    ∷ []

-- two writes of hart 0, at 0x1000 and 0x1004
two : List TraceRecord
two =
    records.Touch (record { hart = 0; addr = 0x1000; kind = Write; size = 4 }) (Some 0x44)
    ∷ records.Touch (record { hart = 0; addr = 0x1004; kind = Write; size = 4 }) (Some 0x50) ∷ []

two_bytes : List ℕ
two_bytes = 0x24 ∷ 0 ∷ 0x80 ∷ 0x40 ∷ 0x88 ∷ 1 ∷ 0x24 ∷ 0 ∷ 8 ∷ 0x18 ∷ []

unfoldable says : List ℕ → List TraceRecord × Result TraceEnd TraceFault
says bytes = let r = reading_of bytes in (r.0, ending_of r.1)

module _ where
  -- three of four accesses, in regions of 64 bytes
  three_spelled : spell Four (record { first = 0; harts = 8; near = 6 }) three (an_end 3 4)
      ≡ head 0 8 6 ++ (three_bytes ++ ended 3 4)
  unfolding spell spell_header spell_touch spell_ending no_pcs head ended an_end three three_bytes
  three_spelled = refl

  three_read : says (head 0 8 6 ++ (three_bytes ++ ended 3 4))
      ≡ (three ++ records.End (an_end 3 4) ∷ [], Ok (an_end 3 4))
  unfolding header_judged record_extent short_touch_judged sited_touch_judged plain_judged
      outcome_judged record_judged byte_read read_on no_pcs says head ended an_end three three_bytes
  three_read = refl

  -- two of five, in regions of 4096
  two_spelled : spell Four (record { first = 0; harts = 8; near = 12 }) two (an_end 2 5)
      ≡ head 0 8 12 ++ (two_bytes ++ ended 2 5)
  unfolding spell spell_header spell_touch spell_ending no_pcs head ended an_end two two_bytes
  two_spelled = refl

  -- none of none, in regions of 65536
  none_spelled : spell Four (record { first = 0; harts = 1; near = 16 }) [] (an_end 0 0)
      ≡ head 0 1 16 ++ 6 ∷ replicate 32 0
  unfolding spell spell_header spell_ending head an_end
  none_spelled = refl

  none_read : says (head 0 1 16 ++ 6 ∷ replicate 32 0)
      ≡ (records.End (an_end 0 0) ∷ [], Ok (an_end 0 0))
  unfolding header_judged record_extent plain_judged outcome_judged record_judged byte_read read_on
      says head an_end
  none_read = refl

  -- the first position, then the harts, then the regions
  later_position : says (head 1 0 5) ≡ ([], Err (faults.BadField 8))
  unfolding header_judged byte_read read_on says head
  later_position = refl

  no_harts : says (head 0 0 5) ≡ ([], Err faults.BadHarts)
  unfolding header_judged byte_read read_on says head
  no_harts = refl

  small_regions : says (head 0 8 5) ≡ ([], Err (faults.BadField 18))
  unfolding header_judged byte_read read_on says head
  small_regions = refl

  large_regions : says (head 0 8 17) ≡ ([], Err (faults.BadField 18))
  unfolding header_judged byte_read read_on says head
  large_regions = refl

  -- fewer accesses before than there are, also where one more is missing
  too_few : (says (head 0 8 12 ++ (two_bytes ++ ended 2 1))).1 ≡ Err (faults.BadField 55)
  unfolding header_judged record_extent short_touch_judged sited_touch_judged plain_judged
      outcome_judged record_judged byte_read read_on no_pcs says head ended two_bytes
  too_few = refl

  miscounted : (says (head 0 8 12 ++ (two_bytes ++ ended 3 1))).1 ≡ Err (faults.CountMismatch 3 2)
  unfolding header_judged record_extent short_touch_judged sited_touch_judged plain_judged
      outcome_judged record_judged byte_read read_on no_pcs says head ended two_bytes
  miscounted = refl

  -- 2^40 accesses before, and one more
  most : (says (head 0 8 12 ++ 6 ∷ (replicate 24 0 ++ 0 ∷ 0 ∷ 0 ∷ 0 ∷ 0 ∷ 1 ∷ 0 ∷ 0 ∷ []))).1
      ≡ Ok (an_end 0 1099511627776)
  unfolding header_judged record_extent plain_judged outcome_judged record_judged byte_read read_on
      says head an_end
  most = refl

  too_many : (says (head 0 8 12 ++ 6 ∷ (replicate 24 0 ++ 1 ∷ 0 ∷ 0 ∷ 0 ∷ 0 ∷ 1 ∷ 0 ∷ 0 ∷ []))).1
      ≡ Err (faults.BadField 45)
  unfolding header_judged record_extent plain_judged outcome_judged record_judged byte_read read_on
      says head
  too_many = refl

  -- the magic alone, and an end without its last byte
  magic_alone : says (80 ∷ 82 ∷ 68 ∷ 84 ∷ 82 ∷ 67 ∷ 48 ∷ 52 ∷ []) ≡ ([], Err (faults.Truncated 8))
  unfolding header_judged byte_read read_on says
  magic_alone = refl

  cut_short : says (head 0 1 16 ++ 6 ∷ replicate 31 0) ≡ ([], Err (faults.Truncated 52))
  unfolding header_judged record_extent byte_read read_on says head
  cut_short = refl
