-- Worked cases of accesses with pcs: each is closed by computing.
use Rattle.std.proofs.Common.{◌≡◌, ℕ, List, [], ◌∷◌, ◌++◌, Some, Result, Ok, Err, refl}
use Rattle.base.specs.declared.access.Kind.{Kind}
use Rattle.base.specs.declared.access.Kind.TheVariants.{Read, Write}
use Rattle.trace_format.specs.declared.record.TraceEnd.{TraceEnd}
use Rattle.objects.specs.declared.symbol.SymbolKind.TheVariants.{Function}
use Rattle.trace_format.specs.declared.fault.TraceFault.{TraceFault}
use Rattle.trace_format.specs.declared.fault.TraceFault.TheVariants as faults
use Rattle.trace_format.specs.declared.record.TraceRecord.{TraceRecord}
use Rattle.trace_format.specs.declared.record.TraceRecord.TheVariants as records
use Rattle.trace_format.specs.declared.record.Version.TheVariants.{Three}
use Rattle.trace_format.specs.Spelling.{no_pcs, nothing_before, spell, spell_ending, spell_header}
use Rattle.trace_format.specs.Spelling.{spell_records, spell_symbol, spell_touch}
use Rattle.trace_format.specs.Judging.{header_judged, outcome_judged, plain_judged, record_extent}
use Rattle.trace_format.specs.Judging.{record_judged, short_touch_judged, sited_touch_judged}
use Rattle.trace_format.specs.Judging.{symbol_extent, symbol_judged}
use Rattle.trace_format.specs.Reading.{byte_read, read_on}
use Rattle.trace_format.proofs.Worked.{an_end, eight, ended, head, what}

-- an access of a byte with its pc
sited : ℕ → ℕ → Kind → ℕ → TraceRecord
sited hart addr kind pc =
    records.Touch (record { hart = hart; addr = addr; kind = kind; size = 1 }) (Some pc)

-- A write of 4 bytes, and then reads and writes of a byte by three harts, each with its pc.
first_half : List TraceRecord
first_half =
    records.Touch (record { hart = 0; addr = 69640; kind = Write; size = 4 }) (Some 65540)
    ∷ sited 1 69636 Read 65596
    ∷ sited 1 69636 Write 65604
    ∷ sited 2 69637 Read 65596
    ∷ sited 1 69636 Read 65596
    ∷ sited 0 69632 Read 65596
    ∷ sited 2 69637 Write 65604
    ∷ sited 1 69636 Write 65604
    ∷ sited 0 69632 Write 65604 ∷ []

-- their bytes
first_bytes : List ℕ
first_bytes =
    36 ∷ 0 ∷ 144 ∷ 192 ∷ 8 ∷ 136 ∷ 128 ∷ 8 ∷ 17 ∷ 1 ∷ 7 ∷ 248 ∷ 128 ∷ 8 ∷ 33 ∷ 1 ∷ 0 ∷ 16
    ∷ 17 ∷ 2 ∷ 2 ∷ 248 ∷ 128 ∷ 8 ∷ 17 ∷ 1 ∷ 1 ∷ 15 ∷ 17 ∷ 0 ∷ 7 ∷ 112 ∷ 33 ∷ 2 ∷ 10 ∷ 16
    ∷ 33 ∷ 1 ∷ 1 ∷ 16 ∷ 33 ∷ 0 ∷ 7 ∷ 16 ∷ []

-- what follows them, in a file of its own
second_half : List TraceRecord
second_half =
    sited 2 69637 Read 65596
    ∷ sited 1 69636 Read 65596
    ∷ sited 0 69632 Read 65596
    ∷ sited 2 69637 Write 65604
    ∷ sited 1 69636 Write 65604
    ∷ sited 0 69632 Write 65604
    ∷ sited 2 69637 Read 65596
    ∷ sited 0 69632 Read 65596
    ∷ sited 2 69637 Write 65604
    ∷ sited 0 69632 Write 65604 ∷ []

-- their bytes
second_bytes : List ℕ
second_bytes =
    17 ∷ 2 ∷ 138 ∷ 192 ∷ 8 ∷ 248 ∷ 128 ∷ 8 ∷ 17 ∷ 1 ∷ 1 ∷ 248 ∷ 128 ∷ 8 ∷ 17 ∷ 0 ∷ 7 ∷ 248
    ∷ 128 ∷ 8 ∷ 33 ∷ 2 ∷ 10 ∷ 16 ∷ 33 ∷ 1 ∷ 1 ∷ 16 ∷ 33 ∷ 0 ∷ 7 ∷ 16 ∷ 17 ∷ 2 ∷ 10 ∷ 15 ∷ 17
    ∷ 0 ∷ 9 ∷ 15 ∷ 33 ∷ 2 ∷ 10 ∷ 16 ∷ 33 ∷ 0 ∷ 9 ∷ 16 ∷ []

-- the function that they are in
worker : TraceRecord
worker = records.Symbol Function 65584 44 (119 ∷ 111 ∷ 114 ∷ 107 ∷ [])

worker_bytes : List ℕ
worker_bytes = 5 ∷ 2 ∷ 48 ∷ 0 ∷ 1 ∷ 0 ∷ 44 ∷ 0 ∷ 0 ∷ 0 ∷ 4 ∷ 0 ∷ 119 ∷ 111 ∷ 114 ∷ 107 ∷ []

module _ where
  spelled : spell Three eight (worker ∷ first_half) (an_end 9)
      ≡ head 3 8 ++ (worker_bytes ++ (first_bytes ++ ended 9))
  unfolding spell spell_header spell_touch spell_symbol spell_ending no_pcs head ended an_end eight
      worker worker_bytes first_half first_bytes sited
  spelled = refl

  -- each hart's first pc is spelled against 0
  half_spelled : spell_records Three nothing_before second_half ≡ second_bytes
  unfolding spell_touch no_pcs second_half second_bytes sited
  half_spelled = refl

  whole_read : what (head 3 8 ++ (worker_bytes ++ (first_bytes ++ ended 9)))
      ≡ (worker ∷ first_half ++ records.End (an_end 9) ∷ [], Ok (an_end 9))
  unfolding header_judged record_extent short_touch_judged sited_touch_judged symbol_extent
      symbol_judged plain_judged outcome_judged record_judged byte_read read_on no_pcs head ended
      what an_end worker worker_bytes first_half first_bytes sited
  whole_read = refl

-- what a trace of two harts says whose records begin so
says : List ℕ → List TraceRecord × Result TraceEnd TraceFault
says bytes = what (head 3 2 ++ bytes)

module _ where
  -- a hart that there isn't, then an address that is spelled with a group too many
  hart_first : says (36 ∷ 2 ∷ 9 ∷ 128 ∷ 0 ∷ ended 1) ≡ ([], Err (faults.BadField 21))
  unfolding header_judged record_extent short_touch_judged sited_touch_judged record_judged byte_read
      read_on no_pcs head ended what says
  hart_first = refl

  -- an address that its size doesn't divide
  address_next : says (36 ∷ 0 ∷ 9 ∷ 128 ∷ 0 ∷ ended 1) ≡ ([], Err (faults.BadField 22))
  unfolding header_judged record_extent short_touch_judged sited_touch_judged record_judged byte_read
      read_on no_pcs head ended what says
  address_next = refl

  -- a pc with a last group of 0
  pc_last : says (36 ∷ 0 ∷ 8 ∷ 128 ∷ 0 ∷ ended 1) ≡ ([], Err (faults.BadField 23))
  unfolding header_judged record_extent short_touch_judged sited_touch_judged record_judged byte_read
      read_on no_pcs head ended what says
  pc_last = refl

  -- a pc whose number is too large
  pc_too_large : says (36 ∷ 0 ∷ 8 ∷ 255 ∷ 255 ∷ 255 ∷ 255 ∷ 16 ∷ ended 1)
      ≡ ([], Err (faults.BadField 23))
  unfolding header_judged record_extent short_touch_judged sited_touch_judged record_judged byte_read
      read_on no_pcs head ended what says
  pc_too_large = refl

  pc_behind_two_groups : says (36 ∷ 0 ∷ 136 ∷ 1 ∷ 128 ∷ 0 ∷ ended 1)
      ≡ ([], Err (faults.BadField 24))
  unfolding header_judged record_extent short_touch_judged sited_touch_judged record_judged byte_read
      read_on no_pcs head ended what says
  pc_behind_two_groups = refl

  -- a tag of version 1
  no_tag : says (1 ∷ ended 1) ≡ ([], Err (faults.BadTag 20))
  unfolding header_judged record_extent short_touch_judged sited_touch_judged record_judged byte_read
      read_on no_pcs head ended what says
  no_tag = refl

  -- bytes that end too early
  cut_in_the_address : says (36 ∷ 9 ∷ 255 ∷ []) ≡ ([], Err (faults.Truncated 23))
  unfolding header_judged record_extent short_touch_judged sited_touch_judged record_judged byte_read
      read_on no_pcs head ended what says
  cut_in_the_address = refl

  cut_in_the_pc : says (36 ∷ 2 ∷ 9 ∷ 128 ∷ 128 ∷ []) ≡ ([], Err (faults.Truncated 25))
  unfolding header_judged record_extent short_touch_judged sited_touch_judged record_judged byte_read
      read_on no_pcs head ended what says
  cut_in_the_pc = refl

  cut_behind_the_address : says (36 ∷ 0 ∷ 255 ∷ 255 ∷ 255 ∷ 255 ∷ 255 ∷ [])
      ≡ ([], Err (faults.Truncated 27))
  unfolding header_judged record_extent short_touch_judged sited_touch_judged record_judged byte_read
      read_on no_pcs head ended what says
  cut_behind_the_address = refl

  -- five groups are whole, whatever the fifth is
  five_groups_are_whole : says (36 ∷ 0 ∷ 8 ∷ 255 ∷ 255 ∷ 255 ∷ 255 ∷ 255 ∷ [])
      ≡ ([], Err (faults.BadField 23))
  unfolding header_judged record_extent short_touch_judged sited_touch_judged record_judged byte_read
      read_on no_pcs head ended what says
  five_groups_are_whole = refl
