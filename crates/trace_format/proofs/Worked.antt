-- Worked cases of reading: each is closed by computing.
use Rattle.std.proofs.Common.{◌≡◌, ℕ, ◌+◌, List, [], ◌∷◌, ◌++◌, replicate, None, Result, Ok, Err, refl}
use Rattle.std.proofs.Common.{inl, inr, arith}
use Rattle.std.proofs.lemmas.List.Elements.{All-nil}
use Rattle.base.specs.declared.access.Kind.TheVariants.{Write}
use Rattle.trace_format.specs.declared.record.TraceEnd.{TraceEnd}
use Rattle.base.specs.declared.ending.Outcome.TheVariants.{Exit}
use Rattle.trace_format.specs.declared.fault.TraceFault.{TraceFault}
use Rattle.trace_format.specs.declared.fault.TraceFault.TheVariants as faults
use Rattle.trace_format.specs.declared.record.TraceRecord.{TraceRecord}
use Rattle.trace_format.specs.declared.record.TraceRecord.TheVariants as records
use Rattle.trace_format.specs.declared.record.Header.{Header}
use Rattle.trace_format.specs.declared.record.Version.TheVariants.{One, Two}
use Rattle.trace_format.specs.Spelling.{nothing_before, spell_header, spell_touch, spell_ending}
use Rattle.trace_format.specs.Spelling.{spell}
use Rattle.trace_format.specs.Judging.{header_judged, symbol_extent, record_extent, touch_judged}
use Rattle.trace_format.specs.Judging.{short_touch_judged, symbol_judged, plain_judged}
use Rattle.trace_format.specs.Judging.{outcome_judged, record_judged}
use Rattle.trace_format.specs.Reading.{byte_read, read_on, reading_of, ending_of}
use Rattle.trace_format.specs.Rules.{IsGoodRecord, IsGoodTrace, IsInner}
use Rattle.trace_format.specs.Faults.{HasFault, IsOpenTrace, ended as whole, nothing, unended}

-- PRDTRC01, or the text of another version, first position 0, so many harts, and zero
unfoldable pub head : ℕ → ℕ → List ℕ
head version harts = 80 ∷ 82 ∷ 68 ∷ 84 ∷ 82 ∷ 67 ∷ 48 ∷ (48 + version)
    ∷ (replicate 8 0 ++ harts ∷ 0 ∷ 0 ∷ 0 ∷ [])

-- an end with exit 0 and so many steps and accesses
unfoldable pub ended : ℕ → List ℕ
ended n = 6 ∷ (replicate 8 0 ++ n ∷ (replicate 7 0 ++ n ∷ replicate 7 0))

unfoldable pub what : List ℕ → List TraceRecord × Result TraceEnd TraceFault
what bytes = let r = reading_of bytes in (r.0, ending_of r.1)

unfoldable pub an_end : ℕ → TraceEnd
an_end n = record { outcome = Exit 0; steps = n; accesses = n; whole = None }

-- writes of 4 bytes at 0x1000 by hart 0, 0x1004 by hart 1, and 0x1000 by hart 0
writes : List TraceRecord
writes =
    records.Touch (record { hart = 0; addr = 4096; kind = Write; size = 4 }) None ∷ records.Touch
    (record { hart = 1; addr = 4100; kind = Write; size = 4 }) None
    ∷ records.Touch (record { hart = 0; addr = 4096; kind = Write; size = 4 }) None ∷ []

plain_writes : List ℕ
plain_writes = 2 ∷ 0 ∷ 0 ∷ 0 ∷ 16 ∷ 0 ∷ 0 ∷ 4 ∷ 2 ∷ 1 ∷ 0 ∷ 4 ∷ 16 ∷ 0 ∷ 0 ∷ 4 ∷ 2 ∷ 0 ∷ 0 ∷ 0 ∷ 16
    ∷ 0 ∷ 0 ∷ 4 ∷ []

-- the same in version 2
short_touch_writes : List ℕ
short_touch_writes = 36 ∷ 0 ∷ 128 ∷ 64 ∷ 36 ∷ 1 ∷ 8 ∷ 36 ∷ 0 ∷ 7 ∷ []

module _ where
  no_accesses : what (head 1 8 ++ ended 0) ≡ (records.End (an_end 0) ∷ [], Ok (an_end 0))
  unfolding header_judged record_extent plain_judged outcome_judged record_judged byte_read read_on
      head ended what an_end
  no_accesses = refl

  three_writes : what (head 1 8 ++ (plain_writes ++ ended 3))
      ≡ (writes ++ records.End (an_end 3) ∷ [], Ok (an_end 3))
  unfolding header_judged record_extent touch_judged plain_judged outcome_judged record_judged
      byte_read read_on head ended what an_end
      writes plain_writes
  three_writes = refl

  three_short_touches : what (head 2 8 ++ (short_touch_writes ++ ended 3))
      ≡ (writes ++ records.End (an_end 3) ∷ [], Ok (an_end 3))
  unfolding header_judged record_extent short_touch_judged plain_judged outcome_judged record_judged
      byte_read read_on head ended what an_end
      writes short_touch_writes
  three_short_touches = refl

  three_spelled : spell One (record { first = 0; harts = 8; near = 0 }) writes (an_end 3)
      ≡ head 1 8 ++ (plain_writes ++ ended 3)
  unfolding spell spell_header spell_touch spell_ending head ended an_end writes plain_writes
  three_spelled = refl

  three_spelled_shortly : spell Two (record { first = 0; harts = 8; near = 0 }) writes (an_end 3)
      ≡ head 2 8 ++ (short_touch_writes ++ ended 3)
  unfolding spell spell_header spell_touch spell_ending head ended an_end writes short_touch_writes
  three_spelled_shortly = refl

  -- the first access of a file at 0xFFFFFFFC
  last_word : spell_touch Two nothing_before
      (record { hart = 0; addr = 4294967292; kind = Write; size = 4 }) None ≡ 36 ∷ 0 ∷ 7 ∷ []
  unfolding spell_touch
  last_word = refl

  -- the trace without its last byte, and with one more
  cut_short : what (head 1 8 ++ 6 ∷ replicate 23 0) ≡ ([], Err (faults.Truncated 44))
  unfolding header_judged record_extent byte_read read_on head what
  cut_short = refl

  one_more : what (head 1 8 ++ (ended 0 ++ 0 ∷ []))
      ≡ (records.End (an_end 0) ∷ [], Err (faults.AfterEnd 45))
  unfolding header_judged record_extent plain_judged outcome_judged record_judged byte_read read_on
      head ended what an_end
  one_more = refl

  tag_9 : what (head 1 8 ++ 9 ∷ replicate 24 0) ≡ ([], Err (faults.BadTag 20))
  unfolding header_judged record_extent record_judged byte_read read_on head what
  tag_9 = refl

  no_harts : what (head 1 0 ++ ended 0) ≡ ([], Err faults.BadHarts)
  unfolding header_judged byte_read read_on head ended what
  no_harts = refl

  -- ten bytes, whatever they are
  ten_bytes : what (replicate 10 7) ≡ ([], Err (faults.Truncated 10))
  unfolding byte_read read_on what
  ten_bytes = refl

  no_magic : what (head 5 8) ≡ ([], Err faults.BadMagic)
  unfolding header_judged byte_read read_on head what
  no_magic = refl

  counts_wrongly : what (head 1 8 ++ (6 ∷
      (replicate 8 0 ++ 0 ∷ (replicate 7 0 ++ 3 ∷ replicate 7 0)))) ≡ (
        [],
        Err (faults.CountMismatch 3 0),
      )
  unfolding header_judged record_extent plain_judged outcome_judged record_judged byte_read read_on
      head what
  counts_wrongly = refl

  -- a last group that is 0, and a tag of version 1
  longer_number : what (head 2 8 ++ 36 ∷ 0 ∷ 128 ∷ 0 ∷ []) ≡ ([], Err (faults.BadField 22))
  unfolding header_judged record_extent short_touch_judged record_judged byte_read read_on head what
  longer_number = refl

  other_version : what (head 2 8 ++ 1 ∷ []) ≡ ([], Err (faults.BadTag 20))
  unfolding header_judged record_extent record_judged byte_read read_on head what
  other_version = refl

  -- a name of 1025 bytes, judged before it is there
  long_name : what (head 1 8 ++ 5 ∷ 1 ∷ 0 ∷ 16 ∷ 0 ∷ 0 ∷ 32 ∷ 0 ∷ 0 ∷ 0 ∷ 1 ∷ 4 ∷ [])
      ≡ ([], Err (faults.BadField 30))
  unfolding header_judged symbol_extent record_extent symbol_judged record_judged byte_read read_on
      head what
  long_name = refl

  -- first position 2^40 and one access
  too_far : what (80 ∷ 82 ∷ 68 ∷ 84 ∷ 82 ∷ 67 ∷ 48 ∷ 49 ∷ 0 ∷ 0 ∷ 0 ∷ 0 ∷ 0 ∷ 1 ∷ 0 ∷ 0 ∷ 8 ∷ 0 ∷ 0
      ∷ 0 ∷ plain_writes) ≡ (
        [],
        Err faults.TooLong,
      )
  unfolding header_judged record_extent touch_judged record_judged byte_read read_on what
      plain_writes
  too_far = refl

-- ---- where the first fault stands

unfoldable pub eight : Header
eight = record { first = 0; harts = 8; near = 0 }

begun_well : IsOpenTrace One eight []
unfolding eight
begun_well = record {
  header = record { position = omega arith; some = omega arith; few = omega arith };
  regions = refl;
  records = All-nil (IsGoodRecord One 8);
  inner = All-nil IsInner;
  positions = omega arith;
}

ended_well : IsGoodTrace One eight [] (an_end 0)
unfolding eight an_end spell spell_header spell_ending
ended_well = record {
  header = record { position = omega arith; some = omega arith; few = omega arith };
  regions = refl;
  records = All-nil (IsGoodRecord One 8);
  inner = All-nil IsInner;
  ending = record {
    allowed = tt;
    outcome = omega arith;
    steps = omega arith;
    accesses = omega arith;
    whole = refl;
  };
  positions = omega arith;
  counted = refl;
  short = omega arith;
}

module _ where
  -- a header of no version, and what follows doesn't matter
  magic_stands : (rest : List ℕ) → HasFault (head 5 8 ++ rest) [] faults.BadMagic
  unfolding header_judged head
  magic_stands rest = record {
    before = nothing;
    unit = head 5 8;
    rest = rest;
    good = tt;
    records = refl;
    spelled = refl;
    judged = inl (record { whole = refl; places = omega arith; says = refl });
  }

  -- a byte that is no tag, behind a header
  tag_stands : (rest : List ℕ) → HasFault (head 1 8 ++ 9 ∷ rest) [] (faults.BadTag 20)
  unfolding spell_header record_extent record_judged head eight
  tag_stands rest = record {
    before = unended One eight [];
    unit = 9 ∷ [];
    rest = rest;
    good = begun_well;
    records = refl;
    spelled = refl;
    judged = inl (record { whole = refl; places = omega arith; says = refl });
  }

  -- an end that states three accesses behind none
  count_stands : (rest : List ℕ) → HasFault (head 1 8 ++ (6 ∷
      (replicate 8 0 ++ 0 ∷ (replicate 7 0 ++ 3 ∷ replicate 7 0)) ++ rest)) []
      (faults.CountMismatch 3 0)
  unfolding spell_header record_extent record_judged outcome_judged plain_judged head eight
  count_stands rest = record {
    before = unended One eight [];
    unit = 6 ∷ (replicate 8 0 ++ 0 ∷ (replicate 7 0 ++ 3 ∷ replicate 7 0));
    rest = rest;
    good = begun_well;
    records = refl;
    spelled = refl;
    judged = inl (record { whole = refl; places = omega arith; says = refl });
  }

  -- an end without its last byte
  cut_stands : HasFault (head 1 8 ++ 6 ∷ replicate 23 0) [] (faults.Truncated 44)
  unfolding spell_header record_extent head eight
  cut_stands = record {
    before = unended One eight [];
    unit = 6 ∷ replicate 23 0;
    rest = [];
    good = begun_well;
    records = refl;
    spelled = refl;
    judged = inr (inl (record {
      wanted = tt;
      part = omega arith;
      places = omega arith;
      no_more = refl;
      fault = refl;
    }));
  }

  -- a byte behind the end
  byte_stands : (rest : List ℕ) → HasFault (head 1 8 ++ (ended 0 ++ 0 ∷ rest))
      (records.End (an_end 0) ∷ []) (faults.AfterEnd 45)
  unfolding spell spell_header spell_ending head ended an_end eight
  byte_stands rest = record {
    before = whole One eight [] (an_end 0);
    unit = 0 ∷ [];
    rest = rest;
    good = ended_well;
    records = refl;
    spelled = refl;
    judged = inl (record { whole = refl; places = omega arith; says = refl });
  }
