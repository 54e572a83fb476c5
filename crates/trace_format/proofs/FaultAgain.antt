-- Bytes that are a good beginning, and then a unit at fault, have these records and this fault.
use Rattle.std.proofs.Common.{◌≡◌, ℕ, ◌+◌, ◌≤◌, ◌<◌, inl, inr, List, [], ◌∷◌, ◌++◌, length}
use Rattle.std.proofs.Common.{Option, Some, None, Err, refl, sym, ap, ◌∙◌, arith}
use Rattle.std.proofs.lemmas.List.{append-nil, length-append}
use Rattle.trace_format.specs.declared.record.TraceEnd.{TraceEnd}
use Rattle.trace_format.specs.declared.fault.TraceFault.{TraceFault}
use Rattle.trace_format.specs.declared.fault.TraceFault.TheVariants as faults
use Rattle.trace_format.specs.declared.record.TraceRecord.{TraceRecord}
use Rattle.trace_format.specs.declared.read_so_far.ReadSoFar.{ReadSoFar}
use Rattle.trace_format.specs.Spelling.{spell, spell_ending}
use Rattle.trace_format.specs.Rules.{longest_trace}
use Rattle.trace_format.specs.Reading.{Reading, begin, ending_of, extent_at, header_read, part_at}
use Rattle.trace_format.specs.Reading.{place_reached, read_on, reading_of, record_read}
use Rattle.trace_format.specs.Laws.Reading.{all_wait, at_fault, read_on-append, read_on-fault}
use Rattle.trace_format.specs.Laws.Reading.{read_on-too_long, then_read, waiting}
use Rattle.trace_format.specs.Laws.Extents.{fronts_wait_at}
use Rattle.trace_format.specs.Laws.Traces.{after_one, begun_again, part_alone, read_again}
use Rattle.trace_format.specs.Laws.Traces.{read_whole}
use Rattle.trace_format.specs.Laws.Writing.{begun-ended}
use Rattle.trace_format.specs.Writing.{begun_with}
use Rattle.trace_format.specs.Faults.{Beginning, HasFault, IsAtFault, IsCutShort, IsRefused}
use Rattle.trace_format.specs.Faults.{IsTooLong, KeepsRules, Says, WantsMore, behind, ended}
use Rattle.trace_format.specs.Faults.{nothing, records_in, spell_beginning, unended, unit_extent}

-- ---- the beginning

progress_of : Beginning → Option ReadSoFar
progress_of nothing = None
progress_of (unended v h items) = Some (behind v h items)
progress_of (ended v h items e) = Some (read_whole v h items e)

end_of : Beginning → Option TraceEnd
end_of (ended v h items e) = Some e
end_of _ = None

beginning_again : (before : Beginning) → KeepsRules before
    → length (spell_beginning before) ≤ longest_trace
    → reading_of (spell_beginning before)
    ≡ (records_in before, waiting (progress_of before) (end_of before) [])
unfolding read_on progress_of end_of
beginning_again nothing good short = refl
beginning_again (unended v h items) good short = (begun_again v h items good short).0
beginning_again (ended v h items e) good short =
    read_again (spell v h items e) v h items e (record { good = good; spelled = refl })

place_behind : (before : Beginning)
    → place_reached (progress_of before) ≡ length (spell_beginning before)
unfolding progress_of after_one
place_behind nothing = refl
place_behind (unended v h items) = refl
place_behind (ended v h items e) =
    sym (length-append (begun_with v h items) (spell_ending v e))
    ∙ ap length (begun-ended v h items e)

extent_behind : (before : Beginning) (unit : List ℕ)
    → unit_extent before unit ≡ extent_at (progress_of before) (end_of before) unit
unfolding progress_of end_of after_one
extent_behind nothing unit = refl
extent_behind (unended v h items) unit = refl
extent_behind (ended v h items e) unit = refl

-- ---- the unit

said : (before : Beginning) (unit : List ℕ) (f : TraceFault) → Says before unit f
    → part_at (waiting (progress_of before) (end_of before) []) (progress_of before)
    (end_of before) unit ≡ ([], at_fault (progress_of before) [] (end_of before) f)
unfolding progress_of end_of
said nothing unit f says = ap (header_read (waiting None None [])) says
said (unended v h items) unit f says =
    let p = behind v h items in
    ap (record_read (waiting (Some p) None []) p (length unit)) says
said (ended v h items e) unit f says =
    let p = read_whole v h items e in
    let place : p.place ≡ length (spell v h items e) = place_behind (ended v h items e) in
    ap (λ (g : TraceFault). ([], at_fault (Some p) [] (Some e) g))
    (ap (λ (n : ℕ). faults.AfterEnd n) place ∙ says)

truncated : (before : Beginning) (unit : List ℕ) → WantsMore before
    → ending_of (waiting (progress_of before) (end_of before) unit)
    ≡ Err (faults.Truncated (place_reached (progress_of before) + length unit))
unfolding progress_of end_of
truncated nothing unit wanted = refl
truncated (unended v h items) unit wanted = refl
truncated (ended v h items e) unit wanted = absurd wanted

-- what is read of a unit and the bytes behind it
record Ends (before : Beginning) (bytes : List ℕ) (f : TraceFault) : Type 0 where
  last : Reading
  read : read_on (waiting (progress_of before) (end_of before) []) bytes ≡ ([], last)
  fault : ending_of last ≡ Err f

module _ (before : Beginning) (unit rest : List ℕ) (f : TraceFault) where
  P : Option ReadSoFar
  P = progress_of before

  E : Option TraceEnd
  E = end_of before

  size : place_reached P + length unit ≡ length (spell_beginning before ++ unit)
  unfolding P
  size = ap (λ (n : ℕ). n + length unit) (place_behind before)
      ∙ sym (length-append (spell_beginning before) unit)

  refused_ends : IsRefused before unit f → Ends before (unit ++ rest) f
  unfolding P E
  refused_ends is =
      let whole = is.whole in
      let places = is.places in
      let alone = part_alone P E unit (whole ∙ extent_behind before unit) (omega (arith, size)) in
      let first : read_on (waiting P E []) unit ≡ ([], at_fault P [] E f) = alone
      ∙ ap (λ (x : List TraceRecord × Reading). (x.0 ++ [], x.1)) (said before unit f is.says) in
      record {
        last = at_fault P [] E f;
        read = read_on-append (waiting P E []) unit rest
            ∙ ap (λ (x : List TraceRecord × Reading). then_read x rest) first
            ∙ read_on-fault P [] E f rest;
        fault = refl;
      }

  part_waits : length unit < unit_extent before unit
      → length (spell_beginning before ++ unit) ≤ longest_trace
      → read_on (waiting P E []) unit ≡ ([], waiting P E unit)
  unfolding P E
  part_waits part places =
      all_wait P E unit (fronts_wait_at P E unit) (omega (arith, extent_behind before unit))
      (omega (arith, size))

  cut_ends : IsCutShort before unit rest f → Ends before (unit ++ rest) f
  unfolding P E
  cut_ends is =
      let nothing_more : unit ++ rest ≡ unit =
      ap (λ (xs : List ℕ). unit ++ xs) is.no_more ∙ append-nil unit in
      record {
        last = waiting P E unit;
        read = ap (read_on (waiting P E [])) nothing_more ∙ part_waits is.part is.places;
        fault = truncated before unit is.wanted
            ∙ ap (λ (n : ℕ). Err (faults.Truncated n)) size
            ∙ ap (λ (g : TraceFault). Err g) (sym is.fault);
      }

  one_too_many : (bytes : List ℕ) → 0 < length bytes
      → length (spell_beginning before ++ unit) ≡ longest_trace
      → read_on (waiting P E unit) bytes ≡ ([], at_fault P [] E faults.TooLong)
  unfolding P E
  one_too_many [] some last = absurd (omega arith)
  one_too_many (b ∷ bytes) some last = read_on-too_long P E unit b bytes (size ∙ last)

  long_ends : IsTooLong before unit rest f → Ends before (unit ++ rest) f
  unfolding P E
  long_ends is =
      let last = is.last in
      record {
        last = at_fault P [] E faults.TooLong;
        read = read_on-append (waiting P E []) unit rest
            ∙ ap (λ (x : List TraceRecord × Reading). then_read x rest)
            (part_waits is.part (omega arith))
            ∙ one_too_many rest is.more is.last;
        fault = ap (λ (g : TraceFault). Err g) (sym is.fault);
      }

  ends : IsAtFault before unit rest f
      → (length (spell_beginning before) ≤ longest_trace) × Ends before (unit ++ rest) f
  ends (inl refused) =
      let places = refused.places in
      (omega (arith, length-append (spell_beginning before) unit), refused_ends refused)
  ends (inr (inl cut)) =
      let places = cut.places in
      (omega (arith, length-append (spell_beginning before) unit), cut_ends cut)
  ends (inr (inr long)) =
      let last = long.last in
      (omega (arith, length-append (spell_beginning before) unit), long_ends long)

-- ---- the whole

pub only_fault : (bytes : List ℕ) (items : List TraceRecord) (f : TraceFault)
    → HasFault bytes items f
    → ((reading_of bytes).0 ≡ items) × (ending_of (reading_of bytes).1 ≡ Err f)
only_fault bytes items f has =
    let before = has.before in
    let front = spell_beginning before in
    let later = has.unit ++ has.rest in
    let unit = ends before has.unit has.rest f has.judged in
    let whole : reading_of bytes ≡ (records_in before ++ [], unit.1.last) =
    ap reading_of has.spelled ∙ read_on-append begin front later
    ∙ ap (λ (x : List TraceRecord × Reading). then_read x later)
    (beginning_again before has.good unit.0)
    ∙ ap (λ (x : List TraceRecord × Reading). (records_in before ++ x.0, x.1)) unit.1.read in (
      ap (λ (x : List TraceRecord × Reading). x.0) whole ∙ append-nil (records_in before)
          ∙ sym has.records,
      ap (λ (x : List TraceRecord × Reading). ending_of x.1) whole ∙ unit.1.fault,
    )
