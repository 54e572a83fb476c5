-- A reading that is at a fault, and one that comes to the last place of a trace.
use Rattle.std.proofs.Common.{◌≡◌, ℕ, ◌<◌, List, [], ◌∷◌, ◌++◌, length, take, drop, Option, Some}
use Rattle.std.proofs.Common.{None, IsSome, refl, sym, ap, subst, ◌∙◌}
use Rattle.std.proofs.Common.{append_assoc, arith}
use Rattle.std.proofs.lemmas.List.{append-nil, take-append-drop}
use Rattle.std.proofs.Math.Seq.{take-append_seam}
use Rattle.trace_format.specs.declared.fault.TraceFault.{TraceFault}
use Rattle.trace_format.specs.declared.fault.TraceFault.TheVariants as faults
use Rattle.trace_format.specs.declared.record.TraceRecord.{TraceRecord}
use Rattle.trace_format.specs.Rules.{longest_trace}
use Rattle.trace_format.specs.Reading.{Reading, read_on, reading_of, taken, with_fault}
use Rattle.trace_format.specs.Laws.Reading.{read_on-append, read_on-fault, read_on-pieces}
use Rattle.trace_format.specs.Laws.Reading.{read_on-too_long, then_read}
use Rattle.trace_format.specs.ReaderStates.{AddsSome, HasRead, ReadsOn}

-- a fault stays
fault_stays : (r : Reading) (bytes : List ℕ) (f : Option TraceFault) → f ≡ r.fault → IsSome f
    → read_on r bytes ≡ ([], r)
fault_stays r bytes None is some = cc
fault_stays r bytes (Some fault) is some =
    let family : Option TraceFault
    → Type 0 = λ f. read_on (record {
      progress = r.progress;
      pending = r.pending;
      ending =
          r.ending;
      fault = f;
    }) bytes ≡
    ([], record { progress = r.progress; pending = r.pending; ending = r.ending; fault = f }) in
    subst family is (read_on-fault r.progress r.pending r.ending fault bytes)

pub stays : (r : Reading) (bytes : List ℕ) (items : List TraceRecord) → IsSome r.fault
    → ReadsOn r bytes r items items
stays r bytes items some =
    let same = fault_stays r bytes r.fault refl some in
    record {
      reading = sym (ap (λ (x : List TraceRecord × Reading). x.1) same);
      records = sym (append-nil items)
          ∙ ap (λ (x : List TraceRecord × Reading). items ++ x.0) (sym same);
    }

module _ (old new : Reading) (piece front back : List ℕ) (before after : List TraceRecord)
    (cut : piece ≡ front ++ back) where
  both : read_on old piece ≡ then_read (read_on old front) back
  both = ap (read_on old) cut ∙ read_on-append old front back

  -- what no more records follow
  ends_with : (last : Reading) → ReadsOn old front new before after → read_on new back ≡ ([], last)
      → ReadsOn old piece last before after
  ends_with last on rest =
      let at : read_on (read_on old front).1 back
      ≡ ([], last) = ap (λ (r : Reading). read_on r back) (sym on.reading) ∙ rest in
      let whole : read_on old piece ≡ ((read_on old front).0 ++ [], last) = both
      ∙ ap (λ (x : List TraceRecord × Reading). ((read_on old front).0 ++ x.0, x.1)) at in
      record {
        reading = sym (ap (λ (x : List TraceRecord × Reading). x.1) whole);
        records = on.records
            ∙ ap (λ (xs : List TraceRecord). before ++ xs) (sym (append-nil (read_on old front).0)
            ∙ sym (ap (λ (x : List TraceRecord × Reading). x.0) whole));
      }

  pub front_at_fault : IsSome new.fault → ReadsOn old front new before after
      → ReadsOn old piece new before after
  front_at_fault some on = ends_with new on (fault_stays new back new.fault refl some)

  -- one byte too many
  too_long : (back' : List ℕ) → back ≡ back' → 0 < length back' → new.fault ≡ None → taken new
      ≡ longest_trace
      → read_on new back ≡ ([], with_fault new faults.TooLong)
  too_long [] is some clean last = absurd (omega arith)
  too_long (b ∷ bytes) is some clean last =
      let family : Option TraceFault
      → Type 0 = λ f. read_on (record {
        progress = new.progress;
        pending = new.pending;
        ending =
            new.ending;
        fault = f;
      }) (b ∷ bytes) ≡
      ([], with_fault new faults.TooLong) in
      ap (read_on new) is ∙ subst family (sym clean)
      (read_on-too_long new.progress new.ending new.pending b bytes last)

  pub front_then_too_long : 0 < length back → new.fault ≡ None → taken new ≡ longest_trace
      → ReadsOn old front new before after
      → ReadsOn old piece (with_fault new faults.TooLong) before after
  front_then_too_long some clean last on = ends_with (with_fault new faults.TooLong) on
      (too_long back refl some clean last)

  pub some_of_front : AddsSome old front before after → AddsSome old piece before after
  some_of_front some =
      let first : List TraceRecord = (read_on old front).0 in
      let later : List TraceRecord = (read_on (read_on old front).1 back).0 in
      let part : List TraceRecord = take some.0 first in
      let whole : (read_on old piece).0 ≡ first ++ later =
      ap (λ (x : List TraceRecord × Reading). x.0) both in
      let split : first ++ later ≡ part ++ (drop some.0 first ++ later) =
      ap (λ (xs : List TraceRecord). xs ++ later)
      (sym (take-append-drop some.0 first))
      ∙ append_assoc part (drop some.0 first) later in
      let again : take (length part) (read_on old piece).0 ≡ part = ap (take (length part))
      (whole ∙ split)
      ∙ take-append_seam part (drop some.0 first ++ later) in
      (length part, some.1 ∙ ap (λ (xs : List TraceRecord). before ++ xs) (sym again))

-- what was read before, and a piece
pub piece_after : (bytes : List ℕ) (first : List TraceRecord) (old new : Reading) (piece : List ℕ)
    (before after : List TraceRecord)
    → HasRead bytes first old before → ReadsOn old piece new before after
    → HasRead (bytes ++ piece) first new after
piece_after bytes first old new piece before after has on =
    let whole : reading_of (bytes ++ piece) ≡ then_read (reading_of bytes) piece =
    read_on-pieces bytes piece in
    let same : read_on old piece ≡ read_on (reading_of bytes).1 piece =
    ap (λ (r : Reading). read_on r piece) has.reading in
    record {
      reading = on.reading ∙ ap (λ (x : List TraceRecord × Reading). x.1) same
          ∙ sym (ap (λ (x : List TraceRecord × Reading). x.1) whole);
      records = on.records ∙ ap (λ (x : List TraceRecord × Reading). before ++ x.0) same
          ∙ ap (λ (xs : List TraceRecord). xs ++ (read_on (reading_of bytes).1 piece).0) has.records
          ∙ append_assoc first (reading_of bytes).0 (read_on (reading_of bytes).1 piece).0
          ∙ ap (λ (xs : List TraceRecord). first ++ xs)
          (sym (ap (λ (x : List TraceRecord × Reading). x.0) whole));
    }
