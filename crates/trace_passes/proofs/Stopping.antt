-- What is said of a trace that has a fault.
use Rattle.std.proofs.Common.{◌≡◌, ℕ, List, [], ◌++◌, drop, length, Option, Some, None, refl, sym, ap, ◌∙◌}
use Rattle.std.proofs.Common.{append_assoc, subst}
use Rattle.std.proofs.lemmas.List.{append-nil}
use Rattle.shelf.specs.Shelf.{Files, Known, content}
use Rattle.shelf.specs.Fetch.{IsFront}
use Rattle.trace_format.specs.declared.fault.TraceFault.{TraceFault}
use Rattle.trace_format.specs.declared.record.TraceRecord.{TraceRecord}
use Rattle.trace_format.specs.Reading.{Reading, ending_of, read_on, reading_of}
use Rattle.trace_format.specs.Laws.Reading.{read_on-fault, read_on-pieces}
use Rattle.trace_passes.specs.declared.wanted.Refusal.{Refusal}
use Rattle.trace_passes.specs.declared.wanted.Refusal.TheVariants as refusals
use Rattle.trace_passes.specs.declared.wanted.Wanted.{Wanted}
use Rattle.trace_passes.specs.Passes.{head_of, header_refusal, refusal_of, trace_refusal}
use Rattle.trace_passes.specs.Cursors.{HasStopped, IsRead, Reached, StopsIn}
use Rattle.trace_passes.specs.Laws.Passes.{fault_stays, refusal_at_end}
use Rattle.trace_passes.proofs.Fronts.{behind_front}

-- after a fault no more records come
none_more : (r : Reading) (bytes : List ℕ) (f : Option TraceFault) (fault : TraceFault)
    → r.fault ≡ f → f ≡ Some fault → (read_on r bytes).0 ≡ []
none_more r bytes None fault is e = absurd cc
none_more r bytes (Some g) fault is e =
    let family : Option TraceFault → Type 0 =
    λ f. (let now : Reading = record {
      progress = r.progress;
      pending = r.pending;
      ending = r.ending;
      fault = f;
    } in
    (read_on now bytes).0 ≡ []) in
    subst family (sym is)
    (ap (λ (x : List TraceRecord × Reading). x.0)
    (read_on-fault r.progress r.pending r.ending g bytes))

records_stay : (bytes more : List ℕ) (fault : TraceFault)
    → (reading_of bytes).1.fault ≡ Some fault
    → (reading_of (bytes ++ more)).0 ≡ (reading_of bytes).0
records_stay bytes more fault e =
    let r = (reading_of bytes).1 in
    ap (λ (x : List TraceRecord × Reading). x.0) (read_on-pieces bytes more)
    ∙ ap (λ (l : List TraceRecord). (reading_of bytes).0 ++ l)
    (none_more r more r.fault fault refl e)
    ∙ append-nil (reading_of bytes).0

behind_both : (bytes piece rest front : List ℕ) → front ≡ bytes ++ piece
    → (more : List ℕ) × (front ++ rest ≡ bytes ++ more)
behind_both bytes piece rest front is =
    (piece ++ rest, ap (λ (l : List ℕ). l ++ rest) is ∙ append_assoc bytes piece rest)

-- within a piece
pub stopped_piece : (held : Option Files) (name bytes front piece : List ℕ) (w : Wanted)
    (fault : TraceFault) (now : Reached) → front ≡ bytes ++ piece
    → Known held (λ files. IsFront (content files name) front)
    → StopsIn front bytes fault now.reading now.items
    → ((more : List ℕ) → refusal_of w (front ++ more) ≡ Some (refusals.Trace fault))
    → HasStopped held name w bytes (refusals.Trace fault) now
stopped_piece None name bytes front piece w fault now two is stops refused = record {
  all = front ++ [];
  behind = behind_both bytes piece [] front two;
  whole = tt;
  refused = refused [];
  reading = stops.reading
      ∙ sym (fault_stays front [] fault (ap (λ (r : Reading). r.fault) (sym stops.reading)
      ∙ stops.fault_there));
  records = records_stay front [] fault (ap (λ (r : Reading). r.fault) (sym stops.reading)
      ∙ stops.fault_there) ∙ stops.records;
}
stopped_piece (Some files) name bytes front piece w fault now two is stops refused =
    let rest = drop (length front) (content files name) in
    let there = ap (λ (r : Reading). r.fault) (sym stops.reading) ∙ stops.fault_there in
    record {
      all = front ++ rest;
      behind = behind_both bytes piece rest front two;
      whole = behind_front (content files name) front is;
      refused = refused rest;
      reading = stops.reading ∙ sym (fault_stays front rest fault there);
      records = records_stay front rest fault there ∙ stops.records;
    }

-- at the end of the bytes
pub stopped_end : (held : Option Files) (name bytes : List ℕ) (w : Wanted) (x : Refusal)
    (now : Reached) → Known held (λ files. bytes ≡ content files name)
    → IsRead w bytes now.reading → now.items ≡ []
    → trace_refusal (ending_of now.reading) ≡ Some x
    → HasStopped held name w bytes x now
stopped_end held name bytes w x now whole read none e = record {
  all = bytes;
  behind = ([], sym (append-nil bytes));
  whole = whole;
  refused = refusal_at_end w bytes read.sited
      (ap (λ (r : Reading). header_refusal w (head_of r.progress)) (sym read.reading)
      ∙ read.unrefused)
      ∙ ap (λ (r : Reading). trace_refusal (ending_of r)) (sym read.reading) ∙ e;
  reading = read.reading;
  records = sym (ap (λ (l : List TraceRecord). (reading_of bytes).0 ++ l) none
      ∙ append-nil (reading_of bytes).0);
}
