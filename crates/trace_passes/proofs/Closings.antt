-- What is said once no more bytes are there.
use Rattle.std.proofs.Common.{◌≡◌, ℕ, List, Option, Some, None, Ok, sym, ap, subst, ◌∙◌}
use Rattle.shelf.specs.Shelf.{Files, Known, content}
use Rattle.shelf.specs.Laws.Known.{known_map}
use Rattle.trace_format.specs.declared.read_so_far.ReadSoFar.{ReadSoFar}
use Rattle.trace_format.specs.declared.record.TraceRecord.{TraceRecord}
use Rattle.trace_format.specs.Reading.{Reading, ending_of, reading_of}
use Rattle.trace_format.specs.Rules.{IsGoodHeader}
use Rattle.shelf.specs.Agreeing.{HasShown}
use Rattle.shelf.specs.Laws.Agreeing.{shown_then}
use Rattle.shelf.specs.Shelf.{Given}
use Rattle.trace_passes.specs.declared.passes.Passed.{Passed}
use Rattle.trace_passes.specs.declared.wanted.Refusal.{Refusal}
use Rattle.trace_passes.specs.declared.wanted.Wanted.{Wanted}
use Rattle.trace_format.specs.declared.record.Header.{Header}
use Rattle.trace_passes.specs.Passes.{HasParts, HasPassed, HasPcs, IsWanted, before_last, head_of}
use Rattle.trace_passes.specs.Passes.{near_refusal}
use Rattle.trace_passes.specs.Passes.{header_refusal, refusal_of, trace_of, trace_refusal, trace_with}
use Rattle.trace_format.specs.Laws.Counts.{counted_so_far}
use Rattle.trace_passes.specs.Laws.Passes.{accepted_at_end, is_near, is_sited, is_wanted}
use Rattle.trace_passes.specs.Laws.Passes.{refusal_at_end, trace-records, trace_there}
use Rattle.trace_passes.specs.Cursors.{HasEnded, IsHeadOf, IsRead}

-- how the bytes are refused at their end
pub refused_bytes : (w : Wanted) (now : Reading) (bytes : List ℕ) → IsRead w bytes now
    → (x : Refusal) → trace_refusal (ending_of now) ≡ Some x → refusal_of w bytes ≡ Some x
refused_bytes w now bytes read x e =
    refusal_at_end w bytes read.sited
    (ap (λ (r : Reading). header_refusal w (head_of r.progress)) (sym read.reading)
    ∙ read.unrefused)
    ∙ ap (λ (r : Reading). trace_refusal (ending_of r)) (sym read.reading) ∙ e

module _ (held : Option Files) (name : List ℕ) (w : Wanted) (now : Reading) (bytes : List ℕ)
    (read : IsRead w bytes now)
    (whole : Known held (λ files. bytes ≡ content files name))
  where
    unrefused : header_refusal w (head_of (reading_of bytes).1.progress) ≡ None
    unrefused = ap (λ (r : Reading). header_refusal w (head_of r.progress)) (sym read.reading)
        ∙ read.unrefused

    known_head : (passed : Passed) (head : IsHeadOf now.progress passed)
        → (reading_of bytes).1.progress ≡ Some head.now
    known_head passed head = ap (λ (r : Reading). r.progress) (sym read.reading) ∙ head.known

    pub ended : (passed : Passed) → ending_of now ≡ Ok passed.ending → IsHeadOf now.progress passed
        → HasEnded held name w bytes passed
    ended passed end head =
        let known = known_head passed head in
        let there = trace_there bytes head.now passed.ending known
        (ap ending_of (sym read.reading) ∙ end) in
        let good = (counted_so_far bytes head.now known).header in
        let wanted = is_wanted w head.now.header
        (ap (λ (p : Option ReadSoFar). header_refusal w (head_of p)) (sym known) ∙ unrefused) in
        record {
          whole = whole;
          items = before_last (reading_of bytes).0;
          is = there
              ∙ (λ i. Some (record {
                version = sym head.version i;
                header = sym head.header i;
                items = before_last (reading_of bytes).0;
                ending = passed.ending;
              }));
          header = subst IsGoodHeader (sym head.header) good;
          wanted = subst (IsWanted w) (sym head.header) wanted;
          sited = λ is. subst HasPcs (sym head.version) (is_sited w bytes head.now read.sited known
              is);
          near = ap (λ (h : Header). near_refusal w.lines h.near) head.header
              ∙ is_near w head.now.header
              (ap (λ (p : Option ReadSoFar). header_refusal w (head_of p)) (sym known) ∙ unrefused);
          accepted = accepted_at_end w bytes passed.ending read.sited unrefused
              (ap ending_of (sym read.reading) ∙ end);
        }

    -- what the bytes end with is why the file is refused
    pub refused_end : (x : Refusal) → trace_refusal (ending_of now) ≡ Some x
        → Known held (λ files. refusal_of w (content files name) ≡ Some x)
    refused_end x e =
        known_map held (λ files same. ap (refusal_of w) (sym same)
        ∙ refused_bytes w now bytes read x e) whole

-- the observer was given all records of the trace
pub has_passed : (held : Option Files) (name : List ℕ) (w : Wanted) (bytes : List ℕ)
    (passed : Passed)
    (given : List TraceRecord → Type 0) → HasEnded held name w bytes passed
    → given (reading_of bytes).0
    → HasPassed held name passed given
has_passed held name w bytes passed given ended saw =
    record {
      bytes = bytes;
      whole = ended.whole;
      items = ended.items;
      is = ended.is;
      saw = subst given (trace-records bytes (trace_with passed ended.items) ended.is) saw;
    }

pub accepted_then : (held : Option Files) (name : List ℕ) (w : Wanted) (bytes : List ℕ)
    (passed : Passed)
    → HasEnded held name w bytes passed → Known held (λ files. refusal_of w (content files name)
    ≡ None)
accepted_then held name w bytes passed ended =
    known_map held (λ files same. ap (refusal_of w) (sym same) ∙ ended.accepted) ended.whole

-- the reads have shown that the name's file is such a trace
pub shown_trace : (held : Option Files) (name : List ℕ) (w : Wanted) (bytes : List ℕ)
    (passed : Passed) (before now : List Given) → HasEnded held name w bytes passed
    → HasShown name (λ file. bytes ≡ file) before now
    → HasShown name (HasParts passed) before now
shown_trace held name w bytes passed before now ended shown =
    shown_then name (λ file. bytes ≡ file) (HasParts passed) before now
    (λ file same. (ended.items, ap trace_of (sym same) ∙ ended.is)) shown
