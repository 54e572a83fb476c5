-- How a trace that is filtered is refused, and which bytes it has then.
use Rattle.std.proofs.Common.{◌≡◌, ◌++◌, ℕ, List, Bool, true, false, eqb, Option, Some, None}
use Rattle.std.proofs.Common.{Result, Ok, Err, refl, sym, ap, ◌∙◌, subst, cond}
use Rattle.std.specs.Option.{option_or}
use Rattle.shelf.specs.Files.{AreWritten}
use Rattle.shelf.specs.Shelf.{Files, HasRead, Outside, Known, content}
use Rattle.trace_format.specs.declared.fault.TraceFault.{TraceFault}
use Rattle.trace_format.specs.declared.record.Header.{Header}
use Rattle.trace_format.specs.declared.record.TraceEnd.{TraceEnd}
use Rattle.trace_format.specs.declared.record.TraceRecord.{TraceRecord}
use Rattle.trace_format.specs.declared.record.Version.{Version}
use Rattle.trace_format.specs.declared.record.Version.TheVariants.{One, Two, Three, Four}
use Rattle.trace_format.specs.Reading.{ending_of, reading_of}
use Rattle.trace_passes.specs.declared.wanted.Refusal.{Refusal}
use Rattle.trace_passes.specs.declared.wanted.Refusal.TheVariants as refusals
use Rattle.trace_passes.specs.Cursors.{HasStopped, Reached, version_and_header}
use Rattle.trace_passes.specs.Passes.{head_of, header_refusal, pcs_refusal, refusal_of}
use Rattle.trace_passes.specs.Passes.{trace_refusal, version_refusal}
use Rattle.trace_format.specs.Judging.{version_at}
use Rattle.trace_files.specs.Copies.{any}
use Rattle.trace_filter.specs.FilterPass.{IsOnItsWay, IsRefused, begun_for, early_refusal, is_fault}
use Rattle.trace_filter.specs.FilterPass.{sited, so_far, wanted_next}
use Rattle.trace_filter.specs.declared.filter_file.FilterFile.{FilterFile}
use Rattle.trace_filter.proofs.OnItsWay.{none_written, under}
use Rattle.trace_filter.proofs.Sited.{IsSited, is_trace_fault, same_refusal, still_sited}

-- ---- a fault of the trace

no_fault_version : (v : Option Version) (f : TraceFault)
    → version_refusal true v ≡ Some (refusals.Trace f) → ⊥
no_fault_version None f is = cc
no_fault_version (Some One) f is = cc
no_fault_version (Some Two) f is = cc
no_fault_version (Some Three) f is = cc
no_fault_version (Some Four) f is = cc

no_fault_near : (b : Bool) (f : TraceFault)
    → option_or (cond b None (Some refusals.Filtered)) None ≡ Some (refusals.Trace f) → ⊥
no_fault_near true f is = cc
no_fault_near false f is = cc

no_fault_header : (h : Option Header) (f : TraceFault)
    → header_refusal sited h ≡ Some (refusals.Trace f) → ⊥
no_fault_header None f is = cc
no_fault_header (Some h) f is = no_fault_near (eqb h.near 0) f is

later_one : (a b : Option Refusal) (x : Refusal) → (a ≡ Some x → ⊥) → option_or a b ≡ Some x
    → (a ≡ None) × (b ≡ Some x)
later_one None b x differs is = (refl, is)
later_one (Some y) b x differs is = absurd (differs is)

fault_sited : (bytes : List ℕ) (f : TraceFault) → refusal_of sited bytes ≡ Some (refusals.Trace f)
    → IsSited bytes
fault_sited bytes f is =
    let now = (reading_of bytes).1 in
    let first = later_one (pcs_refusal sited bytes)
    (option_or (header_refusal sited (head_of now.progress)) (trace_refusal (ending_of now)))
    (refusals.Trace f) (no_fault_version (version_at bytes) f) is in
    let then = later_one (header_refusal sited (head_of now.progress)) (trace_refusal (ending_of now))
    (refusals.Trace f) (no_fault_header (head_of now.progress) f) first.1 in
    record { pcs = first.0; header = then.0 }

-- all bytes of a trace that has a fault
pub record HasFault (held : Option Files) (name bytes : List ℕ) (refusal : Refusal) (now : Reached) :
    Type 0 where
  pub all : List ℕ
  pub behind : (more : List ℕ) × (all ≡ bytes ++ more)
  pub whole : Known held (λ files. all ≡ content files name)
  pub good : IsSited all
  pub refused : refusal_of sited all ≡ Some refusal
  pub reading : now.reading ≡ (reading_of all).1
  pub records : (reading_of all).0 ≡ (reading_of bytes).0 ++ now.items

fault_of : (held : Option Files) (name bytes : List ℕ) (f : TraceFault) (now : Reached)
    → HasStopped held name sited bytes (refusals.Trace f) now
    → HasFault held name bytes (refusals.Trace f) now
fault_of held name bytes f now stopped = record {
  all = stopped.all;
  behind = stopped.behind;
  whole = stopped.whole;
  good = fault_sited stopped.all f stopped.refused;
  refused = stopped.refused;
  reading = stopped.reading;
  records = stopped.records;
}

fault_behind : (held : Option Files) (name bytes : List ℕ) (f : TraceFault) (now : Reached)
    (h : Version × Header) → version_and_header (reading_of bytes).1.progress ≡ Some h
    → IsSited bytes → HasStopped held name any bytes (refusals.Trace f) now
    → HasFault held name bytes (refusals.Trace f) now
fault_behind held name bytes f now h is good stopped =
    let all : IsSited stopped.all =
    subst IsSited (sym stopped.behind.1) (still_sited bytes stopped.behind.0 h is good) in
    record {
      all = stopped.all;
      behind = stopped.behind;
      whole = stopped.whole;
      good = all;
      refused = sym (same_refusal stopped.all all) ∙ stopped.refused;
      reading = stopped.reading;
      records = stopped.records;
    }

pub has_fault : (k : ℕ) (file : List ℕ) (held : Option Files) (name bytes : List ℕ)
    (begun : Option FilterFile) (f : TraceFault) (now : Reached) (old mid : Outside) → IsSited bytes
    → IsOnItsWay k file begun (version_and_header (reading_of bytes).1.progress) (reading_of bytes).0
    old mid
    → HasStopped held name (wanted_next begun) bytes (refusals.Trace f) now
    → HasFault held name bytes (refusals.Trace f) now
has_fault k file held name bytes None f now old mid good way stopped =
    fault_of held name bytes f now stopped
has_fault k file held name bytes (Some g) f now old mid good way stopped =
    let u = under k file (Some g) g (version_and_header (reading_of bytes).1.progress)
    (reading_of bytes).0 old mid refl way in
    fault_behind held name bytes f now u.0 u.1 good stopped

pub fault_in : (refusal : Refusal) → is_fault refusal ≡ true
    → (f : TraceFault) × (refusal ≡ refusals.Trace f)
fault_in (refusals.Trace f) is = (f, refl)
fault_in refusals.NoPcs is = absurd cc
fault_in refusals.Filtered is = absurd cc
fault_in refusals.TooWide is = absurd cc
fault_in refusals.Harts is = absurd cc
fault_in (refusals.Position saved first) is = absurd cc

-- ---- any other refusal

early_of : (a b : Option Refusal) (r : Result TraceEnd TraceFault) (refusal : Refusal)
    → is_fault refusal ≡ false → option_or a (option_or b (trace_refusal r)) ≡ Some refusal
    → option_or a b ≡ Some refusal
early_of (Some x) b r refusal other is = is
early_of None (Some y) r refusal other is = is
early_of None None (Ok e) refusal other is = absurd cc
early_of None None (Err f) refusal other is =
    let same : refusals.Trace f ≡ refusal = some_one is in
    let both : true ≡ false = ap is_fault same ∙ other in
    absurd cc
  where
    some_one : {x y : Refusal} → Some x ≡ Some y → x ≡ y
    some_one e = cc

early_bytes : (held : Option Files) (name : List ℕ) (refusal : Refusal)
    → Known held (λ fs. refusal_of sited (content fs name) ≡ Some refusal)
    → (b : List ℕ) × (refusal_of sited b ≡ Some refusal)
    → (bytes : List ℕ) × Known held (λ fs. bytes ≡ content fs name)
    × (refusal_of sited bytes ≡ Some refusal)
early_bytes None name refusal stated found = (found.0, tt, found.1)
early_bytes (Some fs) name refusal stated found = (content fs name, refl, stated)

-- nothing is written then
early_refused : (k : ℕ) (held : Option Files) (name file : List ℕ) (refusal : Refusal)
    (old now : Outside) → is_fault refusal ≡ false
    → Known held (λ fs. refusal_of sited (content fs name) ≡ Some refusal)
    → (b : List ℕ) × (refusal_of sited b ≡ Some refusal) → HasRead old now
    → IsRefused held name file k old now refusal
early_refused k held name file refusal old now other stated found read =
    let bytes = early_bytes held name refusal stated found in
    let r = reading_of bytes.0 in
    let early : early_refusal bytes.0 ≡ Some refusal =
    early_of (pcs_refusal sited bytes.0) (header_refusal sited (head_of r.1.progress))
    (ending_of r.1) refusal other bytes.2 in
    record {
      bytes = bytes.0;
      whole = bytes.1;
      refused = bytes.2;
      written = subst (λ (o : Option Refusal). AreWritten
          (so_far k file (begun_for o (version_and_header r.1.progress)) r.0) old now) (sym early)
          (none_written old now read);
    }

read_there : (k : ℕ) (name : List ℕ) (head : Option (Version × Header)) (seen : List TraceRecord)
    (old now : Outside) → IsOnItsWay k name None head seen old now → HasRead old now
read_there k name None seen old now way = way
read_there k name (Some h) seen old now way = absurd way

pub other_refused : (k : ℕ) (held : Option Files) (name file : List ℕ) (begun : Option FilterFile)
    (head : Option (Version × Header)) (seen : List TraceRecord) (refusal : Refusal)
    (old now : Outside) → is_fault refusal ≡ false
    → IsOnItsWay k file begun head seen old now
    → Known held (λ fs. refusal_of (wanted_next begun) (content fs name) ≡ Some refusal)
    → (b : List ℕ) × (refusal_of (wanted_next begun) b ≡ Some refusal)
    → IsRefused held name file k old now refusal
other_refused k held name file None head seen refusal old now other way stated found =
    early_refused k held name file refusal old now other stated found
    (read_there k file head seen old now way)
other_refused k held name file (Some g) head seen refusal old now other way stated found =
    let fault = is_trace_fault found.0 refusal found.1 in
    let both : true ≡ false = ap is_fault (sym fault.1) ∙ other in
    absurd cc
