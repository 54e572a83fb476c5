-- What stands where a filtered trace gives up, and that it is whole where it doesn't.
use Rattle.std.proofs.Common.{◌≡◌, ◌≢◌, ◌≤◌, ℕ, List, [], ◌∷◌, ◌++◌, length, drop, Option}
use Rattle.std.proofs.Common.{Some, None, Err, inl, inr, refl, sym, ap, ◌∙◌, subst, arith}
use Rattle.std.proofs.Common.{append-nil, append_assoc}
use Rattle.std.proofs.Math.Seq.{take-length}
use Rattle.std.proofs.lemmas.List.Elements.{filter_map-append}
use Rattle.std.proofs.lemmas.Bool.{cases_Bool}
use Rattle.std.proofs.lemmas.Slice.Eq.{bytes_eq-Decides}
use Rattle.std.specs.Option.{option_or}
use Rattle.std.specs.Str.{bytes_eq}
use Rattle.shelf.specs.Laws.Files.{output_names}
use Rattle.shelf.specs.OneFile.{Waiting}
use Rattle.shelf.specs.OnTheirWay.{IsNew, IsOutputs}
use Rattle.shelf.specs.declared.shelf.ShelfError.{ShelfError}
use Rattle.shelf.specs.declared.shelf.ShelfError.TheVariants as errors
use Rattle.shelf.specs.Fetch.{IsFront}
use Rattle.shelf.specs.Files.{AreCut, AreWhole, AreWritten, BegunInOrder, GoOn, IsFrontOf, Output}
use Rattle.shelf.specs.Files.{RoseAmong, bytes_for, one_file}
use Rattle.shelf.specs.Laws.Files.{AreCut-longer, BegunInOrder-others, IsOutputs-cut}
use Rattle.shelf.specs.Laws.Known.{goes_map, narrows_then, known_map}
use Rattle.shelf.specs.Shelf.{Files, Goes, Narrows, OnlyReads, Outside, Rose, Known, content}
use Rattle.trace_format.specs.declared.fault.TraceFault.TheVariants as trace_faults
use Rattle.trace_format.specs.declared.record.Header.{Header}
use Rattle.trace_format.specs.declared.record.TraceEnd.{TraceEnd}
use Rattle.trace_format.specs.declared.record.TraceRecord.{TraceRecord}
use Rattle.trace_format.specs.declared.record.TraceRecord.TheVariants as records
use Rattle.trace_format.specs.declared.record.Version.{Version}
use Rattle.trace_format.specs.declared.record.Version.TheVariants.{Four}
use Rattle.trace_format.specs.Laws.Writing.{begun-all, begun-append}
use Rattle.trace_format.specs.Reading.{ending_of, reading_of}
use Rattle.trace_format.specs.Rules.{touch_in, touches_in}
use Rattle.trace_format.specs.Spelling.{nothing_before, spell_records}
use Rattle.trace_format.specs.Writing.{before_behind, begun_with}
use Rattle.trace_passes.specs.declared.passes.PassFault.{PassFault}
use Rattle.trace_passes.specs.declared.passes.PassFault.TheVariants as passes
use Rattle.trace_passes.specs.declared.wanted.Refusal.{Refusal}
use Rattle.trace_passes.specs.declared.wanted.Refusal.TheVariants as refusals
use Rattle.trace_passes.specs.Cursors.{version_and_header}
use Rattle.trace_passes.specs.Laws.Passes.{trace-records}
use Rattle.trace_passes.specs.Passes.{HasPassCause, Trace, refusal_of, trace_of}
use Rattle.trace_filter.specs.Files.{filtered_so_far}
use Rattle.trace_filter.specs.FilterPass.{HasFilterCause, HasGivenUp, IsCutAt, IsRefused, begun_for}
use Rattle.trace_filter.specs.FilterPass.{early_refusal, filtering, sited, so_far, write_fault}
use Rattle.trace_filter.specs.FilterPass.{written_of}
use Rattle.trace_filter.specs.Filtering.{filtered_end, filtered_header, filtered_items}
use Rattle.trace_filter.specs.declared.filter_fault.FilterFault.{FilterFault}
use Rattle.trace_filter.specs.declared.filter_fault.FilterFault.TheVariants as faults
use Rattle.trace_filter.proofs.FilterLaws.{filtered_items-push}
use Rattle.trace_filter.proofs.OnItsWay.{items_on}
use Rattle.trace_filter.proofs.Sited.{IsSited, front_first, front_whole, header_stays, not_early}
use Rattle.trace_filter.proofs.Sited.{still_sited, trace_head}

-- ---- who is the cause

same_at : (f g : List ℕ → ℕ) (n : List ℕ) → g ≡ f → f n ≤ g n
same_at f g n same = let at : g n ≡ f n = ap (λ (h : List ℕ → ℕ). h n) same in omega arith

rose_one : (k : ℕ) (file : List ℕ) (head : Option (Version × Header))
    (put : List TraceRecord) (b n : List ℕ → ℕ)
    → RoseAmong (so_far k file head put) b n → Rose (b file) (n file)
rose_one k file None put b n rose = absurd rose
rose_one k file (Some h) put b n (inl rose) = rose
rose_one k file (Some h) put b n (inr rose) = absurd rose

pub quiet_cause : (trace file : List ℕ) (before now : Outside) (fault : FilterFault)
    → fault ≢ faults.ReadFault → fault ≢ faults.WriteFault
    → now.read_faults ≡ before.read_faults → now.write_faults ≡ before.write_faults
    → HasFilterCause trace file before now fault
quiet_cause trace file before now fault no_read no_write reads writes = record {
  reads = λ n. same_at before.read_faults now.read_faults n reads;
  writes = λ n. same_at before.write_faults now.write_faults n writes;
  read_failed = λ e. absurd (no_read e);
  write_failed = λ e. absurd (no_write e);
  read_quiet = λ e. reads;
  write_quiet = λ e. writes;
}

pub write_cause : (k : ℕ) (trace file : List ℕ) (head : Option (Version × Header))
    (put : List TraceRecord) (before now : Outside) (error : ShelfError)
    → AreCut (so_far k file head put) before now error
    → HasFilterCause trace file before now (write_fault error)
write_cause k trace file head put before now errors.Failed cut = record {
  reads = λ n. same_at before.read_faults now.read_faults n cut.only.read_faults;
  writes = cut.cause.later;
  read_failed = λ e. absurd cc;
  write_failed = λ e. rose_one k file head put before.write_faults now.write_faults
      (cut.cause.failed refl);
  read_quiet = λ e. cut.only.read_faults;
  write_quiet = λ e. absurd (e refl);
}
write_cause k trace file head put before now errors.NoMemory cut =
    quiet_cause trace file before now faults.NoMemory (λ e. cc) (λ e. cc) cut.only.read_faults
    (cut.cause.quiet (λ e. cc))

-- what is answered for a fault of a call that reads
abbrev pub read_fault : PassFault → FilterFault
read_fault (passes.Refused refusal) = faults.Refused refusal
read_fault passes.ReadFault = faults.ReadFault
read_fault passes.NoMemory = faults.NoMemory

pub reading_cause : {T : Type 0} (trace file : List ℕ) (before mid now : Outside)
    (fault : PassFault) → HasPassCause {T = T} trace mid now (Err fault)
    → mid.read_faults ≡ before.read_faults → now.write_faults ≡ before.write_faults
    → HasFilterCause trace file before now (read_fault fault)
reading_cause trace file before mid now (passes.Refused refusal) cause reads writes =
    quiet_cause trace file before now (faults.Refused refusal) (λ e. cc) (λ e. cc)
    (cause.quiet (λ e. cc) ∙ reads) writes
reading_cause trace file before mid now passes.NoMemory cause reads writes =
    quiet_cause trace file before now faults.NoMemory (λ e. cc) (λ e. cc)
    (cause.quiet (λ e. cc) ∙ reads) writes
reading_cause trace file before mid now passes.ReadFault cause reads writes = record {
  reads = subst (λ (f : List ℕ → ℕ). (n : List ℕ) → f n ≤ now.read_faults n) reads cause.later;
  writes = λ n. same_at before.write_faults now.write_faults n writes;
  read_failed = λ e. subst (λ (f : List ℕ → ℕ). Rose (f trace) (now.read_faults trace)) reads
      (cause.failed refl);
  write_failed = λ e. absurd cc;
  read_quiet = λ e. absurd (e refl);
  write_quiet = λ e. writes;
}

-- ---- what is written goes on to what is written of the bytes

one_on : (k : ℕ) (file : List ℕ) (h : Header) (put rest : List TraceRecord)
    → GoOn (filtered_so_far k file h put) (filtered_so_far k file h (put ++ rest))
one_on k file h put rest =
    let more = items_on k put rest in (
      refl,
      (
        spell_records Four (before_behind nothing_before (filtered_items k put)) more.0,
        ap (begun_with Four (filtered_header k h)) more.1
            ∙ begun-append Four (filtered_header k h) (filtered_items k put) more.0,
      ),
      tt,
    )

go_head : (k : ℕ) (file : List ℕ) (known now : Option (Version × Header))
    (put rest all : List TraceRecord)
    → ((h : Version × Header) → known ≡ Some h → now ≡ Some h) → all ≡ put ++ rest
    → GoOn (so_far k file known put) (so_far k file now all)
go_head k file None now put rest all stays is = tt
go_head k file (Some h) now put rest all stays is =
    subst (λ (o : Option (Version × Header)). GoOn (so_far k file (Some h) put)
    (so_far k file o all)) (sym (stays h refl))
    (subst (λ (l : List TraceRecord). GoOn (filtered_so_far k file h.1 put)
    (filtered_so_far k file h.1 l)) (sym is) (one_on k file h.1 put rest))

-- the header that more bytes begin a file for
begun_same : (all bytes : List ℕ) (h : Version × Header) → IsFront all bytes → IsSited bytes
    → version_and_header (reading_of bytes).1.progress ≡ Some h
    → begun_for (early_refusal all) (version_and_header (reading_of all).1.progress) ≡ Some h
begun_same all bytes h front good is =
    let rest = drop (length bytes) all in
    let on : begun_for (early_refusal (bytes ++ rest))
    (version_and_header (reading_of (bytes ++ rest)).1.progress) ≡ Some h =
    ap (λ (o : Option Refusal). begun_for o
    (version_and_header (reading_of (bytes ++ rest)).1.progress))
    (not_early (bytes ++ rest) (still_sited bytes rest h is good))
    ∙ header_stays bytes rest h is in
    ap (λ (l : List ℕ). begun_for (early_refusal l) (version_and_header (reading_of l).1.progress))
    (front_whole all bytes front) ∙ on

go_all : (k : ℕ) (file all bytes : List ℕ) (put more : List TraceRecord)
    → IsFront all bytes → IsSited bytes → (reading_of bytes).0 ≡ put ++ more
    → GoOn (so_far k file (version_and_header (reading_of bytes).1.progress) put)
    (written_of k file all)
go_all k file all bytes put more front good is =
    let first = front_first all bytes front in
    go_head k file (version_and_header (reading_of bytes).1.progress)
    (begun_for (early_refusal all) (version_and_header (reading_of all).1.progress)) put
    (more ++ first.0) (reading_of all).0 (λ h. begun_same all bytes h front good)
    (first.1 ∙ ap (λ (l : List TraceRecord). l ++ first.0) is ∙ append_assoc put more first.0)

-- ---- what is whole is also begun

front_of_whole : (o b n : Option (List ℕ)) → n ≡ option_or o b → IsFrontOf o b n
front_of_whole None b n is = is
front_of_whole (Some bytes) b n is =
    (length bytes, is ∙ ap (λ (l : List ℕ). Some l) (sym (take-length bytes)))

whole_begun : (outputs : List Output) (b n : Files) → AreWhole outputs b n
    → BegunInOrder outputs b n
whole_begun outputs b n whole = (
  length outputs,
  λ name. rw (take-length outputs)
      (front_of_whole (bytes_for outputs name) (b name) (n name) (whole name)),
)

pub whole_cut : (outputs : List Output) (before now : Outside) → AreWritten outputs before now
    → AreCut outputs before now errors.NoMemory
whole_cut outputs before now written = record {
  begun = goes_map before.written now.written (whole_begun outputs) written.whole;
  cause = record {
    later = λ n. same_at before.write_faults now.write_faults n written.faults;
    failed = λ e. absurd cc;
    quiet = λ e. written.faults;
  };
  only = written.only;
}

pub refusal_same : (a b : Refusal) → faults.Refused a ≡ faults.Refused b → a ≡ b
refusal_same a b e = cc

pub other_same : (held : Option Files) (trace file : List ℕ) (k : ℕ) (before now : Outside)
    (refusal : Refusal) → IsRefused held trace file k before now refusal
    → (r : Refusal) → faults.Refused refusal ≡ faults.Refused r
    → IsRefused held trace file k before now r
other_same held trace file k before now refusal is r e =
    subst (λ (x : Refusal). IsRefused held trace file k before now x) (refusal_same refusal r e) is

-- ---- it gives up

none_named : (outputs : List Output) (name : List ℕ) → IsNew name (output_names outputs)
    → bytes_for outputs name ≡ None
none_named [] name new = refl
none_named (o ∷ outputs) name new =
    elim (cases_Bool (bytes_eq o.name name)) [
      | inl is ↦ absurd (new.0 ((bytes_eq-Decides o.name name).0 is))
      | inr is ↦ rw is (none_named outputs name new.1)
    ]

new_name : (k : ℕ) (file : List ℕ) (head : Option (Version × Header)) (put : List TraceRecord)
    (n : List ℕ) → n ≢ file → IsNew n (output_names (so_far k file head put))
new_name k file None put n other = tt
new_name k file (Some h) put n other = (λ e. other (sym e), tt)

none_for : (k : ℕ) (file : List ℕ) (head : Option (Version × Header)) (put : List TraceRecord)
    (n : List ℕ) → n ≢ file → bytes_for (so_far k file head put) n ≡ None
none_for k file head put n other =
    none_named (so_far k file head put) n (new_name k file head put n other)

module _ (held : Option Files) (trace file : List ℕ) (k : ℕ) (bytes : List ℕ)
    (front : Known held (λ fs. IsFront (content fs trace) bytes)) (good : IsSited bytes)
  where
    abbrev pub head : Option (Version × Header)
    head = version_and_header (reading_of bytes).1.progress

    -- some records were put, the file was cut, and only reads came then
    pub gives_up : (put more : List TraceRecord) (before last now : Outside) (error : ShelfError)
        (fault : FilterFault) → (reading_of bytes).0 ≡ put ++ more
        → AreCut (so_far k file head put) before last error
        → now.written ≡ last.written → HasFilterCause trace file before now fault
        → Narrows before.held now.held → now.printed ≡ before.printed
        → now.print_faults ≡ before.print_faults
        → ((refusal : Refusal) → fault ≡ faults.Refused refusal
        → IsRefused held trace file k before now refusal)
        → fault ≢ faults.Refused (refusals.Trace trace_faults.NoMemory)
        → HasGivenUp held trace file k before now fault
    gives_up put more before last now error fault is cut written cause narrow printed prints refused
        memory =
        let outs = so_far k file head put in
        let later : (P : Files → Files → Type 0) → Goes before.written last.written P
        → Goes before.written now.written P =
        λ P goes. subst (λ (w : Option Files). Goes before.written w P) (sym written) goes in
        record {
          fronts = known_map held (λ fs f.
              let longer = written_of k file (content fs trace) in
              later (BegunInOrder longer)
              (AreCut-longer outs longer before last error
              (go_all k file (content fs trace) bytes put more f good is) cut).begun) front;
          others = later (λ old new. (n : List ℕ) → n ≢ file → new n ≡ old n)
              (goes_map before.written last.written
              (λ old new begun n other. BegunInOrder-others outs old new begun n
              (none_for k file head put n other)) cut.begun);
          cause = cause;
          held_stay = narrow;
          printed = printed;
          print_faults = prints;
          refused = refused;
          memory = memory;
        }

    no_refusal : (error : ShelfError) (refusal : Refusal)
        → write_fault error ≡ faults.Refused refusal → ⊥
    no_refusal errors.Failed refusal is = absurd cc
    no_refusal errors.NoMemory refusal is = absurd cc

    -- a call that writes gave up
    pub cut_up : (before now : Outside) (error : ShelfError)
        → IsCutAt k file head (reading_of bytes).0 before now error
        → HasGivenUp held trace file k before now (write_fault error)
    cut_up before now error cut =
        gives_up cut.put cut.more before now now error (write_fault error) cut.first cut.cut refl
        (write_cause k trace file head cut.put before now error cut.cut) cut.cut.only.held
        cut.cut.only.printed cut.cut.only.print_faults
        (λ refusal e. absurd (no_refusal error refusal e)) (λ e. no_refusal error _ e)

    -- a call that reads gave up
    pub read_up : {T : Type 0} (files : List Waiting) (before mid now : Outside) (fault : PassFault)
        → IsOutputs files (so_far k file head (reading_of bytes).0) before mid
        → OnlyReads mid now → HasPassCause {T = T} trace mid now (Err fault)
        → ((refusal : Refusal) → read_fault fault ≡ faults.Refused refusal
        → IsRefused held trace file k before now refusal)
        → read_fault fault ≢ faults.Refused (refusals.Trace trace_faults.NoMemory)
        → HasGivenUp held trace file k before now (read_fault fault)
    read_up {T} files before mid now fault on only cause refused memory =
        let seen = (reading_of bytes).0 in
        gives_up seen [] before mid now errors.NoMemory (read_fault fault) (sym (append-nil seen))
        (IsOutputs-cut files (so_far k file head seen) before mid errors.NoMemory (λ e. cc) on)
        only.written (reading_cause {T = T} trace file before mid now fault cause
        on.only.read_faults (only.write_faults ∙ on.faults))
        (narrows_then before.held mid.held now.held on.only.held only.held)
        (only.printed ∙ on.only.printed) (only.print_faults ∙ on.only.print_faults) refused memory

    -- all that came is written, and is that of a trace that is refused
    pub refused_up : (before now : Outside) (refusal : Refusal)
        → Known held (λ fs. bytes ≡ content fs trace) → refusal_of sited bytes ≡ Some refusal
        → refusal ≢ refusals.Trace trace_faults.NoMemory
        → AreWritten (so_far k file head (reading_of bytes).0) before now
        → HasGivenUp held trace file k before now (faults.Refused refusal)
    refused_up before now refusal whole is other written =
        let seen = (reading_of bytes).0 in
        let cut = whole_cut (so_far k file head seen) before now written in
        gives_up seen [] before now now errors.NoMemory (faults.Refused refusal)
        (sym (append-nil seen)) cut refl
        (quiet_cause trace file before now (faults.Refused refusal) (λ e. cc) (λ e. cc)
        written.only.read_faults written.faults) written.only.held written.only.printed
        written.only.print_faults
        (λ r e.
        let same : refusal ≡ r = refusal_same refusal r e in
        subst (λ (x : Refusal). IsRefused held trace file k before now x) same
        (record {
          bytes = bytes;
          whole = whole;
          refused = is;
          written = subst (λ (o : Option Refusal). AreWritten (so_far k file (begun_for o head) seen)
              before now) (sym (not_early bytes good)) written;
        }))
        (λ e. other (refusal_same refusal (refusals.Trace trace_faults.NoMemory) e))

-- ---- a whole trace

touches_ended : (items : List TraceRecord) (e : TraceEnd)
    → touches_in (items ++ records.End e ∷ []) ≡ touches_in items
touches_ended items e =
    filter_map-append touch_in items (records.End e ∷ []) ∙ append-nil (touches_in items)

pub touches_of : (bytes : List ℕ) (t : Trace) → trace_of bytes ≡ Some t
    → touches_in (reading_of bytes).0 ≡ touches_in t.items
touches_of bytes t is =
    ap touches_in (trace-records bytes t is) ∙ touches_ended t.items t.ending

pub head_of_trace : (bytes : List ℕ) (t : Trace) → trace_of bytes ≡ Some t
    → version_and_header (reading_of bytes).1.progress ≡ Some (t.version, t.header)
head_of_trace bytes t is =
    trace_head (reading_of bytes).0 (reading_of bytes).1.progress
    (ending_of (reading_of bytes).1) t is

-- all that is written of the bytes of a trace
pub file_of_whole : (k : ℕ) (file bytes : List ℕ) (t : Trace) → trace_of bytes ≡ Some t
    → so_far k file (version_and_header (reading_of bytes).1.progress) (reading_of bytes).0
    ≡ filtering k file t
file_of_whole k file bytes t is =
    let all = trace-records bytes t is in
    let head = head_of_trace bytes t is in
    (λ i. so_far k file (head i) (all i))
    ∙ ap (λ (l : List TraceRecord). one_file file (begun_with Four (filtered_header k t.header) l))
    (filtered_items-push k t.items (records.End t.ending))
    ∙ ap (one_file file) (begun-all Four (filtered_header k t.header) (filtered_items k t.items)
    (filtered_end k (touches_in t.items) t.ending))
