-- What stands where a copy gave up.
use Rattle.std.proofs.Common.{◌≡◌, ◌≢◌, ◌≤◌, ℕ, List, [], ◌∷◌, Option, Some, None, Err, inl, inr, refl}
use Rattle.std.proofs.Common.{sym, ap, ◌∙◌, subst, arith}
use Rattle.std.proofs.lemmas.Bool.{cases_Bool}
use Rattle.std.proofs.lemmas.List.{append-nil}
use Rattle.std.proofs.lemmas.Slice.Eq.{bytes_eq-Decides}
use Rattle.std.specs.Str.{bytes_eq}
use Rattle.shelf.specs.Shelf.{Files, Goes, HasRead, Narrows, OnlyReads, Outside, Rose}
use Rattle.shelf.specs.Shelf.{Known, content}
use Rattle.shelf.specs.Files.{Output, AreWhole, AreWritten, BegunInOrder, GoOn, bytes_for}
use Rattle.shelf.specs.OneFile.{Waiting}
use Rattle.shelf.specs.OnTheirWay.{IsNew, IsOutputs}
use Rattle.shelf.specs.Laws.Files.{AreCut-longer, BegunInOrder-others, goes_by, none_begun}
use Rattle.shelf.specs.Laws.Files.{output_names}
use Rattle.shelf.specs.Laws.Known.{narrows_then, only_none, reads_alone, if_known, known_both, known_map}
use Rattle.shelf.specs.Laws.Known.{goes_map, known_still, writes_both}
use Rattle.trace_format.specs.declared.record.TraceRecord.{TraceRecord}
use Rattle.trace_format.specs.Reading.{reading_of}
use Rattle.trace_passes.specs.declared.passes.PassFault.{PassFault}
use Rattle.trace_passes.specs.declared.passes.PassFault.TheVariants as passes
use Rattle.trace_passes.specs.declared.passes.Passed.{Passed}
use Rattle.trace_passes.specs.declared.wanted.Refusal.{Refusal}
use Rattle.trace_passes.specs.Passes.{HasPassCause, Trace, all_records, refusal_of, trace_of}
use Rattle.trace_passes.specs.Passes.{trace_with}
use Rattle.trace_passes.specs.Laws.Passes.{trace-records}
use Rattle.trace_files.specs.declared.copy_fault.CopyFault.{CopyFault}
use Rattle.trace_files.specs.declared.copy_fault.CopyFault.TheVariants.{Refused, Changed, ReadFault}
use Rattle.trace_files.specs.declared.copy_fault.CopyFault.TheVariants.{WriteFault, NoMemory}
use Rattle.trace_files.specs.Copies.{HasCopied, HasCopyCause, HasStopped, RoseAt, StaysWhereRefused}
use Rattle.trace_files.specs.Copies.{unfiltered}
use Rattle.trace_files.specs.Copying.{AreFirst, IsAccepted, IsCutShort, first_fault}
use Rattle.trace_files.specs.Laws.Copies.{plain_unrefused}
use Rattle.trace_files.proofs.Readings.{same_at, short_read}

-- ---- each other file

none_for : (outputs : List Output) (name : List ℕ) → IsNew name (output_names outputs)
    → bytes_for outputs name ≡ None
none_for [] name new = refl
none_for (o ∷ outputs) name new =
    elim (cases_Bool (bytes_eq o.name name)) [
      | inl is ↦ absurd (new.0 ((bytes_eq-Decides o.name name).0 is))
      | inr is ↦ rw is (none_for outputs name new.1)
    ]

pub others_stay : (outputs : List Output) (before now : Outside) → Goes before.written now.written
    (BegunInOrder outputs)
    → Goes before.written now.written (λ old new. (n : List ℕ) → IsNew n (output_names outputs)
    → new n ≡ old n)
others_stay outputs before now begun =
    goes_map before.written now.written
    (λ b n some name new. BegunInOrder-others outputs b n some name (none_for outputs name new))
    begun

-- ---- within the second reading

module _ (held : Option Files) (name : List ℕ) (names : List (List ℕ))
    (outputs : Trace → List Output)
    (files : List TraceRecord → List Output) (before now : Outside) (fault : CopyFault)
    (named : (seen : List TraceRecord) → output_names (files seen) ≡ names)
    (goes : (seen : List TraceRecord) → AreFirst held name seen
    → Known held (λ fs. (t : Trace) → trace_of (content fs name) ≡ Some t
    → GoOn (files seen) (outputs t)))
    (short : IsCutShort held name files before now fault)
  where
    moved : (P : Files → Files → Type 0) → Goes before.written short.last.written P
        → Goes before.written now.written P
    moved P goes = subst (λ (w : Option Files). Goes before.written w P) (sym short.written) goes

    pub stopped : HasStopped held name names outputs before now fault
    stopped =
        let some = files short.seen in
        let is = named short.seen in
        record {
          fronts = known_map held (λ fs on t there. moved (BegunInOrder (outputs t))
              (AreCut-longer some (outputs t) before short.last short.error
              (on t there) short.cut).begun) (goes short.seen short.first);
          others = moved (λ old new. (n : List ℕ) → IsNew n names → new n ≡ old n)
              (subst (λ (l : List (List ℕ)). Goes before.written short.last.written
              (λ old new. (n : List ℕ) → IsNew n l → new n ≡ old n))
              is
              (others_stay some before short.last short.cut.begun));
          cause = subst (λ (l : List (List ℕ)). HasCopyCause name l before now fault) is
              short.cause;
          held_stay = short.held_stay;
          printed = short.printed;
          print_faults = short.print_faults;
        }

-- ---- within the first reading

goes_same : (P : Files → Files → Type 0) (a b : Option Files) → b ≡ a → ((x : Files) → P x x)
    → Goes a b P
goes_same P None None same p = tt
goes_same P None (Some y) same p = absurd cc
goes_same P (Some x) None same p = absurd cc
goes_same P (Some x) (Some y) same p = let is : x ≡ y = cc in subst (P x) is (p x)

module _ (held : Option Files) (name : List ℕ) (old new : Outside) (only : OnlyReads old new) where
  with_cause : (fault : CopyFault) (names : List (List ℕ)) (outputs : Trace → List Output)
      → HasCopyCause name names old new fault
      → HasStopped held name names outputs old new fault
  with_cause fault names outputs cause = record {
    fronts = if_known held (λ fs t is. goes_same (BegunInOrder (outputs t)) old.written new.written
        only.written (λ x. none_begun (outputs t) x x (λ n. refl)));
    others = goes_same (λ a b. (n : List ℕ) → IsNew n names → b n ≡ a n) old.written new.written
        only.written (λ x n other. refl);
    cause = cause;
    held_stay = only.held;
    printed = only.printed;
    print_faults = only.print_faults;
  }

  quiet : (fault : CopyFault) (names : List (List ℕ)) → fault ≢ ReadFault → fault ≢ WriteFault
      → new.read_faults ≡ old.read_faults
      → HasCopyCause name names old new fault
  quiet fault names no_read no_write same = record {
    reads = λ n. same_at old.read_faults new.read_faults n same;
    writes = λ n. same_at old.write_faults new.write_faults n only.write_faults;
    read_failed = λ e. absurd (no_read e);
    write_failed = λ e. absurd (no_write e);
    read_quiet = λ e. same;
    write_quiet = λ e. only.write_faults;
  }

  pub stopped_first : {T : Type 0} (fault : PassFault) → HasPassCause {T = T} name old new
      (Err fault)
      → (names : List (List ℕ)) (outputs : Trace → List Output)
      → HasStopped held name names outputs old new (first_fault fault)
  stopped_first (passes.Refused refusal) cause names outputs =
      with_cause (Refused refusal) names outputs
      (quiet (Refused refusal) names (λ e. cc) (λ e. cc) (cause.quiet (λ e. cc)))
  stopped_first passes.ReadFault cause names outputs =
      with_cause ReadFault names outputs (record {
        reads = cause.later;
        writes = λ n. same_at old.write_faults new.write_faults n only.write_faults;
        read_failed = λ e. cause.failed refl;
        write_failed = λ e. absurd cc;
        read_quiet = λ e. absurd (e refl);
        write_quiet = λ e. only.write_faults;
      })
  stopped_first passes.NoMemory cause names outputs =
      with_cause NoMemory names outputs (quiet NoMemory names (λ e. cc) (λ e. cc)
      (cause.quiet (λ e. cc)))

-- ---- since the first reading began

-- what the second reading did it did since then, for the first one changed nothing
module _ (old mid new : Outside) (read : HasRead old mid) where
  since : (P : Files → Files → Type 0) → Goes mid.written new.written P
      → Goes old.written new.written P
  since P goes = subst (λ (w : Option Files). Goes w new.written P) read.only.written goes

  narrow_since : Narrows mid.held new.held → Narrows old.held new.held
  narrow_since narrow = narrows_then old.held mid.held new.held read.only.held narrow

  cause_since : (name : List ℕ) (names : List (List ℕ)) (fault : CopyFault)
      → HasCopyCause name names mid new fault → HasCopyCause name names old new fault
  cause_since name names fault cause = record {
    reads = subst (λ (f : List ℕ → ℕ). (n : List ℕ) → f n ≤ new.read_faults n) read.faults
        cause.reads;
    writes = subst (λ (f : List ℕ → ℕ). (n : List ℕ) → f n ≤ new.write_faults n)
        read.only.write_faults cause.writes;
    read_failed = λ e. subst (λ (f : List ℕ → ℕ). Rose (f name) (new.read_faults name)) read.faults
        (cause.read_failed e);
    write_failed = λ e. subst (λ (f : List ℕ → ℕ). RoseAt names f new.write_faults)
        read.only.write_faults (cause.write_failed e);
    read_quiet = λ e. cause.read_quiet e ∙ read.faults;
    write_quiet = λ e. cause.write_quiet e ∙ read.only.write_faults;
  }

  written_since : (outputs : List Output) → AreWritten outputs mid new → AreWritten outputs old new
  written_since outputs written = record {
    whole = since (AreWhole outputs) written.whole;
    faults = written.faults ∙ read.only.write_faults;
    only = writes_both old mid new (reads_alone old mid read) written.only;
  }

  pub copied_since : (held : Option Files) (name : List ℕ) (outputs : Trace → List Output)
      (says : Trace → Type 0)
      → HasCopied held name outputs says mid new → HasCopied held name outputs says old new
  copied_since held name outputs says copied = record {
    bytes = copied.bytes;
    whole = copied.whole;
    trace = copied.trace;
    is = copied.is;
    stated = copied.stated;
    written = written_since (outputs copied.trace) copied.written;
  }

  pub stopped_since : (held : Option Files) (name : List ℕ) (names : List (List ℕ))
      (outputs : Trace → List Output) (fault : CopyFault)
      → HasStopped held name names outputs mid new fault
      → HasStopped held name names outputs old new fault
  stopped_since held name names outputs fault stopped = record {
    fronts = known_map held (λ fs on t there. since (BegunInOrder (outputs t)) (on t there))
        stopped.fronts;
    others = since (λ a b. (n : List ℕ) → IsNew n names → b n ≡ a n) stopped.others;
    cause = cause_since name names fault stopped.cause;
    held_stay = narrow_since stopped.held_stay;
    printed = stopped.printed ∙ read.only.printed;
    print_faults = stopped.print_faults ∙ read.only.print_faults;
  }

-- ---- behind the second reading

-- the records of the trace that was copied are all of the held bytes
pub first_all : (held : Option Files) (name bytes : List ℕ) (t : Trace)
    → Known held (λ files. bytes ≡ content files name)
    → trace_of bytes ≡ Some t → AreFirst held name (all_records t)
first_all held name bytes t whole is =
    known_map held (λ files same. (
      [],
      ap (λ (xs : List ℕ). (reading_of xs).0) (sym same) ∙ trace-records bytes t is
          ∙ sym (append-nil (all_records t)),
    )) whole

-- another trace was read than at first
pub short_other : (held : Option Files) (name : List ℕ) (files : List TraceRecord → List Output)
    (seen : List TraceRecord)
    (waiting : List Waiting) (before now : Outside) (refusal : Refusal) → AreFirst held name seen
    → IsOutputs waiting (files seen) before now → IsCutShort held name files before now
    (Changed refusal)
short_other held name files seen waiting before now refusal first on =
    short_read held name files seen waiting before now now first on (only_none now) {T = Unit {0}}
    (passes.Refused refusal)
    (record { later = λ n. omega arith; failed = λ e. absurd cc; quiet = λ e. refl })

-- ---- two readings of what is known

pub same_trace : (a b : Trace) (x : Option Trace) → x ≡ Some a → x ≡ Some b → a ≡ b
same_trace a b x one two = let both : Some a ≡ Some b = sym one ∙ two in cc

-- the parts of the trace that is known
pub known_parts : (held : Option Files) (name : List ℕ) (first : Passed) → IsAccepted held name first
    → Known held (λ files. (t : Trace) → trace_of (content files name) ≡ Some t
    → (items : List TraceRecord) × (t ≡ trace_with first items))
known_parts held name first accepted =
    known_map held (λ files same t is. (
      accepted.items,
      same_trace t (trace_with first accepted.items) (trace_of (content files name)) is
          (ap trace_of (sym same) ∙ accepted.is),
    )) accepted.whole

-- two readings give the same parts, where the bytes are known
pub same_parts : (held : Option Files) (name : List ℕ) (first second : Passed) (bytes : List ℕ)
    (items : List TraceRecord)
    → IsAccepted held name first → Known held (λ files. bytes ≡ content files name)
    → trace_of bytes ≡ Some (trace_with second items) → Known held (λ files. first ≡ second)
same_parts held name first second bytes items accepted whole is =
    known_both held (λ files one two.
    let there : trace_of (content files name) ≡ Some (trace_with second items) = ap trace_of
    (sym two) ∙ is in
    let same : trace_of (content files name) ≡ Some (trace_with first accepted.items) = ap trace_of
    (sym one) ∙ accepted.is in
    let t = same_trace (trace_with first accepted.items) (trace_with second items)
    (trace_of (content files name)) same there in
    λ i. record { version = (t i).version; header = (t i).header; ending = (t i).ending })
    accepted.whole whole

pub unknown : (held : Option Files) (P : Type 0) → Known held (λ files. P) → (P → ⊥) → held ≡ None
unknown None P holds never = refl
unknown (Some files) P holds never = absurd (never holds)

-- ---- an accepted trace

-- it is accepted as long as its bytes are known
pub accepted_still : (o n : Option Files) (name : List ℕ) (first : Passed) → Narrows o n
    → IsAccepted o name first → IsAccepted n name first
accepted_still o n name first narrow accepted = record {
  bytes = accepted.bytes;
  whole = known_still (λ files. accepted.bytes ≡ content files name) o n narrow accepted.whole;
  items = accepted.items;
  is = accepted.is;
  plain = accepted.plain;
}

pub known_accepted : (held : Option Files) (name : List ℕ) (first : Passed)
    → IsAccepted held name first
    → Known held (λ files. refusal_of unfiltered (content files name) ≡ None)
known_accepted held name first accepted =
    known_map held
    (λ files same. ap (refusal_of unfiltered) (sym same) ∙ plain_unrefused accepted.bytes
    (trace_with first accepted.items) accepted.is accepted.plain)
    accepted.whole

-- it isn't refused where its bytes are known
pub never_refused : (held : Option Files) (name : List ℕ) (first : Passed)
    → IsAccepted held name first → (refusal : Refusal)
    → Known held (λ files. refusal_of unfiltered (content files name) ≡ Some refusal) → held ≡ None
never_refused held name first accepted refusal holds =
    unknown held ⊥ (known_both held (λ files a b. let no : None ≡ Some refusal = sym a
    ∙ b in absurd cc)
    (known_accepted held name first accepted) holds) (λ x. x)

-- ---- a refused trace

-- the first reading gave up, and wrote under no name
pub refused_first : (held : Option Files) (name : List ℕ) (old new : Outside) (fault : CopyFault)
    → ((names : List (List ℕ)) (outputs : Trace → List Output)
    → HasStopped held name names outputs old new fault)
    → StaysWhereRefused held name old new
refused_first held name old new fault stopped =
    let others = (stopped [] (λ t. [])).others in
    if_known held (λ files refusal is. goes_by (λ a b. (n : List ℕ) → IsNew n [] → b n ≡ a n)
    (λ a b. (n : List ℕ) → b n ≡ a n)
    old.written new.written (λ a b i j same n. same n tt) others)

-- the second one is made of accepted traces alone
pub refused_never : (held : Option Files) (name : List ℕ) (first : Passed) (old new : Outside)
    → IsAccepted held name first
    → StaysWhereRefused held name old new
refused_never held name first old new accepted =
    known_map held (λ files none refusal is. let no : None ≡ Some refusal = sym none
    ∙ is in absurd cc)
    (known_accepted held name first accepted)
