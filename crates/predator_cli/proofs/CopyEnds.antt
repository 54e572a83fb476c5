-- How a command ends that copies a trace, whatever its outputs are.
use Rattle.trace_passes.specs.Passes.{near_refusal}
use Rattle.std.proofs.Common.{◌≡◌, ◌≢◌, ℕ, List, [], ◌∷◌, Option, Some, None, true, false, refl}
use Rattle.std.proofs.Common.{sym, ap, subst, ◌∙◌, inl, inr}
use Rattle.std.proofs.lemmas.Slice.Eq.{bytes_eq-Decides}
use Rattle.std.specs.List.{list_any}
use Rattle.std.specs.Option.{option_map, option_map_or}
use Rattle.std.specs.Str.{bytes_eq}
use Rattle.command_line.specs.Convert.{ConvertDemand}
use Rattle.command_line.specs.Split.{SplitDemand}
use Rattle.command_line.specs.Words.{Demand, convert, split, outputs as outputs_of}
use Rattle.shelf.specs.Files.{BegunInOrder, Output}
use Rattle.shelf.specs.OnTheirWay.{IsNew}
use Rattle.shelf.specs.Shelf.{Files, Goes, HasRead, Outside, Known, content}
use Rattle.trace_files.specs.Laws.Copies.{plain_found, plain_unrefused}
use Rattle.trace_files.specs.Copies.{HasCopied, HasStopped, RoseAt as RoseAtCopy, StaysWhereRefused}
use Rattle.trace_files.specs.Copies.{unfiltered, conversion, halves}
use Rattle.trace_files.specs.declared.copy_fault.CopyFault.{CopyFault}
use Rattle.trace_files.specs.declared.copy_fault.CopyFault.TheVariants.{Refused, Changed, ReadFault}
use Rattle.trace_files.specs.declared.copy_fault.CopyFault.TheVariants.{WriteFault, NoMemory}
use Rattle.trace_format.specs.declared.fault.TraceFault.TheVariants as trace
use Rattle.trace_passes.specs.Passes.{Trace, refusal_of, trace_of}
use Rattle.trace_passes.specs.declared.wanted.Refusal.{Refusal}
use Rattle.trace_passes.specs.declared.wanted.Refusal.TheVariants as refusals
use Rattle.command_io.specs.Faults.{fault_text}
use Rattle.command_io.specs.Readings.{FailsInOrder, IsRefusal, IsStopped, Reading, RoseAt}
use Rattle.command_io.specs.Readings.{first_refusal, names_of}
use Rattle.command_io.specs.Statuses.{done, kind_of, refusal}
use Rattle.command_io.specs.Works.{Work, done_with}
use Rattle.command_io.specs.declared.status.Status.{Status}
use Rattle.command_io.specs.declared.status.Status.TheVariants as status
use Rattle.command_io.specs.Laws.Readings.{none_alone, refused_stopped}
use Rattle.shelf.specs.Laws.Known.{goes_map, if_known, known_both, known_map}
use Rattle.predator_cli.specs.Answer.{answer_of}
use Rattle.predator_cli.specs.Commands.{RepeatsReport, manner_of, readings_of, work_of}
use Rattle.predator_cli.specs.Convert.{convert_text}
use Rattle.predator_cli.specs.Copies.{copied_reading, copy_of, copy_with}
use Rattle.predator_cli.specs.Manners.{Manner, judged_first, read_again}
use Rattle.predator_cli.specs.Meets.{EndsAs, HasFailed as HasFailedBy, IsFaulty, IsPrintable}
use Rattle.predator_cli.specs.Meets.{IsQuiet, IsWorked}
use Rattle.predator_cli.specs.Parts.{SplitRepeats}
use Rattle.predator_cli.specs.Replay.{refuses_trace}
use Rattle.predator_cli.specs.Split.{split_text}
use Rattle.predator_cli.specs.TraceFaults.{status_of_copy, status_of_refusal}
use Rattle.predator_cli.specs.Written.{AreSame, OnlyAt, StaysAtReadFault, StaysAtRefusal, Writes}
use Rattle.predator_cli.proofs.Ends.{own_outputs, stopped_faulty}
use Rattle.predator_cli.proofs.FaultEnds.{starved}
use Rattle.predator_cli.proofs.Manners.{first_accepted}
use Rattle.predator_cli.proofs.Standing.{same_stands}
use Rattle.predator_cli.proofs.TraceFiles.{refusal_cases}
use Rattle.predator_cli.proofs.WriteEnds.{IsToWrite, names_in, or_false, written_worked}

-- ---- names

new_name : (name : List ℕ) (names : List (List ℕ)) → list_any (λ n. bytes_eq n name) names ≡ false
    → IsNew name names
new_name name [] not_so = tt
new_name name (n ∷ names) not_so =
    let both = or_false (bytes_eq n name) (list_any (λ x. bytes_eq x name) names) not_so in (
      λ same. let so : bytes_eq n name ≡ true = (bytes_eq-Decides n name).1 same in let no : true
          ≡ false = sym so ∙ both.0 in cc,
      new_name name names both.1,
    )

others_only : (names : List (List ℕ)) (a b : Outside)
    → Goes a.written b.written (λ old new. (n : List ℕ) → IsNew n names → new n ≡ old n)
    → OnlyAt names a b
others_only names a b others = goes_map a.written b.written
    (λ old new stay name not_so. stay name (new_name name names not_so)) others

rose_at : (names : List (List ℕ)) (before now : List ℕ → ℕ) → RoseAtCopy names before now
    → RoseAt names before now
rose_at [] before now rose = rose
rose_at (n ∷ names) before now (inl rose) = inl rose
rose_at (n ∷ names) before now (inr rose) = inr (rose_at names before now rose)

-- where nothing is known
unknown : {A : Type 0} (P : A → Type 0) (o : Option A) → o ≡ None → Known o P
unknown {A = A} P o none = subst (λ (x : Option A). Known x P) (sym none) tt

-- ---- the two commands

-- a demand for copies of the trace of a name
pub record IsCopying (d : Demand) (name : List ℕ) (text : Trace → List ℕ)
    (outputs : Trace → List Output) : Type 0 where
  pub reads : readings_of d ≡ copied_reading name ∷ []
  pub works : (files : Files) → work_of d files ≡ copy_of text outputs name files
  pub named : (t : Trace) → names_in (outputs t) ≡ outputs_of d
  pub copies : manner_of d ≡ read_again
  pub again : (files : Files) → RepeatsReport d files

pub is_convert : (d : ConvertDemand) → IsCopying (convert d) d.trace convert_text
    (conversion d.file)
is_convert d = record {
  reads = refl;
  works = λ files. refl;
  named = λ t. refl;
  copies =
      refl;
  again = λ files. tt;
}

pub is_split : (d : SplitDemand) → ((files : Files) → SplitRepeats d files)
    → IsCopying (split d) d.trace (split_text d.at) (halves d.at d.first d.second)
is_split d again = record {
  reads = refl;
  works = λ files. refl;
  named = λ t. refl;
  copies = refl;
  again = again;
}

-- what is known of a call that gave up
pub record HasFailed (name : List ℕ) (names : List (List ℕ)) (outputs : Trace → List Output)
    (a b : Outside) (fault : CopyFault) : Type 0
  where
    pub refused : (r : Refusal) → fault ≡ Refused r
        → Known b.held (λ files. refusal_of unfiltered (content files name) ≡ Some r)
    pub stays : (r : Refusal) → fault ≡ Refused r → HasRead a b
    pub memory : fault ≢ Refused (refusals.Trace trace.NoMemory)
    pub changed : (r : Refusal) → fault ≡ Changed r → b.held ≡ None
    pub accepted : fault ≡ WriteFault → Known b.held (λ files. refusal_of unfiltered (content files name)
        ≡ None)
    pub begun : StaysWhereRefused b.held name a b
    pub stopped : HasStopped b.held name names outputs a b fault

module _ (d : Demand) (name : List ℕ) (text : Trace → List ℕ) (outputs : Trace → List Output)
    (copying : IsCopying d name text outputs)
    (a b : Outside)
  where
    accepts : (files : Files) → refusal_of unfiltered (content files name) ≡ None
        → first_refusal (readings_of d) files ≡ None
    accepts files none = ap (λ readings. first_refusal readings files) copying.reads
        ∙ none_alone (refuses_trace unfiltered name files) (ap (option_map status_of_refusal) none)

    work_is : (files : Files) (t : Trace) → trace_of (content files name) ≡ Some t → work_of d files
        ≡ copy_with text outputs t
    work_is files t is = copying.works files
        ∙ ap (λ o. option_map_or (copy_with text outputs) o (done_with [])) is

    -- ---- the copies are made

    to_write : (bytes : List ℕ) (t : Trace) → Known b.held (λ files. bytes ≡ content files name)
        → trace_of bytes ≡ Some t → near_refusal None t.header.near ≡ None
        → IsToWrite d (copy_with text outputs t) b.held
    to_write bytes t whole is plain = record {
      accepts = known_map b.held (λ files same. accepts files
          (ap (refusal_of unfiltered) (sym same) ∙ plain_unrefused bytes t is plain)) whole;
      works = known_map b.held (λ files same. work_is files t (ap trace_of (sym same) ∙ is)) whole;
      names = copying.named t;
    }

    pub copy_worked : {says : Trace → Type 0} (shown : List ℕ)
        (copied : HasCopied b.held name outputs says a b)
        → ((t : Trace) → says t → near_refusal None t.header.near ≡ None)
        → shown ≡ text copied.trace → IsWorked d a b status.Done shown
    copy_worked shown copied plain is =
        written_worked d (copy_with text outputs copied.trace) a b status.Done shown
        (to_write copied.bytes copied.trace copied.whole copied.is
        (plain copied.trace copied.stated)) refl is
        (if_known b.held copying.again) copied.written

    -- ---- it gave up

    part_at : (files : Files) → ((t : Trace) → trace_of (content files name) ≡ Some t
        → Goes a.written b.written (BegunInOrder (outputs t)))
        → ((r : Refusal) → refusal_of unfiltered (content files name) ≡ Some r
        → Goes a.written b.written AreSame)
        → (r : Option Refusal) → refusal_of unfiltered (content files name) ≡ r
        → Goes a.written b.written (BegunInOrder (answer_of (Some d) files).outputs)
    part_at files fronts stays None none =
        let found = plain_found (content files name) none in
        own_outputs d files (λ outs. Goes a.written b.written (BegunInOrder outs))
        (accepts files none)
        (subst (λ (w : Work). Goes a.written b.written (BegunInOrder w.outputs))
        (sym (work_is files found.trace found.is))
        (fronts found.trace found.is))
    part_at files fronts stays (Some r) is = same_stands (answer_of (Some d) files).outputs
        a.written b.written (stays r is)

    -- it is refused before anything is begun
    refused_faulty : (r : Refusal) → HasFailed name (outputs_of d) outputs a b (Refused r)
        → IsRefusal (status_of_refusal r)
        → IsFaulty (Some d) a b (status_of_refusal r)
    refused_faulty r failed judged =
        let read = failed.stays r refl in
        let stopped = refused_stopped name (refuses_trace unfiltered name) a b (status_of_refusal r) judged
        (known_map b.held (λ files e. ap (option_map status_of_refusal) e) (failed.refused r refl))
        read.faults read.only in
        stopped_faulty d a b (status_of_refusal r)
        (subst (λ (m : Manner). IsStopped (judged_first m (readings_of d)) a b
        (status_of_refusal r)) (sym copying.copies)
        (subst (λ (l : List Reading). IsStopped l a b (status_of_refusal r))
        (sym copying.reads) stopped))

    module _ (fault : CopyFault) (failed : HasFailed name (outputs_of d) outputs a b fault) where
      part : Known b.held (λ files. Goes a.written b.written
          (BegunInOrder (answer_of (Some d) files).outputs))
      part =
          known_both b.held (λ files fronts stays. part_at files fronts stays
          (refusal_of unfiltered (content files name)) refl)
          failed.stopped.fronts failed.begun

      only : OnlyAt (outputs_of d) a b
      only = others_only (outputs_of d) a b failed.stopped.others

      quiet : fault ≢ ReadFault → fault ≢ WriteFault → IsQuiet a b
      quiet unread unwritten = record {
        reads = failed.stopped.cause.read_quiet unread;
        writes = failed.stopped.cause.write_quiet unwritten;
      }

      -- or it was refused once the copies were begun, and nothing is known any more
      changed_faulty : (s : Status) → IsRefusal s → b.held ≡ None → fault ≢ ReadFault
          → fault ≢ WriteFault → IsFaulty (Some d) a b s
      changed_faulty s judged none other unwritten =
          let none_failed : HasFailedBy (Some d) a b refusal = quiet other unwritten in
          let writes : Writes (Some d) a b refusal =
          subst (λ m. StaysAtRefusal m (Some d) b.held a.written b.written) (sym copying.copies)
          (unknown (λ files. Goes a.written b.written AreSame) b.held none) in
          record {
            fault = λ e. let k : refusal ≡ done = sym judged.kind ∙ e in cc;
            ends = unknown (λ files. EndsAs (Some d) files a b (kind_of s) s) b.held none;
            usage = λ u. absurd (judged.words u);
            refuses = λ u. cc;
            memory = judged.memory;
            failed = rw judged.kind none_failed;
            printable = unknown (λ files. IsPrintable (Some d) files a b (fault_text s)) b.held none;
            writes = rw judged.kind writes;
            only = only;
            held = failed.stopped.held_stay;
            printed = failed.stopped.printed;
            print_faults = failed.stopped.print_faults;
          }

      read_faulty : fault ≡ ReadFault → IsFaulty (Some d) a b status.ReadFault
      read_faulty is =
          let rose = failed.stopped.cause.read_failed is in
          let fails : (files : Files) → FailsInOrder (readings_of d) files a.read_faults
          b.read_faults =
          λ files. subst (λ (l : List Reading). FailsInOrder l files a.read_faults b.read_faults)
          (sym copying.reads) (inl rose) in
          record {
            fault = λ e. cc;
            ends = if_known b.held fails;
            usage = λ u. cc;
            refuses = λ u. cc;
            memory = refl;
            failed = record {
              reads = subst
                  (λ (l : List Reading). RoseAt (names_of l) a.read_faults b.read_faults)
                  (sym copying.reads) (inl rose);
              writes = failed.stopped.cause.write_quiet
                  (λ e. let no : ReadFault ≡ WriteFault = sym is ∙ e in cc);
            };
            printable = if_known b.held (λ files. inr (inr (inl (refl, fails files))));
            writes = subst (λ m. StaysAtReadFault m (Some d) b.held a.written b.written)
                (sym copying.copies) part;
            only = only;
            held = failed.stopped.held_stay;
            printed = failed.stopped.printed;
            print_faults = failed.stopped.print_faults;
          }

      write_faulty : fault ≡ WriteFault → IsFaulty (Some d) a b status.WriteFault
      write_faulty is =
          let rose = rose_at (outputs_of d) a.write_faults b.write_faults
          (failed.stopped.cause.write_failed is) in
          record {
            fault = λ e. cc;
            ends = known_map b.held (λ files none. first_accepted (manner_of d) (readings_of d) files
                (accepts files none)) (failed.accepted is);
            usage = λ u. cc;
            refuses = λ u. cc;
            memory = refl;
            failed = record {
              reads = failed.stopped.cause.read_quiet
                  (λ e. let no : WriteFault ≡ ReadFault = sym is ∙ e in cc);
              writes = rose;
            };
            printable = if_known b.held (λ files. inr (inr (inr (refl, rose))));
            writes = inl (rose, part);
            only = only;
            held = failed.stopped.held_stay;
            printed = failed.stopped.printed;
            print_faults = failed.stopped.print_faults;
          }

      no_memory_faulty : fault ≢ ReadFault → fault ≢ WriteFault
          → IsFaulty (Some d) a b status.NoMemory
      no_memory_faulty unread unwritten =
          starved (Some d) a b (quiet unread unwritten) part only failed.stopped.held_stay
          failed.stopped.printed failed.stopped.print_faults

    pub copy_faulty : (fault : CopyFault) → HasFailed name (outputs_of d) outputs a b fault
        → IsFaulty (Some d) a b (status_of_copy fault)
    copy_faulty (Refused r) failed =
        elim (refusal_cases r) [
          | inl is ↦ absurd (failed.memory (ap Refused is))
          | inr judged ↦ refused_faulty r failed judged
        ]
    copy_faulty (Changed r) failed =
        elim (refusal_cases r) [
          | inl is ↦ subst (λ (x : Refusal). IsFaulty (Some d) a b (status_of_refusal x)) (sym is)
              (no_memory_faulty (Changed r) failed (λ e. cc) (λ e. cc))
          | inr judged ↦ changed_faulty (Changed r) failed (status_of_refusal r) judged
              (failed.changed r refl) (λ e. cc) (λ e. cc)
        ]
    copy_faulty ReadFault failed = read_faulty ReadFault failed refl
    copy_faulty WriteFault failed = write_faulty WriteFault failed refl
    copy_faulty NoMemory failed = no_memory_faulty NoMemory failed (λ e. cc) (λ e. cc)
