-- The records that a reading gives, and what stands where one gave up.
use Rattle.std.proofs.Common.{◌≡◌, ◌≢◌, ℕ, ◌+◌, ◌<◌, ◌≤◌, List, [], ◌∷◌, ◌++◌, length, get_or, take}
use Rattle.std.proofs.Common.{drop, Option, Err, inl}
use Rattle.std.proofs.Common.{inr, refl, sym, ap, ◌∙◌, subst, append_assoc, arith}
use Rattle.std.proofs.lemmas.List.{take-append-drop, take_more}
use Rattle.shelf.specs.Shelf.{Files, Narrows, OnlyReads, Outside, Rose, content}
use Rattle.shelf.specs.Fetch.{IsFront}
use Rattle.shelf.specs.declared.shelf.ShelfError.{ShelfError}
use Rattle.shelf.specs.declared.shelf.ShelfError.TheVariants as errors
use Rattle.shelf.specs.Files.{Output, AreCut, RoseAmong}
use Rattle.shelf.specs.OneFile.{Waiting}
use Rattle.shelf.specs.OnTheirWay.{IsOutputs}
use Rattle.shelf.specs.Laws.Files.{IsOutputs-cut, output_names}
use Rattle.shelf.specs.Laws.Known.{narrows_then, if_known, known_map, known_still}
use Rattle.trace_format.specs.declared.record.TraceRecord.{TraceRecord}
use Rattle.trace_format.specs.Reading.{Reading, reading_of}
use Rattle.trace_format.specs.Laws.Reading.{read_on-pieces}
use Rattle.trace_passes.specs.declared.passes.PassFault.{PassFault}
use Rattle.trace_passes.specs.declared.passes.PassFault.TheVariants as passes
use Rattle.trace_passes.specs.Cursors.{HasCome, Reached}
use Rattle.trace_passes.specs.Passes.{HasPassCause}
use Rattle.trace_files.specs.declared.copy_fault.CopyFault.{CopyFault}
use Rattle.trace_files.specs.declared.copy_fault.CopyFault.TheVariants.{Changed, ReadFault}
use Rattle.trace_files.specs.declared.copy_fault.CopyFault.TheVariants.{WriteFault, NoMemory}
use Rattle.trace_files.specs.Copies.{HasCopyCause, RoseAt, unfiltered}
use Rattle.trace_files.specs.Copying.{AreFirst, IsCutShort, second_fault, write_fault}

-- ---- lists

-- one more of a list that comes behind others
pub seen_more : (items : List TraceRecord) (i : ℕ) (x : TraceRecord) → i < length items → x
    ≡ get_or items i x
    → (seen : List TraceRecord) → (seen ++ take i items) ++ x ∷ [] ≡ seen ++ take (i + 1) items
seen_more items i x below is seen =
    append_assoc seen (take i items) (x ∷ [])
    ∙ ap (λ (xs : List TraceRecord). seen ++ xs)
    (sym (take_more items i x below ∙ ap (λ (y : TraceRecord). take i items ++ y ∷ []) (sym is)))

-- ---- the first records

pub first_none : (held : Option Files) (name : List ℕ) → AreFirst held name []
first_none held name = if_known held (λ files. ((reading_of (content files name)).0, refl))

-- they are the first ones as long as their file is known
pub first_still : (o n : Option Files) (name : List ℕ) (seen : List TraceRecord) → Narrows o n
    → AreFirst o name seen → AreFirst n name seen
first_still o n name seen narrow first =
    known_still (λ files. (more : List TraceRecord)
    × ((reading_of (content files name)).0 ≡ seen ++ more)) o n narrow first

-- the records of a front are the first ones
pub front_first : (file bytes : List ℕ) → IsFront file bytes
    → (more : List TraceRecord) × ((reading_of file).0 ≡ (reading_of bytes).0 ++ more)
front_first file bytes front =
    let rest = drop (length bytes) file in
    let whole : bytes ++ rest ≡ file =
    ap (λ (xs : List ℕ). xs ++ rest) front.same ∙ take-append-drop (length bytes) file in (
      _,
      ap (λ (xs : List ℕ). (reading_of xs).0) (sym whole)
          ∙ ap (λ (x : List TraceRecord × Reading). x.0) (read_on-pieces bytes rest),
    )

pub first_read : (held : Option Files) (name bytes : List ℕ) (now : Reached)
    → HasCome held name unfiltered bytes now
    → AreFirst held name (reading_of bytes).0
first_read held name bytes now come = known_map held
    (λ files front. front_first (content files name) bytes front) come.front

-- and so are those of which some are missing
parted : (seen items more all : List TraceRecord) (k : ℕ) → all ≡ (seen ++ items) ++ more
    → all ≡ (seen ++ take k items) ++ (drop k items ++ more)
parted seen items more all k is =
    let regrouped : (take k items ++ drop k items) ++ more
    ≡ take k items ++ (drop k items ++ more) =
    append_assoc (take k items) (drop k items) more in
    let whole : items ++ more ≡ (take k items ++ drop k items) ++ more =
    ap (λ (xs : List TraceRecord). xs ++ more) (sym (take-append-drop k items)) in
    is ∙ append_assoc seen items more ∙ ap (λ (xs : List TraceRecord). seen ++ xs)
    (whole ∙ regrouped)
    ∙ sym (append_assoc seen (take k items) (drop k items ++ more))

pub first_of : (held : Option Files) (name : List ℕ) (seen items : List TraceRecord) (k : ℕ)
    → AreFirst held name (seen ++ items)
    → AreFirst held name (seen ++ take k items)
first_of held name seen items k first =
    known_map held (λ files is. (
      drop k items ++ is.0,
      parted seen items is.0
          (reading_of (content files name)).0 k is.1,
    )) first

-- ---- where a copy gave up

pub rose_at : (outputs : List Output) (before now : List ℕ → ℕ) → RoseAmong outputs before now
    → RoseAt (output_names outputs) before now
rose_at [] before now rose = absurd rose
rose_at (o ∷ outputs) before now (inl rose) = inl rose
rose_at (o ∷ outputs) before now (inr rose) = inr (rose_at outputs before now rose)

pub same_at : (f g : List ℕ → ℕ) (n : List ℕ) → g ≡ f → f n ≤ g n
same_at f g n same = let at : g n ≡ f n = ap (λ (h : List ℕ → ℕ). h n) same in omega arith

-- in a call that writes
pub short_write : (held : Option Files) (name : List ℕ) (files : List TraceRecord → List Output)
    (seen : List TraceRecord)
    (before now : Outside) (error : ShelfError) → AreFirst held name seen
    → AreCut (files seen) before now error
    → IsCutShort held name files before now (write_fault error)
short_write held name files seen before now errors.Failed first cut =
    record {
      seen = seen;
      first = first;
      last = now;
      error = errors.Failed;
      cut = cut;
      written = refl;
      cause = record {
        reads = λ n. same_at before.read_faults now.read_faults n cut.only.read_faults;
        writes = cut.cause.later;
        read_failed = λ e. absurd cc;
        write_failed = λ e. rose_at (files seen) before.write_faults now.write_faults
            (cut.cause.failed refl);
        read_quiet = λ e. cut.only.read_faults;
        write_quiet = λ e. absurd (e refl);
      };
      held_stay = cut.only.held;
      printed = cut.only.printed;
      print_faults = cut.only.print_faults;
    }
short_write held name files seen before now errors.NoMemory first cut =
    record {
      seen = seen;
      first = first;
      last = now;
      error = errors.NoMemory;
      cut = cut;
      written = refl;
      cause = record {
        reads = λ n. same_at before.read_faults now.read_faults n cut.only.read_faults;
        writes = cut.cause.later;
        read_failed = λ e. absurd cc;
        write_failed = λ e. absurd cc;
        read_quiet = λ e. cut.only.read_faults;
        write_quiet = λ e. cut.cause.quiet (λ x. cc);
      };
      held_stay = cut.only.held;
      printed = cut.only.printed;
      print_faults = cut.only.print_faults;
    }

-- in a call that reads
module _ (held : Option Files) (name : List ℕ) (files : List TraceRecord → List Output)
    (seen : List TraceRecord)
    (waiting : List Waiting) (before mid now : Outside) (first : AreFirst held name seen)
    (on : IsOutputs waiting (files seen) before mid) (only : OnlyReads mid now)
  where
    cut : AreCut (files seen) before mid errors.NoMemory
    cut = IsOutputs-cut waiting (files seen) before mid errors.NoMemory (λ e. cc) on

    short_with : (fault : CopyFault) → HasCopyCause name (output_names (files seen)) before now
        fault
        → IsCutShort held name files before now fault
    short_with fault cause = record {
      seen = seen;
      first = first;
      last = mid;
      error = errors.NoMemory;
      cut = cut;
      written = only.written;
      cause = cause;
      held_stay = narrows_then before.held mid.held now.held on.only.held only.held;
      printed = only.printed ∙ on.only.printed;
      print_faults = only.print_faults ∙ on.only.print_faults;
    }

    quiet_cause : (fault : CopyFault) → fault ≢ ReadFault → fault ≢ WriteFault → now.read_faults
        ≡ mid.read_faults
        → HasCopyCause name (output_names (files seen)) before now fault
    quiet_cause fault no_read no_write same = record {
      reads = λ n. same_at before.read_faults now.read_faults n (same ∙ on.only.read_faults);
      writes = λ n. same_at before.write_faults now.write_faults n (only.write_faults ∙ on.faults);
      read_failed = λ e. absurd (no_read e);
      write_failed = λ e. absurd (no_write e);
      read_quiet = λ e. same ∙ on.only.read_faults;
      write_quiet = λ e. only.write_faults ∙ on.faults;
    }

    read_cause : ((n : List ℕ) → mid.read_faults n ≤ now.read_faults n)
        → Rose (mid.read_faults name) (now.read_faults name)
        → HasCopyCause name (output_names (files seen)) before now ReadFault
    read_cause later rose =
        let same : mid.read_faults ≡ before.read_faults = on.only.read_faults in
        record {
          reads = λ n. subst (λ (f : List ℕ → ℕ). f n ≤ now.read_faults n) same (later n);
          writes = λ n. same_at before.write_faults now.write_faults n
              (only.write_faults ∙ on.faults);
          read_failed = λ e. subst (λ (f : List ℕ → ℕ). Rose (f name) (now.read_faults name)) same
              rose;
          write_failed = λ e. absurd cc;
          read_quiet = λ e. absurd (e refl);
          write_quiet = λ e. only.write_faults ∙ on.faults;
        }

    pub short_read : {T : Type 0} (fault : PassFault) → HasPassCause {T = T} name mid now
        (Err fault)
        → IsCutShort held name files before now (second_fault fault)
    short_read (passes.Refused refusal) cause =
        short_with (Changed refusal) (quiet_cause (Changed refusal) (λ e. cc) (λ e. cc)
        (cause.quiet (λ e. cc)))
    short_read passes.ReadFault cause = short_with ReadFault
        (read_cause cause.later (cause.failed refl))
    short_read passes.NoMemory cause =
        short_with NoMemory (quiet_cause NoMemory (λ e. cc) (λ e. cc) (cause.quiet (λ e. cc)))
