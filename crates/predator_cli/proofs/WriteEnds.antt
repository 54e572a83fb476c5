-- How a command ends whose files are written, whole or in part.
use Rattle.std.proofs.Common.{◌≡◌, ℕ, List, [], ◌∷◌, Option, Some, None, Bool, true, false, ◌||◌}
use Rattle.std.proofs.Common.{◌≤◌, map}
use Rattle.std.proofs.Common.{arith, refl, sym, ap, subst, ◌∙◌, inl, inr}
use Rattle.std.specs.List.{list_any}
use Rattle.std.specs.Option.{option_or}
use Rattle.std.specs.Str.{bytes_eq}
use Rattle.shelf.specs.Shelf.{Files, Goes, Narrows, Outside, Known}
use Rattle.shelf.specs.declared.shelf.ShelfError.{ShelfError}
use Rattle.shelf.specs.declared.shelf.ShelfError.TheVariants.{Failed, NoMemory}
use Rattle.command_line.specs.Words.{Demand, outputs as outputs_of}
use Rattle.shelf.specs.Files.{AreCut, AreWhole, AreWritten, BegunInOrder, Output}
use Rattle.shelf.specs.Files.{RoseAmong, bytes_for}
use Rattle.command_io.specs.Readings.{RoseAt, first_refusal}
use Rattle.command_io.specs.Statuses.{status_of_writing}
use Rattle.command_io.specs.Works.{Work}
use Rattle.command_io.specs.declared.status.Status.{Status}
use Rattle.shelf.specs.Laws.Files.{BegunInOrder-others}
use Rattle.shelf.specs.Laws.Known.{goes_map, if_known, known_both, known_map, known_still}
use Rattle.predator_cli.specs.Written.{OnlyAt}
use Rattle.predator_cli.specs.Answer.{answer_of}
use Rattle.predator_cli.specs.Commands.{RepeatsReport, manner_of, readings_of, work_of}
use Rattle.predator_cli.specs.Meets.{IsFaulty, IsWorked}
use Rattle.predator_cli.proofs.Ends.{own_outputs}
use Rattle.predator_cli.proofs.FaultEnds.{starved}
use Rattle.predator_cli.proofs.Manners.{first_accepted}
use Rattle.predator_cli.proofs.Standing.{whole_stands}

-- ---- names

pub or_false : (b c : Bool) → (b || c) ≡ false → (b ≡ false) × (c ≡ false)
or_false true c e = cc
or_false false c e = (refl, e)

missed : (n bytes name : List ℕ) (rest : List Output) → bytes_eq n name ≡ false
    → bytes_for (record { name = n; bytes = bytes } ∷ rest) name
    ≡ bytes_for rest name
missed n bytes name rest not_so = rw not_so refl

-- the names of outputs
abbrev pub names_in : List Output → List (List ℕ)
names_in outputs = map (λ o. o.name) outputs

-- a name that is none of the outputs has no bytes
not_written : (outputs : List Output) (name : List ℕ) → list_any (λ n. bytes_eq n name)
    (names_in outputs) ≡ false
    → bytes_for outputs name ≡ None
not_written [] name not_so = refl
not_written (o ∷ outputs) name not_so =
    let both = or_false (bytes_eq o.name name) (list_any (λ n. bytes_eq n name) (names_in outputs))
    not_so in
    missed o.name o.bytes name outputs both.0 ∙ not_written outputs name both.1

whole_only : (outputs : List Output) (a b : Outside) → Goes a.written b.written (AreWhole outputs)
    → OnlyAt (names_in outputs) a b
whole_only outputs a b goes =
    goes_map a.written b.written (λ before now whole name not_so. whole name
    ∙ ap (λ x. option_or x (before name))
    (not_written outputs name not_so)) goes

cut_only : (outputs : List Output) (a b : Outside)
    → Goes a.written b.written (BegunInOrder outputs)
    → OnlyAt (names_in outputs) a b
cut_only outputs a b goes =
    goes_map a.written b.written (λ before now begun name not_so. BegunInOrder-others outputs before
    now begun name (not_written outputs name not_so)) goes

-- the faults of one of the outputs rose
rose_among : (outputs : List Output) (before now : List ℕ → ℕ) → RoseAmong outputs before now
    → RoseAt (names_in outputs) before now
rose_among [] before now rose = rose
rose_among (o ∷ outputs) before now (inl rose) = inl rose
rose_among (o ∷ outputs) before now (inr rose) = inr (rose_among outputs before now rose)

-- memory may run out once all is written
pub written_cut : (outputs : List Output) (a b : Outside) → AreWritten outputs a b
    → AreCut outputs a b NoMemory
written_cut outputs a b written = record {
  begun = goes_map a.written b.written (whole_stands outputs) written.whole;
  cause = record { later = λ n. later_so n; failed = λ e. cc; quiet = λ e. written.faults };
  only = written.only;
}
  where
    later_so : (n : List ℕ) → a.write_faults n ≤ b.write_faults n
    later_so n = let same : b.write_faults n
        ≡ a.write_faults n = ap (λ (f : List ℕ → ℕ). f n) written.faults in omega (arith, same)

-- ---- how the command ends

-- what is known of the held files, before the files are written and behind: all that is read is
-- accepted, and so is the work
pub record IsToWrite (d : Demand) (w : Work) (held : Option Files) : Type 0 where
  pub accepts : Known held (λ files. first_refusal (readings_of d) files ≡ None)
  pub works : Known held (λ files. work_of d files ≡ w)
  pub names : names_in w.outputs ≡ outputs_of d

-- it stays known where less is known
pub still_to_write : (d : Demand) (w : Work) (o n : Option Files) → Narrows o n → IsToWrite d w o
    → IsToWrite d w n
still_to_write d w o n narrow ready = record {
  accepts = known_still (λ files. first_refusal (readings_of d) files ≡ None) o n narrow
      ready.accepts;
  works = known_still (λ files. work_of d files ≡ w) o n narrow ready.works;
  names = ready.names;
}

pub written_worked : (d : Demand) (w : Work) (a b : Outside) (st : Status) (text : List ℕ)
    → IsToWrite d w b.held
    → st ≡ w.status → text ≡ w.text → Known b.held (RepeatsReport d) → AreWritten w.outputs a b
    → IsWorked d a b st text
written_worked d w a b st text ready ends reported_text again written = record {
  accepts = ready.accepts;
  ends = known_map b.held (λ files is. ap (λ (x : Work). x.status) is ∙ sym ends) ready.works;
  same_text = known_map b.held (λ files is. ap (λ (x : Work). x.text) is ∙ sym reported_text)
      ready.works;
  whole = known_map b.held
      (λ files is. subst (λ (x : Work). Goes a.written b.written (AreWhole x.outputs))
      (sym is) written.whole) ready.works;
  only = subst (λ names. OnlyAt names a b) ready.names (whole_only w.outputs a b written.whole);
  again = again;
  held = written.only.held;
  quiet = record { reads = written.only.read_faults; writes = written.faults };
  printed = written.only.printed;
  print_faults = written.only.print_faults;
}

-- writing failed, or memory ran out
cut_stands : (d : Demand) (w : Work) (a b : Outside) → IsToWrite d w b.held
    → Goes a.written b.written (BegunInOrder w.outputs)
    → Known b.held (λ files. Goes a.written b.written
    (BegunInOrder (answer_of (Some d) files).outputs))
cut_stands d w a b ready cut =
    known_both b.held (λ files none is. own_outputs d files
    (λ outputs. Goes a.written b.written (BegunInOrder outputs)) none
    (subst (λ (x : Work). Goes a.written b.written (BegunInOrder x.outputs)) (sym is) cut))
    ready.accepts ready.works

pub writing_cut : (d : Demand) (w : Work) (a b : Outside) (error : ShelfError)
    → IsToWrite d w b.held
    → AreCut w.outputs a b error
    → IsFaulty (Some d) a b (status_of_writing error)
writing_cut d w a b Failed ready cut =
    let rose_at : RoseAt (outputs_of d) a.write_faults b.write_faults =
    subst (λ names. RoseAt names a.write_faults b.write_faults) ready.names
    (rose_among w.outputs a.write_faults b.write_faults (cut.cause.failed refl)) in
    record {
      fault = λ e. cc;
      ends = known_map b.held (λ files none. first_accepted (manner_of d) (readings_of d) files none)
          ready.accepts;
      usage = λ u. cc;
      refuses = λ u. cc;
      memory = refl;
      failed = record { reads = cut.only.read_faults; writes = rose_at };
      printable = if_known b.held (λ files. inr (inr (inr (refl, rose_at))));
      writes = inl (rose_at, cut_stands d w a b ready cut.begun);
      only = subst (λ names. OnlyAt names a b) ready.names (cut_only w.outputs a b cut.begun);
      held = cut.only.held;
      printed = cut.only.printed;
      print_faults = cut.only.print_faults;
    }
writing_cut d w a b NoMemory ready cut =
    starved (Some d) a b
    (record { reads = cut.only.read_faults; writes = cut.cause.quiet (λ e. cc) })
    (cut_stands d w a b ready cut.begun)
    (subst (λ names. OnlyAt names a b) ready.names (cut_only w.outputs a b cut.begun)) cut.only.held
    cut.only.printed cut.only.print_faults
