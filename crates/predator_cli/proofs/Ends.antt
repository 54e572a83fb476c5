-- How a command ends that did its work, and one whose words or files were not read.
use Rattle.std.proofs.Common.{◌≡◌, ◌≢◌, ℕ, false, List, [], Option, Some, None}
use Rattle.std.proofs.Common.{sym, ◌∙◌, ap, refl, inl, inr}
use Rattle.shelf.specs.Shelf.{Files, Narrows, Outside, Known, Goes, Rose, OnlyPrints, OnlyReads}
use Rattle.shelf.specs.Shelf.{Adds}
use Rattle.shelf.specs.Shelf.{AddsFront}
use Rattle.command_line.specs.Words.{Demand, outputs as outputs_of}
use Rattle.command_io.specs.Readings.{IsAccepted, IsStopped, first_refusal}
use Rattle.command_io.specs.Works.{Work, done_with, refused_with}
use Rattle.command_io.specs.Statuses.{Kind, kind_of, done, refusal}
use Rattle.command_io.specs.Statuses.{hides_no_memory}
use Rattle.shelf.specs.Files.{AreWhole, Output}
use Rattle.command_io.specs.declared.status.Status.{Status}
use Rattle.command_io.specs.declared.status.Status.TheVariants as status
use Rattle.shelf.specs.Laws.Files.{none_begun}
use Rattle.shelf.specs.Laws.Known.{goes_same, narrows_by, narrows_same, narrows_then, only_none}
use Rattle.shelf.specs.Laws.Known.{if_known, known_both, known_map, known_same}
use Rattle.predator_cli.specs.Commands.{RepeatsReport, first_readings_of, manner_of, readings_of}
use Rattle.predator_cli.specs.Commands.{work_of}
use Rattle.predator_cli.specs.Manners.{Manner, judged_before, read_again, read_along}
use Rattle.predator_cli.specs.Written.{AreSame, StandsInPart}
use Rattle.predator_cli.specs.Written.{StaysAtReadFault, StaysAtRefusal, Writes}
use Rattle.predator_cli.specs.Again.{WhereDone}
use Rattle.predator_cli.specs.Answer.{answer_of, outputs}
use Rattle.predator_cli.specs.Meets.{EndsAs, HasFailed, IsAnswered, IsCaused, IsFaulty}
use Rattle.predator_cli.specs.Meets.{IsQuiet, IsWorked, Meets}
use Rattle.predator_cli.specs.Meets.{Prints, ReadsInPeace}
use Rattle.predator_cli.proofs.Standing.{only_same_names}
use Rattle.predator_cli.proofs.FaultEnds.{quiet_after, starved, whole_later}
use Rattle.predator_cli.proofs.Manners.{all_stopped, first_accepted, first_refused}

-- ---- the command's own text

-- the answer of a command whose files are accepted
pub accepted_answer : (demand : Demand) (files : Files) → first_refusal (readings_of demand) files
    ≡ None
    → answer_of (Some demand) files ≡ work_of demand files
accepted_answer demand files none = rw none refl

finished_ends : (demand : Demand) (files : Files) (a d : Outside) (s : Status) → kind_of s ≡ done
    → first_refusal (readings_of demand) files
    ≡ None → (work_of demand files).status ≡ s → EndsAs (Some demand) files a d (kind_of s) s
finished_ends demand files a d s kind none is = rw kind
    (ap (λ (w : Work). w.status) (accepted_answer demand files none) ∙ is)

own_text : (demand : Demand) (files : Files) (text : List ℕ)
    → first_refusal (readings_of demand) files ≡ None
    → (work_of demand files).text ≡ text → (answer_of (Some demand) files).text ≡ text
own_text demand files text none is = ap (λ (w : Work). w.text) (accepted_answer demand files none)
    ∙ is

own_texts : (demand : Demand) (a b : Outside) (s : Status) (text : List ℕ)
    → IsWorked demand a b s text
    → Known b.held (λ files. (answer_of (Some demand) files).text ≡ text)
own_texts demand a b s text worked = known_both b.held
    (λ files none is. own_text demand files text none is) worked.accepts worked.same_text

-- the outputs of a command whose files are accepted
pub own_outputs : (demand : Demand) (files : Files) (P : List Output → Type 0)
    → first_refusal (readings_of demand) files ≡ None
    → P (work_of demand files).outputs → P (answer_of (Some demand) files).outputs
own_outputs demand files P none p = rw (ap (λ (w : Work). w.outputs)
    (accepted_answer demand files none)) p

whole_after : (demand : Demand) (a b : Outside) (s : Status) (text : List ℕ)
    → IsWorked demand a b s text
    → Known b.held (λ files. Goes a.written b.written
    (AreWhole (answer_of (Some demand) files).outputs))
whole_after demand a b s text worked =
    known_both b.held (λ files none whole. own_outputs demand files
    (λ outputs. Goes a.written b.written (AreWhole outputs)) none whole)
    worked.accepts worked.whole

part_after : (demand : Demand) (a b : Outside) (s : Status) (text : List ℕ)
    → IsWorked demand a b s text
    → StandsInPart (Some demand) b.held a.written b.written
part_after demand a b s text worked = whole_later (Some demand) a b
    (whole_after demand a b s text worked)

whole_writes : (k : Kind) (asked : Option Demand) (a b : Outside) → k ≡ done
    → Known b.held (λ files. Goes a.written b.written (AreWhole (answer_of asked files).outputs))
    → Writes asked a b k
whole_writes k asked a b is whole = rw is whole

whole_printed : (demand : Demand) (a d : Outside) (s : Status) (text : List ℕ) → kind_of s ≡ done
    → Known d.held (λ files. (answer_of (Some demand) files).text ≡ text)
    → Adds a.printed d.printed text
    → Prints (Some demand) a d (kind_of s) s
whole_printed demand a d s text kind texts printed = rw kind
    (known_map d.held (λ files is. rw is printed) texts)

peace_kept : (a d : Outside) (k : Kind) → k ≡ done → d.read_faults ≡ a.read_faults
    → ReadsInPeace a d k
peace_kept a d k is same = rw is same

no_memory_hidden : (s : Status) → kind_of s ≡ done → hides_no_memory s ≡ false
no_memory_hidden status.Done kind = refl
no_memory_hidden status.Usage kind = refl
no_memory_hidden (status.Elf fault) kind = refl
no_memory_hidden (status.Schedule fault) kind = let k : refusal ≡ done = kind in cc
no_memory_hidden (status.Settings fault) kind = let k : refusal ≡ done = kind in cc
no_memory_hidden (status.Trace fault) kind = let k : refusal ≡ done = kind in cc
no_memory_hidden status.NoPcs kind = refl
no_memory_hidden status.Filtered kind = refl
no_memory_hidden status.TooWide kind = refl
no_memory_hidden (status.State fault) kind = refl
no_memory_hidden status.ReadFault kind = refl
no_memory_hidden status.WriteFault kind = refl
no_memory_hidden status.NoMemory kind = refl
no_memory_hidden status.Budget kind = refl
no_memory_hidden status.Deadlock kind = refl
no_memory_hidden status.Trapped kind = refl
no_memory_hidden (status.Place refused) kind = refl
no_memory_hidden (status.Table fault) kind = let k : refusal ≡ done = kind in cc
no_memory_hidden (status.Occupied addr) kind = refl
no_memory_hidden (status.Far addr) kind = refl

no_usage : (s : Status) → kind_of s ≡ done → s ≡ status.Usage → ⊥
no_usage s kind u = let k : kind_of status.Usage ≡ done = ap kind_of (sym u) ∙ kind in cc

no_cause : (asked : Option Demand) (a d : Outside) (k : Kind) → k ≡ done → IsQuiet a d
    → d.print_faults ≡ a.print_faults → IsCaused asked a d k
no_cause asked a d k is quiet same = rw is (quiet, same)

at_done : (P : Demand → Files → Type 0) (k : Kind) (demand : Demand) (files : Files) → k ≡ done
    → P demand files
    → WhereDone P (Some demand) files k
at_done P k demand files is holds = rw is holds

-- what is known of what was done, once a text is printed behind it
printed_texts : (demand : Demand) (a b d : Outside) (s : Status) (text : List ℕ)
    → IsWorked demand a b s text
    → OnlyPrints b d
    → Known d.held (λ files. (answer_of (Some demand) files).text ≡ text)
printed_texts demand a b d s text worked only =
    known_same (λ files. (answer_of (Some demand) files).text ≡ text) b.held d.held only.held
    (own_texts demand a b s text worked)

held_after : (a b d : Outside) → Narrows a.held b.held → OnlyPrints b d → Narrows a.held d.held
held_after a b d narrow only = narrows_then a.held b.held d.held narrow
    (narrows_by b.held d.held only.held)

pub finish_meets : (demand : Demand) (a b d : Outside) (s : Status) (text : List ℕ) → kind_of s
    ≡ done → IsWorked demand a b s text
    → OnlyPrints b d → d.print_faults ≡ b.print_faults → Adds b.printed d.printed text
    → Meets (Some demand) a d s
finish_meets demand a b d s text kind worked only same printed =
    let whole : Adds a.printed d.printed text = rw (← worked.printed) printed in
    let quiet = quiet_after a b d only worked.quiet in
    record {
      ends = known_same (λ files. EndsAs (Some demand) files a d (kind_of s) s) b.held d.held
          only.held
          (known_both b.held (λ files none is. finished_ends demand files a d s kind none is)
          worked.accepts worked.ends);
      usage = λ u. absurd (no_usage s kind u);
      refuses = λ r. cc;
      caused = no_cause (Some demand) a d (kind_of s) kind quiet (same ∙ worked.print_faults);
      memory = no_memory_hidden s kind;
      peace = peace_kept a d (kind_of s) kind quiet.reads;
      prints = whole_printed demand a d s text kind (printed_texts demand a b d s text worked only)
          whole;
      writes = whole_writes (kind_of s) (Some demand) a d kind
          (rw (only.held, only.written) (whole_after demand a b s text worked));
      only = rw only.written worked.only;
      held = held_after a b d worked.held only;
      again = known_same (λ files. WhereDone RepeatsReport (Some demand) files (kind_of s)) b.held
          d.held only.held
          (known_map b.held (λ files is. at_done RepeatsReport (kind_of s) demand files kind is)
          worked.again);
    }

-- printing it failed
pub finish_failed : (demand : Demand) (a b d : Outside) (s : Status) (text : List ℕ)
    → IsWorked demand a b s text → OnlyPrints b d
    → Rose b.print_faults d.print_faults → AddsFront b.printed d.printed text
    → Meets (Some demand) a d status.WriteFault
finish_failed demand a b d s text worked only rose printed =
    let rose_a : Rose a.print_faults d.print_faults = rw (← worked.print_faults) rose in
    let part : AddsFront a.printed d.printed text = rw (← worked.printed) printed in
    let quiet = quiet_after a b d only worked.quiet in
    record {
      ends = known_same (λ files. first_refusal (first_readings_of demand) files ≡ None) b.held
          d.held only.held (known_map b.held (λ files none. first_accepted (manner_of demand)
          (readings_of demand) files none) worked.accepts);
      usage = λ u. cc;
      refuses = λ r. cc;
      memory = refl;
      caused = inr (quiet, rose_a);
      peace = quiet.reads;
      prints = inr (known_map d.held (λ files is. (rose_a, rw is part))
          (printed_texts demand a b d s text worked only));
      writes = inr (
        rose_a,
        quiet.writes,
        rw (only.held, only.written) (whole_after demand a b s text worked),
      );
      only = rw only.written worked.only;
      held = held_after a b d worked.held only;
      again = if_known d.held (λ files. tt);
    }

-- memory ran out while it was printed
pub finish_out_of_memory : (demand : Demand) (a b d : Outside) (s : Status) (text : List ℕ)
    → IsWorked demand a b s text → OnlyPrints b d → d.print_faults ≡ b.print_faults
    → AddsFront b.printed d.printed text → Meets (Some demand) a d status.NoMemory
finish_out_of_memory demand a b d s text worked only same printed =
    let part : AddsFront a.printed d.printed text = rw (← worked.printed) printed in
    record {
      ends = if_known d.held (λ files. tt);
      usage = λ u. cc;
      refuses = λ r. inr refl;
      memory = refl;
      caused = inl (record {
        quiet = quiet_after a b d only worked.quiet;
        prints = inl (same ∙ worked.print_faults);
      });
      peace = tt;
      prints = known_map d.held (λ files is. (text, inl (sym is), part))
          (printed_texts demand a b d s text worked only);
      writes = rw (only.held, only.written) (part_after demand a b s text worked);
      only = rw only.written worked.only;
      held = held_after a b d worked.held only;
      again = if_known d.held (λ files. tt);
    }

-- memory ran out before it was made
pub finish_unknown : (demand : Demand) (a b : Outside) (s : Status) (text : List ℕ)
    → IsWorked demand a b s text
    → IsFaulty (Some demand) a b status.NoMemory
finish_unknown demand a b s text worked =
    starved (Some demand) a b worked.quiet (part_after demand a b s text worked) worked.only
    worked.held worked.printed worked.print_faults

-- a command that writes nothing
module _ (o : Option Files) (work : Files → Work) (w : Work)
    (works : Known o (λ files. work files ≡ w))
  where
    known_status : Known o (λ files. (work files).status ≡ w.status)
    known_status = known_map o (λ files is. ap (λ (x : Work). x.status) is) works

    reported_text : Known o (λ files. (work files).text ≡ w.text)
    reported_text = known_map o (λ files is. ap (λ (x : Work). x.text) is) works

    none_written : w.outputs ≡ [] → (before : Option Files)
        → Known o (λ files. Goes before before (AreWhole (work files).outputs))
    none_written none before =
        known_map o (λ files is. goes_same _ before (λ names. no_outputs files names is)) works
      where
        no_outputs : (files names : Files) → work files ≡ w
            → AreWhole (work files).outputs names names
        no_outputs files names is =
            rw (ap (λ (x : Work). x.outputs) is ∙ none) (λ name. refl)

-- so a command that has a text alone, with whatever status
pub known_worked : (demand : Demand) (a b : Outside) (w : Work) → w.outputs ≡ []
    → IsAccepted (readings_of demand) a b → Known b.held (λ files. work_of demand files ≡ w)
    → ((files : Files) → RepeatsReport demand files) → IsWorked demand a b w.status w.text
known_worked demand a b w none accepted works again =
    let only = accepted.read.only in
    record {
      accepts = accepted.accepts;
      ends = known_status b.held (work_of demand) w works;
      same_text = reported_text b.held (work_of demand) w works;
      whole = rw only.written (none_written b.held (work_of demand) w works none a.written);
      only = only_same_names (outputs_of demand) a b only.written;
      again = if_known b.held again;
      quiet = record { reads = accepted.read.faults; writes = only.write_faults };
      held = only.held;
      printed = only.printed;
      print_faults = only.print_faults;
    }

pub answered_worked : (demand : Demand) (a b : Outside) (text : List ℕ) → IsAnswered demand a b text
    → IsWorked demand a b status.Done text
answered_worked demand a b text answered =
    known_worked demand a b (done_with text) refl answered.accepted answered.work answered.again

-- ---- where nothing is read, or the reading stopped

-- refused words
pub words_refused : (a : Outside) → IsFaulty None a a status.Usage
words_refused a = record {
  fault = λ e. cc;
  ends = if_known a.held (λ files. refl);
  usage = λ u. refl;
  refuses = λ r. inl refl;
  memory = refl;
  failed = record { reads = refl; writes = refl };
  printable = if_known a.held (λ files. inl refl);
  writes = goes_same AreSame a.written (λ before name. refl);
  only = only_same_names [] a a refl;
  held = narrows_same a.held;
  printed = refl;
  print_faults = refl;
}

part_same : (asked : Option Demand) (held o : Option Files) → StandsInPart asked held o o
part_same asked held o =
    if_known held (λ files. goes_same _ o (λ before. none_begun (answer_of asked files).outputs before
    before (λ name. refl)))

-- so at a refusal that leaves nothing
refused_same : (m : Manner) (asked : Option Demand) (held o : Option Files)
    → Known held (λ files. (answer_of asked files).outputs ≡ []) → StaysAtRefusal m asked held o o
refused_same judged_before asked held o none = goes_same AreSame o (λ before name. refl)
refused_same read_again asked held o none =
    if_known held (λ files. goes_same AreSame o (λ before name. refl))
refused_same (read_along left) asked held o none =
    known_map held (λ files is. goes_same (AreWhole (answer_of asked files).outputs) o
    (λ names. all_same files names is)) none
  where
    all_same : (files names : Files) → (answer_of asked files).outputs ≡ []
        → AreWhole (answer_of asked files).outputs names names
    all_same files names is = rw is (λ name. refl)

unread_same : (m : Manner) (asked : Option Demand) (held o : Option Files)
    → StaysAtReadFault m asked held o o
unread_same judged_before asked held o = goes_same AreSame o (λ before name. refl)
unread_same read_again asked held o = part_same asked held o
unread_same (read_along left) asked held o = part_same asked held o

-- memory ran out
pub memory_faulty : (asked : Option Demand) (a b : Outside) → b.read_faults ≡ a.read_faults
    → OnlyReads a b → IsFaulty asked a b status.NoMemory
memory_faulty asked a b peace only =
    starved asked a b (record { reads = peace; writes = only.write_faults })
    (rw only.written (part_same asked b.held a.written))
    (only_same_names (outputs asked) a b only.written) only.held
    only.printed only.print_faults

pub words_unread : (asked : Option Demand) (a : Outside) → IsFaulty asked a a status.NoMemory
words_unread asked a = memory_faulty asked a a refl (only_none a)

refused_answer : (demand : Demand) (files : Files) (s : Status)
    → first_refusal (first_readings_of demand) files ≡ Some s
    → answer_of (Some demand) files ≡ refused_with s
refused_answer demand files s is =
    first_refused (manner_of demand) (readings_of demand) (work_of demand) files s is

-- a refusal is the answer
pub refusal_faulty : (demand : Demand) (a b : Outside) (s : Status) → kind_of s ≡ refusal
    → s ≢ status.Usage → hides_no_memory s ≡ false
    → Known b.held (λ files. answer_of (Some demand) files ≡ refused_with s)
    → b.read_faults ≡ a.read_faults → OnlyReads a b → IsFaulty (Some demand) a b s
refusal_faulty demand a b s kind words memory refused peace only = record {
  fault = not_done_so;
  ends = known_map b.held (λ files is. ends_so files is) refused;
  usage = λ u. absurd (words u);
  refuses = λ r. cc;
  memory = memory;
  failed = failed_so;
  printable = known_map b.held (λ files is. inl (sym (ap (λ (w : Work). w.text) is))) refused;
  writes = writes_so;
  only = only_same_names (outputs (Some demand)) a b only.written;
  held = only.held;
  printed = only.printed;
  print_faults = only.print_faults;
}
  where
    not_done_so : kind_of s ≡ done → ⊥
    not_done_so e = let k : refusal ≡ done = sym kind ∙ e in cc

    ends_so : (files : Files) → answer_of (Some demand) files ≡ refused_with s
        → EndsAs (Some demand) files a b (kind_of s) s
    ends_so files is = rw kind (ap (λ (w : Work). w.status) is)

    quiet : IsQuiet a b
    quiet = record { reads = peace; writes = only.write_faults }

    failed_so : HasFailed (Some demand) a b (kind_of s)
    failed_so = rw kind quiet

    nothing_left : (files : Files) → answer_of (Some demand) files ≡ refused_with s
        → (answer_of (Some demand) files).outputs ≡ []
    nothing_left files is = ap (λ (w : Work). w.outputs) is

    none_left : Known b.held (λ files. (answer_of (Some demand) files).outputs ≡ [])
    none_left = known_map b.held (λ files is. nothing_left files is) refused

    stays : Writes (Some demand) a b refusal
    stays = rw only.written
        (refused_same (manner_of demand) (Some demand) b.held a.written none_left)

    writes_so : Writes (Some demand) a b (kind_of s)
    writes_so = rw kind stays

-- a file is refused
file_faulty : (demand : Demand) (a b : Outside) (s : Status) → kind_of s ≡ refusal
    → s ≢ status.Usage → hides_no_memory s ≡ false
    → Known b.held (λ files. first_refusal (first_readings_of demand) files ≡ Some s)
    → b.read_faults ≡ a.read_faults → OnlyReads a b → IsFaulty (Some demand) a b s
file_faulty demand a b s kind words memory refused peace only =
    refusal_faulty demand a b s kind words memory
    (known_map b.held (λ files is. refused_answer demand files s is) refused) peace only

-- reading a file failed
reading_faulty : (demand : Demand) (a b : Outside)
    → IsStopped (readings_of demand) a b status.ReadFault
    → IsFaulty (Some demand) a b status.ReadFault
reading_faulty demand a b stopped = record {
  fault = λ e. cc;
  ends = stopped.why.1;
  usage = λ u. cc;
  refuses = λ r. cc;
  memory = refl;
  failed = record { reads = stopped.why.0; writes = stopped.only.write_faults };
  printable = known_map b.held (λ files fails. inr (inr (inl (refl, fails)))) stopped.why.1;
  writes = rw stopped.only.written
      (unread_same (manner_of demand) (Some demand) b.held a.written);
  only = only_same_names (outputs (Some demand)) a b stopped.only.written;
  held = stopped.only.held;
  printed = stopped.only.printed;
  print_faults = stopped.only.print_faults;
}

pub stopped_faulty : (demand : Demand) (a b : Outside) (s : Status)
    → IsStopped (first_readings_of demand) a b s → IsFaulty (Some demand) a b s
stopped_faulty demand a b status.Done stopped = absurd stopped.why
stopped_faulty demand a b status.Usage stopped = absurd (stopped.words refl)
stopped_faulty demand a b (status.Elf fault) stopped = file_faulty demand a b
    (status.Elf fault) refl stopped.words stopped.memory
    stopped.why.0 stopped.why.1 stopped.only
stopped_faulty demand a b (status.Schedule fault) stopped = file_faulty demand a b
    (status.Schedule fault) refl stopped.words stopped.memory
    stopped.why.0 stopped.why.1 stopped.only
stopped_faulty demand a b (status.Settings fault) stopped = file_faulty demand a b
    (status.Settings fault) refl stopped.words stopped.memory
    stopped.why.0 stopped.why.1 stopped.only
stopped_faulty demand a b (status.Trace fault) stopped = file_faulty demand a b
    (status.Trace fault) refl stopped.words stopped.memory
    stopped.why.0 stopped.why.1 stopped.only
stopped_faulty demand a b status.NoPcs stopped = file_faulty demand a b
    status.NoPcs refl stopped.words stopped.memory
    stopped.why.0 stopped.why.1 stopped.only
stopped_faulty demand a b status.Filtered stopped = file_faulty demand a b
    status.Filtered refl stopped.words stopped.memory
    stopped.why.0 stopped.why.1 stopped.only
stopped_faulty demand a b status.TooWide stopped = file_faulty demand a b
    status.TooWide refl stopped.words stopped.memory
    stopped.why.0 stopped.why.1 stopped.only
stopped_faulty demand a b (status.State fault) stopped = file_faulty demand a b
    (status.State fault) refl stopped.words stopped.memory
    stopped.why.0 stopped.why.1 stopped.only
stopped_faulty demand a b status.ReadFault stopped =
    reading_faulty demand a b
    (all_stopped (manner_of demand) (readings_of demand) a b status.ReadFault stopped)
stopped_faulty demand a b status.WriteFault stopped = absurd stopped.why
stopped_faulty demand a b status.NoMemory stopped = memory_faulty (Some demand) a b stopped.why
    stopped.only
stopped_faulty demand a b status.Budget stopped = absurd stopped.why
stopped_faulty demand a b status.Deadlock stopped = absurd stopped.why
stopped_faulty demand a b status.Trapped stopped = absurd stopped.why
stopped_faulty demand a b (status.Place refused) stopped = file_faulty demand a b
    (status.Place refused) refl stopped.words stopped.memory
    stopped.why.0 stopped.why.1 stopped.only
stopped_faulty demand a b (status.Table fault) stopped = file_faulty demand a b
    (status.Table fault) refl stopped.words stopped.memory
    stopped.why.0 stopped.why.1 stopped.only
stopped_faulty demand a b (status.Occupied addr) stopped = file_faulty demand a b
    (status.Occupied addr) refl stopped.words stopped.memory
    stopped.why.0 stopped.why.1 stopped.only
stopped_faulty demand a b (status.Far addr) stopped = file_faulty demand a b
    (status.Far addr) refl stopped.words stopped.memory
    stopped.why.0 stopped.why.1 stopped.only
