-- How a command ends by a fault: what it has done stands after the line of the fault is printed.
use Rattle.std.proofs.Common.{◌≡◌, ◌≢◌, ℕ, ◌≤◌, List, Option, Some, None}
use Rattle.std.proofs.Common.{◌∙◌, refl, inl, inr}
use Rattle.shelf.specs.Shelf.{Files, Narrows, Outside, Known, Goes, OnlyPrints}
use Rattle.shelf.specs.Shelf.{AddsFront}
use Rattle.command_line.specs.Words.{Demand}
use Rattle.command_io.specs.Statuses.{Kind, kind_of, done, refusal, read_fault, write_fault}
use Rattle.command_io.specs.Statuses.{no_memory}
use Rattle.command_io.specs.Faults.{fault_text}
use Rattle.command_io.specs.declared.status.Status.{Status}
use Rattle.command_io.specs.declared.status.Status.TheVariants as status
use Rattle.shelf.specs.Laws.Known.{goes_map, narrows_by, narrows_then, rose_later, if_known, known_map}
use Rattle.shelf.specs.Laws.Known.{known_same}
use Rattle.shelf.specs.Laws.Known.{whole_prefix}
use Rattle.predator_cli.specs.Commands.{RepeatsReport}
use Rattle.predator_cli.specs.Written.{AreSame, OnlyAt, StandsInPart, StandsWhole}
use Rattle.predator_cli.specs.Written.{StaysAtReadFault, StaysAtRefusal, Writes}
use Rattle.predator_cli.specs.Again.{WhereDone}
use Rattle.predator_cli.specs.Answer.{answer_of, manner_in, outputs}
use Rattle.predator_cli.specs.Manners.{Manner, judged_before, read_again, read_along}
use Rattle.predator_cli.specs.Meets.{EndsAs, HasFailed, IsCaused, IsFaulty}
use Rattle.predator_cli.specs.Meets.{IsPrintable, IsQuiet, Meets, Printed}
use Rattle.predator_cli.specs.Meets.{Prints, RanOutAlone, ReadsInPeace}
use Rattle.predator_cli.proofs.Standing.{same_stands, whole_stands}

pub quiet_after : (a b d : Outside) → OnlyPrints b d → IsQuiet a b → IsQuiet a d
quiet_after a b d only quiet = record {
  reads = only.read_faults ∙ quiet.reads;
  writes = only.write_faults ∙ quiet.writes;
}

failed_after : (asked : Option Demand) (a b d : Outside) (k : Kind) → OnlyPrints b d
    → HasFailed asked a b k → HasFailed asked a d k
failed_after asked a b d done only failed = quiet_after a b d only failed
failed_after asked a b d refusal only failed = quiet_after a b d only failed
failed_after asked a b d read_fault only failed = record {
  reads = rw only.read_faults failed.reads;
  writes = only.write_faults ∙ failed.writes;
}
failed_after asked a b d write_fault only failed = record {
  reads = only.read_faults ∙ failed.reads;
  writes = rw only.write_faults failed.writes;
}
failed_after asked a b d no_memory only failed = quiet_after a b d only failed

-- its line was printed, or printing failed
line_alone : (a d : Outside) → IsQuiet a d → Printed a d (fault_text status.NoMemory)
    → RanOutAlone a d
line_alone a d quiet (inl whole) = record { quiet = quiet; prints = inl whole.1 }
line_alone a d quiet (inr failed) = record { quiet = quiet; prints = inr failed }

caused_at_line : (asked : Option Demand) (a d : Outside) (s : Status) → (kind_of s ≡ done → ⊥)
    → HasFailed asked a d (kind_of s) → Printed a d (fault_text s)
    → IsCaused asked a d (kind_of s)
caused_at_line asked a d status.Done n failed printed = absurd (n refl)
caused_at_line asked a d status.Budget n failed printed = absurd (n refl)
caused_at_line asked a d status.Deadlock n failed printed = absurd (n refl)
caused_at_line asked a d status.Trapped n failed printed = absurd (n refl)
caused_at_line asked a d status.WriteFault n failed printed = inl failed
caused_at_line asked a d status.NoMemory n failed printed = inl (line_alone a d failed printed)
caused_at_line asked a d s n failed printed = failed

-- memory ran out as the line was printed
ran_out_at_line : (asked : Option Demand) (a d : Outside) (s : Status)
    → HasFailed asked a d (kind_of s) → d.print_faults ≡ a.print_faults
    → AddsFront a.printed d.printed (fault_text s) → IsCaused asked a d no_memory
ran_out_at_line asked a d status.ReadFault failed same part =
    inr (record { line = inl (failed, part); prints = same })
ran_out_at_line asked a d status.WriteFault failed same part =
    inr (record { line = inr (failed, part); prints = same })
ran_out_at_line asked a d s failed same part = inl (record { quiet = failed; prints = inl same })

ends_after : (asked : Option Demand) (files : Files) (a b d : Outside) (k : Kind) (s : Status)
    → OnlyPrints b d → EndsAs asked files a b k s
    → EndsAs asked files a d k s
ends_after asked files a b d done s only ends = ends
ends_after asked files a b d refusal s only ends = ends
ends_after asked files a b d no_memory s only ends = tt
ends_after asked files a b d read_fault s only ends = rw only.read_faults ends
ends_after asked files a b d write_fault s only ends = ends

printed_prefix : (a d : Outside) (text : List ℕ) → Printed a d text
    → AddsFront a.printed d.printed text
printed_prefix a d text (inl whole) = whole_prefix a.printed d.printed text whole.0
printed_prefix a d text (inr failed) = failed.1

printable_after : (asked : Option Demand) (files : Files) (a b d : Outside) (text : List ℕ)
    → OnlyPrints b d
    → IsPrintable asked files a b text → IsPrintable asked files a d text
printable_after asked files a b d text only p = rw (only.read_faults, only.write_faults) p

printable_then : (asked : Option Demand) (a b d : Outside) (text : List ℕ) → OnlyPrints b d
    → Known b.held (λ files. IsPrintable asked files a b text)
    → Known d.held (λ files. IsPrintable asked files a d text)
printable_then asked a b d text only p =
    known_same (λ files. IsPrintable asked files a d text) b.held d.held only.held
    (known_map b.held (λ files is. printable_after asked files a b d text only is) p)

-- a fault's line was printed, whole or in part
prints_fault : (asked : Option Demand) (a d : Outside) (k : Kind) (s : Status) → (k ≡ done → ⊥)
    → Known d.held (λ files. IsPrintable asked files a d (fault_text s)) → Printed a d (fault_text s)
    → Prints asked a d k s
prints_fault asked a d done s n p printed = absurd (n refl)
prints_fault asked a d refusal s n p printed = printed
prints_fault asked a d read_fault s n p printed = printed
prints_fault asked a d write_fault s n p printed = inl printed
prints_fault asked a d no_memory s n p printed = known_map d.held
    (λ files is. (fault_text s, is, printed_prefix a d (fault_text s) printed))
    p

-- printing writes no file, and reads none
writes_after : (asked : Option Demand) (a b d : Outside) (k : Kind) → OnlyPrints b d
    → b.print_faults ≤ d.print_faults → Writes asked a b k → Writes asked a d k
writes_after asked a b d done only later writes = rw (only.held, only.written) writes
writes_after asked a b d refusal only later writes = rw (only.held, only.written) writes
writes_after asked a b d read_fault only later writes = rw (only.held, only.written) writes
writes_after asked a b d write_fault only later (inl cut) =
    inl (rw only.write_faults cut.0, rw (only.held, only.written) cut.1)
writes_after asked a b d write_fault only later (inr whole) = inr (
  rose_later a.print_faults b.print_faults d.print_faults whole.0 later,
  only.write_faults ∙ whole.1,
  rw (only.held, only.written) whole.2,
)
writes_after asked a b d no_memory only later writes = rw (only.held, only.written) writes

in_peace : (asked : Option Demand) (a b : Outside) (k : Kind) → HasFailed asked a b k
    → ReadsInPeace a b k
in_peace asked a b done failed = failed.reads
in_peace asked a b refusal failed = failed.reads
in_peace asked a b read_fault failed = tt
in_peace asked a b write_fault failed = failed.reads
in_peace asked a b no_memory failed = tt

-- what stands at a fault may stand where memory runs out after it
same_later : (asked : Option Demand) (a b : Outside) → Goes a.written b.written AreSame
    → Writes asked a b no_memory
same_later asked a b goes = if_known b.held (λ files. same_stands (answer_of asked files).outputs
    a.written b.written goes)

pub whole_later : (asked : Option Demand) (a b : Outside)
    → StandsWhole asked b.held a.written b.written
    → StandsInPart asked b.held a.written b.written
whole_later asked a b whole =
    known_map b.held
    (λ files goes. goes_map a.written b.written
    (λ before now is. whole_stands (answer_of asked files).outputs before now is) goes)
    whole

refused_later : (m : Manner) (asked : Option Demand) (a b : Outside)
    → StaysAtRefusal m asked b.held a.written b.written
    → Writes asked a b no_memory
refused_later judged_before asked a b writes = same_later asked a b writes
refused_later read_again asked a b writes =
    known_map b.held (λ files goes. same_stands (answer_of asked files).outputs a.written b.written
    goes) writes
refused_later (read_along left) asked a b writes = whole_later asked a b writes

unread_later : (m : Manner) (asked : Option Demand) (a b : Outside)
    → StaysAtReadFault m asked b.held a.written b.written
    → Writes asked a b no_memory
unread_later judged_before asked a b writes = same_later asked a b writes
unread_later read_again asked a b writes = writes
unread_later (read_along left) asked a b writes = writes

writes_later : (asked : Option Demand) (a b : Outside) (k : Kind) → (k ≡ done → ⊥)
    → Writes asked a b k → Writes asked a b no_memory
writes_later asked a b done n writes = absurd (n refl)
writes_later asked a b refusal n writes = refused_later (manner_in asked) asked a b writes
writes_later asked a b read_fault n writes = unread_later (manner_in asked) asked a b writes
writes_later asked a b write_fault n (inl cut) = cut.1
writes_later asked a b write_fault n (inr whole) = whole_later asked a b whole.2
writes_later asked a b no_memory n writes = writes

not_done : (P : Demand → Files → Type 0) (asked : Option Demand) (files : Files) (k : Kind)
    → (k ≡ done → ⊥) → WhereDone P asked files k
not_done P None files k n = tt
not_done P (Some demand) files done n = absurd (n refl)
not_done P (Some demand) files refusal n = tt
not_done P (Some demand) files read_fault n = tt
not_done P (Some demand) files write_fault n = tt
not_done P (Some demand) files no_memory n = tt

pub refuse_meets : (asked : Option Demand) (a b d : Outside) (s : Status) → IsFaulty asked a b s
    → OnlyPrints b d
    → b.print_faults ≤ d.print_faults → Printed b d (fault_text s) → Meets asked a d s
refuse_meets asked a b d s faulty only later printed =
    let same : Printed a d (fault_text s) = rw (← faulty.printed, ← faulty.print_faults) printed in
    let failed = failed_after asked a b d (kind_of s) only faulty.failed in
    record {
      ends = known_same (λ files. EndsAs asked files a d (kind_of s) s) b.held d.held only.held
          (known_map b.held (λ files ends. ends_after asked files a b d (kind_of s) s only ends)
          faulty.ends);
      usage = faulty.usage;
      refuses = faulty.refuses;
      caused = caused_at_line asked a d s faulty.fault failed same;
      memory = faulty.memory;
      peace = in_peace asked a d (kind_of s) failed;
      prints = prints_fault asked a d (kind_of s) s faulty.fault
          (printable_then asked a b d (fault_text s) only faulty.printable) same;
      writes = writes_after asked a b d (kind_of s) only later faulty.writes;
      only = rw only.written faulty.only;
      held = narrows_then a.held b.held d.held faulty.held (narrows_by b.held d.held only.held);
      again = if_known d.held (λ files. not_done RepeatsReport asked files (kind_of s) faulty.fault);
    }

-- memory ran out while a fault's line was printed
pub refuse_out_of_memory : (asked : Option Demand) (a b d : Outside) (s : Status)
    → IsFaulty asked a b s → OnlyPrints b d → d.print_faults ≡ b.print_faults
    → AddsFront b.printed d.printed (fault_text s) → Meets asked a d status.NoMemory
refuse_out_of_memory asked a b d s faulty only quiet printed =
    let part : AddsFront a.printed d.printed (fault_text s) = rw (← faulty.printed) printed in
    record {
      ends = if_known d.held (λ files. tt);
      usage = λ u. cc;
      refuses = λ r. inr refl;
      caused = ran_out_at_line asked a d s
          (failed_after asked a b d (kind_of s) only faulty.failed)
          (quiet ∙ faulty.print_faults) part;
      prints = known_map d.held (λ files p. (fault_text s, p, part))
          (printable_then asked a b d (fault_text s) only faulty.printable);
      memory = refl;
      peace = tt;
      writes = rw (only.held, only.written)
          (writes_later asked a b (kind_of s) faulty.fault faulty.writes);
      only = rw only.written faulty.only;
      held = narrows_then a.held b.held d.held faulty.held (narrows_by b.held d.held only.held);
      again = if_known d.held (λ files. not_done RepeatsReport asked files no_memory (λ e. cc));
    }

-- memory ran out
pub starved : (asked : Option Demand) (a b : Outside) → IsQuiet a b → Writes asked a b no_memory
    → OnlyAt (outputs asked) a b → Narrows a.held b.held
    → b.printed ≡ a.printed → b.print_faults ≡ a.print_faults → IsFaulty asked a b status.NoMemory
starved asked a b quiet writes only held printed print_faults = record {
  fault = λ e. cc;
  ends = if_known b.held (λ files. tt);
  usage = λ u. cc;
  refuses = λ u. inr refl;
  memory = refl;
  failed = quiet;
  printable = if_known b.held (λ files. inr (inl refl));
  writes = writes;
  only = only;
  held = held;
  printed = printed;
  print_faults = print_faults;
}

-- where reading and writing are in order, memory may run out before a line is made
still_quiet : (asked : Option Demand) (a b : Outside) (s : Status) → s ≢ status.ReadFault
    → s ≢ status.WriteFault → HasFailed asked a b (kind_of s) → IsQuiet a b
still_quiet asked a b status.ReadFault r w failed = absurd (r refl)
still_quiet asked a b status.WriteFault r w failed = absurd (w refl)
still_quiet asked a b s r w failed = failed

pub faulty_for_memory : (asked : Option Demand) (a b : Outside) (s : Status)
    → s ≢ status.ReadFault → s ≢ status.WriteFault → IsFaulty asked a b s
    → IsFaulty asked a b status.NoMemory
faulty_for_memory asked a b s r w faulty =
    starved asked a b (still_quiet asked a b s r w faulty.failed)
    (writes_later asked a b (kind_of s) faulty.fault faulty.writes) faulty.only faulty.held
    faulty.printed faulty.print_faults
