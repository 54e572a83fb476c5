-- What a reading of a trace gives `place`.
use Rattle.std.proofs.Common.{◌≡◌, ◌∙◌, ℕ, List, [], Option, ap, inl, inr, subst, sym}
use Rattle.std.specs.Prelude.{IfOk, Result, Ok, Err}
use Rattle.std.specs.Option.{option_map_or}
use Rattle.command_line.specs.Place.{PlaceDemand}
use Rattle.command_line.specs.Words.{Demand}
use Rattle.placement.specs.Passing.{HasSought, Seeks}
use Rattle.placement.specs.Sought.{object_of}
use Rattle.placement.specs.declared.extent.Extent.{Extent}
use Rattle.placement.specs.declared.finder.Finder.{Finder}
use Rattle.shelf.specs.Laws.Known.{narrows_then, read_both, known_map}
use Rattle.shelf.specs.Shelf.{Files, HasRead, Outside, Known}
use Rattle.trace_format.specs.declared.record.TraceRecord.{TraceRecord}
use Rattle.trace_passes.specs.Passes.{HasPassed, Trace, all_records}
use Rattle.trace_passes.specs.declared.passes.Passed.{Passed}
use Rattle.command_io.specs.Faults.{fault_text}
use Rattle.command_io.specs.Readings.{IsAccepted}
use Rattle.command_io.specs.Statuses.{Kind, kind_of, done, refusal, read_fault, write_fault}
use Rattle.command_io.specs.Statuses.{no_memory}
use Rattle.command_io.specs.declared.status.Status.{Status}
use Rattle.predator_cli.specs.Meets.{EndsAs, HasFailed, IsAnswered, IsFaulty, IsPrintable, IsQuiet}
use Rattle.predator_cli.specs.Place.{Means, WasRead, place_readings, records_for, records_of}
use Rattle.predator_cli.specs.Written.{Writes}

-- what a pass gave its observer are the records
passed_records : (d : PlaceDemand) (held : Option Files) (passed : Passed)
    (P : List TraceRecord → Type 0)
    → HasPassed held d.trace passed P → Known held (λ files. P (records_for d files))
passed_records d held passed P has = known_map held
    (λ files whole. subst (λ (bytes : List ℕ). P (records_of bytes)) whole
    (subst P (sym (ap (λ (t : Option Trace). option_map_or all_records t []) has.is)) has.saw))
    has.whole

-- the object that a finder has found is the one that is meant
pub object_sought : (d : PlaceDemand) (a b : Outside) (begun now : Finder) (passed : Passed)
    (object : Option Extent)
    → IsAccepted (place_readings d) a b → HasPassed b.held d.trace passed (HasSought begun now)
    → Seeks d.name d.at begun []
    → ((items : List TraceRecord) → Seeks d.name d.at now items
    → object ≡ object_of d.name d.at items)
    → WasRead d (Means d object) a b
object_sought d a b begun now passed object accepted saw seeks found = record {
  accepted = accepted;
  holds = known_map b.held
      (λ files. λ (sought : HasSought begun now (records_for d files)). sym
      (found (records_for d files) (sought.sought d.name d.at [] seeks)))
      (passed_records d b.held passed (HasSought begun now) saw);
}

-- ---- behind an earlier reading

-- what a call did that began where something was read, and nothing else was done
module _ (asked : Option Demand) (a m b : Outside) (read : HasRead a m) where
  quiet_behind : IsQuiet m b → IsQuiet a b
  quiet_behind quiet = record {
    reads = quiet.reads ∙ read.faults;
    writes = quiet.writes ∙ read.only.write_faults;
  }

  ends_behind : (files : Files) (k : Kind) (s : Status) → EndsAs asked files m b k s
      → EndsAs asked files a b k s
  ends_behind files done s ends = ends
  ends_behind files refusal s ends = ends
  ends_behind files read_fault s ends = rw (← read.faults) ends
  ends_behind files write_fault s ends = ends
  ends_behind files no_memory s ends = tt

  failed_behind : (k : Kind) → HasFailed asked m b k → HasFailed asked a b k
  failed_behind done failed = quiet_behind failed
  failed_behind refusal failed = quiet_behind failed
  failed_behind read_fault failed = record {
    reads = rw (← read.faults) failed.reads;
    writes = failed.writes ∙ read.only.write_faults;
  }
  failed_behind write_fault failed = record {
    reads = failed.reads ∙ read.faults;
    writes = rw (← read.only.write_faults) failed.writes;
  }
  failed_behind no_memory failed = quiet_behind failed

  printable_behind : (files : Files) (text : List ℕ) → IsPrintable asked files m b text
      → IsPrintable asked files a b text
  printable_behind files text p = rw (← read.faults, ← read.only.write_faults) p

  writes_behind : (k : Kind) → Writes asked m b k → Writes asked a b k
  writes_behind done writes = rw (← read.only.written) writes
  writes_behind refusal writes = rw (← read.only.written) writes
  writes_behind read_fault writes = rw (← read.only.written) writes
  writes_behind write_fault (inl cut) =
      inl (rw (← read.only.write_faults) cut.0, rw (← read.only.written) cut.1)
  writes_behind write_fault (inr whole) = inr (
    rw (← read.only.print_faults) whole.0,
    whole.1 ∙ read.only.write_faults,
    rw (← read.only.written) whole.2,
  )
  writes_behind no_memory writes = rw (← read.only.written) writes

  pub faulty_behind : (s : Status) → IsFaulty asked m b s → IsFaulty asked a b s
  faulty_behind s faulty = record {
    fault = faulty.fault;
    ends = known_map b.held (λ files ends. ends_behind files (kind_of s) s ends) faulty.ends;
    usage = faulty.usage;
    refuses = faulty.refuses;
    memory = faulty.memory;
    failed = failed_behind (kind_of s) faulty.failed;
    printable = known_map b.held (λ files p. printable_behind files (fault_text s) p)
        faulty.printable;
    writes = writes_behind (kind_of s) faulty.writes;
    only = rw (← read.only.written) faulty.only;
    held = narrows_then a.held m.held b.held read.only.held faulty.held;
    printed = faulty.printed ∙ read.only.printed;
    print_faults = faulty.print_faults ∙ read.only.print_faults;
  }

pub answered_behind : (d : Demand) (a m b : Outside) (text : List ℕ) → HasRead a m
    → IsAnswered d m b text
    → IsAnswered d a b text
answered_behind d a m b text read answered = record {
  accepted = record {
    accepts = answered.accepted.accepts;
    read = read_both a m b read answered.accepted.read;
  };
  work = answered.work;
  again = answered.again;
}

-- the same where a call may have given a text
pub answered_ok : {T E : Type 0} (items : T → List ℕ) (d : Demand) (a m b : Outside) (r : Result T E)
    → HasRead a m → IfOk r (λ x. IsAnswered d m b (items x))
    → IfOk r (λ x. IsAnswered d a b (items x))
answered_ok items d a m b (Ok x) read answered = answered_behind d a m b (items x) read answered
answered_ok items d a m b (Err e) read answered = tt
