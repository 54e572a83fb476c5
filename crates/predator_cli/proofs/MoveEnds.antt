-- How a command ends that writes a trace with its accesses moved.
use Rattle.std.proofs.Common.{◌≡◌, ◌≢◌, ◌<◌, ◌≤◌, ℕ, List, [], ◌∷◌, Option, Some, None, Result, Ok}
use Rattle.std.proofs.Common.{true, false, length, refl, sym, ap, subst, ◌∙◌, inl, inr}
use Rattle.std.proofs.lemmas.Option.{same_Some}
use Rattle.std.proofs.lemmas.Slice.Eq.{bytes_eq-Decides}
use Rattle.std.specs.List.{All, list_any}
use Rattle.std.specs.Option.{option_map, option_map_or, option_or}
use Rattle.std.specs.Prelude.{unwrap_or}
use Rattle.std.specs.Str.{bytes_eq}
use Rattle.command_line.specs.Relocate.{MoveDemand}
use Rattle.command_line.specs.Words.{relocate, outputs as outputs_of}
use Rattle.shelf.specs.Files.{AreWhole, BegunInOrder, Output, bytes_for, one_file}
use Rattle.shelf.specs.Laws.Files.{AreWritten-behind}
use Rattle.shelf.specs.Laws.Known.{goes_map, if_known, known_both, known_map}
use Rattle.shelf.specs.Shelf.{Files, Goes, Outside, Known, content}
use Rattle.trace_files.specs.Copies.{HasCopied}
use Rattle.trace_files.specs.Moves.{IsFree, moved_list}
use Rattle.trace_files.specs.Moving.{HasGivenUp, IsCounted, IsNearFiltered, IsRefused, fault_of}
use Rattle.trace_files.specs.Moving.{moved, moving, written_of}
use Rattle.trace_files.specs.Tables.{IsTable, table_of}
use Rattle.trace_files.specs.declared.move_fault.MoveFault.{MoveFault}
use Rattle.trace_files.specs.declared.move_fault.MoveFault.TheVariants.{Far, NoMemory, Occupied}
use Rattle.trace_files.specs.declared.move_fault.MoveFault.TheVariants.{ReadFault, Refused}
use Rattle.trace_files.specs.declared.move_fault.MoveFault.TheVariants.{WriteFault}
use Rattle.trace_files.specs.declared.move_row.Move.{Move}
use Rattle.trace_files.specs.declared.relocation.Moved.{Moved}
use Rattle.trace_files.specs.declared.table_fault.TableFault.{TableFault}
use Rattle.trace_format.specs.Rules.{HasRegions, longest_trace, touches_in}
use Rattle.trace_format.specs.declared.fault.TraceFault.TheVariants as trace
use Rattle.trace_passes.specs.Passes.{Trace, spell_trace, trace_of}
use Rattle.trace_passes.specs.declared.wanted.Refusal.{Refusal}
use Rattle.trace_passes.specs.declared.wanted.Refusal.TheVariants as refusals
use Rattle.command_io.specs.Readings.{FailsInOrder, IsAccepted, IsRefusal, first_refusal}
use Rattle.command_io.specs.Statuses.{done, refusal}
use Rattle.command_io.specs.Works.{Work, done_with, refused_with}
use Rattle.command_io.specs.declared.status.Status.{Status}
use Rattle.command_io.specs.declared.status.Status.TheVariants as status
use Rattle.predator_cli.specs.Answer.{answer_of}
use Rattle.predator_cli.specs.Commands.{leaves}
use Rattle.predator_cli.specs.Copies.{copy_with}
use Rattle.predator_cli.specs.Judged.{judged}
use Rattle.predator_cli.specs.Meets.{HasFailed, IsFaulty, IsQuiet, IsWorked}
use Rattle.predator_cli.specs.Relocate.{HasMovedList, MoveRepeats, move_readings}
use Rattle.predator_cli.specs.Relocate.{move_text, move_work, moved_by, moved_refusal, table_in}
use Rattle.predator_cli.specs.Relocate.{table_reading, table_refusal, unless_refused}
use Rattle.predator_cli.specs.TraceFaults.{status_of_move}
use Rattle.predator_cli.specs.Written.{OnlyAt, StandsInPart, StandsWhole, Writes}
use Rattle.predator_cli.proofs.Ends.{accepted_answer}
use Rattle.predator_cli.proofs.FaultEnds.{starved}
use Rattle.predator_cli.proofs.MovedLists.{stands_for}
use Rattle.predator_cli.proofs.PlaceEnds.{faulty_behind}
use Rattle.predator_cli.proofs.TraceFiles.{refusal_cases}
use Rattle.predator_cli.proofs.WriteEnds.{IsToWrite, or_false, written_worked}

-- what a law of moved traces says under a table
pub record Moves (table : List Move) : Type 0 where
  pub accepted : (bytes : List ℕ) (t : Trace) → trace_of bytes ≡ Some t
      → IsFree table (touches_in t.items) → IsNearFiltered table t → fault_of table bytes ≡ None
  pub regions : (bytes : List ℕ) (t : Trace) → All (λ b. b < 256) bytes → trace_of bytes ≡ Some t
      → HasRegions t.version t.header
  pub found : (bytes : List ℕ) → fault_of table bytes ≡ None
      → (t : Trace) × (trace_of bytes ≡ Some t)
  pub whole : (file bytes : List ℕ) (t : Trace) → trace_of bytes ≡ Some t
      → fault_of table bytes ≡ None → written_of table file bytes ≡ moving table file t
  pub read : (bytes : List ℕ) (t : Trace) → All (λ b. b < 256) bytes → trace_of bytes ≡ Some t
      → length (spell_trace (moved table t)) ≤ longest_trace
      → trace_of (spell_trace (moved table t)) ≡ Some (moved table t)
  pub accesses : (t : Trace) → touches_in (moved table t).items
      ≡ moved_list table (touches_in t.items)
  pub is_table : IsTable table

module _ (d : MoveDemand) (table : List Move) (moves : Moves table) where
  -- ---- of files that hold the table

  -- how the two files are refused, by what the first of them gives
  abbrev refusal_by : Files → Result (List Move) TableFault → Option Status
  refusal_by files r =
      option_or (table_refusal r)
      (option_or (moved_refusal d.trace files (unless_refused r)) None)

  module _ (files : Files) (holds : table_of (content files d.table) ≡ Ok table) where
    judged_by : (o : Option MoveFault) → fault_of table (content files d.trace) ≡ o
        → first_refusal (move_readings d) files ≡ option_or (option_map status_of_move o) None
    judged_by o is =
        ap (refusal_by files) holds
        ∙ ap (λ (x : Option MoveFault). option_or (option_map status_of_move x) None) is

    accepts : fault_of table (content files d.trace) ≡ None
        → first_refusal (move_readings d) files ≡ None
    accepts none = judged_by None none

    work_is : (t : Trace) → trace_of (content files d.trace) ≡ Some t
        → move_work d files ≡ copy_with (move_text table) (moving table d.file) t
    work_is t is =
        ap (λ (r : Result (List Move) TableFault). moved_by d files (unless_refused r)) holds
        ∙ ap (λ (o : Option Trace). option_map_or (copy_with (move_text table)
        (moving table d.file)) o (done_with [])) is

    -- what is left at a refusal of the trace
    left_is : leaves (relocate d) files ≡ written_of table d.file (content files d.trace)
    left_is =
        ap (λ (r : Result (List Move) TableFault). option_map_or (λ s. [])
        (option_or (table_refusal r) None)
        (written_of (unless_refused r) d.file (content files d.trace))) holds

    refused_is : (fault : MoveFault) → fault_of table (content files d.trace) ≡ Some fault
        → answer_of (Some (relocate d)) files
        ≡ record (refused_with (status_of_move fault)) {
          outputs = written_of table d.file (content files d.trace);
        }
    refused_is fault is =
        ap (λ (o : Option Status). option_map_or (λ s. record (refused_with s) {
          outputs = leaves (relocate d) files;
        }) o (move_work d files)) (judged_by (Some fault) is)
        ∙ ap (λ (outs : List Output). record (refused_with (status_of_move fault)) {
          outputs = outs;
        }) left_is

    -- its outputs are what is written of the trace's bytes, whatever they are
    outputs_by : (o : Option MoveFault) → fault_of table (content files d.trace) ≡ o
        → (answer_of (Some (relocate d)) files).outputs
        ≡ written_of table d.file (content files d.trace)
    outputs_by None none =
        let t = moves.found (content files d.trace) none in
        ap (λ (w : Work). w.outputs) (accepted_answer (relocate d) files (accepts none)
        ∙ work_is t.0 t.1)
        ∙ sym (moves.whole d.file (content files d.trace) t.0 t.1 none)
    outputs_by (Some fault) is = ap (λ (w : Work). w.outputs) (refused_is fault is)

    outputs_are : (answer_of (Some (relocate d)) files).outputs
        ≡ written_of table d.file (content files d.trace)
    outputs_are = outputs_by (fault_of table (content files d.trace)) refl

  -- ---- the file again

  own_bytes : (n bytes : List ℕ) → bytes_for (one_file n bytes) n ≡ Some bytes
  own_bytes n bytes = rw ((bytes_eq-Decides n n).1 refl) refl

  repeats : (files : Files) → table_of (content files d.table) ≡ Ok table
      → (t : Trace) → trace_of (content files d.trace) ≡ Some t
      → IsFree table (touches_in t.items) → IsNearFiltered table t → MoveRepeats d files
  repeats files holds t is free near = λ other later small also at short.
      let same : t ≡ other = same_Some t other (sym is ∙ also) in
      let none = moves.accepted (content files d.trace) t is free near in
      let answer : judged (move_readings d) (move_work d) files
      ≡ copy_with (move_text table) (moving table d.file) t =
      ap (λ (o : Option Status). option_map_or refused_with o (move_work d files))
      (accepts files holds none) ∙ work_is files holds t is in
      let bytes : content later d.file ≡ spell_trace (moved table t) =
      ap (λ o. unwrap_or o []) (at ∙ ap (λ (w : Work). bytes_for w.outputs d.file) answer
      ∙ own_bytes d.file (spell_trace (moved table t))) in
      let few : length (spell_trace (moved table t)) ≤ longest_trace =
      subst (λ (l : List ℕ). length l ≤ longest_trace) bytes short in
      let here : HasMovedList table t (content later d.file) = record {
        read = ap trace_of bytes ∙ moves.read (content files d.trace) t small is few;
        accesses = moves.accesses t;
        free = free;
        is_table = moves.is_table;
        filtered = stands_for table t moves.is_table free near
            (moves.regions (content files d.trace) t small is) (moves.accesses t);
      } in
      subst (λ (x : Trace). HasMovedList (table_in d files) x (content later d.file)) same
      (subst (λ (r : Result (List Move) TableFault).
      HasMovedList (unless_refused r) t (content later d.file)) (sym holds) here)

  -- ---- how the command ends

  module _ (a m b : Outside) (read : IsAccepted (table_reading d.table ∷ []) a m)
      (holds : Known b.held (λ files. table_of (content files d.table) ≡ Ok table))
    where
      -- all is moved
      pub moved_worked : (made : Moved) (shown : List ℕ)
          (copied : HasCopied b.held d.trace (moving table d.file) (IsCounted table made) m b)
          → shown ≡ move_text table copied.trace
          → IsWorked (relocate d) a b status.Done shown
      moved_worked made shown copied is =
          let t = copied.trace in
          let w = copy_with (move_text table) (moving table d.file) t in
          let ready : IsToWrite (relocate d) w b.held = record {
            accepts = known_both b.held (λ files same e. accepts files e
                (ap (fault_of table) (sym same)
                ∙ moves.accepted copied.bytes t copied.is copied.stated.free copied.stated.near))
                copied.whole holds;
            works = known_both b.held (λ files same e. work_is files e t
                (ap trace_of (sym same) ∙ copied.is)) copied.whole holds;
            names = refl;
          } in
          written_worked (relocate d) w a b status.Done shown ready refl is
          (known_both b.held (λ files same e. repeats files e t (ap trace_of (sym same) ∙ copied.is)
          copied.stated.free copied.stated.near) copied.whole holds)
          (AreWritten-behind (moving table d.file t) a m b read.read copied.written)

      -- ---- it gave up

      -- no file but its own changed, and that is a front of what is written
      module _ (fault : MoveFault) (gave : HasGivenUp b.held d.trace d.file table m b fault) where
        other_name : (name : List ℕ) → list_any (λ n. bytes_eq n name) (d.file ∷ []) ≡ false
            → name ≢ d.file
        other_name name not_so =
            let both = or_false (bytes_eq d.file name) false not_so in
            λ same. let so : bytes_eq d.file name ≡ true = (bytes_eq-Decides d.file name).1 (sym same)
            in let no : true ≡ false = sym so ∙ both.0 in cc

        only_file : OnlyAt (outputs_of (relocate d)) m b
        only_file = goes_map m.written b.written
            (λ old new stay name not_so. stay name (other_name name not_so)) gave.others

        part : StandsInPart (Some (relocate d)) b.held m.written b.written
        part = known_both b.held (λ files front e. subst (λ (outs : List Output).
            Goes m.written b.written (BegunInOrder outs)) (sym (outputs_are files e)) front)
            gave.fronts holds

        quiet : fault ≢ ReadFault → fault ≢ WriteFault → IsQuiet m b
        quiet no_read no_write = record {
          reads = gave.cause.read_quiet no_read;
          writes = gave.cause.write_quiet no_write;
        }

        fails : fault ≡ ReadFault → (files : Files) → table_of (content files d.table) ≡ Ok table
            → FailsInOrder (move_readings d) files m.read_faults b.read_faults
        fails is files e = inr (ap table_refusal e, inl (gave.cause.read_failed is))

        read_faulty : fault ≡ ReadFault → IsFaulty (Some (relocate d)) m b status.ReadFault
        read_faulty is = record {
          fault = λ e. cc;
          ends = known_map b.held (fails is) holds;
          usage = λ u. cc;
          refuses = λ u. cc;
          memory = refl;
          failed = record {
            reads = inr (inl (gave.cause.read_failed is));
            writes = gave.cause.write_quiet
                (λ e. let no : ReadFault ≡ WriteFault = sym is ∙ e in cc);
          };
          printable = known_map b.held (λ files e. inr (inr (inl (refl, fails is files e)))) holds;
          writes = part;
          only = only_file;
          held = gave.held_stay;
          printed = gave.printed;
          print_faults = gave.print_faults;
        }

        write_faulty : fault ≡ WriteFault → IsFaulty (Some (relocate d)) m b status.WriteFault
        write_faulty is = record {
          fault = λ e. cc;
          ends = known_map b.held (λ files e. ap
              (λ (r : Result (List Move) TableFault). option_or (table_refusal r) None) e) holds;
          usage = λ u. cc;
          refuses = λ u. cc;
          memory = refl;
          failed = record {
            reads = gave.cause.read_quiet
                (λ e. let no : WriteFault ≡ ReadFault = sym is ∙ e in cc);
            writes = inl (gave.cause.write_failed is);
          };
          printable = if_known b.held (λ files. inr (inr (inr (refl, inl (gave.cause.write_failed is)))));
          writes = inl (inl (gave.cause.write_failed is), part);
          only = only_file;
          held = gave.held_stay;
          printed = gave.printed;
          print_faults = gave.print_faults;
        }

        no_memory_faulty : fault ≢ ReadFault → fault ≢ WriteFault
            → IsFaulty (Some (relocate d)) m b status.NoMemory
        no_memory_faulty no_read no_write =
            starved (Some (relocate d)) m b (quiet no_read no_write) part only_file gave.held_stay
            gave.printed gave.print_faults

      -- it is refused, and all before that is written
      refused_faulty : (fault : MoveFault) → IsRefusal (status_of_move fault)
          → IsRefused b.held d.trace d.file table m b fault
          → HasGivenUp b.held d.trace d.file table m b fault
          → fault ≢ ReadFault → fault ≢ WriteFault
          → IsFaulty (Some (relocate d)) m b (status_of_move fault)
      refused_faulty fault judged refused gave no_read no_write =
          let s = status_of_move fault in
          let asked = Some (relocate d) in
          let answers : Known b.held (λ files. answer_of asked files
          ≡ record (refused_with s) {
            outputs = written_of table d.file (content files d.trace);
          }) =
          known_both b.held (λ files same e. refused_is files e fault
          (ap (fault_of table) (sym same) ∙ refused.refused)) refused.whole holds in
          let whole : StandsWhole asked b.held m.written b.written =
          known_both b.held (λ files same e. subst (λ (outs : List Output).
          Goes m.written b.written (AreWhole outs))
          (ap (written_of table d.file) same ∙ sym (outputs_are files e)) refused.written.whole)
          refused.whole holds in
          let writes : Writes asked m b refusal = whole in
          let failed : HasFailed asked m b refusal = quiet fault gave no_read no_write in
          let ends : Known b.held (λ files. (answer_of asked files).status ≡ s) =
          known_map b.held (λ files is. ap (λ (w : Work). w.status) is) answers in
          record {
            fault = λ e. let k : refusal ≡ done = sym judged.kind ∙ e in cc;
            ends = rw judged.kind ends;
            usage = λ u. absurd (judged.words u);
            refuses = λ u. cc;
            memory = judged.memory;
            failed = rw judged.kind failed;
            printable = known_map b.held (λ files is. inl (sym (ap (λ (w : Work). w.text) is)))
                answers;
            writes = rw judged.kind writes;
            only = only_file fault gave;
            held = gave.held_stay;
            printed = gave.printed;
            print_faults = gave.print_faults;
          }

      faulty_at : (fault : MoveFault)
          → ((r : Refusal) → fault ≡ Refused r
          → IsRefused b.held d.trace d.file table m b (Refused r))
          → ((addr : ℕ) → fault ≡ Occupied addr
          → IsRefused b.held d.trace d.file table m b (Occupied addr))
          → ((addr : ℕ) → fault ≡ Far addr
          → IsRefused b.held d.trace d.file table m b (Far addr))
          → fault ≢ Refused (refusals.Trace trace.NoMemory)
          → HasGivenUp b.held d.trace d.file table m b fault
          → IsFaulty (Some (relocate d)) m b (status_of_move fault)
      faulty_at (Refused r) refused occupied far memory gave =
          elim (refusal_cases r) [
            | inl is ↦ absurd (memory (ap Refused is))
            | inr judged ↦ refused_faulty (Refused r) judged (refused r refl) gave (λ e. cc) (λ e. cc)
          ]
      faulty_at (Occupied addr) refused occupied far memory gave =
          refused_faulty (Occupied addr)
          (record { kind = refl; words = λ e. cc; memory = refl }) (occupied addr refl) gave
          (λ e. cc) (λ e. cc)
      faulty_at (Far addr) refused occupied far memory gave =
          refused_faulty (Far addr)
          (record { kind = refl; words = λ e. cc; memory = refl }) (far addr refl) gave
          (λ e. cc) (λ e. cc)
      faulty_at ReadFault refused occupied far memory gave = read_faulty ReadFault gave refl
      faulty_at WriteFault refused occupied far memory gave = write_faulty WriteFault gave refl
      faulty_at NoMemory refused occupied far memory gave =
          no_memory_faulty NoMemory gave (λ e. cc) (λ e. cc)

      -- it isn't moved, or not all of it
      pub move_faulty : (fault : MoveFault)
          → ((r : Refusal) → fault ≡ Refused r
          → IsRefused b.held d.trace d.file table m b (Refused r))
          → ((addr : ℕ) → fault ≡ Occupied addr
          → IsRefused b.held d.trace d.file table m b (Occupied addr))
          → ((addr : ℕ) → fault ≡ Far addr
          → IsRefused b.held d.trace d.file table m b (Far addr))
          → fault ≢ Refused (refusals.Trace trace.NoMemory)
          → HasGivenUp b.held d.trace d.file table m b fault
          → IsFaulty (Some (relocate d)) a b (status_of_move fault)
      move_faulty fault refused occupied far memory gave =
          faulty_behind (Some (relocate d)) a m b read.read (status_of_move fault)
          (faulty_at fault refused occupied far memory gave)
