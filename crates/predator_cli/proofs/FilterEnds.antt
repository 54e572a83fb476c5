-- How a command ends that writes a filtered trace.
use Rattle.std.proofs.Common.{◌≡◌, ◌≢◌, ◌<◌, ◌≤◌, ℕ, List, [], ◌∷◌, Option, Some, None}
use Rattle.std.proofs.Common.{true, false, length, refl, sym, ap, subst, ◌∙◌, inl, inr}
use Rattle.std.proofs.lemmas.Option.{same_Some}
use Rattle.std.proofs.lemmas.Slice.Eq.{bytes_eq-Decides}
use Rattle.std.specs.List.{All, list_any}
use Rattle.std.specs.Option.{option_map, option_map_or, option_or}
use Rattle.std.specs.Prelude.{unwrap_or}
use Rattle.std.specs.Str.{bytes_eq}
use Rattle.base.specs.Lines.{Grid}
use Rattle.command_line.specs.Filter.{FilterDemand}
use Rattle.command_line.specs.Words.{filter, outputs as outputs_of}
use Rattle.filtered_counts.specs.SameCounts.{IsWithin, SameCounts, SameSweep}
use Rattle.filtered_counts.specs.SameHarts.{IsSitedWithoutRedundant, SameHarts, filtered_sited}
use Rattle.invalidations.specs.BlameRecords.{sited_in}
use Rattle.invalidations.specs.declared.sited.Sited.{Sited}
use Rattle.sharing_rules.specs.AccessLists.{AccessList}
use Rattle.sharing_rules.specs.Filtered.{IsWithoutRedundant, filtered}
use Rattle.shelf.specs.Files.{AreWhole, BegunInOrder, Output, bytes_for, one_file}
use Rattle.shelf.specs.Laws.Known.{goes_map, if_known, known_map}
use Rattle.shelf.specs.Shelf.{Files, Goes, Outside, Known, content}
use Rattle.trace_files.specs.Copies.{HasCopied}
use Rattle.trace_filter.specs.FilterPass.{HasGivenUp, IsFilteredTrace, filtering, sited, written_of}
use Rattle.trace_filter.specs.Filtering.{filtered_items, filtered_trace}
use Rattle.trace_filter.specs.declared.filter_fault.FilterFault.{FilterFault}
use Rattle.trace_filter.specs.declared.filter_fault.FilterFault.TheVariants.{NoMemory, ReadFault}
use Rattle.trace_filter.specs.declared.filter_fault.FilterFault.TheVariants.{Refused, WriteFault}
use Rattle.trace_filter.specs.declared.filter_pass.Filtered.{Filtered as FilteredCounts}
use Rattle.trace_format.specs.Rules.{longest_trace, touches_in}
use Rattle.trace_format.specs.declared.record.TraceRecord.{TraceRecord}
use Rattle.trace_format.specs.declared.record.Version.TheVariants.{Three}
use Rattle.trace_passes.specs.Passes.{Trace, refusal_of, spell_trace, trace_of}
use Rattle.trace_passes.specs.declared.wanted.Refusal.{Refusal}
use Rattle.command_io.specs.Readings.{IsRefusal, first_refusal}
use Rattle.command_io.specs.Statuses.{done, refusal}
use Rattle.command_io.specs.Works.{Work, done_with, refused_with}
use Rattle.command_io.specs.declared.status.Status.{Status}
use Rattle.command_io.specs.declared.status.Status.TheVariants as status
use Rattle.predator_cli.specs.Answer.{answer_of}
use Rattle.predator_cli.specs.Copies.{copy_with}
use Rattle.predator_cli.specs.Filter.{FilterRepeats, HasFilteredList, filter_readings}
use Rattle.predator_cli.specs.Filter.{filter_text, filter_work}
use Rattle.predator_cli.specs.Judged.{judged}
use Rattle.predator_cli.specs.Meets.{HasFailed, IsFaulty, IsQuiet, IsWorked}
use Rattle.predator_cli.specs.TraceFaults.{status_of_filter, status_of_refusal}
use Rattle.predator_cli.specs.Written.{OnlyAt, StandsInPart, StandsWhole, Writes}
use Rattle.predator_cli.proofs.Ends.{accepted_answer}
use Rattle.predator_cli.proofs.FaultEnds.{starved}
use Rattle.predator_cli.proofs.FilteredSites.{AddsItem, sites_filtered}
use Rattle.predator_cli.proofs.TraceFiles.{refusal_cases}
use Rattle.predator_cli.proofs.WriteEnds.{IsToWrite, or_false, written_worked}

-- what the laws of filtered traces and of filtered lists say under k
pub record Filters (k : ℕ) : Type 0 where
  pub accepted : (bytes : List ℕ) (t : Trace) → trace_of bytes ≡ Some t → t.version ≡ Three
      → refusal_of sited bytes ≡ None
  pub found : (bytes : List ℕ) → refusal_of sited bytes ≡ None
      → (t : Trace) × (trace_of bytes ≡ Some t) × (t.version ≡ Three)
  pub whole : (file bytes : List ℕ) (t : Trace) → trace_of bytes ≡ Some t → t.version ≡ Three
      → written_of k file bytes ≡ filtering k file t
  pub read : (bytes : List ℕ) (t : Trace) → All (λ b. b < 256) bytes → trace_of bytes ≡ Some t
      → t.version ≡ Three → length (spell_trace (filtered_trace k t)) ≤ longest_trace
      → trace_of (spell_trace (filtered_trace k t)) ≡ Some (filtered_trace k t)
  pub accesses : (items : List TraceRecord)
      → touches_in (filtered_items k items) ≡ filtered k (touches_in items)
  pub next : AddsItem k
  pub counts : (g : Grid) (t v : AccessList) → IsWithin k g → IsWithoutRedundant k t v
      → SameCounts g t v
  pub sweep : (t v : AccessList) → IsWithoutRedundant k t v → SameSweep k t v
  pub without : (t : AccessList) → IsWithoutRedundant k t (filtered k t)
  pub harts : (g : Grid) (u w : List Sited) → IsWithin k g → IsSitedWithoutRedundant k u w
      → SameHarts g u w
  pub sites : (u : List Sited) → IsSitedWithoutRedundant k u (filtered_sited k u)

-- bytes that are read as the filtered trace have the filtered list
has_list : (k : ℕ) → Filters k → (t : Trace) (bytes : List ℕ)
    → trace_of bytes ≡ Some (filtered_trace k t) → HasFilteredList k t bytes
has_list k laws t bytes is =
    let list : AccessList = touches_in t.items in
    let same : touches_in (filtered_trace k t).items ≡ filtered k list = laws.accesses t.items in
    let with_pcs : sited_in (filtered_trace k t).items ≡ filtered_sited k (sited_in t.items) =
    sites_filtered k laws.next t.items in
    record {
      read = is;
      accesses = same;
      counts = λ g within. subst (SameCounts g list) (sym same)
          (laws.counts g list (filtered k list) within (laws.without list));
      sweep = subst (SameSweep k list) (sym same)
          (laws.sweep list (filtered k list) (laws.without list));
      harts = λ g within. subst (SameHarts g (sited_in t.items)) (sym with_pcs)
          (laws.harts g (sited_in t.items) (filtered_sited k (sited_in t.items)) within
          (laws.sites (sited_in t.items)));
    }

own_bytes : (n bytes : List ℕ) → bytes_for (one_file n bytes) n ≡ Some bytes
own_bytes n bytes = rw ((bytes_eq-Decides n n).1 refl) refl

module _ (d : FilterDemand) (laws : Filters d.near) where
  -- ---- of any files

  module _ (files : Files) where
    judged_by : (o : Option Refusal) → refusal_of sited (content files d.trace) ≡ o
        → first_refusal (filter_readings d) files ≡ option_or (option_map status_of_refusal o) None
    judged_by o is =
        ap (λ (x : Option Refusal). option_or (option_map status_of_refusal x) None) is

    accepts : refusal_of sited (content files d.trace) ≡ None
        → first_refusal (filter_readings d) files ≡ None
    accepts none = judged_by None none

    work_is : (t : Trace) → trace_of (content files d.trace) ≡ Some t
        → filter_work d files ≡ copy_with (filter_text d.near) (filtering d.near d.file) t
    work_is t is =
        ap (λ (o : Option Trace). option_map_or (copy_with (filter_text d.near)
        (filtering d.near d.file)) o (done_with [])) is

    refused_is : (r : Refusal) → refusal_of sited (content files d.trace) ≡ Some r
        → answer_of (Some (filter d)) files
        ≡ record (refused_with (status_of_refusal r)) {
          outputs = written_of d.near d.file (content files d.trace);
        }
    refused_is r is =
        ap (λ (o : Option Status). option_map_or (λ s. record (refused_with s) {
          outputs = written_of d.near d.file (content files d.trace);
        }) o (filter_work d files)) (judged_by (Some r) is)

    -- its outputs are what is written of the trace's bytes, whatever they are
    outputs_by : (o : Option Refusal) → refusal_of sited (content files d.trace) ≡ o
        → (answer_of (Some (filter d)) files).outputs
        ≡ written_of d.near d.file (content files d.trace)
    outputs_by None none =
        let t = laws.found (content files d.trace) none in
        ap (λ (w : Work). w.outputs) (accepted_answer (filter d) files (accepts none)
        ∙ work_is t.0 t.1)
        ∙ sym (laws.whole d.file (content files d.trace) t.0 t.1 t.2)
    outputs_by (Some r) is = ap (λ (w : Work). w.outputs) (refused_is r is)

    outputs_are : (answer_of (Some (filter d)) files).outputs
        ≡ written_of d.near d.file (content files d.trace)
    outputs_are = outputs_by (refusal_of sited (content files d.trace)) refl

    -- the file again
    repeats : (t : Trace) → trace_of (content files d.trace) ≡ Some t → t.version ≡ Three
        → FilterRepeats d files
    repeats t is three = λ other later small also at short.
        let same : t ≡ other = same_Some t other (sym is ∙ also) in
        let none = laws.accepted (content files d.trace) t is three in
        let answer : judged (filter_readings d) (filter_work d) files
        ≡ copy_with (filter_text d.near) (filtering d.near d.file) t =
        ap (λ (o : Option Status). option_map_or refused_with o (filter_work d files)) (accepts none)
        ∙ work_is t is in
        let bytes : content later d.file ≡ spell_trace (filtered_trace d.near t) =
        ap (λ o. unwrap_or o []) (at ∙ ap (λ (w : Work). bytes_for w.outputs d.file) answer
        ∙ own_bytes d.file (spell_trace (filtered_trace d.near t))) in
        let few : length (spell_trace (filtered_trace d.near t)) ≤ longest_trace =
        subst (λ (l : List ℕ). length l ≤ longest_trace) bytes short in
        let here : HasFilteredList d.near t (content later d.file) =
        has_list d.near laws t (content later d.file)
        (ap trace_of bytes ∙ laws.read (content files d.trace) t small is three few) in
        subst (λ (x : Trace). HasFilteredList d.near x (content later d.file)) same here

  -- ---- how the command ends

  module _ (a b : Outside) where
    -- all is filtered
    pub filter_worked : (made : FilteredCounts) (shown : List ℕ)
        (copied : HasCopied b.held d.trace (filtering d.near d.file) (IsFilteredTrace d.near made)
        a b)
        → shown ≡ filter_text d.near copied.trace → IsWorked (filter d) a b status.Done shown
    filter_worked made shown copied is =
        let t = copied.trace in
        let w = copy_with (filter_text d.near) (filtering d.near d.file) t in
        let ready : IsToWrite (filter d) w b.held = record {
          accepts = known_map b.held (λ files same. accepts files (ap (refusal_of sited) (sym same)
              ∙ laws.accepted copied.bytes t copied.is copied.stated.version)) copied.whole;
          works = known_map b.held (λ files same. work_is files t (ap trace_of (sym same) ∙ copied.is))
              copied.whole;
          names = refl;
        } in
        written_worked (filter d) w a b status.Done shown ready refl is
        (known_map b.held (λ files same. repeats files t (ap trace_of (sym same) ∙ copied.is)
        copied.stated.version) copied.whole) copied.written

    -- ---- it gave up

    -- no file but its own changed, and that is a front of what is written
    module _ (fault : FilterFault)
        (gave : HasGivenUp b.held d.trace d.file d.near a b fault) where
      other_name : (name : List ℕ) → list_any (λ n. bytes_eq n name) (d.file ∷ []) ≡ false
          → name ≢ d.file
      other_name name not_so =
          let both = or_false (bytes_eq d.file name) false not_so in
          λ same. let so : bytes_eq d.file name ≡ true = (bytes_eq-Decides d.file name).1 (sym same)
          in let no : true ≡ false = sym so ∙ both.0 in cc

      only_file : OnlyAt (outputs_of (filter d)) a b
      only_file = goes_map a.written b.written
          (λ old new stay name not_so. stay name (other_name name not_so)) gave.others

      part : StandsInPart (Some (filter d)) b.held a.written b.written
      part = known_map b.held (λ files front. subst (λ (outs : List Output).
          Goes a.written b.written (BegunInOrder outs)) (sym (outputs_are files)) front)
          gave.fronts

      quiet : fault ≢ ReadFault → fault ≢ WriteFault → IsQuiet a b
      quiet no_read no_write = record {
        reads = gave.cause.read_quiet no_read;
        writes = gave.cause.write_quiet no_write;
      }

      read_faulty : fault ≡ ReadFault → IsFaulty (Some (filter d)) a b status.ReadFault
      read_faulty is = record {
        fault = λ e. cc;
        ends = if_known b.held (λ files. inl (gave.cause.read_failed is));
        usage = λ u. cc;
        refuses = λ u. cc;
        memory = refl;
        failed = record {
          reads = inl (gave.cause.read_failed is);
          writes = gave.cause.write_quiet
              (λ e. let no : ReadFault ≡ WriteFault = sym is ∙ e in cc);
        };
        printable = if_known b.held
            (λ files. inr (inr (inl (refl, inl (gave.cause.read_failed is)))));
        writes = part;
        only = only_file;
        held = gave.held_stay;
        printed = gave.printed;
        print_faults = gave.print_faults;
      }

      write_faulty : fault ≡ WriteFault → IsFaulty (Some (filter d)) a b status.WriteFault
      write_faulty is = record {
        fault = λ e. cc;
        ends = if_known b.held (λ files. refl);
        usage = λ u. cc;
        refuses = λ u. cc;
        memory = refl;
        failed = record {
          reads = gave.cause.read_quiet
              (λ e. let no : WriteFault ≡ ReadFault = sym is ∙ e in cc);
          writes = inl (gave.cause.write_failed is);
        };
        printable = if_known b.held (λ files. inr (inr (inr (refl, inl (gave.cause.write_failed is)))));
        writes = inl (inl (gave.cause.write_failed is), part);
        only = only_file;
        held = gave.held_stay;
        printed = gave.printed;
        print_faults = gave.print_faults;
      }

      no_memory_faulty : fault ≢ ReadFault → fault ≢ WriteFault
          → IsFaulty (Some (filter d)) a b status.NoMemory
      no_memory_faulty no_read no_write =
          starved (Some (filter d)) a b (quiet no_read no_write) part only_file gave.held_stay
          gave.printed gave.print_faults

      -- it is refused, and all before that is written
      refused_faulty : (r : Refusal) → fault ≡ Refused r → IsRefusal (status_of_refusal r)
          → IsFaulty (Some (filter d)) a b (status_of_refusal r)
      refused_faulty r is judged =
          let s = status_of_refusal r in
          let asked = Some (filter d) in
          let refused = gave.refused r is in
          let answers : Known b.held (λ files. answer_of asked files
          ≡ record (refused_with s) {
            outputs = written_of d.near d.file (content files d.trace);
          }) =
          known_map b.held (λ files same. refused_is files r
          (ap (refusal_of sited) (sym same) ∙ refused.refused)) refused.whole in
          let whole : StandsWhole asked b.held a.written b.written =
          known_map b.held (λ files same. subst (λ (outs : List Output).
          Goes a.written b.written (AreWhole outs))
          (ap (written_of d.near d.file) same ∙ sym (outputs_are files)) refused.written.whole)
          refused.whole in
          let writes : Writes asked a b refusal = whole in
          let failed : HasFailed asked a b refusal =
          quiet (λ e. let no : Refused r ≡ ReadFault = sym is ∙ e in cc)
          (λ e. let no : Refused r ≡ WriteFault = sym is ∙ e in cc) in
          let ends : Known b.held (λ files. (answer_of asked files).status ≡ s) =
          known_map b.held (λ files same. ap (λ (w : Work). w.status) same) answers in
          record {
            fault = λ e. let k : refusal ≡ done = sym judged.kind ∙ e in cc;
            ends = rw judged.kind ends;
            usage = λ u. absurd (judged.words u);
            refuses = λ u. cc;
            memory = judged.memory;
            failed = rw judged.kind failed;
            printable = known_map b.held
                (λ files same. inl (sym (ap (λ (w : Work). w.text) same))) answers;
            writes = rw judged.kind writes;
            only = only_file;
            held = gave.held_stay;
            printed = gave.printed;
            print_faults = gave.print_faults;
          }

    -- it isn't filtered, or not all of it
    pub filter_faulty : (fault : FilterFault)
        → HasGivenUp b.held d.trace d.file d.near a b fault
        → IsFaulty (Some (filter d)) a b (status_of_filter fault)
    filter_faulty (Refused r) gave =
        elim (refusal_cases r) [
          | inl is ↦ absurd (gave.memory (ap Refused is))
          | inr judged ↦ refused_faulty (Refused r) gave r refl judged
        ]
    filter_faulty ReadFault gave = read_faulty ReadFault gave refl
    filter_faulty WriteFault gave = write_faulty WriteFault gave refl
    filter_faulty NoMemory gave = no_memory_faulty NoMemory gave (λ e. cc) (λ e. cc)
