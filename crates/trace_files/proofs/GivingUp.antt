-- What stands where a moved trace gives up, and that it is whole where it doesn't.
use Rattle.std.proofs.Common.{◌≡◌, ◌≢◌, ◌≤◌, ℕ, Bool, true, false, List, [], ◌∷◌, ◌++◌}
use Rattle.std.proofs.Common.{length}
use Rattle.std.specs.Prelude.{IfOk, OnOk, is_some, if◌then◌else◌}
use Rattle.std.proofs.Common.{Option, Some, None, Result, Ok, Err, inl, inr, refl, sym, ap}
use Rattle.std.proofs.Common.{◌∙◌, subst, arith, append-nil, option_map}
use Rattle.std.specs.List.{All, list_any}
use Rattle.std.specs.Option.{option_map_or, option_or}
use Rattle.std.proofs.lemmas.List.{map-append, take_all}
use Rattle.std.proofs.lemmas.List.Elements.{All-cons, All-nil, All-weaker, filter_map-append}
use Rattle.std.proofs.lemmas.List.Folds.{list_any-append}
use Rattle.base.specs.Touch.{Touch}
use Rattle.trace_format.specs.declared.record.TraceEnd.{TraceEnd}
use Rattle.shelf.specs.Shelf.{Files, Goes, Narrows, OnlyReads, Outside, Rose, Known, content}
use Rattle.shelf.specs.Fetch.{IsFront}
use Rattle.shelf.specs.declared.shelf.ShelfError.{ShelfError}
use Rattle.shelf.specs.declared.shelf.ShelfError.TheVariants as errors
use Rattle.shelf.specs.Files.{AreCut, AreWritten, BegunInOrder, Output, RoseAmong, one_file}
use Rattle.shelf.specs.Laws.Files.{AreCut-longer, IsOutputs-cut}
use Rattle.shelf.specs.Laws.Known.{goes_map, narrows_then, known_map}
use Rattle.trace_format.specs.declared.fault.TraceFault.{TraceFault}
use Rattle.trace_format.specs.declared.fault.TraceFault.TheVariants as trace_faults
use Rattle.trace_format.specs.declared.read_so_far.ReadSoFar.{ReadSoFar}
use Rattle.trace_format.specs.declared.record.Header.{Header}
use Rattle.trace_format.specs.declared.record.TraceRecord.{TraceRecord}
use Rattle.trace_format.specs.declared.record.TraceRecord.TheVariants as records
use Rattle.trace_format.specs.declared.record.Version.{Version}
use Rattle.trace_format.specs.Laws.Writing.{begun-all}
use Rattle.trace_format.specs.Reading.{ending_of, reading_of}
use Rattle.trace_format.specs.Rules.{touch_in, touches_in}
use Rattle.trace_format.specs.Writing.{begun_with}
use Rattle.trace_passes.specs.declared.passes.PassFault.{PassFault}
use Rattle.trace_passes.specs.declared.passes.PassFault.TheVariants as passes
use Rattle.trace_passes.specs.declared.passes.Passed.{Passed}
use Rattle.trace_passes.specs.declared.wanted.Refusal.{Refusal}
use Rattle.trace_passes.specs.declared.wanted.Refusal.TheVariants as refusals
use Rattle.trace_passes.specs.Cursors.{version_and_header}
use Rattle.trace_passes.specs.Laws.Passes.{trace-parts, trace-records}
use Rattle.trace_passes.specs.Passes.{HasPassCause, Trace, refusal_of}
use Rattle.trace_passes.specs.Passes.{head_of, header_refusal, trace_at, trace_of, trace_refusal}
use Rattle.trace_passes.specs.Passes.{trace_with}
use Rattle.trace_files.specs.declared.move_fault.MoveFault.{MoveFault}
use Rattle.trace_files.specs.declared.move_fault.MoveFault.TheVariants as faults
use Rattle.trace_files.specs.declared.move_row.Move.{Move}
use Rattle.trace_files.specs.declared.mover.Mover.{Mover}
use Rattle.trace_files.specs.declared.relocation.Moved.{Moved}
use Rattle.trace_files.specs.Copies.{HasCopied, any}
use Rattle.trace_files.specs.Movers.{EndsAt, HasMoved, IsAllWritten, IsCutAt, IsHeldUp, StopsAt}
use Rattle.trace_files.specs.Laws.Copies.{any_header}
use Rattle.trace_files.specs.Moves.{IsFree, count_moved, is_taken}
use Rattle.trace_files.specs.NearMoves.{IsNearFor, IsNearTable, is_far}
use Rattle.trace_files.specs.Moving.{HasGivenUp, HasMoveCause, IsCounted, IsRefused}
use Rattle.trace_files.specs.Moving.{before_the_first, first_fault, is_at_fault, moved_item}
use Rattle.trace_files.specs.Moving.{moved_items, moved_so_far, moving, narrowed, near_of, written_of}
use Rattle.trace_files.proofs.Headed.{go_all, head_in, head_kept, known_or_not, new_name}
use Rattle.trace_files.proofs.NearRanges.{not_far}
use Rattle.trace_files.proofs.Readings.{front_first, same_at}
use Rattle.trace_files.proofs.Relocations.{none_read}
use Rattle.trace_files.proofs.Stopped.{others_stay}
use Rattle.trace_files.proofs.Takings.{all_free, first_stays, front_same, neither_passes}
use Rattle.trace_files.proofs.Takings.{none_at_fault}

-- ---- who is the cause

rose_one : (table : List Move) (file : List ℕ) (head : Option (Version × Header))
    (put : List TraceRecord) (b n : List ℕ → ℕ)
    → RoseAmong (moved_so_far table file head put) b n → Rose (b file) (n file)
rose_one table file None put b n rose = absurd rose
rose_one table file (Some h) put b n (inl rose) = rose
rose_one table file (Some h) put b n (inr rose) = absurd rose

quiet_cause : (trace file : List ℕ) (before now : Outside) (fault : MoveFault)
    → fault ≢ faults.ReadFault → fault ≢ faults.WriteFault
    → now.read_faults ≡ before.read_faults → now.write_faults ≡ before.write_faults
    → HasMoveCause trace file before now fault
quiet_cause trace file before now fault no_read no_write reads writes = record {
  reads = λ n. same_at before.read_faults now.read_faults n reads;
  writes = λ n. same_at before.write_faults now.write_faults n writes;
  read_failed = λ e. absurd (no_read e);
  write_failed = λ e. absurd (no_write e);
  read_quiet = λ e. reads;
  write_quiet = λ e. writes;
}

module _ (trace file : List ℕ) (table : List Move) (head : Option (Version × Header))
    (put : List TraceRecord) (before now : Outside)
  where
    write_cause : AreCut (moved_so_far table file head put) before now errors.Failed
        → HasMoveCause trace file before now faults.WriteFault
    write_cause cut = record {
      reads = λ n. same_at before.read_faults now.read_faults n cut.only.read_faults;
      writes = cut.cause.later;
      read_failed = λ e. absurd cc;
      write_failed = λ e. rose_one table file head put before.write_faults now.write_faults
          (cut.cause.failed refl);
      read_quiet = λ e. cut.only.read_faults;
      write_quiet = λ e. absurd (e refl);
    }

    other_cause : (fault : MoveFault) → fault ≢ faults.ReadFault → fault ≢ faults.WriteFault
        → AreCut (moved_so_far table file head put) before now errors.NoMemory
        → HasMoveCause trace file before now fault
    other_cause fault no_read no_write cut =
        quiet_cause trace file before now fault no_read no_write cut.only.read_faults
        (cut.cause.quiet (λ e. cc))

-- what is answered for a fault of a call that reads
abbrev pub read_fault : PassFault → MoveFault
read_fault (passes.Refused refusal) = faults.Refused refusal
read_fault passes.ReadFault = faults.ReadFault
read_fault passes.NoMemory = faults.NoMemory

reading_cause : {T : Type 0} (trace file : List ℕ) (before mid now : Outside) (fault : PassFault)
    → HasPassCause {T = T} trace mid now (Err fault) → mid.read_faults ≡ before.read_faults
    → now.write_faults ≡ before.write_faults
    → HasMoveCause trace file before now (read_fault fault)
reading_cause trace file before mid now (passes.Refused refusal) cause reads writes =
    quiet_cause trace file before now (faults.Refused refusal) (λ e. cc) (λ e. cc)
    (cause.quiet (λ e. cc) ∙ reads) writes
reading_cause trace file before mid now passes.NoMemory cause reads writes =
    quiet_cause trace file before now faults.NoMemory (λ e. cc) (λ e. cc)
    (cause.quiet (λ e. cc) ∙ reads) writes
reading_cause trace file before mid now passes.ReadFault cause reads writes = record {
  reads = subst (λ (f : List ℕ → ℕ). (n : List ℕ) → f n ≤ now.read_faults n) reads cause.later;
  writes = λ n. same_at before.write_faults now.write_faults n writes;
  read_failed = λ e. subst (λ (f : List ℕ → ℕ). Rose (f trace) (now.read_faults trace)) reads
      (cause.failed refl);
  write_failed = λ e. absurd cc;
  read_quiet = λ e. absurd (e refl);
  write_quiet = λ e. writes;
}

-- ---- the bytes where it gives up

none_held : (near : ℕ) (table : List Move) (seen : List TraceRecord) (fault : MoveFault)
    → seen ≡ [] → first_fault near table seen ≡ Some fault → ⊥
none_held near table seen fault none first =
    let no_one : None ≡ Some fault = ap (first_fault near table) (sym none) ∙ first in absurd cc

-- the bytes where an access is refused, or all that are known behind them
held_by : (held : Option Files) (trace file : List ℕ) (table : List Move) (bytes : List ℕ)
    → Known held (λ fs. IsFront (content fs trace) bytes) → (before now : Outside)
    (fault : MoveFault)
    → IsHeldUp table file (head_in bytes) (reading_of bytes).0 before now fault
    → IsRefused held trace file table before now fault
held_by None trace file table bytes front before now fault stops = record {
  bytes = bytes;
  whole = tt;
  refused = ap (λ (o : Option MoveFault). option_map_or (λ f. Some f) o
      (option_map faults.Refused (refusal_of any bytes))) stops.first;
  written = stops.written;
}
held_by (Some files) trace file table bytes front before now fault stops =
    let all = content files trace in
    let seen = (reading_of bytes).0 in
    let more = front_first all bytes front in
    let head = head_in bytes in
    let near = near_of head in
    let known : head_in all ≡ head =
    known_or_not head (head_in all ≡ head)
    (λ none. absurd (none_held near table seen fault (none_read bytes none) stops.first))
    (λ h is. head_kept all bytes front h is ∙ sym is) in
    let first : first_fault (near_of (head_in all)) table (reading_of all).0 ≡ Some fault =
    ap (λ (k : Option (Version × Header)). first_fault (near_of k) table (reading_of all).0) known
    ∙ ap (first_fault near table) more.1
    ∙ first_stays near table seen more.0 fault stops.first in
    let same : before_the_first near table (reading_of all).0 ≡ before_the_first near table seen =
    ap (before_the_first near table) more.1
    ∙ front_same near table seen more.0 fault stops.first in
    record {
      bytes = all;
      whole = refl;
      refused = ap (λ (o : Option MoveFault). option_map_or (λ f. Some f) o
          (option_map faults.Refused (refusal_of any all))) first;
      written = subst (λ (k : Option (Version × Header)). AreWritten
          (moved_so_far table file k (before_the_first (near_of k) table (reading_of all).0)) before
          now) (sym known)
          (subst (λ (l : List TraceRecord). AreWritten (moved_so_far table file head l) before now)
          (sym same) stops.written);
    }

module _ (held : Option Files) (trace file : List ℕ) (table : List Move) (bytes : List ℕ)
    (front : Known held (λ fs. IsFront (content fs trace) bytes))
  where
    abbrev pub head : Option (Version × Header)
    head = version_and_header (reading_of bytes).1.progress

    -- some records were put, the file was cut, and only reads came then
    pub gives_up : (put more : List TraceRecord) (before last now : Outside) (error : ShelfError)
        (fault : MoveFault) → (reading_of bytes).0 ≡ put ++ more
        → list_any (is_at_fault (near_of head) table) put ≡ false
        → AreCut (moved_so_far table file head put) before last error
        → now.written ≡ last.written → HasMoveCause trace file before now fault
        → Narrows before.held now.held → now.printed ≡ before.printed
        → now.print_faults ≡ before.print_faults
        → HasGivenUp held trace file table before now fault
    gives_up put more before last now error fault is free cut written cause narrow printed prints =
        let outs = moved_so_far table file head put in
        let later : (P : Files → Files → Type 0) → Goes before.written last.written P
        → Goes before.written now.written P =
        λ P goes. subst (λ (w : Option Files). Goes before.written w P) (sym written) goes in
        record {
          fronts = known_map held (λ fs f.
              let longer = written_of table file (content fs trace) in
              later (BegunInOrder longer)
              (AreCut-longer outs longer before last error
              (go_all table file (content fs trace) bytes put more f is free) cut).begun) front;
          others = later (λ old new. (n : List ℕ) → n ≢ file → new n ≡ old n)
              (goes_map before.written last.written
              (λ old after same n other. same n (new_name table file head put n other))
              (others_stay outs before last cut.begun));
          cause = cause;
          held_stay = narrow;
          printed = printed;
          print_faults = prints;
        }

    cut_up : (before now : Outside) (error : ShelfError) (fault : MoveFault)
        → (cut : IsCutAt table file head (reading_of bytes).0 before now error)
        → HasMoveCause trace file before now fault → HasGivenUp held trace file table before now fault
    cut_up before now error fault cut cause =
        gives_up cut.put cut.more before now now error fault cut.first cut.free cut.cut refl cause
        cut.cut.only.held cut.cut.only.printed cut.cut.only.print_faults

    pub gave_up : (before now : Outside) (why : Refusal) (fault : MoveFault)
        → EndsAt table file head (reading_of bytes).0 before now why fault
        → HasGivenUp held trace file table before now fault
    gave_up before now why (faults.Refused refusal) ends =
        cut_up before now errors.NoMemory (faults.Refused refusal) ends.1.cut
        (other_cause trace file table head ends.1.cut.put before now (faults.Refused refusal)
        (λ e. cc) (λ e. cc) ends.1.cut.cut)
    gave_up before now why (faults.Occupied addr) ends =
        cut_up before now errors.NoMemory (faults.Occupied addr) ends.cut
        (other_cause trace file table head ends.cut.put before now (faults.Occupied addr)
        (λ e. cc) (λ e. cc) ends.cut.cut)
    gave_up before now why (faults.Far addr) ends =
        cut_up before now errors.NoMemory (faults.Far addr) ends.cut
        (other_cause trace file table head ends.cut.put before now (faults.Far addr)
        (λ e. cc) (λ e. cc) ends.cut.cut)
    gave_up before now why faults.ReadFault ends = absurd ends
    gave_up before now why faults.WriteFault ends =
        cut_up before now errors.Failed faults.WriteFault ends
        (write_cause trace file table head ends.put before now ends.cut)
    gave_up before now why faults.NoMemory ends =
        cut_up before now errors.NoMemory faults.NoMemory ends
        (other_cause trace file table head ends.put before now faults.NoMemory
        (λ e. cc) (λ e. cc) ends.cut)

    -- a call that reads gave up behind what was put
    pub gave_up_reading : {T : Type 0} (m : Mover) (before mid now : Outside) (fault : PassFault)
        → HasMoved table file m head (reading_of bytes).0 before mid → OnlyReads mid now
        → HasPassCause {T = T} trace mid now (Err fault)
        → HasGivenUp held trace file table before now (read_fault fault)
    gave_up_reading {T} m before mid now fault has only cause =
        let on = has.outputs in
        let seen = (reading_of bytes).0 in
        gives_up seen [] before mid now errors.NoMemory (read_fault fault) (sym (append-nil seen))
        has.free
        (IsOutputs-cut m.files (moved_so_far table file head seen) before mid errors.NoMemory
        (λ e. cc) on)
        only.written (reading_cause {T = T} trace file before mid now fault cause
        on.only.read_faults (only.write_faults ∙ on.faults))
        (narrows_then before.held mid.held now.held on.only.held only.held)
        (only.printed ∙ on.only.printed) (only.print_faults ∙ on.only.print_faults)

    -- an access is refused
    pub refused_held : (before now : Outside) (fault : MoveFault)
        → IsHeldUp table file head (reading_of bytes).0 before now fault
        → IsRefused held trace file table before now fault
    refused_held before now fault stops =
        held_by held trace file table bytes front before now fault stops

-- a trace that is refused, all of whose records were put
pub refused_whole : (held : Option Files) (trace file : List ℕ) (table : List Move)
    (all : List ℕ) (refusal : Refusal) (before now : Outside)
    → Known held (λ files. all ≡ content files trace) → refusal_of any all ≡ Some refusal
    → IsAllWritten table file (version_and_header (reading_of all).1.progress) (reading_of all).0
    before now
    → IsRefused held trace file table before now (faults.Refused refusal)
refused_whole held trace file table all refusal before now whole is written =
    let near = near_of (head_in all) in record {
      bytes = all;
      whole = whole;
      refused = ap (λ (o : Option MoveFault). option_map_or (λ f. Some f) o
          (option_map faults.Refused (refusal_of any all)))
          (none_at_fault near table (reading_of all).0 written.free)
          ∙ ap (option_map faults.Refused) is;
      written = subst (λ (l : List TraceRecord). AreWritten
          (moved_so_far table file (head_in all) l) before now)
          (sym (all_free (is_at_fault near table) (reading_of all).0 written.free)) written.written;
    }

-- ---- a whole trace

trace_head : (all : List TraceRecord) (p : Option ReadSoFar) (r : Result TraceEnd TraceFault)
    (t : Trace) → trace_at all p r ≡ Some t → version_and_header p ≡ Some (t.version, t.header)
trace_head all None (Ok e) t is = absurd cc
trace_head all None (Err fault) t is = absurd cc
trace_head all (Some p) (Err fault) t is = absurd cc
trace_head all (Some p) (Ok e) t is = cc

pub head_of_trace : (bytes : List ℕ) (t : Trace) → trace_of bytes ≡ Some t
    → version_and_header (reading_of bytes).1.progress ≡ Some (t.version, t.header)
head_of_trace bytes t is =
    trace_head (reading_of bytes).0 (reading_of bytes).1.progress (ending_of (reading_of bytes).1) t
    is

let_through : (taken far : Bool) (addr : ℕ)
    → is_some (if taken then Some (faults.Occupied addr)
    else (if far then Some (faults.Far addr) else None)) ≡ false → (taken ≡ false) × (far ≡ false)
let_through true far addr none = absurd cc
let_through false true addr none = absurd cc
let_through false false addr none = (refl, refl)

-- the accesses of records of which none is refused
abbrev pub AreLetThrough : ℕ → List Move → List Touch → Type 0
AreLetThrough near table accesses =
    All (λ a. (is_taken table a.addr ≡ false) × (is_far near table a.addr ≡ false)) accesses

one_touch : (near : ℕ) (table : List Move) (item : TraceRecord) (items : List TraceRecord)
    → is_at_fault near table item ≡ false → AreLetThrough near table (touches_in items)
    → AreLetThrough near table (touches_in (item ∷ items))
one_touch near table (records.Touch a pc) items here free =
    All-cons (λ (b : Touch). (is_taken table b.addr ≡ false) × (is_far near table b.addr ≡ false)) a
    (touches_in items) (let_through (is_taken table a.addr) (is_far near table a.addr) a.addr here)
    free
one_touch near table (records.Alloc addr size sites) items here free = free
one_touch near table (records.Free addr) items here free = free
one_touch near table (records.Symbol kind addr size symbol) items here free = free
one_touch near table (records.End e) items here free = free

pub let_touches_through : (near : ℕ) (table : List Move) (items : List TraceRecord)
    → list_any (is_at_fault near table) items ≡ false
    → AreLetThrough near table (touches_in items)
let_touches_through near table [] none =
    All-nil (λ (b : Touch). (is_taken table b.addr ≡ false) × (is_far near table b.addr ≡ false))
let_touches_through near table (item ∷ items) none =
    let parts = neither_passes (is_at_fault near table item)
    (list_any (is_at_fault near table) items) none in
    one_touch near table item items parts.0 (let_touches_through near table items parts.1)

-- records of which none is refused are free
pub free_touches : (near : ℕ) (table : List Move) (items : List TraceRecord)
    → list_any (is_at_fault near table) items ≡ false → IsFree table (touches_in items)
free_touches near table items none =
    All-weaker
    (λ (b : Touch). (is_taken table b.addr ≡ false) × (is_far near table b.addr ≡ false))
    (λ b. is_taken table b.addr ≡ false) (λ b both. both.0) (touches_in items)
    (let_touches_through near table items none)

-- and the table is near for them, where they are filtered
pub near_touches : (near : ℕ) (table : List Move) (items : List TraceRecord)
    → list_any (is_at_fault near table) items ≡ false → near ≢ 0
    → IsNearTable near table (touches_in items)
near_touches near table items none some =
    All-weaker
    (λ (b : Touch). (is_taken table b.addr ≡ false) × (is_far near table b.addr ≡ false))
    (IsNearFor near table) (λ b both. not_far near table b some both.1) (touches_in items)
    (let_touches_through near table items none)

touches_ended : (items : List TraceRecord) (e : TraceEnd)
    → touches_in (items ++ records.End e ∷ []) ≡ touches_in items
touches_ended items e =
    filter_map-append touch_in items (records.End e ∷ []) ∙ append-nil (touches_in items)

-- all that is written of the bytes of a trace
pub file_of_whole : (table : List Move) (file bytes : List ℕ) (t : Trace)
    → trace_of bytes ≡ Some t
    → moved_so_far table file (version_and_header (reading_of bytes).1.progress)
    (reading_of bytes).0 ≡ moving table file t
file_of_whole table file bytes t is =
    let all = trace-records bytes t is in
    let head = head_of_trace bytes t is in
    (λ i. moved_so_far table file (head i) (all i))
    ∙ ap (λ (l : List TraceRecord). one_file file (begun_with t.version (narrowed t.header) l))
    (map-append (moved_item table) t.items (records.End t.ending ∷ []))
    ∙ ap (one_file file)
    (begun-all t.version (narrowed t.header) (moved_items table t.items) t.ending)

pub whole_copied : (held : Option Files) (trace file : List ℕ) (table : List Move) (m : Mover)
    (passed : Passed) (bytes : List ℕ) (items : List TraceRecord) (made : Moved)
    (before mid now : Outside) → Known held (λ files. bytes ≡ content files trace)
    → trace_of bytes ≡ Some (trace_with passed items)
    → HasMoved table file m (version_and_header (reading_of bytes).1.progress)
    (reading_of bytes).0 before mid
    → AreWritten (moved_so_far table file (version_and_header (reading_of bytes).1.progress)
    (reading_of bytes).0) before now
    → made.accesses ≡ passed.ending.accesses → made.moved ≡ m.moved
    → HasCopied held trace (moving table file) (IsCounted table made) before now
whole_copied held trace file table m passed bytes items made before mid now whole is has written
    accesses count =
    let t = trace_with passed items in
    let all = trace-records bytes t is in
    let near = t.header.near in
    let head : near_of (head_in bytes) ≡ near = ap near_of (head_of_trace bytes t is) in
    let free : list_any (is_at_fault near table) (items ++ records.End t.ending ∷ []) ≡ false =
    ap (list_any (is_at_fault near table)) (sym all)
    ∙ ap (λ (k : ℕ). list_any (is_at_fault k table) (reading_of bytes).0) (sym head) ∙ has.free in
    let parts = neither_passes (list_any (is_at_fault near table) items) _
    (sym (list_any-append (is_at_fault near table) items (records.End t.ending ∷ [])) ∙ free) in
    record {
      bytes = bytes;
      whole = whole;
      trace = t;
      is = is;
      stated = record {
        free = free_touches near table items parts.0;
        near = near_touches near table items parts.0;
        accesses = accesses ∙ (trace-parts bytes t is).counted;
        moved = count ∙ has.moved
            ∙ ap (λ (l : List TraceRecord). count_moved table (touches_in l)) all
            ∙ ap (count_moved table) (touches_ended items t.ending);
      };
      written = subst (λ (l : List Output). AreWritten l before now)
          (file_of_whole table file bytes t is) written;
    }

-- ---- all that is said of a fault

pub record Gave (held : Option Files) (trace file : List ℕ) (table : List Move)
    (before now : Outside) (fault : MoveFault) : Type 0 where
  pub refused : (refusal : Refusal) → fault ≡ faults.Refused refusal
      → IsRefused held trace file table before now (faults.Refused refusal)
  pub occupied : (addr : ℕ) → fault ≡ faults.Occupied addr
      → IsRefused held trace file table before now (faults.Occupied addr)
  pub far : (addr : ℕ) → fault ≡ faults.Far addr
      → IsRefused held trace file table before now (faults.Far addr)
  pub memory : fault ≢ faults.Refused (refusals.Trace trace_faults.NoMemory)
  pub given_up : HasGivenUp held trace file table before now fault

module _ (held : Option Files) (trace file : List ℕ) (table : List Move) (bytes : List ℕ)
    (front : Known held (λ fs. IsFront (content fs trace) bytes)) (before now : Outside)
  where
    -- within a call that writes
    pub gave_stopped : (fault : MoveFault)
        → StopsAt table file (version_and_header (reading_of bytes).1.progress)
        (reading_of bytes).0 before now fault
        → Gave held trace file table before now fault
    gave_stopped (faults.Refused refusal) stops = absurd stops
    gave_stopped faults.ReadFault stops = absurd stops
    gave_stopped (faults.Occupied addr) stops = record {
      refused = λ refusal e. absurd cc;
      occupied = λ other e.
          let same : addr ≡ other = cc in
          subst (λ (n : ℕ). IsRefused held trace file table before now (faults.Occupied n)) same
          (refused_held held trace file table bytes front before now (faults.Occupied addr) stops);
      far = λ other e. absurd cc;
      memory = λ e. cc;
      given_up = gave_up held trace file table bytes front before now refusals.Filtered
          (faults.Occupied addr) stops;
    }
    gave_stopped (faults.Far addr) stops = record {
      refused = λ refusal e. absurd cc;
      occupied = λ other e. absurd cc;
      far = λ other e.
          let same : addr ≡ other = cc in
          subst (λ (n : ℕ). IsRefused held trace file table before now (faults.Far n)) same
          (refused_held held trace file table bytes front before now (faults.Far addr) stops);
      memory = λ e. cc;
      given_up = gave_up held trace file table bytes front before now refusals.Filtered
          (faults.Far addr) stops;
    }
    gave_stopped faults.WriteFault stops = record {
      refused = λ refusal e. absurd cc;
      occupied = λ addr e. absurd cc;
      far = λ addr e. absurd cc;
      memory = λ e. cc;
      given_up = gave_up held trace file table bytes front before now refusals.Filtered
          faults.WriteFault stops;
    }
    gave_stopped faults.NoMemory stops = record {
      refused = λ refusal e. absurd cc;
      occupied = λ addr e. absurd cc;
      far = λ addr e. absurd cc;
      memory = λ e. cc;
      given_up = gave_up held trace file table bytes front before now refusals.Filtered
          faults.NoMemory stops;
    }

    -- within one that reads
    pub gave_reading : {T : Type 0} (m : Mover) (mid : Outside) (fault : PassFault)
        → ((refusal : Refusal) → fault ≡ passes.Refused refusal → ⊥)
        → HasMoved table file m (version_and_header (reading_of bytes).1.progress)
        (reading_of bytes).0 before mid → OnlyReads mid now
        → HasPassCause {T = T} trace mid now (Err fault)
        → Gave held trace file table before now (read_fault fault)
    gave_reading {T} m mid (passes.Refused refusal) other has only cause = absurd (other refusal refl)
    gave_reading {T} m mid passes.ReadFault other has only cause = record {
      refused = λ refusal e. absurd cc;
      occupied = λ addr e. absurd cc;
      far = λ addr e. absurd cc;
      memory = λ e. cc;
      given_up = gave_up_reading held trace file table bytes front {T = T} m before mid now
          passes.ReadFault has only cause;
    }
    gave_reading {T} m mid passes.NoMemory other has only cause = record {
      refused = λ refusal e. absurd cc;
      occupied = λ addr e. absurd cc;
      far = λ addr e. absurd cc;
      memory = λ e. cc;
      given_up = gave_up_reading held trace file table bytes front {T = T} m before mid now
          passes.NoMemory has only cause;
    }

-- at a trace that is refused
module _ (held : Option Files) (trace file : List ℕ) (table : List Move) (all : List ℕ)
    (whole : Known held (λ fs. all ≡ content fs trace)) (refusal : Refusal)
    (is : refusal_of any all ≡ Some refusal)
    (other : refusal ≢ refusals.Trace trace_faults.NoMemory) (before now : Outside)
  where
    front_of_all : Known held (λ fs. IsFront (content fs trace) all)
    front_of_all = known_map held (λ fs same.
        subst (λ (l : List ℕ). IsFront l all) same
        (record { within = omega arith; same = sym (take_all (length all) all (omega arith)) })) whole

    pub gave_refused : (fault : MoveFault)
        → EndsAt table file (version_and_header (reading_of all).1.progress) (reading_of all).0
        before now refusal fault
        → Gave held trace file table before now fault
    gave_refused (faults.Refused r) ends =
        record {
          refused = λ r' e.
              let also : r' ≡ r = cc in
              subst (λ (x : Refusal). IsRefused held trace file table before now (faults.Refused x))
              (sym (also ∙ ends.0))
              (refused_whole held trace file table all refusal before now whole is ends.1);
          occupied = λ addr e. absurd cc;
          far = λ addr e. absurd cc;
          memory = λ e.
              let also : r ≡ refusals.Trace trace_faults.NoMemory = cc in other (sym ends.0 ∙ also);
          given_up = gave_up held trace file table all front_of_all before now refusal
              (faults.Refused r) ends;
        }
    gave_refused (faults.Occupied addr) ends =
        gave_stopped held trace file table all front_of_all before now (faults.Occupied addr) ends
    gave_refused (faults.Far addr) ends =
        gave_stopped held trace file table all front_of_all before now (faults.Far addr) ends
    gave_refused faults.ReadFault ends = absurd ends
    gave_refused faults.WriteFault ends =
        gave_stopped held trace file table all front_of_all before now faults.WriteFault ends
    gave_refused faults.NoMemory ends =
        gave_stopped held trace file table all front_of_all before now faults.NoMemory ends

of_ending : (r : Result TraceEnd TraceFault) (refusal : Refusal)
    → trace_refusal r ≡ Some refusal → (fault : TraceFault) × (refusal ≡ refusals.Trace fault)
of_ending (Ok e) refusal is = absurd cc
of_ending (Err fault) refusal is = (fault, cc)

fault_in : (p : Option ReadSoFar) (r : Result TraceEnd TraceFault) (refusal : Refusal)
    → option_or (header_refusal any (head_of p)) (trace_refusal r) ≡ Some refusal
    → (fault : TraceFault) × (refusal ≡ refusals.Trace fault)
fault_in p r refusal is =
    of_ending r refusal
    (sym (ap (λ (o : Option Refusal). option_or o (trace_refusal r)) (any_header (head_of p))) ∙ is)

-- any trace that is refused has a fault
pub is_trace_fault : (bytes : List ℕ) (refusal : Refusal) → refusal_of any bytes ≡ Some refusal
    → (fault : TraceFault) × (refusal ≡ refusals.Trace fault)
is_trace_fault bytes refusal is =
    let now = (reading_of bytes).1 in
    fault_in now.progress (ending_of now) refusal is

-- what a call says of its answer where it is Ok
pub three_ok : {T E W : Type 0} {A B Q : T → Type 0} (r : Result T E)
    → ((x : T) → W → A x → B x → Q x) → OnOk r W → IfOk r A → IfOk r B → IfOk r Q
three_ok (Ok x) f w a b = f x w a b
three_ok (Err e) f w a b = tt
