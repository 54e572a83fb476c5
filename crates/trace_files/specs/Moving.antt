-- Which trace a table makes of another one, and what is written where it gives up.
use Rattle.std.specs.Prelude.{◌≡◌, ◌≢◌, ℕ, ◌≤◌, List, [], map, Bool, not, length, if◌then◌else◌}
use Rattle.std.specs.Prelude.{find, is_some, Option, Some, None, option_map}
use Rattle.std.specs.Option.{option_and_then, option_map_or}
use Rattle.std.specs.List.{take_while}
use Rattle.shelf.specs.Files.{Output, AreWritten, BegunInOrder, one_file}
use Rattle.shelf.specs.Shelf.{Files, Goes, Narrows, Outside, Rose, Known, content}
use Rattle.trace_format.specs.declared.record.Header.{Header}
use Rattle.trace_format.specs.declared.record.Version.{Version}
use Rattle.trace_format.specs.declared.record.TraceRecord.{TraceRecord}
use Rattle.trace_format.specs.declared.record.TraceRecord.TheVariants as records
use Rattle.trace_format.specs.Reading.{reading_of}
use Rattle.trace_format.specs.Rules.{touches_in}
use Rattle.trace_format.specs.Writing.{begun_with}
use Rattle.trace_passes.specs.Cursors.{version_and_header}
use Rattle.trace_passes.specs.Passes.{Trace, refusal_of, spell_trace}
use Rattle.trace_files.specs.declared.move_fault.MoveFault.{MoveFault}
use Rattle.trace_files.specs.declared.move_fault.MoveFault.TheVariants.{Refused, Occupied, Far}
use Rattle.trace_files.specs.declared.move_fault.MoveFault.TheVariants.{ReadFault, WriteFault}
use Rattle.trace_files.specs.declared.relocation.Moved.{Moved}
use Rattle.trace_files.specs.Copies.{any}
use Rattle.trace_files.specs.Moves.{IsFree, count_moved, is_taken, moved_in}
use Rattle.trace_files.specs.NearMoves.{IsNearTable, is_far, moved_near}
use Rattle.trace_files.specs.declared.move_row.Move.{Move}

-- ---- the records

-- a record with its access moved, and any other as it is
abbrev pub moved_item : List Move → TraceRecord → TraceRecord
moved_item table (records.Touch a pc) = records.Touch (moved_in table a) pc
moved_item table item = item

abbrev pub moved_items : List Move → List TraceRecord → List TraceRecord
moved_items table items = map (moved_item table) items

-- The regions of a moved trace have at most 256 bytes. A trace that isn't filtered has none, so that
-- its header stays.
abbrev pub narrowed : Header → Header
narrowed h = record h { near = moved_near h.near }

-- the trace with its accesses moved
abbrev pub moved : List Move → Trace → Trace
moved table t = record t { header = narrowed t.header; items = moved_items table t.items }

-- how an access at an address is refused: it stays where one may go, else the table isn't near for it
abbrev pub access_fault : ℕ → List Move → ℕ → Option MoveFault
access_fault near table addr =
    if is_taken table addr then Some (Occupied addr)
    else (if is_far near table addr then Some (Far addr) else None)

abbrev pub record_fault : ℕ → List Move → TraceRecord → Option MoveFault
record_fault near table (records.Touch a pc) = access_fault near table a.addr
record_fault near table _ = None

abbrev pub is_at_fault : ℕ → List Move → TraceRecord → Bool
is_at_fault near table item = is_some (record_fault near table item)

-- the fault of the first such record
abbrev pub first_fault : ℕ → List Move → List TraceRecord → Option MoveFault
first_fault near table items =
    option_and_then (record_fault near table) (find (is_at_fault near table) items)

-- the records before it, all where there is none
abbrev pub before_the_first : ℕ → List Move → List TraceRecord → List TraceRecord
before_the_first near table items = take_while (λ item. not (is_at_fault near table item)) items

-- ---- any bytes

-- the file of a name as far as it is written: none before a header is accepted; then the header,
-- and these records with the accesses moved
abbrev pub moved_so_far : List Move → List ℕ → Option (Version × Header) → List TraceRecord
    → List Output
moved_so_far table name None seen = []
moved_so_far table name (Some head) seen =
    one_file name (begun_with head.0 (narrowed head.1) (moved_items table seen))

-- under what the list of an accepted header is filtered: 0 where it isn't
abbrev pub near_of : Option (Version × Header) → ℕ
near_of None = 0
near_of (Some head) = head.1.near

-- What is written of bytes: the header, once it is accepted, and the records that are read before
-- one is refused.
abbrev pub written_of : List Move → List ℕ → List ℕ → List Output
written_of table name bytes =
    let now = reading_of bytes in
    let head = version_and_header now.1.progress in
    moved_so_far table name head (before_the_first (near_of head) table now.0)

-- how bytes are refused: for the first access that is, among those that are read, else as the bytes
-- are no trace
abbrev pub fault_of : List Move → List ℕ → Option MoveFault
fault_of table bytes =
    let now = reading_of bytes in
    option_map_or (λ fault. Some fault)
    (first_fault (near_of (version_and_header now.1.progress)) table now.0)
    (option_map Refused (refusal_of any bytes))

-- ---- what the call says

-- the file of a whole trace
abbrev pub moving : List Move → List ℕ → Trace → List Output
moving table name t = one_file name (spell_trace (moved table t))

-- the table is near for the accesses of a trace, where that is filtered
abbrev pub IsNearFiltered : List Move → Trace → Type 0
IsNearFiltered table t =
    t.header.near ≢ 0 → IsNearTable t.header.near table (touches_in t.items)

-- no access of the trace is refused, and so many there are, and are moved
pub record IsCounted (table : List Move) (made : Moved) (t : Trace) : Type 0 where
  pub free : IsFree table (touches_in t.items)
  pub near : IsNearFiltered table t
  pub accesses : made.accesses ≡ length (touches_in t.items)
  pub moved : made.moved ≡ count_moved table (touches_in t.items)

-- No number of faults falls. Those of reading the trace rose at a fault of reading, those of writing
-- the file at a fault of writing, and else they stay.
pub record HasMoveCause (name file : List ℕ) (before now : Outside) (fault : MoveFault) : Type 0
  where
    pub reads : (n : List ℕ) → before.read_faults n ≤ now.read_faults n
    pub writes : (n : List ℕ) → before.write_faults n ≤ now.write_faults n
    pub read_failed : fault ≡ ReadFault → Rose (before.read_faults name) (now.read_faults name)
    pub write_failed : fault ≡ WriteFault → Rose (before.write_faults file) (now.write_faults file)
    pub read_quiet : fault ≢ ReadFault → now.read_faults ≡ before.read_faults
    pub write_quiet : fault ≢ WriteFault → now.write_faults ≡ before.write_faults

-- It gave up. The file is a front of what is written of the bytes, where these are known, and each
-- other file is as it was; it is known who is the cause.
pub record HasGivenUp (held : Option Files) (name file : List ℕ) (table : List Move)
    (before now : Outside) (fault : MoveFault) : Type 0 where
  pub fronts : Known held (λ files. Goes before.written now.written
      (BegunInOrder (written_of table file (content files name))))
  pub others : Goes before.written now.written
      (λ old new. (n : List ℕ) → n ≢ file → new n ≡ old n)
  pub cause : HasMoveCause name file before now fault
  pub held_stay : Narrows before.held now.held
  pub printed : now.printed ≡ before.printed
  pub print_faults : now.print_faults ≡ before.print_faults

-- The bytes are refused so, and all is written that is written of them; they are the held ones of
-- the name, where these are known.
pub record IsRefused (held : Option Files) (name file : List ℕ) (table : List Move)
    (before now : Outside) (fault : MoveFault) : Type 0 where
  pub bytes : List ℕ
  pub whole : Known held (λ files. bytes ≡ content files name)
  pub refused : fault_of table bytes ≡ Some fault
  pub written : AreWritten (written_of table file bytes) before now
