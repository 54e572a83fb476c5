-- The command `move`: a trace with its accesses moved as a table says, written as the trace is
-- read.
use Rattle.std.specs.Prelude.{◌≡◌, ◌≢◌, ◌<◌, ◌≤◌, ℕ, List, [], ◌∷◌, codes, length, Option, None, Some}
use Rattle.std.specs.Prelude.{Result, Ok, Err, option_map}
use Rattle.std.specs.List.{All}
use Rattle.base.specs.Lines.{Grid}
use Rattle.command_line.specs.Relocate.{MoveDemand}
use Rattle.filtered_counts.specs.SameCounts.{IsWithin, SameCounts}
use Rattle.filtered_counts.specs.SameHarts.{IsSitedWithoutRedundant, SameHarts}
use Rattle.filtered_moves.specs.MovedSites.{moved_sited}
use Rattle.invalidations.specs.BlameRecords.{sited_in}
use Rattle.invalidations.specs.declared.sited.Sited.{Sited}
use Rattle.sharing_rules.specs.AccessLists.{AccessList}
use Rattle.sharing_rules.specs.Filtered.{IsWithoutRedundant}
use Rattle.shelf.specs.Files.{Output, bytes_for}
use Rattle.shelf.specs.Shelf.{Files, content}
use Rattle.trace_files.specs.Moves.{IsFree, count_moved, moved_list}
use Rattle.trace_files.specs.Moving.{fault_of, moved, moving, written_of}
use Rattle.trace_files.specs.Tables.{IsTable, table_of}
use Rattle.trace_files.specs.declared.move_row.Move.{Move}
use Rattle.trace_files.specs.declared.table_fault.TableFault.{TableFault}
use Rattle.trace_format.specs.Rules.{longest_trace, touches_in}
use Rattle.trace_passes.specs.Passes.{Trace, trace_of}
use Rattle.command_io.specs.Readings.{Reading, reading}
use Rattle.command_io.specs.Works.{Work}
use Rattle.command_io.specs.declared.status.Status.{Status}
use Rattle.command_io.specs.declared.status.Status.TheVariants as status
use Rattle.predator_cli.specs.Copies.{copy_of, copy_text}
use Rattle.predator_cli.specs.Judged.{judged}
use Rattle.predator_cli.specs.TraceFaults.{status_of_move}

-- ---- the table

abbrev pub table_refusal : Result (List Move) TableFault → Option Status
table_refusal (Ok table) = None
table_refusal (Err fault) = Some (status.Table fault)

abbrev pub table_reading : List ℕ → Reading
table_reading name = reading name (λ files. table_refusal (table_of (content files name)))

-- the table that holds where it isn't refused
abbrev pub unless_refused : Result (List Move) TableFault → List Move
unless_refused (Ok table) = table
unless_refused (Err fault) = []

abbrev pub table_in : MoveDemand → Files → List Move
table_in demand files = unless_refused (table_of (content files demand.table))

-- ---- the trace

-- a trace is refused for its first fault, or for an access that is refused before that
abbrev pub moved_refusal : List ℕ → Files → List Move → Option Status
moved_refusal name files table = option_map status_of_move (fault_of table (content files name))

abbrev pub moved_reading : MoveDemand → Reading
moved_reading demand =
    reading demand.trace (λ files. moved_refusal demand.trace files (table_in demand files))

-- the table is judged before the trace
abbrev pub move_readings : MoveDemand → List Reading
move_readings demand = table_reading demand.table ∷ moved_reading demand ∷ []

-- ---- what it gives

-- how many accesses there are, and how many of them are moved
abbrev pub move_text : List Move → Trace → List ℕ
move_text table t =
    copy_text (codes "move") (length (touches_in t.items)) (count_moved table (touches_in t.items))

-- the text and the moved trace, by a table
abbrev pub moved_by : MoveDemand → Files → List Move → Work
moved_by demand files table =
    copy_of (move_text table) (moving table demand.file) demand.trace files

abbrev pub move_work : MoveDemand → Files → Work
move_work demand files = moved_by demand files (table_in demand files)

-- what is left of the file where the trace is refused: the records before its fault
abbrev pub move_left : MoveDemand → Files → List Output
move_left demand files =
    written_of (table_in demand files) demand.file (content files demand.trace)

-- ---- what its file is

-- Of a list of which a filtered trace has all but some redundant accesses: it is free too, and the
-- moved trace has all of its moved list but some redundant accesses, under the regions of the moved
-- trace. So both have the same counts under each layout whose lines fit these.
pub record IsMovedWith (table : List Move) (t : Trace) (u : AccessList) : Type 0 where
  pub free : IsFree table u
  pub rest : IsWithoutRedundant (moved table t).header.near (moved_list table u)
      (touches_in (moved table t).items)
  pub counts : (g : Grid) → IsWithin (moved table t).header.near g
      → SameCounts g (moved_list table u) (touches_in (moved table t).items)

-- the same of a list with pcs: both have the same invalidations by pairs of harts
pub record AreMovedWith (table : List Move) (t : Trace) (u : List Sited) : Type 0 where
  pub rest : IsSitedWithoutRedundant (moved table t).header.near (moved_sited table u)
      (sited_in (moved table t).items)
  pub harts : (g : Grid) → IsWithin (moved table t).header.near g
      → SameHarts g (moved_sited table u) (sited_in (moved table t).items)

-- what a moved trace is for each list that was filtered
pub record StandsForMoved (table : List Move) (t : Trace) : Type 0 where
  pub lists : (u : AccessList) → IsWithoutRedundant t.header.near u (touches_in t.items)
      → IsMovedWith table t u
  pub sited_lists : (u : List Sited)
      → IsSitedWithoutRedundant t.header.near u (sited_in t.items) → AreMovedWith table t u

-- Some bytes are a trace with its accesses moved: the accesses in them are the moved list of its
-- own, which is free for the table. Where the trace is filtered, they stand for the moved list of
-- what was filtered.
pub record HasMovedList (table : List Move) (t : Trace) (bytes : List ℕ) : Type 0 where
  pub read : trace_of bytes ≡ Some (moved table t)
  pub accesses : touches_in (moved table t).items ≡ moved_list table (touches_in t.items)
  pub free : IsFree table (touches_in t.items)
  pub is_table : IsTable table
  pub filtered : t.header.near ≢ 0 → StandsForMoved table t

-- Where files hold the file that a move wrote, of at most 2^44 bytes, it is so.
abbrev pub MoveRepeats : MoveDemand → Files → Type 0
MoveRepeats demand files =
    (t : Trace) (later : Files) → All (λ b. b < 256) (content files demand.trace)
    → trace_of (content files demand.trace) ≡ Some t
    → later demand.file
    ≡ bytes_for (judged (move_readings demand) (move_work demand) files).outputs demand.file
    → length (content later demand.file) ≤ longest_trace
    → HasMovedList (table_in demand files) t (content later demand.file)
