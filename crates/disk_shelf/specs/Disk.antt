-- What the system's files mean as a shelf: what its calls have read, written and printed, and any
-- contents that one thinks of, which are known as long as all that was read is theirs.
use Rattle.std.specs.Prelude.{ℕ, ◌+◌, Some, None, Bool, true, false, ◌&&◌, ◌||◌, not, nat_lt}
use Rattle.std.specs.Prelude.{nat_le, ◌==◌, List, [], ◌∷◌, ◌++◌, length, take, drop, string_bytes}
use Rattle.std.specs.Prelude.{Option, if◌then◌else◌, option_map}
use Rattle.std.specs.List.{list_all, list_any}
use Rattle.std.specs.Str.{bytes_eq}
use Rattle.shelf.specs.Shelf.{Files, Given, Outside, content, read_of}
use Rattle.shelf.specs.declared.shelf.ShelfError.TheVariants.{Failed}
use Rattle.disk_shelf.specs.Done.{Done, WasRead, WasBegun, WasAppended, WasPrinted, ReadingFailed}
use Rattle.disk_shelf.specs.Done.{WritingFailed, PrintingFailed}
use Rattle.disk_shelf.specs.declared.known_files.FileId.{FileId}
use Rattle.disk_shelf.specs.declared.known_files.KnownFile.{KnownFile}

-- what the calls have done and which of them failed, the latest first
pub record Seen : Type 0 where
  pub done : List Done

-- the bytes are those of the file from a place on; none only at its end or with no room
abbrev pub reads_so : List ℕ → ℕ → ℕ → List ℕ → Bool
reads_so file at room bytes =
    bytes_eq bytes (take (length bytes) (drop at file))
    && (nat_lt 0 (length bytes) || (room == 0) || nat_le (length file) at)

-- what was read, if anything was, is of these files
abbrev pub agrees : Files → Done → Bool
agrees files (WasRead name at room bytes) = reads_so (content files name) at room bytes
agrees files other = true

-- these files, as long as all that was read is of them
abbrev pub held_by : Files → List Done → Option Files
held_by files done = if list_all (agrees files) done then Some files else None

-- the file of each name: empty once it was begun, and longer by each piece that was added
abbrev pub written_by : List Done → Files
written_by [] name = None
written_by (WasBegun n ∷ before) name =
    if bytes_eq n name then Some [] else written_by before name
written_by (WasAppended n piece ∷ before) name =
    if bytes_eq n name then option_map (λ bytes. bytes ++ piece) (written_by before name)
    else written_by before name
written_by (other ∷ before) name = written_by before name

-- the pieces that were printed, one behind the other
abbrev pub printed_by : List Done → List ℕ
printed_by [] = []
printed_by (WasPrinted piece ∷ before) = printed_by before ++ piece
printed_by (other ∷ before) = printed_by before

-- what was read, the latest first
abbrev pub given_by : List Done → List Given
given_by [] = []
given_by (WasRead name at room bytes ∷ before) = read_of name at room bytes ∷ given_by before
given_by (other ∷ before) = given_by before

-- reading the file of a name failed, and memory didn't run out
abbrev pub is_read_fault : List ℕ → Done → Bool
is_read_fault name (ReadingFailed n Failed) = bytes_eq n name
is_read_fault name other = false

-- the same of writing it
abbrev pub is_write_fault : List ℕ → Done → Bool
is_write_fault name (WritingFailed n Failed) = bytes_eq n name
is_write_fault name other = false

-- the same of printing
abbrev pub is_print_fault : Done → Bool
is_print_fault (PrintingFailed Failed) = true
is_print_fault other = false

-- how many of them pass a test
abbrev pub how_many : (Done → Bool) → List Done → ℕ
how_many test [] = 0
how_many test (d ∷ before) = if test d then how_many test before + 1 else how_many test before

-- these files are known as long as what was read is of them; all that was written, printed and read
-- is known, and how often reading or writing each file has failed
abbrev pub disk_outside : Files → Seen → Outside
disk_outside files seen = record {
  held = held_by files seen.done;
  written = Some (written_by seen.done);
  printed = Some (printed_by seen.done);
  read_faults = λ name. how_many (is_read_fault name) seen.done;
  write_faults = λ name. how_many (is_write_fault name) seen.done;
  print_faults = how_many is_print_fault seen.done;
  given = given_by seen.done;
}

-- these files, with nothing begun, printed or read, and no fault yet
abbrev pub fresh_outside : Files → Outside
fresh_outside files = record {
  held = Some files;
  written = Some (λ _. None);
  printed = Some [];
  read_faults = λ _. 0;
  write_faults = λ _. 0;
  print_faults = 0;
  given = [];
}

-- ---- the files that are known, each under a name

abbrev pub is_file : FileId → FileId → Bool
is_file a b = (a.device == b.device) && (a.number == b.number)

-- one of them is this file
abbrev pub has_file : FileId → List KnownFile → Bool
has_file id files = list_any (λ file. is_file file.id id) files

-- one of them is this file under another name
abbrev pub has_other_name : FileId → List ℕ → List KnownFile → Bool
has_other_name id name files =
    list_any (λ file. is_file file.id id && not (bytes_eq (string_bytes file.name) name)) files

-- one of them is this file under this name
abbrev pub has_name : FileId → List ℕ → List KnownFile → Bool
has_name id name files =
    list_any (λ file. is_file file.id id && bytes_eq (string_bytes file.name) name) files
