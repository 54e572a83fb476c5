-- What a shelf in memory means, and which of its calls fail.
use Rattle.std.specs.Prelude.{◌≡◌, ℕ, ◌+◌, ◌-◌, ◌^◌, min, List, [], Option, Some, None, IsSome}
use Rattle.std.specs.Prelude.{Result, Ok, Err}
use Rattle.shelf.specs.Shelf.{Outside}
use Rattle.shelf.specs.HeldFile.{file_of}
use Rattle.shelf.specs.Failing.{failing_at}
use Rattle.shelf.specs.declared.files.HeldFile.{HeldFile}
use Rattle.shelf.specs.declared.memory.Failing.{Failing}
use Rattle.shelf.specs.declared.memory.MemoryShelf.{MemoryShelf}
use Rattle.shelf.specs.declared.shelf.ShelfError.{ShelfError}
use Rattle.shelf.specs.declared.shelf.ShelfError.TheVariants.{Failed, NoMemory}

-- everything is known of it, and it has one number of faults of a kind for all names alike
abbrev pub memory_outside : MemoryShelf → Outside
memory_outside shelf = record {
  held = Some (file_of shelf.files.items);
  written = Some (file_of shelf.written.items);
  printed = Some shelf.printed.items;
  read_faults = λ _. shelf.read_faults;
  write_faults = λ _. shelf.write_faults;
  print_faults = shelf.print_faults;
  given = shelf.log.items;
}

-- these files, with nothing begun, printed or read, and no fault yet
abbrev pub fresh_outside : List HeldFile → Outside
fresh_outside files = record {
  held = Some (file_of files);
  written = Some (λ _. None);
  printed = Some [];
  read_faults = λ _. 0;
  write_faults = λ _. 0;
  print_faults = 0;
  given = [];
}

-- the calls that are to fail, as they were given
abbrev pub failing_calls : MemoryShelf → List Failing
failing_calls shelf = shelf.failing.items

-- how many calls were made
abbrev pub calls_made : MemoryShelf → ℕ
calls_made shelf = shelf.calls

-- one more, but a number at its end stays there
abbrev pub next_number : ℕ → ℕ
next_number n = min (n + 1) (2 ^ 64 - 1)

-- how many bytes the next call keeps, where it is to fail
abbrev pub next_failure : MemoryShelf → Option ℕ
next_failure shelf = failing_at (failing_calls shelf) (next_number (calls_made shelf))

-- one call more was made, and the same calls are to fail
pub record CountsCall (old new : MemoryShelf) : Type 0 where
  pub calls : calls_made new ≡ next_number (calls_made old)
  pub failing : failing_calls new ≡ failing_calls old

-- a number of faults after a call: one more exactly where it failed
abbrev pub faults_after : {T : Type 0} → Result T ShelfError → ℕ → ℕ
faults_after (Ok _) faults = faults
faults_after (Err Failed) faults = next_number faults
faults_after (Err NoMemory) faults = faults

abbrev pub IsHeld : MemoryShelf → List ℕ → Type 0
IsHeld shelf name = IsSome (file_of shelf.files.items name)
