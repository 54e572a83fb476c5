-- What stands in the files that a command writes, at each end.
use Rattle.std.specs.Prelude.{◌≡◌, ◌⊎◌, ℕ, List, Option, false}
use Rattle.std.specs.List.{list_any}
use Rattle.std.specs.Str.{bytes_eq}
use Rattle.shelf.specs.Shelf.{Files, Goes, Outside, Rose, Known}
use Rattle.command_line.specs.Words.{Demand}
use Rattle.shelf.specs.Files.{AreWhole, BegunInOrder}
use Rattle.command_io.specs.Readings.{RoseAt}
use Rattle.command_io.specs.Statuses.{Kind, done, refusal, read_fault, write_fault, no_memory}
use Rattle.predator_cli.specs.Answer.{answer_of, manner_in, outputs}
use Rattle.predator_cli.specs.Manners.{Manner, judged_before, read_again, read_along}

-- each file is as it was
abbrev pub AreSame : Files → Files → Type 0
AreSame before now = (name : List ℕ) → now name ≡ before name

-- The outputs are begun in their order, and each that is begun is a front of its bytes. This holds
-- where the held files are known, and with them the outputs.
abbrev pub StandsInPart : Option Demand → Option Files → Option Files → Option Files → Type 0
StandsInPart asked held before now =
    Known held (λ files. Goes before now (BegunInOrder (answer_of asked files).outputs))

-- every output is whole, where the held files are known
abbrev pub StandsWhole : Option Demand → Option Files → Option Files → Option Files → Type 0
StandsWhole asked held before now =
    Known held (λ files. Goes before now (AreWhole (answer_of asked files).outputs))

-- At a refusal each file is as it was. Copies whose trace is refused only as it is read again may
-- stand in part; where the held files are known no trace is, for both readings gave its bytes. What
-- is written as the trace is read is all that the answer leaves of it.
abbrev pub StaysAtRefusal : Manner → Option Demand → Option Files → Option Files → Option Files
    → Type 0
StaysAtRefusal judged_before asked held before now = Goes before now AreSame
StaysAtRefusal read_again asked held before now = Known held (λ files. Goes before now AreSame)
StaysAtRefusal (read_along left) asked held before now = StandsWhole asked held before now

-- At a fault of reading too, but that of copies, whose trace may be read again then, and of what is
-- written as the trace is read.
abbrev pub StaysAtReadFault : Manner → Option Demand → Option Files → Option Files → Option Files
    → Type 0
StaysAtReadFault judged_before asked held before now = Goes before now AreSame
StaysAtReadFault read_again asked held before now = StandsInPart asked held before now
StaysAtReadFault (read_along left) asked held before now = StandsInPart asked held before now

-- At a fault of writing the writing of an output failed, and the outputs may stand in part; or
-- printing failed and no writing did, and every output is whole.
abbrev pub StandsAtWriteFault : Option Demand → Outside → Outside → Type 0
StandsAtWriteFault asked old new =
    (RoseAt (outputs asked) old.write_faults new.write_faults
    × StandsInPart asked new.held old.written new.written)
    ⊎ (Rose old.print_faults new.print_faults × (new.write_faults ≡ old.write_faults)
    × StandsWhole asked new.held old.written new.written)

-- Every output is whole where the work is done and where its text isn't printed, every file is as
-- it was at a refusal and at a fault of reading but of copies and of what is written as the trace
-- is read, and the outputs may stand in part where writing one failed and at want of memory.
abbrev pub Writes : Option Demand → Outside → Outside → Kind → Type 0
Writes asked old new done = StandsWhole asked new.held old.written new.written
Writes asked old new refusal =
    StaysAtRefusal (manner_in asked) asked new.held old.written new.written
Writes asked old new read_fault =
    StaysAtReadFault (manner_in asked) asked new.held old.written new.written
Writes asked old new write_fault = StandsAtWriteFault asked old new
Writes asked old new no_memory = StandsInPart asked new.held old.written new.written

-- no file changed but those of these names
abbrev pub OnlyAt : List (List ℕ) → Outside → Outside → Type 0
OnlyAt names old new = Goes old.written new.written (λ before now. (name : List ℕ)
    → list_any (λ n. bytes_eq n name) names ≡ false → now name ≡ before name)
