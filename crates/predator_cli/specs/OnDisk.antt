-- What a call of the program does to the system's files, by what it has read of them.
use Rattle.std.specs.Prelude.{◌≡◌, ℕ, Option, None, IsTrue}
use Rattle.std.specs.List.{list_all}
use Rattle.command_io.specs.Numbers.{number_of}
use Rattle.command_io.specs.Statuses.{done, kind_of, refusal}
use Rattle.command_io.specs.declared.status.Status.{Status}
use Rattle.command_line.specs.Words.{Demand}
use Rattle.disk_shelf.specs.Disk.{Seen, agrees, disk_outside, fresh_outside, printed_by, written_by}
use Rattle.predator_cli.specs.Answer.{answer_of}
use Rattle.predator_cli.specs.Meets.{Meets}
use Rattle.shelf.specs.Files.{AreWhole}
use Rattle.shelf.specs.Shelf.{Files}

-- each read gave what these files have in its place
abbrev pub AgreesWith : Files → Seen → Type 0
AgreesWith files seen = IsTrue (list_all (agrees files) seen.done)

-- What was done is what the files ask for: the status is that of their answer, its text is all that
-- was printed, and each output, and no other file, is written whole.
pub record IsAnswered (asked : Option Demand) (files : Files) (seen : Seen) (s : Status) : Type 0
  where
    pub status : (answer_of asked files).status ≡ s
    pub text : printed_by seen.done ≡ (answer_of asked files).text
    pub outputs : AreWhole (answer_of asked files).outputs (λ _. None) (written_by seen.done)

-- How the program ends: its exit status is the number of a status, and all that is said of a call
-- with this status holds of what was done to the system's files, with nothing behind it. For all
-- contents that agree with each read, what was done is what they ask for where the work is done,
-- and the status is that of their answer where something is refused.
pub record EndsWith (asked : Option Demand) (files : Files) (seen : Seen) (code : ℕ) : Type 0
  where
    pub status : Status
    pub number : code ≡ number_of status
    pub meets : Meets asked (fresh_outside files) (disk_outside files seen) status
    pub done : AgreesWith files seen → kind_of status ≡ done → IsAnswered asked files seen status
    pub refused : AgreesWith files seen → kind_of status ≡ refusal
        → (answer_of asked files).status ≡ status
