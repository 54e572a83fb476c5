-- What a call of the program does to the outside.
use Rattle.std.specs.Prelude.{◌≡◌, ◌⊎◌, ℕ, false, List, Option, None}
use Rattle.shelf.specs.Shelf.{Files, Outside, Known, Narrows, Goes, Rose, Adds, AddsFront}
use Rattle.command_line.specs.Words.{Demand, outputs as outputs_of}
use Rattle.command_io.specs.Readings.{FailsInOrder, RoseAt, first_refusal, IsAccepted}
use Rattle.command_io.specs.Works.{done_with}
use Rattle.command_io.specs.Statuses.{Kind, kind_of, done, refusal, read_fault, write_fault}
use Rattle.shelf.specs.Files.{AreWhole}
use Rattle.command_io.specs.Statuses.{no_memory, hides_no_memory}
use Rattle.command_io.specs.Faults.{fault_text}
use Rattle.command_io.specs.declared.status.Status.{Status}
use Rattle.command_io.specs.declared.status.Status.TheVariants as status
use Rattle.predator_cli.specs.Commands.{RepeatsReport, readings_of, work_of}
use Rattle.predator_cli.specs.Written.{OnlyAt, Writes}
use Rattle.predator_cli.specs.Answer.{answer_of, files_of, first_files_of, inputs, outputs}
use Rattle.predator_cli.specs.Again.{WhereDone}

-- It ends as the answer says, or by a fault of the outside: of reading, before which no file is
-- refused, or of the command's own work, before which none is refused that is judged before it.
abbrev pub EndsAs : Option Demand → Files → Outside → Outside → Kind → Status → Type 0
EndsAs asked files old new done s = (answer_of asked files).status ≡ s
EndsAs asked files old new refusal s = (answer_of asked files).status ≡ s
EndsAs asked files old new read_fault s = FailsInOrder (files_of asked) files old.read_faults
    new.read_faults
EndsAs asked files old new write_fault s = first_refusal (first_files_of asked) files ≡ None
EndsAs asked files old new no_memory s = Unit {0}

-- no number of faults of reading or of writing rose
pub record IsQuiet (old new : Outside) : Type 0 where
  pub reads : new.read_faults ≡ old.read_faults
  pub writes : new.write_faults ≡ old.write_faults

-- reading an input failed, and no writing did
pub record ReadingFailed (asked : Option Demand) (old new : Outside) : Type 0 where
  pub reads : RoseAt (inputs asked) old.read_faults new.read_faults
  pub writes : new.write_faults ≡ old.write_faults

-- writing an output failed, and no reading did
pub record WritingFailed (asked : Option Demand) (old new : Outside) : Type 0 where
  pub reads : new.read_faults ≡ old.read_faults
  pub writes : RoseAt (outputs asked) old.write_faults new.write_faults

-- what failed of reading and writing, by how the call ends
abbrev pub HasFailed : Option Demand → Outside → Outside → Kind → Type 0
HasFailed asked old new done = IsQuiet old new
HasFailed asked old new refusal = IsQuiet old new
HasFailed asked old new read_fault = ReadingFailed asked old new
HasFailed asked old new write_fault = WritingFailed asked old new
HasFailed asked old new no_memory = IsQuiet old new

-- printing failed, and a front of this text was printed
abbrev pub PrintingFailed : Outside → Outside → List ℕ → Type 0
PrintingFailed old new text = Rose old.print_faults new.print_faults
    × AddsFront old.printed new.printed text

-- memory ran out where nothing else failed, but perhaps the printing of the line that says so
pub record RanOutAlone (old new : Outside) : Type 0 where
  pub quiet : IsQuiet old new
  pub prints : (new.print_faults ≡ old.print_faults)
      ⊎ PrintingFailed old new (fault_text status.NoMemory)

-- memory ran out as the line of a fault was printed: reading or writing failed, printing did not,
-- and a front of that line was printed
pub record RanOutAtLine (asked : Option Demand) (old new : Outside) : Type 0 where
  pub line : (ReadingFailed asked old new
      × AddsFront old.printed new.printed (fault_text status.ReadFault))
      ⊎ (WritingFailed asked old new
      × AddsFront old.printed new.printed (fault_text status.WriteFault))
  pub prints : new.print_faults ≡ old.print_faults

-- Why it ends so: the work is done where nothing failed, a fault of the outside is answered only
-- where its number rose, and want of memory hides none.
abbrev pub IsCaused : Option Demand → Outside → Outside → Kind → Type 0
IsCaused asked old new done = IsQuiet old new × (new.print_faults ≡ old.print_faults)
IsCaused asked old new refusal = IsQuiet old new
IsCaused asked old new read_fault = ReadingFailed asked old new
IsCaused asked old new write_fault = WritingFailed asked old new
    ⊎ (IsQuiet old new × Rose old.print_faults new.print_faults)
IsCaused asked old new no_memory = RanOutAlone old new ⊎ RanOutAtLine asked old new

-- the whole text was printed and no printing failed, or one did and a front of it was
abbrev pub Printed : Outside → Outside → List ℕ → Type 0
Printed old new text =
    (Adds old.printed new.printed text × (new.print_faults ≡ old.print_faults))
    ⊎ PrintingFailed old new text

-- the texts of which a front may stand where memory ran out: the answer's, or that of a fault of
-- the outside that came
abbrev pub IsPrintable : Option Demand → Files → Outside → Outside → List ℕ → Type 0
IsPrintable asked files old new text =
    (text ≡ (answer_of asked files).text) ⊎ (text ≡ fault_text status.NoMemory)
    ⊎ ((text ≡ fault_text status.ReadFault) × FailsInOrder (files_of asked) files old.read_faults
    new.read_faults)
    ⊎ ((text ≡ fault_text status.WriteFault)
    × RoseAt (outputs asked) old.write_faults new.write_faults)

-- What was printed: the whole text where the work is done, the fault's line at a refusal and at a
-- fault of reading, at a fault of writing that line or what is left of the command's own text, and
-- a front of one of them where memory ran out.
abbrev pub Prints : Option Demand → Outside → Outside → Kind → Status → Type 0
Prints asked old new done s =
    Known new.held (λ files. Adds old.printed new.printed (answer_of asked files).text)
Prints asked old new refusal s = Printed old new (fault_text s)
Prints asked old new read_fault s = Printed old new (fault_text s)
Prints asked old new write_fault s =
    Printed old new (fault_text s)
    ⊎ Known new.held (λ files. PrintingFailed old new (answer_of asked files).text)
Prints asked old new no_memory s = Known new.held (λ files.
    (text : List ℕ) × IsPrintable asked files old new text × AddsFront old.printed new.printed text)

-- no number of faults of reading rose, but at a fault of reading and, as `IsCaused` says, where
-- memory ran out as its line was printed
abbrev pub ReadsInPeace : Outside → Outside → Kind → Type 0
ReadsInPeace old new done = new.read_faults ≡ old.read_faults
ReadsInPeace old new refusal = new.read_faults ≡ old.read_faults
ReadsInPeace old new read_fault = Unit {0}
ReadsInPeace old new write_fault = new.read_faults ≡ old.read_faults
ReadsInPeace old new no_memory = Unit {0}

-- no number of faults rose, of an input's reading, of an output's writing or of printing
pub record NoFaults (asked : Option Demand) (old new : Outside) : Type 0 where
  pub reads : RoseAt (inputs asked) old.read_faults new.read_faults → ⊥
  pub writes : RoseAt (outputs asked) old.write_faults new.write_faults → ⊥
  pub prints : Rose old.print_faults new.print_faults → ⊥

-- without faults it ends as the answer says, unless memory ran out
abbrev pub IsComplete : Option Demand → Files → Outside → Outside → Status → Type 0
IsComplete asked files old new s = NoFaults asked old new → (s ≡ (answer_of asked files).status) ⊎
    (s ≡ status.NoMemory)

-- all that is said of a call
pub record Meets (asked : Option Demand) (old new : Outside) (s : Status) : Type 0 where
  pub ends : Known new.held (λ files. EndsAs asked files old new (kind_of s) s)
  pub usage : s ≡ status.Usage → asked ≡ None
  pub refuses : asked ≡ None → (s ≡ status.Usage) ⊎ (s ≡ status.NoMemory)
  pub memory : hides_no_memory s ≡ false
  pub caused : IsCaused asked old new (kind_of s)
  pub peace : ReadsInPeace old new (kind_of s)
  pub prints : Prints asked old new (kind_of s) s
  pub writes : Writes asked old new (kind_of s)
  pub only : OnlyAt (outputs asked) old new
  pub held : Narrows old.held new.held
  pub again : Known new.held (λ files. WhereDone RepeatsReport asked files (kind_of s))

-- what was done from old to now, before the line of a fault is printed
pub record IsFaulty (asked : Option Demand) (old now : Outside) (s : Status) : Type 0 where
  pub fault : kind_of s ≡ done → ⊥
  pub ends : Known now.held (λ files. EndsAs asked files old now (kind_of s) s)
  pub usage : s ≡ status.Usage → asked ≡ None
  pub refuses : asked ≡ None → (s ≡ status.Usage) ⊎ (s ≡ status.NoMemory)
  pub memory : hides_no_memory s ≡ false
  pub failed : HasFailed asked old now (kind_of s)
  pub printable : Known now.held (λ files. IsPrintable asked files old now (fault_text s))
  pub writes : Writes asked old now (kind_of s)
  pub only : OnlyAt (outputs asked) old now
  pub held : Narrows old.held now.held
  pub printed : now.printed ≡ old.printed
  pub print_faults : now.print_faults ≡ old.print_faults

-- what was done from old to now, before the command's own text is printed, and what it is to end
-- with
pub record IsWorked (demand : Demand) (old now : Outside) (s : Status) (text : List ℕ) : Type 0
  where
    pub accepts : Known now.held (λ files. first_refusal (readings_of demand) files ≡ None)
    pub ends : Known now.held (λ files. (work_of demand files).status ≡ s)
    pub same_text : Known now.held (λ files. (work_of demand files).text ≡ text)
    pub whole : Known now.held
        (λ files. Goes old.written now.written (AreWhole (work_of demand files).outputs))
    pub only : OnlyAt (outputs_of demand) old now
    pub again : Known now.held (RepeatsReport demand)
    pub held : Narrows old.held now.held
    pub quiet : IsQuiet old now
    pub printed : now.printed ≡ old.printed
    pub print_faults : now.print_faults ≡ old.print_faults

-- the same of a command that writes nothing
pub record IsAnswered (demand : Demand) (old now : Outside) (text : List ℕ) : Type 0 where
  pub accepted : IsAccepted (readings_of demand) old now
  pub work : Known now.held (λ files. work_of demand files ≡ done_with text)
  pub again : (files : Files) → RepeatsReport demand files
