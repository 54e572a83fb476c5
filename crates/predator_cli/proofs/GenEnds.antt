-- How the command ends after a trace was made.
use Rattle.std.proofs.Common.{◌≡◌, ℕ, List, Option, Some, refl}
use Rattle.command_line.specs.Gen.{GenDemand}
use Rattle.command_line.specs.Words.{gen}
use Rattle.shelf.specs.Files.{AreCut, AreWritten}
use Rattle.shelf.specs.Shelf.{Files, Outside}
use Rattle.shelf.specs.declared.shelf.ShelfError.{ShelfError}
use Rattle.trace_files.specs.Made.{made_file}
use Rattle.command_io.specs.Statuses.{status_of_writing}
use Rattle.command_io.specs.declared.status.Status.TheVariants as status
use Rattle.shelf.specs.Laws.Known.{if_known}
use Rattle.predator_cli.specs.Gen.{gen_work, summary_of}
use Rattle.predator_cli.specs.Meets.{IsFaulty, IsWorked}
use Rattle.predator_cli.proofs.WriteEnds.{IsToWrite, writing_cut, written_worked}

-- nothing is read before
to_write : (d : GenDemand) (held : Option Files) → IsToWrite (gen d) (gen_work d) held
to_write d held = record {
  accepts = if_known held (λ files. refl);
  works = if_known held (λ files. refl);
  names = refl;
}

pub made_worked : (d : GenDemand) (a b : Outside) (text : List ℕ) → text ≡ summary_of d.count
    → AreWritten (made_file d.file d.count) a b
    → IsWorked (gen d) a b status.Done text
made_worked d a b text is written =
    written_worked (gen d) (gen_work d) a b status.Done text (to_write d b.held) refl is
    (if_known b.held (λ files. tt)) written

pub made_cut : (d : GenDemand) (a b : Outside) (error : ShelfError)
    → AreCut (made_file d.file d.count) a b error
    → IsFaulty (Some (gen d)) a b (status_of_writing error)
made_cut d a b error cut = writing_cut (gen d) (gen_work d) a b error (to_write d b.held) cut
