use Rattle.disk_shelf.proofs.DiskLaws.{print_cause}
use Rattle.disk_shelf.proofs.disk.DiskShelfShelf.print.Goals as goal

pub returns-in-Err-clause-cause : goal.returns-in-Err-clause-cause
returns-in-Err-clause-cause g c =
    rw (c.and-self-inside-in-Err.ensures, ← c.self.view_is)
    (print_cause c.self.inside.log.items c.report-error.result)
