use Rattle.disk_shelf.proofs.DiskLaws.{write_cause}
use Rattle.disk_shelf.proofs.WrittenLaws.{appended}
use Rattle.disk_shelf.proofs.disk.DiskShelfShelf.append.Goals as goal

pub returns-in-Err-clause-cause : goal.returns-in-Err-clause-cause
returns-in-Err-clause-cause g c =
    rw (c.and-self-inside-in-Err.ensures, ← c.self.view_is)
    (write_cause c.args.name.now c.self.inside.log.items c.report-error.result)

pub returns-in-Ok-clause-appends : goal.returns-in-Ok-clause-appends
returns-in-Ok-clause-appends g c = rw (c.and-self-inside.ensures, ← c.self.view_is)
    (appended c.args.name.now c.args.piece.now c.self.inside.log.items)
