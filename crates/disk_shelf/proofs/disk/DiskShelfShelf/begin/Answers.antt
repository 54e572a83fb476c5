use Rattle.disk_shelf.proofs.DiskLaws.{write_cause}
use Rattle.disk_shelf.proofs.WrittenLaws.{begun}
use Rattle.disk_shelf.proofs.disk.DiskShelfShelf.begin.Goals as goal

pub returns-in-Err-clause-cause : goal.returns-in-Err-clause-cause
returns-in-Err-clause-cause g c =
    rw (c.and-self-inside-in-Err.ensures, ← c.self.view_is)
    (write_cause c.args.name.now c.self.inside.log.items c.report-error.result)

pub returns-in-Ok-clause-begins : goal.returns-in-Ok-clause-begins
returns-in-Ok-clause-begins g c = rw (c.and-self-inside.ensures, ← c.self.view_is)
    (begun c.args.name.now c.self.inside.log.items)
