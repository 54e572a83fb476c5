use Rattle.std.proofs.Common.{length, rules, take}
use Rattle.disk_shelf.proofs.DiskLaws.{read_cause}
use Rattle.disk_shelf.proofs.ReadLaws.{only_read, known_read, stays_known}
use Rattle.disk_shelf.specs.Disk.{Seen}
use Rattle.disk_shelf.proofs.disk.DiskShelfShelf.read_at.Goals as goal

pub returns-in-Ok-clause-bytes : goal.returns-in-Ok-clause-bytes
returns-in-Ok-clause-bytes g c =
    rw c.and-self-inside.ensures (known_read g.K.Contents.files c.args.name.now c.args.at
    c.in-Ok.read.count c.read_at.new.into c.self.inside.log.items
    (search rules))

pub returns-in-Ok-clause-stays : goal.returns-in-Ok-clause-stays
returns-in-Ok-clause-stays g c =
    rw (c.and-self-inside.ensures, ← c.self.view_is) (stays_known g.K.Contents.files c.args.name.now
    c.args.at c.in-Ok.read.count c.read_at.new.into c.self.inside.log.items (search rules))

pub returns-in-Err-clause-cause : goal.returns-in-Err-clause-cause
returns-in-Err-clause-cause g c =
    rw (c.and-self-inside-in-Err.ensures, ← c.self.view_is)
    (read_cause c.args.name.now c.self.inside.log.items c.report-error.result)

pub returns-in-Ok-clause-only : goal.returns-in-Ok-clause-only
returns-in-Ok-clause-only g c =
    let was = c.self.inside in
    let seen : Seen = record { done = was.log.items } in
    rw (c.and-self-inside.ensures, ← c.self.view_is) (only_read g.K.Contents.files seen
    c.args.name.now c.args.at (length c.read_at.new.into)
    (take c.in-Ok.read.count c.read_at.new.into))
