use Rattle.disk_shelf.proofs.KnownFileLaws.{noted}
use Rattle.disk_shelf.proofs.known_files.KnownFiles.note.Goals as goal

pub returns-clause-known : goal.returns-clause-known
returns-clause-known c =
    rw (c.in_ok-push.ensures.items, ← c.in_ok-name.ensures.ok)
    (noted (record { id = c.args.id; name = c.in_ok-name.name }) c.args.self.now.files.items)
