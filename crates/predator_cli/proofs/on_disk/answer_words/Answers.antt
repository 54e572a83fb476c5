use Rattle.disk_shelf.specs.Disk.{disk_outside}
use Rattle.predator_cli.proofs.Ends.{words_unread}
use Rattle.predator_cli.proofs.on_disk.answer_words.Goals as goal

pub returns-in-Err-NoMemory : goal.returns-in-Err-NoMemory
returns-in-Err-NoMemory g c = λ wanted read.
    let before = disk_outside g.K.Contents.files c.args.shelf.now in
    c.refuse.ensures wanted before (words_unread wanted before)
