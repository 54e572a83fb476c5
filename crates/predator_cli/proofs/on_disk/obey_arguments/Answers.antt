use Rattle.command_io.specs.Arguments.{words_in}
use Rattle.command_line.specs.Demands.{texts}
use Rattle.command_line.specs.Words.{demand_of}
use Rattle.disk_shelf.specs.Disk.{disk_outside}
use Rattle.predator_cli.proofs.Ends.{words_unread}
use Rattle.predator_cli.proofs.on_disk.obey_arguments.Goals as goal

pub returns-in-Err : goal.returns-in-Err
returns-in-Err g c =
    let wanted = demand_of (texts (words_in c.args.arguments)) in
    let before = disk_outside g.K.Contents.files c.args.shelf.now in
    c.refuse.ensures wanted before (words_unread wanted before)
