use Rattle.std.specs.Process.{exit_status}
use Rattle.command_io.specs.Arguments.{words_in}
use Rattle.command_line.specs.Demands.{texts}
use Rattle.command_line.specs.Words.{demand_of}
use Rattle.disk_shelf.specs.Disk.{disk_outside}
use Rattle.predator_cli.proofs.OnDiskLaws.{ends_with}
use Rattle.predator_cli.proofs.on_disk.predator_on_disk.Goals as goal

pub returns : goal.returns
returns g c =
    let files = g.K.Contents.files in
    record {
      ends = ends_with (demand_of (texts (words_in c.args.arguments))) files
          c.obey_arguments-status.new.shelf c.obey_arguments-status.result
          (disk_outside files c.args.shelf.now) (exit_status c.exit_code.result)
          c.requires.fresh c.exit_code.ensures c.obey_arguments-status.ensures;
    }
