use Rattle.command_line.specs.Demands.{texts}
use Rattle.command_line.specs.Words.{demand_of}
use Rattle.predator_cli.proofs.Ends.{words_unread}
use Rattle.predator_cli.proofs.RunEnds.{read_apart}
use Rattle.predator_cli.proofs.command.obey_words.Goals as goal

pub obey-requires-clause-apart : goal.obey-requires-clause-apart
obey-requires-clause-apart g c =
    read_apart (texts c.args.words.now) c.in-Ok.demand c.in-Ok.ensures.accepted

pub returns : goal.returns
returns g c =
    c.refuse.ensures (demand_of (texts c.args.words.now)) (g.S.Shelf.outside c.args.shelf.now)
    (words_unread (demand_of (texts c.args.words.now)) (g.S.Shelf.outside c.args.shelf.now))
