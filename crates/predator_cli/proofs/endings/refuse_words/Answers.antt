use Rattle.std.proofs.Common.{None}
use Rattle.predator_cli.proofs.Ends.{words_refused}
use Rattle.predator_cli.proofs.endings.refuse_words.Goals as goal

pub returns : goal.returns
returns g c = c.print_fault.ensures None (g.S.Shelf.outside c.args.shelf.now)
    (words_refused (g.S.Shelf.outside c.args.shelf.now))
