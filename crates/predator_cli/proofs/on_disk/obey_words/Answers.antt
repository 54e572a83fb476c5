use Rattle.command_line.specs.Demands.{texts}
use Rattle.command_line.specs.Words.{demand_of}
use Rattle.predator_cli.proofs.OnDiskLaws.{meets_between}
use Rattle.predator_cli.proofs.RunEnds.{all_apart}
use Rattle.predator_cli.proofs.on_disk.obey_words.Goals as goal

pub answer_words-status-requires-clause-apart : goal.answer_words-status-requires-clause-apart
answer_words-status-requires-clause-apart g c =
    all_apart (texts c.args.words.now) c.read_words-asked.result c.read_words-asked.ensures.read

pub returns : goal.returns
returns g c =
    let asked = demand_of (texts c.args.words.now) in
    meets_between asked g.K.Contents.files c.args.shelf.now c.expect_trace.new.shelf
    c.answer_words-status.new.shelf c.say_end.new.shelf c.answer_words-status.result
    c.expect_trace.ensures c.say_end.ensures
    (c.answer_words-status.ensures asked c.read_words-asked.ensures.read)
