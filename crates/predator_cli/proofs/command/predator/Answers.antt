use Rattle.command_line.specs.Demands.{texts}
use Rattle.predator_cli.proofs.Sound.{report_is_recounted, stays_within}
use Rattle.predator_cli.proofs.command.predator.Goals as goal

pub returns-clause-within : goal.returns-clause-within
returns-clause-within g c = stays_within c.runs_are_short.ensures
    c.a_trace_is_its_spelling.ensures c.what_is_asked_is_bounded.ensures (texts c.args.words.now)

pub returns-clause-recounts : goal.returns-clause-recounts
returns-clause-recounts g c = report_is_recounted c.runs_are_short.ensures
    c.a_trace_is_its_spelling.ensures c.what_is_asked_is_bounded.ensures (texts c.args.words.now)
