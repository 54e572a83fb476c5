use Rattle.predator_cli.proofs.StateFiles.{long_state}
use Rattle.predator_cli.proofs.state_file.StateUnderJudge.too_long.Goals as goal

pub returns-clause-refused : goal.returns-clause-refused
returns-clause-refused c = long_state c.args.self.now.layout c.args.self.now.thresholds
