use Rattle.observations.proofs.NextLaws.{seen_whole}
use Rattle.observations.proofs.observations.Observations.detector.Goals as goal

pub returns-clause-stands : goal.returns-clause-stands
returns-clause-stands c = λ g v items so_far. rw (← c.self.view_is) at
    (seen_whole g v c.args.self.now items so_far)
