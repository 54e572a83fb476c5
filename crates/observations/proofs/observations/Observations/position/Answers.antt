use Rattle.observations.proofs.NextLaws.{seen_nothing}
use Rattle.observations.proofs.observations.Observations.position.Goals as goal

pub returns-clause-begun : goal.returns-clause-begun
returns-clause-begun c =
    rw (← c.self.view_is)
    (seen_nothing (record { watch = c.self.inside.detector; objects = c.self.inside.objects })
    c.symbol_count-count.ensures.distinct)
