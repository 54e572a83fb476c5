use Rattle.invalidations.specs.Laws.BlameRecords.{sited-accesses}
use Rattle.invalidations.proofs.laws.sited_lists_are_access_lists.Goals as goal

pub returns : goal.returns
returns c = sited-accesses
