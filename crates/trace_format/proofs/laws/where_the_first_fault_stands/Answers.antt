use Rattle.trace_format.proofs.FoundTrace as found
use Rattle.trace_format.proofs.FaultAgain as again
use Rattle.trace_format.proofs.laws.where_the_first_fault_stands.Goals as goal

pub returns-clause-stands : goal.returns-clause-stands
returns-clause-stands c = λ bytes f small is. found.fault_found bytes f small is

pub returns-clause-only : goal.returns-clause-only
returns-clause-only c = λ bytes items f has. again.only_fault bytes items f has
