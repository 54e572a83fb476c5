use Rattle.trace_format.specs.Laws.Bytes.{bytes_of}
use Rattle.trace_format.proofs.FoundRecord as one
use Rattle.trace_format.proofs.FoundTrace as all
use Rattle.trace_format.specs.Laws.Prefixes as prefixes
use Rattle.trace_format.proofs.laws.what_is_read_was_spelled.Goals as goal

pub returns-clause-record_found : goal.returns-clause-record_found
returns-clause-record_found c = λ p bytes item few low is whole judged.
    one.record_found p bytes item few low (bytes_of bytes is) whole judged

pub returns-clause-trace_found : goal.returns-clause-trace_found
returns-clause-trace_found c = λ bytes e is ends. all.trace_found bytes e is ends

pub returns-clause-no_prefix : goal.returns-clause-no_prefix
returns-clause-no_prefix c = prefixes.no_prefix
