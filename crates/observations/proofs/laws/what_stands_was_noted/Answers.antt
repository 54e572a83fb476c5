use Rattle.observations.proofs.OriginLaws.{blocks_of_list, few_blocks, few_symbols, lone_list}
use Rattle.observations.proofs.OriginLaws.{symbols_of_list}
use Rattle.observations.proofs.laws.what_stands_was_noted.Goals as goal

pub returns-clause-lone : goal.returns-clause-lone
returns-clause-lone c = lone_list

pub returns-clause-lives : goal.returns-clause-lives
returns-clause-lives c = blocks_of_list

pub returns-clause-symbols : goal.returns-clause-symbols
returns-clause-symbols c = symbols_of_list

pub returns-clause-few_blocks : goal.returns-clause-few_blocks
returns-clause-few_blocks c = few_blocks

pub returns-clause-few_symbols : goal.returns-clause-few_symbols
returns-clause-few_symbols c = few_symbols
