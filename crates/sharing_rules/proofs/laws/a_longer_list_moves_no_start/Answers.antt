-- The laws of openings.
use Rattle.sharing_rules.specs.Laws.Openings.{observed_start-append, first_write_from-append}
use Rattle.sharing_rules.specs.Laws.Openings.{shifted_opening-append, shifted_line-append}
use Rattle.sharing_rules.specs.Laws.Openings.{doubled_opening-append}
use Rattle.sharing_rules.proofs.laws.a_longer_list_moves_no_start.Goals as goal

pub returns-clause-observed : goal.returns-clause-observed
returns-clause-observed c = observed_start-append

pub returns-clause-started : goal.returns-clause-started
returns-clause-started c = first_write_from-append

pub returns-clause-shifted : goal.returns-clause-shifted
returns-clause-shifted c = shifted_opening-append

pub returns-clause-placed : goal.returns-clause-placed
returns-clause-placed c = shifted_line-append

pub returns-clause-doubled : goal.returns-clause-doubled
returns-clause-doubled c = doubled_opening-append
