-- The laws of kept lines.
use Rattle.sharing_rules.specs.Laws.Opened.{opened-push}
use Rattle.sharing_rules.specs.Laws.Kept.{opened-apart, tracked-opened}
use Rattle.sharing_rules.specs.Laws.Amounts.{fewer_shifted, half_doubled}
use Rattle.sharing_rules.proofs.laws.kept_lines.Goals as goal

pub returns-clause-grows : goal.returns-clause-grows
returns-clause-grows c = opened-push

pub returns-clause-apart : goal.returns-clause-apart
returns-clause-apart c = opened-apart

pub returns-clause-tracked : goal.returns-clause-tracked
returns-clause-tracked c = tracked-opened

pub returns-clause-shifted : goal.returns-clause-shifted
returns-clause-shifted c = fewer_shifted

pub returns-clause-doubled : goal.returns-clause-doubled
returns-clause-doubled c = half_doubled
