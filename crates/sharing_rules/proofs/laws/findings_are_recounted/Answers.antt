-- The laws of recounts.
use Rattle.sharing_rules.specs.Laws.Recounts.{found_is_recounted, tracked_are_recounted}
use Rattle.sharing_rules.specs.Laws.Recounts.{listed_are_recounted, listed_are_listed_plainly}
use Rattle.sharing_rules.proofs.laws.findings_are_recounted.Goals as goal

pub returns-clause-kept : goal.returns-clause-kept
returns-clause-kept c = found_is_recounted

pub returns-clause-tracked : goal.returns-clause-tracked
returns-clause-tracked c = tracked_are_recounted

pub returns-clause-listed : goal.returns-clause-listed
returns-clause-listed c = listed_are_recounted

pub returns-clause-plain : goal.returns-clause-plain
returns-clause-plain c = listed_are_listed_plainly
