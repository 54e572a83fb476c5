-- A word that two harts touch and one writes is truly shared.
use Rattle.invalidations.specs.Laws.OneWord.{one_word-below}
use Rattle.invalidations.proofs.laws.false_sharing_takes_no_word.Goals as goal

pub returns : goal.returns
returns c = one_word-below
