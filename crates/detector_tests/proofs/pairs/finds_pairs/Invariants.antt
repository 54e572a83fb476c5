-- the counter that was just made
use Rattle.detector_tests.proofs.pairs.finds_pairs.Given as goal

abbrev pub ghosts-found : goal.ghosts-found
ghosts-found g a = record { name = a.blank.name; parts = a.blank.parts }
