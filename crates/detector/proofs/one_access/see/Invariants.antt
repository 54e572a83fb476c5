-- the counter that was just made
use Rattle.detector.proofs.one_access.see.Given as goal

abbrev pub ghosts-counted : goal.ghosts-counted
ghosts-counted g a = record { name = a.blank.name; parts = a.blank.parts }
