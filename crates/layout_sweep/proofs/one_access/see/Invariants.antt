-- the counter that was just made
use Rattle.layout_sweep.proofs.one_access.see.Given as goal

abbrev pub ghosts-counted : goal.ghosts-counted
ghosts-counted a = record { name = a.blank.name; parts = a.blank.parts }
