use Rattle.std.proofs.Common.{◌≡◌, ◌&&◌, Bool, true, false, refl}
use Rattle.clap.specs.Words.{app_of, is_simple}
use Rattle.command_line.proofs.forms.matches_by.Goals as goal

first_true : (a b : Bool) → (a && b) ≡ true → a ≡ true
first_true true b both = refl
first_true false b both = both

pub returns-in-Ok-clause-rows : goal.returns-in-Ok-clause-rows
returns-in-Ok-clause-rows c = (c.in-Ok.ensures.matches
    (first_true (is_simple (app_of c.args.command)) _ c.requires)).0
