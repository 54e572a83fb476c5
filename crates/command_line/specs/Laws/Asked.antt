-- What words ask of a command is what their values ask of it.
use Rattle.std.specs.Prelude.{◌≡◌, Bool, false, true, if◌then◌else◌, List, Option, None, refl}
use Rattle.clap.specs.Words.{App, Row, Text, fault_of, matches_of}
use Rattle.clap.specs.Walk.{is_empty}
use Rattle.command_line.specs.Asked.{asked}
use Rattle.command_line.specs.Words.{Demand, given_apart}

if_given : {D : Type 0} (say : D → Demand) (b : Bool) (o : Option D)
    → given_apart say (if b then o else None) ≡ (if b then given_apart say o else None)
if_given say true o = refl
if_given say false o = refl

-- a demand that is refused for its names is refused by its values
pub given_asked : {D : Type 0} (say : D → Demand) (app : App) (of : List Row → Option D)
    (words : List Text)
    → given_apart say (asked app of words) ≡ asked app (λ rows. given_apart say (of rows)) words
unfolding asked
given_asked say app of words =
    if_given say (is_empty (fault_of app words)) (of (matches_of app words))
