-- The command `check`: what its words ask for.
use Rattle.std.specs.Prelude.{List, [], ◌∷◌, Option, option_and_then, option_map, codes}
use Rattle.clap.specs.Words.{App, Row, Text, first_of}
use Rattle.settings.specs.declared.changes.Changes.{Changes}
use Rattle.command_line.specs.Apps.{plain_app, with_option, with_word}
use Rattle.command_line.specs.Asked.{asked}
use Rattle.command_line.specs.Demands.{text_of}
use Rattle.command_line.specs.Names.{given}
use Rattle.command_line.specs.Set.{AskedSettings, asked_under, given_changes}
use Rattle.command_line.specs.declared.check.CheckOptions.{CheckOptions}

abbrev pub check_usage : Text
check_usage =
    codes "usage: predator check PROGRAM [--settings F]\n"

-- load and place a program under settings
pub record CheckDemand : Type 0 where
  pub program : Text
  pub settings : AskedSettings

abbrev pub check_app : App
check_app =
    with_option (with_option (with_word (plain_app (codes "check")) (codes "program"))
    (codes "settings")) (codes "set")

abbrev pub check_with : List Row → Text → Changes → CheckDemand
check_with rows program changes =
    record { program = program; settings = asked_under (first_of (codes "settings") rows) changes }

-- what its values ask for, unless they name no changes that can be
abbrev pub check_of : List Row → Option CheckDemand
check_of rows =
    option_and_then (λ program. option_map (check_with rows program)
    (given_changes (first_of (codes "set") rows)))
    (first_of (codes "program") rows)

abbrev pub asked_of_check : List Text → Option CheckDemand
asked_of_check words = asked check_app check_of words

-- the files that are read, in the order in which they are, and those that are written
abbrev pub check_inputs : CheckDemand → List Text
check_inputs demand = given demand.settings.file (demand.program ∷ [])

abbrev pub check_outputs : CheckDemand → List Text
check_outputs demand = []

-- what the code's options ask for
abbrev pub check_meaning : CheckOptions → CheckDemand
check_meaning options =
    record {
      program = options.program.now;
      settings = asked_under (text_of options.settings) options.set;
    }
