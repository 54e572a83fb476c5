-- The command `replay`: what its words ask for.
use Rattle.std.specs.Prelude.{List, [], ◌∷◌, ◌++◌, Option, option_map, option_and_then, codes}
use Rattle.clap.specs.Words.{App, Row, Text, first_of}
use Rattle.base.specs.Lines.{Grid}
use Rattle.settings.specs.declared.changes.Changes.{Changes}
use Rattle.command_line.specs.Apps.{plain_app, with_option, with_word}
use Rattle.command_line.specs.Asked.{asked}
use Rattle.command_line.specs.Demands.{text_of}
use Rattle.command_line.specs.Layouts.{named_layout}
use Rattle.command_line.specs.Names.{given}
use Rattle.command_line.specs.Set.{AskedSettings, asked_under, given_changes}
use Rattle.command_line.specs.declared.replay.ReplayOptions.{ReplayOptions}

abbrev pub replay_usage : Text
replay_usage =
    codes "usage: predator replay TRACE [--settings F] [--size N] [--shift N]" ++
    codes " [--save F] [--resume F]\n"

-- count the accesses of a trace under settings, and under a layout, if one is named; go on from a
-- saved state, and save the state at the end, each if it is named
pub record ReplayDemand : Type 0 where
  pub trace : Text
  pub settings : AskedSettings
  pub layout : Option Grid
  pub save : Option Text
  pub resume : Option Text

abbrev pub replay_app : App
replay_app =
    with_option (with_option (with_option (with_option (with_option (with_option (with_word
    (plain_app (codes "replay")) (codes "trace")) (codes "settings")) (codes "size"))
    (codes "shift")) (codes "save")) (codes "resume")) (codes "set")

abbrev pub replay_under : List Row → Text → Option Grid → Changes → ReplayDemand
replay_under rows trace layout changes = record {
  trace = trace;
  settings = asked_under (first_of (codes "settings") rows) changes;
  layout = layout;
  save = first_of (codes "save") rows;
  resume = first_of (codes "resume") rows;
}

-- what its values ask for, unless its layout is none that is allowed, or they name no changes that
-- can be
abbrev pub replay_of : List Row → Option ReplayDemand
replay_of rows =
    option_and_then (λ trace. option_and_then (λ layout. option_map (replay_under rows trace layout)
    (given_changes (first_of (codes "set") rows)))
    (named_layout (first_of (codes "size") rows) (first_of (codes "shift") rows)))
    (first_of (codes "trace") rows)

abbrev pub asked_of_replay : List Text → Option ReplayDemand
asked_of_replay words = asked replay_app replay_of words

-- the files that are read, in the order in which they are, and those that are written
abbrev pub replay_inputs : ReplayDemand → List Text
replay_inputs demand = given demand.settings.file (given demand.resume (demand.trace ∷ []))

abbrev pub replay_outputs : ReplayDemand → List Text
replay_outputs demand = given demand.save []

-- what the code's options ask for
abbrev pub replay_meaning : ReplayOptions → ReplayDemand
replay_meaning options = record {
  trace = options.trace.now;
  settings = asked_under (text_of options.settings) options.set;
  layout = options.layout;
  save = text_of options.save;
  resume = text_of options.resume;
}
