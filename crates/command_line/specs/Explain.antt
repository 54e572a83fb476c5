-- The command `explain`: what its words ask for.
use Rattle.std.specs.Prelude.{ℕ, ◌^◌, ◌%◌, List, [], ◌∷◌, Option}
use Rattle.std.specs.Prelude.{option_and_then, option_map, codes}
use Rattle.clap.specs.Words.{App, Row, Text, first_of}
use Rattle.base.specs.Lines.{Grid}
use Rattle.settings.specs.declared.changes.Changes.{Changes}
use Rattle.command_line.specs.Apps.{plain_app, with_option, with_word}
use Rattle.command_line.specs.Asked.{asked}
use Rattle.command_line.specs.Demands.{text_of}
use Rattle.command_line.specs.Layouts.{layout_at}
use Rattle.command_line.specs.Names.{given}
use Rattle.command_line.specs.Numbers.{address_of, below, number_of}
use Rattle.command_line.specs.Set.{AskedSettings, asked_under, given_changes}
use Rattle.command_line.specs.declared.explain.ExplainOptions.{ExplainOptions}

abbrev pub explain_usage : Text
explain_usage =
    codes "usage: predator explain PROGRAM BASE SIZE START [--settings F] [--schedule F]\n"

-- run a program, and report the invalidations of one line above a start: the line of a layout that
-- begins at a base
pub record ExplainDemand : Type 0 where
  pub program : Text
  pub layout : Grid
  pub base : ℕ
  pub start : ℕ
  pub settings : AskedSettings
  pub schedule : Option Text

abbrev pub explain_app : App
explain_app =
    with_option (with_option (with_option (with_word (with_word (with_word (with_word
    (plain_app (codes "explain")) (codes "program")) (codes "base")) (codes "size"))
    (codes "start")) (codes "settings")) (codes "schedule")) (codes "set")

abbrev pub base_of : List Row → Option ℕ
base_of rows = below (2 ^ 32) (option_and_then address_of (first_of (codes "base") rows))

abbrev pub size_of : List Row → Option ℕ
size_of rows = option_and_then number_of (first_of (codes "size") rows)

abbrev pub start_of : List Row → Option ℕ
start_of rows = below (2 ^ 40) (option_and_then number_of (first_of (codes "start") rows))

abbrev pub explain_with : List Row → Text → ℕ → ℕ → Grid → Changes → ExplainDemand
explain_with rows program base start layout changes = record {
  program = program;
  layout = layout;
  base = base;
  start = start;
  settings = asked_under (first_of (codes "settings") rows) changes;
  schedule = first_of (codes "schedule") rows;
}

-- what its values ask for, unless no line of an allowed layout and of that size begins at the base,
-- or they name no changes that can be
abbrev pub explain_of : List Row → Option ExplainDemand
explain_of rows =
    option_and_then (λ program. option_and_then (λ base. option_and_then (λ size.
    option_and_then (λ start. option_and_then (λ layout.
    option_map (explain_with rows program base start layout)
    (given_changes (first_of (codes "set") rows)))
    (layout_at size (base % size)))
    (start_of rows))
    (size_of rows))
    (base_of rows))
    (first_of (codes "program") rows)

abbrev pub asked_of_explain : List Text → Option ExplainDemand
asked_of_explain words = asked explain_app explain_of words

-- the files that are read, in the order in which they are; none is written
abbrev pub explain_inputs : ExplainDemand → List Text
explain_inputs demand = given demand.settings.file (demand.program ∷ given demand.schedule [])

abbrev pub explain_outputs : ExplainDemand → List Text
explain_outputs demand = []

-- what the code's options ask for
abbrev pub explain_meaning : ExplainOptions → ExplainDemand
explain_meaning options = record {
  program = options.program.now;
  layout = options.layout;
  base = options.base;
  start = options.start;
  settings = asked_under (text_of options.settings) options.set;
  schedule = text_of options.schedule;
}
