-- A command that reads a trace under a layout of lines: what its words ask for.
use Rattle.std.specs.Prelude.{List, [], ◌∷◌, Option, option_map, option_and_then, codes}
use Rattle.clap.specs.Words.{App, Row, Text, first_of}
use Rattle.base.specs.Lines.{Grid}
use Rattle.command_line.specs.Apps.{plain_app, with_option, with_word}
use Rattle.command_line.specs.Asked.{asked}
use Rattle.command_line.specs.Layouts.{given_layout}
use Rattle.command_line.specs.declared.trace_layout.LayoutOptions.{LayoutOptions}

-- the name of the trace, and the layout
pub record LayoutDemand : Type 0 where
  pub trace : Text
  pub layout : Grid

abbrev pub layout_app : Text → App
layout_app name =
    with_option (with_option (with_word (plain_app name) (codes "trace")) (codes "size"))
    (codes "shift")

-- what its values ask for, unless its layout is none that is allowed
abbrev pub layout_demand : List Row → Option LayoutDemand
layout_demand rows =
    option_and_then (λ trace. option_map (λ g. record { trace = trace; layout = g })
    (given_layout (first_of (codes "size") rows) (first_of (codes "shift") rows)))
    (first_of (codes "trace") rows)

-- what some words ask of a command of a name
abbrev pub asked_with_layout : Text → List Text → Option LayoutDemand
asked_with_layout name words = asked (layout_app name) layout_demand words

-- the files that are read, and those that are written
abbrev pub layout_inputs : LayoutDemand → List Text
layout_inputs demand = demand.trace ∷ []

abbrev pub layout_outputs : LayoutDemand → List Text
layout_outputs demand = []

-- what the code's options ask for
abbrev pub layout_meaning : LayoutOptions → LayoutDemand
layout_meaning options = record { trace = options.trace.now; layout = options.layout }
