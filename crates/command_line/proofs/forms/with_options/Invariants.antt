-- What is to be added to the command in hand gives what is asked for.
use Rattle.std.proofs.Common.{◌≡◌, drop}
use Rattle.clap.specs.Words.{app_of}
use Rattle.command_line.specs.Apps.{with_options}
use Rattle.command_line.specs.Demands.{names_of}
use Rattle.command_line.proofs.forms.with_options.Given as goal

abbrev pub invariant-loop-name : goal.invariant-loop-name
invariant-loop-name l =
    with_options (app_of l.added) (names_of (drop l.name-index l.names))
    ≡ with_options (app_of l.initial.added) (names_of l.names)
