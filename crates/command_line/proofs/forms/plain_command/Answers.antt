use Rattle.std.proofs.Common.{ap, ◌∙◌, true}
use Rattle.clap.specs.Simple.{app_of_fields, on_top}
use Rattle.command_line.proofs.forms.plain_command.Goals as goal

pub returns : goal.returns
returns c =
    ap app_of_fields c.disable_help_flag.ensures
    ∙ ap (on_top (λ top. record top { disable_help_flag = true })) c.new.ensures.app
