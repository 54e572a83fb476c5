use Rattle.std.proofs.Common.{◌∙◌}
use Rattle.base.specs.Lines.{is_layout}
use Rattle.command_line.proofs.ShapeLemmas.{is_some_if, layout_from_zero}
use Rattle.command_line.proofs.layout.is_allowed_size.Goals as goal

pub returns : goal.returns
returns c =
    c.is_some.ensures
    ∙ is_some_if (is_layout c.args.size 0) c.new.result _ c.new.ensures
    ∙ layout_from_zero c.args.size
