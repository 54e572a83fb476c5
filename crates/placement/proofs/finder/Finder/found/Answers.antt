use Rattle.std.proofs.Common.{◌∙◌, ap}
use Rattle.std.specs.Option.{option_or}
use Rattle.placement.specs.Laws.Passing.{object-found}
use Rattle.placement.proofs.finder.Finder.found.Goals as goal

pub returns-clause-object : goal.returns-clause-object
returns-clause-object c = λ name at items is.
    c.first_of.ensures.value ∙ ap (option_or c.args.self.now.symbol) c.lone_block.ensures.value
    ∙ object-found name at c.args.self.now items is
