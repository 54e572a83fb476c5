use Rattle.std.proofs.Common.{◌∙◌, ap}
use Rattle.toml.specs.View.{table_view}
use Rattle.settings.specs.Answers.{checked_values}
use Rattle.settings.specs.Changed.{changed_table}
use Rattle.settings.proofs.ChangedLemmas.{changed-none}
use Rattle.settings.proofs.read.own_values.Goals as goal

pub returns-clause-value : goal.returns-clause-value
returns-clause-value c =
    c.judge_values.ensures.value
    ∙ ap (λ changes. checked_values (changed_table changes (table_view c.args.table.now)))
    c.none.ensures
    ∙ ap checked_values (changed-none (table_view c.args.table.now))
