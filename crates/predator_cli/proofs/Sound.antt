-- What is promised of the commands beside their answers holds: a row a command that has promises.
use Rattle.std.proofs.Common.{◌≡◌, List, Option, Some, None, refl}
use Rattle.clap.specs.Words.{Text}
use Rattle.command_line.specs.Words.{Demand, demand_of, explain, place, replay, run, terms_of}
use Rattle.shelf.specs.Shelf.{Files}
use Rattle.predator_cli.specs.Commands.{Command, ReportIsRecounted, StaysWithinBudget, command_of}
use Rattle.predator_cli.specs.Explain.{as_run}
use Rattle.predator_cli.proofs.PlaceApart.{TracesAreSpelled, place_apart}
use Rattle.predator_cli.proofs.ReplayLaws.{replay_recounted}
use Rattle.predator_cli.proofs.RunLaws.{RunsAreShort, run_recounted, run_within}

pub record IsSound (c : Command) : Type 0 where
  pub within : (files : Files) → c.within files
  pub recounts : (files : Files) → c.recounts files

-- what words ask for is within its bounds
abbrev pub WordsAreBounded : Type 0
WordsAreBounded = (words : List Text) (d : Demand) → demand_of words ≡ Some d
    → (terms_of d).IsWithin

module _ (short : RunsAreShort) (spelled : TracesAreSpelled) (bounded : WordsAreBounded) where
  pub commands_are_sound : (d : Demand) → (terms_of d).IsWithin → IsSound (command_of d)
  commands_are_sound (run d) within =
      record { within = run_within short d; recounts = run_recounted d }
  commands_are_sound (replay d) within =
      record { within = λ files. tt; recounts = replay_recounted d }
  commands_are_sound (place d) within =
      record { within = λ files. tt; recounts = place_apart spelled d within }
  commands_are_sound (explain d) within =
      record { within = run_within short (as_run d); recounts = λ files. tt }
  commands_are_sound _ within = record { within = λ files. tt; recounts = λ files. tt }

  within_asked : (asked : Option Demand) (files : Files)
      → ((d : Demand) → asked ≡ Some d → (terms_of d).IsWithin) → StaysWithinBudget asked files
  within_asked None files within = tt
  within_asked (Some d) files within = (commands_are_sound d (within d refl)).within files

  recounted_asked : (asked : Option Demand) (files : Files)
      → ((d : Demand) → asked ≡ Some d → (terms_of d).IsWithin) → ReportIsRecounted asked files
  recounted_asked None files within = tt
  recounted_asked (Some d) files within = (commands_are_sound d (within d refl)).recounts files

  -- the same of what words ask for
  pub stays_within : (words : List Text) (files : Files) → StaysWithinBudget (demand_of words) files
  stays_within words files = within_asked (demand_of words) files (bounded words)

  pub report_is_recounted : (words : List Text) (files : Files)
      → ReportIsRecounted (demand_of words) files
  report_is_recounted words files = recounted_asked (demand_of words) files (bounded words)
