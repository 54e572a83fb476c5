-- What is true of all settings that are read.
use Rattle.settings.specs.declared.key.Key.TheVariants.{Harts, Memory, Stack, Tracking, Prediction}
use Rattle.settings.specs.declared.key.Key.TheVariants.{Report, Quantum, Budget, Line, Seed}
use Rattle.settings.specs.declared.values.Settings.{Settings}
use Rattle.settings.specs.Keys.{form_of, HasForm}

-- each value has the form of its key
pub record IsAllowed (s : Settings) : Type 0 where
  pub harts : HasForm (form_of s.tracking Harts) s.harts
  pub memory : HasForm (form_of s.tracking Memory) s.memory
  pub stack : HasForm (form_of s.tracking Stack) s.stack
  pub tracking : HasForm (form_of s.tracking Tracking) s.tracking
  pub prediction : HasForm (form_of s.tracking Prediction) s.prediction
  pub report : HasForm (form_of s.tracking Report) s.report
  pub quantum : HasForm (form_of s.tracking Quantum) s.quantum
  pub budget : HasForm (form_of s.tracking Budget) s.budget
  pub line : HasForm (form_of s.tracking Line) s.line
  pub seed : HasForm (form_of s.tracking Seed) s.seed
