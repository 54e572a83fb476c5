-- Numbers in the place of those of a settings file.
use Rattle.std.specs.Prelude.{ℕ, pos, List, [], ◌∷◌, Option, Some, None}
use Rattle.std.specs.Option.{option_map_or}
use Rattle.toml.specs.Data.{Members, member, integer}
use Rattle.settings.specs.declared.changes.Changes.{Changes}
use Rattle.settings.specs.declared.key.Key.{Key}
use Rattle.settings.specs.declared.key.Key.TheVariants.{Harts, Memory, Stack, Tracking, Prediction}
use Rattle.settings.specs.declared.key.Key.TheVariants.{Report, Quantum, Budget, Line, Seed}
use Rattle.settings.specs.Keys.{keys_in_order, key_name}

-- no number stands in the place of another
abbrev pub no_changes : Changes
no_changes = record {
  harts = None;
  memory = None;
  stack = None;
  tracking = None;
  prediction = None;
  report = None;
  quantum = None;
  budget = None;
  line = None;
  seed = None;
}

-- the number in the place of a key's, if there is one
abbrev pub change_of : Changes → Key → Option ℕ
change_of c Harts = c.harts
change_of c Memory = c.memory
change_of c Stack = c.stack
change_of c Tracking = c.tracking
change_of c Prediction = c.prediction
change_of c Report = c.report
change_of c Quantum = c.quantum
change_of c Budget = c.budget
change_of c Line = c.line
change_of c Seed = c.seed

-- the changes, with a number in the place of a key's
abbrev pub with_change : Changes → Key → ℕ → Changes
with_change c Harts n = record c { harts = Some n }
with_change c Memory n = record c { memory = Some n }
with_change c Stack n = record c { stack = Some n }
with_change c Tracking n = record c { tracking = Some n }
with_change c Prediction n = record c { prediction = Some n }
with_change c Report n = record c { report = Some n }
with_change c Quantum n = record c { quantum = Some n }
with_change c Budget n = record c { budget = Some n }
with_change c Line n = record c { line = Some n }
with_change c Seed n = record c { seed = Some n }

-- members behind the changes of some keys: a name has the value that stands first
abbrev pub behind_changes : Changes → List Key → Members → Members
behind_changes c [] table = table
behind_changes c (key ∷ keys) table =
    option_map_or (λ n. member (key_name key) (integer (pos n)) (behind_changes c keys table))
    (change_of c key) (behind_changes c keys table)

-- a table with the changes in the place of what it gives for their keys
unfoldable pub changed_table : Changes → Members → Members
changed_table c table = behind_changes c keys_in_order table
