-- The settings that a command is asked to have: those of a file, and the changes of them that the
-- option `--set` names, KEY=N, and more of them behind commas.
use Rattle.std.specs.Prelude.{ℕ, ◌==◌, if◌then◌else◌, is_none, List, [], ◌∷◌, Option, Some, None}
use Rattle.std.specs.Prelude.{option_and_then}
use Rattle.std.specs.List.{after_first, before_first, slice_split}
use Rattle.std.specs.Option.{option_map_or}
use Rattle.settings.specs.Changed.{change_of, no_changes, with_change}
use Rattle.settings.specs.Keys.{key_named}
use Rattle.settings.specs.declared.changes.Changes.{Changes}
use Rattle.settings.specs.declared.key.Key.{Key}
use Rattle.command_line.specs.Numbers.{number_of}

-- the settings of a file, or the usual ones where none is named, under changes
pub record AskedSettings : Type 0 where
  pub file : Option (List ℕ)
  pub changes : Changes

abbrev pub asked_under : Option (List ℕ) → Changes → AskedSettings
asked_under file changes = record { file = file; changes = changes }

-- one change more, of a key that no other changes
abbrev pub and_change : Changes → Key → ℕ → Option Changes
and_change c key n = if is_none (change_of c key) then Some (with_change c key n) else None

-- the same of the words for the key and for the number
abbrev pub and_words : Changes → List ℕ → List ℕ → Option Changes
and_words c name number =
    option_and_then (λ key. option_and_then (and_change c key) (number_of number)) (key_named name)

-- the same of KEY=N (61); nothing, which is no number, stands behind a `=` that is missing
abbrev pub and_part : Changes → List ℕ → Option Changes
and_part c part =
    and_words c (before_first (λ b. b == 61) part) (after_first (λ b. b == 61) part)

abbrev pub and_parts : Changes → List (List ℕ) → Option Changes
and_parts c [] = Some c
and_parts c (part ∷ parts) = option_and_then (λ d. and_parts d parts) (and_part c part)

-- the changes that a text names, parted by commas (44)
unfoldable pub changes_of : List ℕ → Option Changes
changes_of text = and_parts no_changes (slice_split (λ b. b == 44) text)

-- the changes that the option is given, none where it isn't given
abbrev pub given_changes : Option (List ℕ) → Option Changes
given_changes word = option_map_or changes_of word (Some no_changes)
