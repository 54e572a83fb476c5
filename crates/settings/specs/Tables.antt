-- The settings that a table of keys and values gives, or its first fault.
use Rattle.std.specs.Prelude.{ℕ, ℤ, pos, negsuc, Bool, not, if◌then◌else◌, List, [], ◌∷◌, Option}
use Rattle.std.specs.Prelude.{Some, None, is_none, unwrap_or, option_and_then, find, filter}
use Rattle.std.specs.List.{list_any}
use Rattle.std.specs.Str.{bytes_eq}
use Rattle.std.specs.Option.{option_map_or}
use Rattle.std.specs.Ordering.{nat_cmp, match_ordering}
use Rattle.std.specs.Cmp.Lexicographic.{slice_cmp}
use Rattle.toml.specs.Data.{Data, Members, no_members, member, get_member, as_integer}
use Rattle.settings.specs.declared.key.Key.{Key}
use Rattle.settings.specs.declared.key.Key.TheVariants.{Harts, Memory, Stack, Tracking, Prediction}
use Rattle.settings.specs.declared.key.Key.TheVariants.{Report, Quantum, Budget, Line, Seed}
use Rattle.settings.specs.declared.key.Form.{Form}
use Rattle.settings.specs.declared.key.Rule.{Rule}
use Rattle.settings.specs.declared.values.Settings.{Settings}
use Rattle.settings.specs.Keys.{keys_in_order, key_name, has_form, rule_of}

-- the integer, where it has the form
abbrev pub whole_of_form : Form → ℤ → Option ℕ
whole_of_form form (pos n) = if has_form form n then Some n else None
whole_of_form form (negsuc n) = None

-- the whole number that a value is, where it has the form
abbrev pub number_of_form : Form → Data → Option ℕ
number_of_form form value = option_and_then (whole_of_form form) (as_integer value)

-- what a table gives for a key under a rule: an absent key has its usual value
abbrev pub number_under : Rule → Members → Key → Option ℕ
number_under r table key = option_map_or (number_of_form r.form) (get_member (key_name key) table)
    (Some r.usual)

-- the same beside a tracking threshold
abbrev pub number_beside : ℕ → Members → Key → Option ℕ
number_beside tracking table key = number_under (rule_of tracking key) table key

-- the tracking threshold of a table, whose form rests on none; 0 where it is out of range
abbrev pub tracking_of : Members → ℕ
tracking_of table = unwrap_or (number_beside 0 table Tracking) 0

-- what a table gives for a key beside its own tracking threshold
unfoldable pub number_of : Members → Key → Option ℕ
number_of table key = number_beside (tracking_of table) table key

-- the first key whose value is no whole number of its form
abbrev pub first_out_of_range : Members → Option Key
first_out_of_range table = find (λ key. is_none (number_of table key)) keys_in_order

abbrev pub value_of : Members → Key → ℕ
value_of table key = unwrap_or (number_of table key) 0

abbrev pub values_of : Members → Settings
values_of table =
    record {
      harts = value_of table Harts;
      memory = value_of table Memory;
      stack = value_of table Stack;
      tracking = value_of table Tracking;
      prediction = value_of table Prediction;
      report = value_of table Report;
      quantum = value_of table Quantum;
      budget = value_of table Budget;
      line = value_of table Line;
      seed = value_of table Seed;
    }

-- the names of a table
abbrev pub names_of : Members → List (List ℕ)
names_of no_members = []
names_of (member name value rest) = name ∷ names_of rest

abbrev pub is_unknown : List ℕ → Bool
is_unknown name = not (list_any (λ key. bytes_eq (key_name key) name) keys_in_order)

-- the lesser of two names in byte order
abbrev pub lesser : List ℕ → List ℕ → List ℕ
lesser a b = match_ordering (slice_cmp nat_cmp a b) a a b

-- the least of some names in byte order
abbrev pub least : List (List ℕ) → Option (List ℕ)
least [] = None
least (name ∷ names) = Some (option_map_or (lesser name) (least names) name)

-- the least name that is no key
unfoldable pub least_unknown : Members → Option (List ℕ)
least_unknown table = least (filter is_unknown (names_of table))
