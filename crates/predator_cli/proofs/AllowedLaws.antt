-- Settings that are accepted have thresholds and a native line as a detector may have them.
use Rattle.std.proofs.Common.{◌≡◌, ℕ, ◌^◌, Bool, true, false, ◌&&◌, cond, List, [], ◌∷◌, length}
use Rattle.std.proofs.Common.{Option, Some, None, Result, Ok, Err, refl, sym, ap, ◌∙◌, subst, arith}
use Rattle.std.proofs.lemmas.Bool.Decides.{nat_tests}
use Rattle.std.specs.Option.{option_map_or, option_or}
use Rattle.std.specs.Prelude.{ℤ, pos, negsuc, ◌==◌, nat_lt, IfSome, IsTrue, find, is_none}
use Rattle.std.specs.Prelude.{option_and_then, unwrap_or}
use Rattle.base.specs.Levels.{Levels, are_levels, is_from_to}
use Rattle.base.specs.Lines.{Grid, is_layout}
use Rattle.command_io.specs.Readings.{first_refusal}
use Rattle.command_io.specs.SettingsFiles.{layout_of, levels_of, settings_in, settings_readings}
use Rattle.command_io.specs.SettingsFiles.{settings_refusal}
use Rattle.command_line.specs.Set.{AskedSettings, asked_under}
use Rattle.toml.specs.Data.{Data, Members, as_integer, get_member, no_members}
use Rattle.settings.specs.Answers.{behind_own, changed_values, judged_table, judged_under}
use Rattle.settings.specs.Answers.{longest_content, settings_under, table_of, usual_under}
use Rattle.settings.specs.Answers.{with_fault}
use Rattle.settings.specs.Changed.{changed_table}
use Rattle.settings.specs.Keys.{form_of, has_form, is_native_line, key_name, keys_in_order, rule_of}
use Rattle.settings.specs.Tables.{first_out_of_range, number_of}
use Rattle.settings.specs.Tables.{number_of_form, tracking_of, value_of, values_of, whole_of_form}
use Rattle.settings.specs.declared.changes.Changes.{Changes}
use Rattle.settings.specs.declared.fault.SettingsFault.{SettingsFault}
use Rattle.settings.specs.declared.fault.SettingsFault.TheVariants.{TooLong, BadToml}
use Rattle.settings.specs.declared.fault.SettingsFault.TheVariants.{ChangedOutOfRange}
use Rattle.settings.specs.declared.key.Key.{Key}
use Rattle.settings.specs.declared.key.Key.TheVariants.{Tracking, Prediction, Report}
use Rattle.settings.specs.declared.key.Key.TheVariants.{Line}
use Rattle.settings.specs.declared.values.Settings.{Settings}
use Rattle.sharing_rules.specs.Listed.{may_predict}
use Rattle.sharing_rules.specs.Predicted.{is_native_size}
use Rattle.shelf.specs.Shelf.{Files, content}

-- a number that has a form
formed_if : (t : ℕ) (key : Key) (n m : ℕ) (b : Bool) → has_form (form_of t key) n ≡ b
    → (let r : Option ℕ = cond b (Some n) None in r ≡ Some m) → has_form (form_of t key) m ≡ true
formed_if t key n m true has is =
    let same : n ≡ m = cc in ap (has_form (form_of t key)) (sym same) ∙ has
formed_if t key n m false has is = absurd cc

whole_formed : (t : ℕ) (key : Key) (z : Option ℤ) (m : ℕ)
    → option_and_then (whole_of_form (form_of t key)) z ≡ Some m → has_form (form_of t key) m ≡ true
whole_formed t key None m is = absurd cc
whole_formed t key (Some (pos n)) m is = formed_if t key n m (has_form (form_of t key) n) refl is
whole_formed t key (Some (negsuc n)) m is = absurd cc

-- what is given for a key has its form, where the usual number has
under_formed : (t : ℕ) (key : Key) (given : Option Data) (m : ℕ)
    → has_form (form_of t key) (rule_of t key).usual ≡ true
    → option_map_or (number_of_form (form_of t key)) given (Some (rule_of t key).usual) ≡ Some m
    → has_form (form_of t key) m ≡ true
under_formed t key None m usual is =
    let same : (rule_of t key).usual ≡ m = cc in
    ap (has_form (form_of t key)) (sym same) ∙ usual
under_formed t key (Some value) m usual is = whole_formed t key (as_integer value) m is

-- what is there has its value
value_there : (o : Option ℕ) → is_none o ≡ false → o ≡ Some (unwrap_or o 0)
value_there None is = absurd cc
value_there (Some n) is = refl

pub record IsInRange (s : Settings) : Type 0 where
  pub tracking : is_from_to 1 (2 ^ 32) s.tracking ≡ true
  pub prediction : is_from_to s.tracking (2 ^ 32) s.prediction ≡ true
  pub report : is_from_to 1 (2 ^ 40) s.report ≡ true
  pub line : is_native_line s.line ≡ true

most_usual : (tracking : ℕ) → is_from_to 1 (2 ^ 32) tracking ≡ true
    → has_form (form_of tracking Prediction) (rule_of tracking Prediction).usual ≡ true
most_usual tracking within = grind (arith, nat_tests)

key_formed : (table : Members) (key : Key) → is_none (number_of table key) ≡ false
    → has_form (form_of (tracking_of table) key) (rule_of (tracking_of table) key).usual ≡ true
    → has_form (form_of (tracking_of table) key) (value_of table key) ≡ true
unfolding number_of
key_formed table key there usual =
    under_formed (tracking_of table) key (get_member (key_name key) table)
    (value_of table key) usual (value_there (number_of table key) there)

-- the first of some that passes a test, where none does
abbrev NonePasses : (Key → Bool) → List Key → Type 0
NonePasses p [] = Unit {0}
NonePasses p (key ∷ later) = (p key ≡ false) × (NonePasses p later)

by_test : (p : Key → Bool) (key : Key) (later : List Key) (b : Bool) → p key ≡ b
    → (let r : Option Key = cond b (Some key) (find p later) in r ≡ None)
    → (p key ≡ false) × (find p later ≡ None)
by_test p key later true is none = absurd cc
by_test p key later false is none = (is, none)

none_passes : (p : Key → Bool) (keys : List Key) → find p keys ≡ None → NonePasses p keys
none_passes p [] none = tt
none_passes p (key ∷ later) none =
    let both = by_test p key later (p key) refl none in (both.0, none_passes p later both.1)

table_in_range : (table : Members) → first_out_of_range table ≡ None
    → IsInRange (values_of table)
unfolding number_of
table_in_range table none =
    let each : NonePasses (λ key. is_none (number_of table key)) keys_in_order =
    none_passes (λ key. is_none (number_of table key)) keys_in_order none in
    let tracking : is_from_to 1 (2 ^ 32) (tracking_of table) ≡ true =
    key_formed table Tracking each.1.1.1.0 refl in
    record {
      tracking = tracking;
      prediction =
          key_formed table Prediction each.1.1.1.1.0 (most_usual (tracking_of table) tracking);
      report = key_formed table Report each.1.1.1.1.1.0 refl;
      line = key_formed table Line each.1.1.1.1.1.1.1.1.0 refl;
    }

values_then : (table : Members) (s : Settings) (o : Option Key) → first_out_of_range table ≡ o
    → with_fault (λ key. ChangedOutOfRange key)
    (option_map_or (λ key. Err key) o (Ok (values_of table))) ≡ Ok s
    → IsInRange s
values_then table s None none is =
    let same : values_of table ≡ s = cc in subst IsInRange same (table_in_range table none)
values_then table s (Some key) none is = absurd cc

-- what a table gives under changes, behind what it gives alone
own_then : (table : Members) (s : Settings) (own : Result Settings SettingsFault)
    → behind_own own (changed_values table) ≡ Ok s → IsInRange s
own_then table s (Ok before) is = values_then table s (first_out_of_range table) refl is
own_then table s (Err fault) is = absurd cc

content_then : (c : Changes) (s : Settings) (o : Option Members)
    → (let r : Result Settings SettingsFault = option_map_or (judged_under c) o (Err BadToml) in
    r ≡ Ok s)
    → IsInRange s
content_then c s None is = absurd cc
content_then c s (Some table) is = own_then (changed_table c table) s (judged_table table) is

long_then : (c : Changes) (content : List ℕ) (s : Settings) (b : Bool)
    → (let r : Result Settings SettingsFault = cond b (Err TooLong)
    (option_map_or (judged_under c) (table_of content) (Err BadToml)) in r ≡ Ok s)
    → IsInRange s
long_then c content s true is = absurd cc
long_then c content s false is = content_then c s (table_of content) is

-- the settings that a content gives under changes, and the usual ones under them
accepted_in_range : (c : Changes) (content : List ℕ) (s : Settings)
    → settings_under c content ≡ Ok s → IsInRange s
accepted_in_range c content s is =
    long_then c content s (nat_lt longest_content (length content)) is

usual_in_range : (c : Changes) (s : Settings) → usual_under c ≡ Ok s → IsInRange s
usual_in_range c s is =
    let table = changed_table c no_members in
    values_then table s (first_out_of_range table) refl is

-- ---- what a detector may have under them

-- an allowed layout and thresholds, which predict only where they may
pub record IsUnder (g : Grid) (v : Levels) : Type 0 where
  pub layout : IsTrue (is_layout g.size g.offset)
  pub predictable : IsTrue (may_predict g v)
  pub levels : IsTrue (are_levels v.tracking v.prediction v.report)

native_layout : (n : ℕ) → is_native_line n ≡ true → IsTrue (is_layout n 0)
native_layout n native = grind (arith, nat_tests)

native_predicts : (n : ℕ) → is_native_line n ≡ true → IsTrue (is_native_size n && (0 == 0))
native_predicts n native = rw native refl

native_levels : (s : Settings) → IsInRange s
    → IsTrue (are_levels s.tracking (Some s.prediction) s.report)
native_levels s range = rw (range.tracking, range.prediction, range.report) refl

plain_levels : (s : Settings) → IsInRange s → IsTrue (are_levels s.tracking None s.report)
plain_levels s range = rw (range.tracking, range.report) refl

pub under_settings : (layout : Option Grid) (s : Settings) → IsInRange s
    → IfSome layout (λ g. IsTrue (is_layout g.size g.offset))
    → IsUnder (layout_of layout s) (levels_of layout s)
under_settings None s range given = record {
  layout = native_layout s.line range.line;
  predictable = native_predicts s.line range.line;
  levels = native_levels s range;
}
under_settings (Some g) s range given =
    record { layout = given; predictable = refl; levels = plain_levels s range }

-- ---- the settings of a command

-- settings that are not refused are there
unless_refused : (r : Result Settings SettingsFault)
    → option_or (settings_refusal r) None ≡ None → (s : Settings) × (r ≡ Ok s)
unless_refused (Ok s) none = (s, refl)
unless_refused (Err fault) none = absurd cc

found_in : (name : Option (List ℕ)) (c : Changes) (files : Files)
    → first_refusal (settings_readings (asked_under name c)) files ≡ None
    → (s : Settings) × (settings_in (asked_under name c) files ≡ Ok s) × IsInRange s
found_in None c files none =
    let found = unless_refused (usual_under c) none in
    (found.0, found.1, usual_in_range c found.0 found.1)
found_in (Some n) c files none =
    let found = unless_refused (settings_under c (content files n)) none in
    (found.0, found.1, accepted_in_range c (content files n) found.0 found.1)

-- and in range
pub settings_found : (asked : AskedSettings) (files : Files)
    → first_refusal (settings_readings asked) files ≡ None
    → (s : Settings) × (settings_in asked files ≡ Ok s) × IsInRange s
settings_found asked files none = found_in asked.file asked.changes files none
