-- The settings that the content of a settings file gives, or its first fault.
use Rattle.std.specs.Prelude.{◌≡◌, IsOk, ℕ, nat_lt, if◌then◌else◌, List, length, Option, None, Result, Ok, Err}
use Rattle.std.specs.Option.{option_map_or}
use Rattle.std.specs.Str.{is_utf8}
use Rattle.toml.specs.Data.{Members, no_members}
use Rattle.toml.specs.Parse.{parse_document}
use Rattle.base.specs.Names.{name_of}
use Rattle.settings.specs.declared.changes.Changes.{Changes}
use Rattle.settings.specs.declared.values.Settings.{Settings}
use Rattle.settings.specs.declared.fault.SettingsFault.{SettingsFault}
use Rattle.settings.specs.declared.fault.SettingsFault.TheVariants.{TooLong, BadToml, UnknownKey}
use Rattle.settings.specs.declared.fault.SettingsFault.TheVariants.{OutOfRange, NoMemory}
use Rattle.settings.specs.declared.fault.SettingsFault.TheVariants.{ChangedOutOfRange}
use Rattle.settings.specs.declared.key.Key.{Key}
use Rattle.settings.specs.Changed.{changed_table}
use Rattle.settings.specs.Tables.{first_out_of_range, values_of, least_unknown}

-- how many bytes a settings file may have
abbrev pub longest_content : ℕ
longest_content = 65536

-- the table that a content is: it is UTF-8, and a document of TOML
abbrev pub table_of : List ℕ → Option Members
table_of content = if is_utf8 content then parse_document content else None

-- the values of a table, or the first key whose value is out of range
abbrev pub checked_values : Members → Result Settings Key
checked_values table = option_map_or (λ key. Err key) (first_out_of_range table)
    (Ok (values_of table))

-- the same, with what such a key is to a file
abbrev pub with_fault : (Key → SettingsFault) → Result Settings Key
    → Result Settings SettingsFault
with_fault fault (Ok settings) = Ok settings
with_fault fault (Err key) = Err (fault key)

-- the values of a table by itself, and those of one with changes
abbrev pub judged_values : Members → Result Settings SettingsFault
judged_values table = with_fault (λ key. OutOfRange key) (checked_values table)

abbrev pub changed_values : Members → Result Settings SettingsFault
changed_values table = with_fault (λ key. ChangedOutOfRange key) (checked_values table)

-- the same, unless a key is unknown
abbrev pub judged_table : Members → Result Settings SettingsFault
judged_table table = option_map_or (λ name. Err (UnknownKey (name_of name))) (least_unknown table)
    (judged_values table)

-- what comes behind a table's own values, unless it has a fault of its own
abbrev pub behind_own : Result Settings SettingsFault → Result Settings SettingsFault
    → Result Settings SettingsFault
behind_own (Ok settings) later = later
behind_own (Err fault) later = Err fault

-- the values of a table under changes: its own faults come first
abbrev pub judged_under : Changes → Members → Result Settings SettingsFault
judged_under c table = behind_own (judged_table table) (changed_values (changed_table c table))

-- what a content gives by what its table does, unless it is too long or no table
abbrev pub settings_by : (Members → Result Settings SettingsFault) → List ℕ
    → Result Settings SettingsFault
settings_by judged content =
    if nat_lt longest_content (length content) then Err TooLong
    else option_map_or judged (table_of content) (Err BadToml)

-- the settings of a content, alone and under changes
abbrev pub settings_of : List ℕ → Result Settings SettingsFault
settings_of content = settings_by judged_table content

abbrev pub settings_under : Changes → List ℕ → Result Settings SettingsFault
settings_under c content = settings_by (judged_under c) content

-- the settings under changes where there is no file
abbrev pub usual_under : Changes → Result Settings SettingsFault
usual_under c = changed_values (changed_table c no_members)

-- the fact holds unless the fault is want of memory
abbrev pub UnlessMemory : SettingsFault → Type 0 → Type 0
UnlessMemory NoMemory P = Unit {0}
UnlessMemory TooLong P = P
UnlessMemory BadToml P = P
UnlessMemory (UnknownKey name) P = P
UnlessMemory (OutOfRange key) P = P
UnlessMemory (ChangedOutOfRange key) P = P

-- what a content gives by itself has the fault, unless it has none and the changes brought it; want
-- of memory says nothing of it
abbrev pub IsFaultOf : Result Settings SettingsFault → SettingsFault → Type 0
IsFaultOf own TooLong = own ≡ Err TooLong
IsFaultOf own BadToml = own ≡ Err BadToml
IsFaultOf own (UnknownKey name) = own ≡ Err (UnknownKey name)
IsFaultOf own (OutOfRange key) = own ≡ Err (OutOfRange key)
IsFaultOf own (ChangedOutOfRange key) = IsOk own
IsFaultOf own NoMemory = Unit {0}
