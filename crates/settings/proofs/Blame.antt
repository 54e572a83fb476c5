-- Whose a fault is that a content has under changes.
use Rattle.std.proofs.Common.{◌≡◌, ℕ, Bool, true, false, cond, List, length, Option, Some, None}
use Rattle.std.proofs.Common.{Result, Ok, Err, refl, subst}
use Rattle.std.specs.Option.{option_map_or}
use Rattle.std.specs.Prelude.{IfErr, nat_lt}
use Rattle.toml.specs.Data.{Members}
use Rattle.base.specs.Names.{name_of}
use Rattle.settings.specs.Answers.{IsFaultOf, UnlessMemory, behind_own, changed_values}
use Rattle.settings.specs.Answers.{checked_values, judged_table, judged_under, judged_values}
use Rattle.settings.specs.Answers.{longest_content, settings_of, settings_under, table_of}
use Rattle.settings.specs.Answers.{with_fault}
use Rattle.settings.specs.Changed.{changed_table}
use Rattle.settings.specs.Tables.{least_unknown}
use Rattle.settings.specs.declared.changes.Changes.{Changes}
use Rattle.settings.specs.declared.fault.SettingsFault.{SettingsFault}
use Rattle.settings.specs.declared.fault.SettingsFault.TheVariants.{BadToml, TooLong, UnknownKey}
use Rattle.settings.specs.declared.fault.SettingsFault.TheVariants.{OutOfRange, ChangedOutOfRange}
use Rattle.settings.specs.declared.fault.SettingsFault.TheVariants.{NoMemory}
use Rattle.settings.specs.declared.key.Key.{Key}
use Rattle.settings.specs.declared.values.Settings.{Settings}

-- a fault that is a content's own
same_fault : (own : Result Settings SettingsFault) (here fault : SettingsFault)
    → IsFaultOf own here → (let r : Result Settings SettingsFault = Err here in r ≡ Err fault)
    → IsFaultOf own fault
same_fault own here fault of is =
    let same : here ≡ fault = cc in subst (IsFaultOf own) same of

-- behind values that are in range
behind_values : (s : Settings) (later : Result Settings Key) (fault : SettingsFault)
    → with_fault (λ key. ChangedOutOfRange key) later ≡ Err fault → IsFaultOf (Ok s) fault
behind_values s (Ok changed) fault is = absurd cc
behind_values s (Err key) fault is = same_fault (Ok s) (ChangedOutOfRange key) fault refl is

behind_checked : (own later : Result Settings Key) (fault : SettingsFault)
    → behind_own (with_fault (λ key. OutOfRange key) own)
    (with_fault (λ key. ChangedOutOfRange key) later) ≡ Err fault
    → IsFaultOf (with_fault (λ key. OutOfRange key) own) fault
behind_checked (Ok s) later fault is = behind_values s later fault is
behind_checked (Err key) later fault is =
    same_fault (Err (OutOfRange key)) (OutOfRange key) fault refl is

behind_keys : (unknown : Option (List ℕ)) (table changed : Members) (fault : SettingsFault)
    → (let own : Result Settings SettingsFault =
    option_map_or (λ name. Err (UnknownKey (name_of name))) unknown (judged_values table) in
    behind_own own (changed_values changed) ≡ Err fault → IsFaultOf own fault)
behind_keys None table changed fault = λ is.
    behind_checked (checked_values table) (checked_values changed) fault is
behind_keys (Some name) table changed fault = λ is.
    same_fault (Err (UnknownKey (name_of name))) (UnknownKey (name_of name)) fault refl is

behind_toml : (c : Changes) (o : Option Members) (fault : SettingsFault)
    → (let r : Result Settings SettingsFault = option_map_or (judged_under c) o (Err BadToml) in
    r ≡ Err fault)
    → IsFaultOf (option_map_or judged_table o (Err BadToml)) fault
behind_toml c None fault is = same_fault (Err BadToml) BadToml fault refl is
behind_toml c (Some table) fault is =
    behind_keys (least_unknown table) table (changed_table c table) fault is

behind_length : (c : Changes) (content : List ℕ) (fault : SettingsFault) (b : Bool)
    → (let r : Result Settings SettingsFault = cond b (Err TooLong)
    (option_map_or (judged_under c) (table_of content) (Err BadToml)) in r ≡ Err fault)
    → (let own : Result Settings SettingsFault = cond b (Err TooLong)
    (option_map_or judged_table (table_of content) (Err BadToml)) in IsFaultOf own fault)
behind_length c content fault true is = same_fault (Err TooLong) TooLong fault refl is
behind_length c content fault false is = behind_toml c (table_of content) fault is

fault_of_content : (c : Changes) (content : List ℕ) (fault : SettingsFault)
    → settings_under c content ≡ Err fault → IsFaultOf (settings_of content) fault
fault_of_content c content fault is =
    behind_length c content fault (nat_lt longest_content (length content)) is

-- want of memory aside
blamed : (c : Changes) (content : List ℕ) (fault : SettingsFault)
    → UnlessMemory fault (settings_under c content ≡ Err fault)
    → IsFaultOf (settings_of content) fault
blamed c content NoMemory is = tt
blamed c content TooLong is = fault_of_content c content TooLong is
blamed c content BadToml is = fault_of_content c content BadToml is
blamed c content (UnknownKey name) is = fault_of_content c content (UnknownKey name) is
blamed c content (OutOfRange key) is = fault_of_content c content (OutOfRange key) is
blamed c content (ChangedOutOfRange key) is = fault_of_content c content (ChangedOutOfRange key) is

pub blamed_result : (c : Changes) (content : List ℕ) (r : Result Settings SettingsFault)
    → IfErr r (λ fault. UnlessMemory fault (settings_under c content ≡ Err fault))
    → IfErr r (IsFaultOf (settings_of content))
blamed_result c content (Ok s) is = tt
blamed_result c content (Err fault) is = blamed c content fault is
