-- The usual settings under changes: how they are refused.
use Rattle.std.proofs.Common.{◌≡◌, Option, Some, None, Ok, Err, refl, sym, ap, ◌∙◌, subst}
use Rattle.std.specs.Option.{option_map_or}
use Rattle.toml.specs.Data.{Members, no_members}
use Rattle.settings.specs.Answers.{usual_under, with_fault}
use Rattle.settings.specs.Changed.{changed_table, no_changes}
use Rattle.settings.specs.Tables.{first_out_of_range, number_of, values_of}
use Rattle.settings.specs.declared.changes.Changes.{Changes}
use Rattle.settings.specs.declared.fault.SettingsFault.{SettingsFault}
use Rattle.settings.specs.declared.fault.SettingsFault.TheVariants.{ChangedOutOfRange}
use Rattle.settings.specs.declared.key.Key.{Key}
use Rattle.command_io.specs.Readings.{IsRefusal}
use Rattle.command_io.specs.SettingsFiles.{settings_refusal, usual_settings}
use Rattle.command_io.specs.Statuses.{status_of_settings}
use Rattle.command_io.specs.declared.status.Status.{Status}
use Rattle.command_io.specs.declared.status.Status.TheVariants as status

-- a fault whose status is its own, and refuses
abbrev IsRefused : SettingsFault → Type 0
IsRefused fault = (status_of_settings fault ≡ status.Settings fault)
    × IsRefusal (status_of_settings fault)

out_of_range : (key : Key) → IsRefused (ChangedOutOfRange key)
out_of_range key = (refl, record { kind = refl; words = λ e. cc; memory = refl })

-- only a key that is out of range is refused there
values_refused : (table : Members) (o : Option Key) (fault : SettingsFault)
    → with_fault (λ key. ChangedOutOfRange key)
    (option_map_or (λ key. Err key) o (Ok (values_of table))) ≡ Err fault
    → IsRefused fault
values_refused table None fault is = absurd cc
values_refused table (Some key) fault is =
    let same : ChangedOutOfRange key ≡ fault = cc in subst IsRefused same (out_of_range key)

pub usual_refused : (c : Changes) (fault : SettingsFault) (s : Status)
    → usual_under c ≡ Err fault → s ≡ status_of_settings fault
    → IsRefusal s × (settings_refusal (usual_under c) ≡ Some s)
usual_refused c fault s is gives =
    let table = changed_table c no_members in
    let refused = values_refused table (first_out_of_range table) fault is in (
      subst IsRefusal (sym gives) refused.1,
      ap settings_refusal is ∙ ap Some (sym (gives ∙ refused.0)),
    )

-- nothing is refused where nothing is changed
unchanged : usual_under no_changes ≡ Ok usual_settings
unfolding changed_table number_of
unchanged = refl

pub usual_given : (c : Changes) → c ≡ no_changes → usual_under c ≡ Ok usual_settings
usual_given c none = ap usual_under none ∙ unchanged
