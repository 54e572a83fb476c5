-- What a content gives, from what reading it as TOML gave.
use Rattle.std.proofs.Common.{◌≡◌, ◌≤◌, ℕ, false, List, length, Result, Some, None, Err, IsUtf8, sym, ◌∙◌}
use Rattle.std.proofs.Common.{inl, inr, arith}
use Rattle.std.proofs.lemmas.Bool.{cases_Bool}
use Rattle.std.proofs.lemmas.Bool.Decides.{nat_tests}
use Rattle.std.proofs.lemmas.Option.{same_Some}
use Rattle.std.proofs.lemmas.Str.{IsUtf8-from_is_utf8, is_utf8-from_IsUtf8}
use Rattle.std.specs.Prelude.{nat_lt}
use Rattle.std.specs.Str.{is_utf8}
use Rattle.toml.specs.Data.{Members, no_members}
use Rattle.toml.specs.Errors.{IsBlank}
use Rattle.toml.specs.Parse.{parse_document, lines}
use Rattle.settings.specs.declared.fault.SettingsFault.{SettingsFault}
use Rattle.settings.specs.declared.fault.SettingsFault.TheVariants.{BadToml}
use Rattle.settings.specs.declared.values.Settings.{Settings}
use Rattle.settings.specs.Tables.{least_unknown}
use Rattle.settings.specs.Answers.{longest_content, settings_by}

short : (content : List ℕ) → length content ≤ longest_content
    → nat_lt longest_content (length content) ≡ false
short content h = grind (arith, nat_tests)

pub settings_by-table : (judged : Members → Result Settings SettingsFault) (content : List ℕ)
    (table : Members) → length content ≤ longest_content → IsUtf8 content
    → parse_document content ≡ Some table
    → settings_by judged content ≡ judged table
settings_by-table judged content table fits text parsed =
    rw (short content fits, is_utf8-from_IsUtf8 content text, parsed)

pub settings_by-refused : (judged : Members → Result Settings SettingsFault) (content : List ℕ)
    → length content ≤ longest_content → (IsUtf8 content → parse_document content ≡ None)
    → settings_by judged content ≡ Err BadToml
settings_by-refused judged content fits refused =
    elim (cases_Bool (is_utf8 content)) [
      | inl text ↦ rw (short content fits, text, refused (IsUtf8-from_is_utf8 content text))
      | inr other ↦ rw (short content fits, other)
    ]

-- white space and comments alone are the empty table
pub parse_document-blank : (content : List ℕ) → IsBlank content → parse_document content
    ≡ Some no_members
unfolding parse_document lines
parse_document-blank content blank = rw blank

pub no_unknown-blank : (content : List ℕ) (table : Members) → IsBlank content
    → parse_document content ≡ Some table
    → least_unknown table ≡ None
unfolding least_unknown
no_unknown-blank content table blank parsed =
    let empty : no_members ≡ table = same_Some _ _
    (sym (parse_document-blank content blank) ∙ parsed) in
    rw (← empty)
