-- The forms of a command, each a simple command of `clap`.
use Rattle.std.specs.Prelude.{List, [], ◌∷◌, true, Some}
use Rattle.clap.specs.Words.{App, Rule, Text, new_app, new_rule, with_rule}
use Rattle.clap.specs.Simple.{on_top}
use Rattle.clap.specs.declared.builder.action.ArgAction.TheVariants.{SetTrue}

-- a command whose words have no flag for help
abbrev pub plain_app : Text → App
plain_app name = on_top (λ top. record top { disable_help_flag = true }) (new_app name)

-- a positional word that has to be there
abbrev pub positional : Text → Rule
positional name = record (new_rule name) { required = true }

-- `--name value`
abbrev pub long_option : Text → Rule
long_option name = record (new_rule name) { long = Some name }

-- `--name`, without a value
abbrev pub long_flag : Text → Rule
long_flag name = record (new_rule name) { long = Some name; action = Some SetTrue }

-- a command with one of them more
abbrev pub with_word : App → Text → App
with_word app name = with_rule app (positional name)

abbrev pub with_option : App → Text → App
with_option app name = with_rule app (long_option name)

abbrev pub with_flag : App → Text → App
with_flag app name = with_rule app (long_flag name)

-- a command with each of some words more, and with each of some options more
abbrev pub with_words : App → List Text → App
with_words app [] = app
with_words app (name ∷ names) = with_words (with_word app name) names

abbrev pub with_options : App → List Text → App
with_options app [] = app
with_options app (name ∷ names) = with_options (with_option app name) names

-- a command of a name, of positional words, and of options
abbrev pub form_app : Text → List Text → List Text → App
form_app name words options = with_options (with_words (plain_app name) words) options
