-- A command to which arguments are added one by one.
use Rattle.std.proofs.Common.{◌≡◌, ◌<◌, ◌≤◌, ◌+◌, ℕ, List, length, get_or, drop, ap, sym, ◌∙◌}
use Rattle.std.proofs.Common.{add-one}
use Rattle.std.proofs.Math.Seq.{drop-cons}
use Rattle.std.proofs.lemmas.List.{drop_all}
use Rattle.std.specs.Borrow.{Bor}
use Rattle.clap.specs.Words.{App, Text}
use Rattle.command_line.specs.Apps.{with_option, with_options, with_word, with_words}
use Rattle.command_line.specs.Demands.{names_of}

-- one more of the names is added
pub words_step : (app added goal : App) (names : List (Bor Text)) (i : ℕ) (d : Bor Text)
    → i < length names
    → added ≡ with_word app (get_or names i d).now → with_words app (names_of (drop i names)) ≡ goal
    → with_words added (names_of (drop (i + 1) names)) ≡ goal
words_step app added goal names i d within is before =
    rw (add-one, is) (sym (ap (λ l. with_words app (names_of l)) (drop-cons names i d within))
    ∙ before)

pub options_step : (app added goal : App) (names : List (Bor Text)) (i : ℕ) (d : Bor Text)
    → i < length names
    → added ≡ with_option app (get_or names i d).now → with_options app (names_of (drop i names))
    ≡ goal
    → with_options added (names_of (drop (i + 1) names)) ≡ goal
options_step app added goal names i d within is before =
    rw (add-one, is) (sym (ap (λ l. with_options app (names_of l)) (drop-cons names i d within))
    ∙ before)

-- none is left
pub words_end : (app goal : App) (names : List (Bor Text)) (i : ℕ) → length names ≤ i
    → with_words app (names_of (drop i names)) ≡ goal → app ≡ goal
words_end app goal names i past before = sym
    (ap (λ l. with_words app (names_of l)) (drop_all i names past)) ∙ before

pub options_end : (app goal : App) (names : List (Bor Text)) (i : ℕ) → length names ≤ i
    → with_options app (names_of (drop i names)) ≡ goal → app ≡ goal
options_end app goal names i past before =
    sym (ap (λ l. with_options app (names_of l)) (drop_all i names past)) ∙ before
